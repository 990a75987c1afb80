use Rattle.std.proofs.Common.{◌≡◌, ◌+◌, ◌*◌, length, sym, ap, ◌∙◌, arith, length-drop}
use Rattle.words.specs.Words.{padded}
use Rattle.kinds.specs.Kinds.{size_of, type_of}
use Rattle.pods.specs.Trees.{array}
use Rattle.tours.specs.Starts.{values_in}
use Rattle.tours.proofs.Beginning.{body_laid, head_in, same_kind_lem, some_kind, array_count_lem, elements_are}
use Rattle.tours.proofs.begun.Begun.array.Goals as goal

pub returns-in_err-child : goal.returns-in_err-child
returns-in_err-child c =
    rw c.from_residual-in_err-child.ensures (λ k words size laid.
    let b = c.args.self.now in
    let l = body_laid b (array k words) size laid in
    let h = l.1 in
    let there = l.0 in
    let a = head_in b.bytes.now _ (b.at + 8) _ _ _ c.body.ensures (omega (arith, b.there)) c.in_ok-head.ensures in
    some_kind _ k _ (a.second_is ∙ h.child_type) c.try_from.ensures c.in_err-child.ensures.value)

pub returns-in_err-used : goal.returns-in_err-used
returns-in_err-used c =
    rw c.from_residual-in_err-used.ensures (λ k words size laid.
    let b = c.args.self.now in
    let l = body_laid b (array k words) size laid in
    let h = l.1 in
    let there = l.0 in
    let a = head_in b.bytes.now _ (b.at + 8) _ _ _ c.body.ensures (omega (arith, b.there)) c.in_ok-head.ensures in
    let child = same_kind_lem _ k _ _ (a.second_is ∙ h.child_type) c.try_from.ensures c.in_ok-child.ensures.value in
    let s : c.size-size.result ≡ size_of k = c.size-size.ensures ∙ ap size_of child in
    let n : c.values_in-count.result ≡ length words = c.values_in-count.ensures ∙ ap (values_in b.len 8) s ∙ array_count_lem (size_of k) b.len (length words) h.counted in
    let all : padded (c.values_in-count.result * c.size-size.result) ≡ padded (length words * size_of k) = ap (λ m. padded (m * c.size-size.result)) n ∙ ap (λ m. padded (length words * m)) s in
    omega (arith, c.in_err-used.ensures, h.size_is, ap length a.rest_is, length-drop (b.at + 8 + 8) b.bytes.now))

pub returns : goal.returns
returns c = λ k words size laid.
    let b = c.args.self.now in
    let l = body_laid b (array k words) size laid in
    let h = l.1 in
    let there = l.0 in
    let a = head_in b.bytes.now _ (b.at + 8) _ _ _ c.body.ensures (omega (arith, b.there)) c.in_ok-head.ensures in
    let fits = c.in_ok-used.ensures in
    let child = same_kind_lem _ k _ _ (a.second_is ∙ h.child_type) c.try_from.ensures c.in_ok-child.ensures.value in
    let s : c.size-size.result ≡ size_of k = c.size-size.ensures ∙ ap size_of child in
    let n : c.values_in-count.result ≡ length words = c.values_in-count.ensures ∙ ap (values_in b.len 8) s ∙ array_count_lem (size_of k) b.len (length words) h.counted in
    let all : padded (c.values_in-count.result * c.size-size.result) ≡ padded (length words * size_of k) = ap (λ m. padded (m * c.size-size.result)) n ∙ ap (λ m. padded (length words * m)) s in
    let bytes_in : c.values_in-count.result * size_of c.in_ok-child.child ≡ length words * size_of k = ap (λ m. m * size_of c.in_ok-child.child) n ∙ ap (λ x. length words * size_of x) child in
    let type : c.in_ok-head.head.second ≡ type_of k = a.second_is ∙ h.child_type in
    let total : c.in_ok-used.used + 16 ≡ size + 8 = omega (arith, fits.0, h.size_is) in
    record {
      told_is = cc;
      total_is = total;
      then_is = elements_are b.bytes.now _ k _ (b.at + 8 + 8) _ words child a.rest_is (sym n) h.values;
    }
