use Rattle.std.proofs.Common.{◌≡◌, ◌+◌, ◌*◌, ◌≤◌, length, drop, get_or, sym, ap, ◌∙◌, mul-le-mul_right, arith, length-drop}
use Rattle.words.specs.Words.{little, padded}
use Rattle.std.specs.Result.{result_ok}
use Rattle.kinds.specs.Kinds.{size_of}
use Rattle.pods.specs.Trees.{choice}
use Rattle.pods.specs.Choices.{needed, used_of, flags_kept}
use Rattle.format.specs.Layout.{word_at}
use Rattle.format.proofs.Ahead.{used_le}
use Rattle.tours.proofs.Beginning.{body_laid, head_in, head_after, choice_head, same_choice, some_choice, same_kind_lem, some_kind, word_read, word_there, used_some, needed_some, first_value, elements_are, same_choice_told}
use Rattle.tours.proofs.begun.Begun.choice.Goals as goal

pub returns-in_err-declared : goal.returns-in_err-declared
returns-in_err-declared c =
    rw c.from_residual-in_err-declared.ensures (λ c' flags k words size laid.
    let b = c.args.self.now in
    let l = body_laid b (choice c' flags k words) size laid in
    let h = l.1 in
    let there = l.0 in
    let a = head_in b.bytes.now _ (b.at + 8) _ _ _ c.body.ensures (omega (arith, b.there)) c.in_ok-head.ensures in
    omega (arith, c.in_err-declared.ensures, h.size_is, ap length a.rest_is, length-drop (b.at + 8 + 8) b.bytes.now))

pub returns-in_err-choice : goal.returns-in_err-choice
returns-in_err-choice c =
    rw c.from_residual-in_err-choice.ensures (λ c' flags k words size laid.
    let b = c.args.self.now in
    let l = body_laid b (choice c' flags k words) size laid in
    let h = l.1 in
    let there = l.0 in
    let a = head_in b.bytes.now _ (b.at + 8) _ _ _ c.body.ensures (omega (arith, b.there)) c.in_ok-head.ensures in
    some_choice _ c' _ (a.first_is ∙ h.type_is) c.try_from.ensures c.in_err-choice.ensures.value)

pub returns-in_err-child : goal.returns-in_err-child
returns-in_err-child c =
    rw c.from_residual-in_err-child.ensures (λ c' flags k words size laid.
    let b = c.args.self.now in
    let l = body_laid b (choice c' flags k words) size laid in
    let h = l.1 in
    let there = l.0 in
    let a = head_in b.bytes.now _ (b.at + 8) _ _ _ c.body.ensures (omega (arith, b.there)) c.in_ok-head.ensures in
    let d = head_after b.bytes.now (b.at + 8) _ _ _ _ _ _ a c.in_ok-declared.ensures in
    let twelve : b.at + 8 + 8 + 4 ≡ b.at + 8 + 12 = omega arith in
    some_kind _ k _ (d.second_is ∙ ap (λ p. little 4 p b.bytes.now) twelve ∙ h.child_type) c.try_from-2.ensures c.in_err-child.ensures.value)

pub returns-in_err-used : goal.returns-in_err-used
returns-in_err-used c =
    rw c.from_residual-in_err-used.ensures (λ c' flags k words size laid.
    let b = c.args.self.now in
    let l = body_laid b (choice c' flags k words) size laid in
    let h = l.1 in
    let there = l.0 in
    let a = head_in b.bytes.now _ (b.at + 8) _ _ _ c.body.ensures (omega (arith, b.there)) c.in_ok-head.ensures in
    let d = head_after b.bytes.now (b.at + 8) _ _ _ _ _ _ a c.in_ok-declared.ensures in
    let e = choice_head b.bytes.now (b.at + 8) b.len c' flags k words size _ _ _ _ _ _ _ h a d c.values_in-count.ensures in
    let choice = same_choice _ c' _ _ e.number_is c.try_from.ensures c.in_ok-choice.ensures.value in
    let child = same_kind_lem _ k _ _ e.type_is c.try_from-2.ensures c.in_ok-child.ensures.value in
    let n : c.values_in-count.result ≡ h.n = e.count_is in
    let s : c.size.result ≡ size_of k = c.size.ensures ∙ ap size_of child in
    let all : padded (c.values_in-count.result * c.size.result) ≡ padded (h.n * size_of k) = ap (λ m. padded (m * c.size.result)) n ∙ ap (λ m. padded (h.n * m)) s in
    omega (arith, c.in_err-used.ensures, h.size_is, ap length d.rest_is, length-drop (b.at + 8 + 8 + 8) b.bytes.now))

pub returns-in_err-default : goal.returns-in_err-default
returns-in_err-default c =
    rw c.from_residual-in_err-default.ensures (λ c' flags k words size laid.
    let b = c.args.self.now in
    let l = body_laid b (choice c' flags k words) size laid in
    let h = l.1 in
    let there = l.0 in
    let a = head_in b.bytes.now _ (b.at + 8) _ _ _ c.body.ensures (omega (arith, b.there)) c.in_ok-head.ensures in
    let d = head_after b.bytes.now (b.at + 8) _ _ _ _ _ _ a c.in_ok-declared.ensures in
    let e = choice_head b.bytes.now (b.at + 8) b.len c' flags k words size _ _ _ _ _ _ _ h a d c.values_in-count.ensures in
    let choice = same_choice _ c' _ _ e.number_is c.try_from.ensures c.in_ok-choice.ensures.value in
    let child = same_kind_lem _ k _ _ e.type_is c.try_from-2.ensures c.in_ok-child.ensures.value in
    let n : c.values_in-count.result ≡ h.n = e.count_is in
    let s : c.size.result ≡ size_of k = c.size.ensures ∙ ap size_of child in
    let all : padded (c.values_in-count.result * c.size.result) ≡ padded (h.n * size_of k) = ap (λ m. padded (m * c.size.result)) n ∙ ap (λ m. padded (h.n * m)) s in
    let some = needed_some c' in
    let m : 1 * size_of k ≤ h.n * size_of k = mul-le-mul_right (size_of k) (omega (arith, h.enough)) in
    word_there c.in_ok-child.child c.in_ok-declared.declared.rest.now (c.in_err-default.ensures.value ∙ ap result_ok c.word.ensures) (omega (arith, ap size_of child, h.size_is, ap length d.rest_is, length-drop (b.at + 8 + 8 + 8) b.bytes.now)))

pub returns-then-count-needed : goal.returns-then-count-needed
returns-then-count-needed c = λ c' flags k words size laid.
    let b = c.args.self.now in
    let l = body_laid b (choice c' flags k words) size laid in
    let h = l.1 in
    let there = l.0 in
    let a = head_in b.bytes.now _ (b.at + 8) _ _ _ c.body.ensures (omega (arith, b.there)) c.in_ok-head.ensures in
    let d = head_after b.bytes.now (b.at + 8) _ _ _ _ _ _ a c.in_ok-declared.ensures in
    let e = choice_head b.bytes.now (b.at + 8) b.len c' flags k words size _ _ _ _ _ _ _ h a d c.values_in-count.ensures in
    let choice = same_choice _ c' _ _ e.number_is c.try_from.ensures c.in_ok-choice.ensures.value in
    let child = same_kind_lem _ k _ _ e.type_is c.try_from-2.ensures c.in_ok-child.ensures.value in
    let n : c.values_in-count.result ≡ h.n = e.count_is in
    let s : c.size.result ≡ size_of k = c.size.ensures ∙ ap size_of child in
    let all : padded (c.values_in-count.result * c.size.result) ≡ padded (h.n * size_of k) = ap (λ m. padded (m * c.size.result)) n ∙ ap (λ m. padded (h.n * m)) s in
    omega (arith, h.enough, c.needed.ensures, ap needed choice, c.if-count-needed.true)

pub overflow_cast-result-2 : goal.overflow_cast-result-2
overflow_cast-result-2 c =
    let b = c.args.self.now in
    let a = head_in b.bytes.now _ (b.at + 8) _ _ _ c.body.ensures (omega (arith, b.there)) c.in_ok-head.ensures in
    let d = head_after b.bytes.now (b.at + 8) _ _ _ _ _ _ a c.in_ok-declared.ensures in
    omega (arith, c.in_ok-used.ensures.1, ap length d.rest_is, length-drop (b.at + 8 + 8 + 8) b.bytes.now)

pub returns : goal.returns
returns c = λ c' flags k words size laid.
    let b = c.args.self.now in
    let l = body_laid b (choice c' flags k words) size laid in
    let h = l.1 in
    let there = l.0 in
    let a = head_in b.bytes.now _ (b.at + 8) _ _ _ c.body.ensures (omega (arith, b.there)) c.in_ok-head.ensures in
    let d = head_after b.bytes.now (b.at + 8) _ _ _ _ _ _ a c.in_ok-declared.ensures in
    let e = choice_head b.bytes.now (b.at + 8) b.len c' flags k words size _ _ _ _ _ _ _ h a d c.values_in-count.ensures in
    let choice = same_choice _ c' _ _ e.number_is c.try_from.ensures c.in_ok-choice.ensures.value in
    let child = same_kind_lem _ k _ _ e.type_is c.try_from-2.ensures c.in_ok-child.ensures.value in
    let n : c.values_in-count.result ≡ h.n = e.count_is in
    let s : c.size.result ≡ size_of k = c.size.ensures ∙ ap size_of child in
    let all : padded (c.values_in-count.result * c.size.result) ≡ padded (h.n * size_of k) = ap (λ m. padded (m * c.size.result)) n ∙ ap (λ m. padded (h.n * m)) s in
    let fits = c.in_ok-used.ensures in
    let some = used_some c' h.n h.enough in
    let m : 1 * size_of k ≤ h.n * size_of k = mul-le-mul_right (size_of k) (omega (arith, needed_some c', h.enough)) in
    let total : c.in_ok-used.used + 24 ≡ size + 8 = omega (arith, fits.0, h.size_is) in
    let kept : c.kept.result ≡ flags = c.kept.ensures ∙ ap (λ x. flags_kept x c.in_ok-head.head.second) choice ∙ e.flags_are in
    let left : c.used-left.result ≡ length words = c.used-left.ensures ∙ ap (λ x. used_of x c.values_in-count.result) choice ∙ ap (used_of c') n ∙ sym h.used in
    let sixteen : b.at + 8 + 8 + 8 ≡ b.at + 8 + 16 = omega arith in
    let read = c.in_ok-default.ensures.value ∙ ap result_ok c.word.ensures in
    let word = word_read c.in_ok-child.child (b.at + 8 + 8 + 8) c.in_ok-default.default b.bytes.now _ d.rest_is read (omega (arith, ap size_of child, h.size_is, ap length d.rest_is, length-drop (b.at + 8 + 8 + 8) b.bytes.now)) in
    let first : c.in_ok-default.default ≡ get_or words 0 0 = word ∙ ap (λ x. word_at x (b.at + 8 + 8 + 8) b.bytes.now) child ∙ ap (λ p. word_at k p b.bytes.now) sixteen ∙ sym (first_value b.bytes.now k (b.at + 8 + 16) words (omega (arith, h.used)) h.values) in
    let number = e.number_is in
    let type = e.type_is in
    let few = used_le c' h.n h.enough in
    let bytes_in : c.used-left.result * size_of c.in_ok-child.child ≡ length words * size_of k = ap (λ x. x * size_of c.in_ok-child.child) left ∙ ap (λ x. length words * size_of x) child in
    let less : length words * size_of k ≤ h.n * size_of k = mul-le-mul_right (size_of k) (omega (arith, h.used)) in
    record {
      told_is = same_choice_told _ _ _ _ _ _ _ _ _ _ _ _ _ total type number kept left first;
      total_is = total;
      then_is = elements_are b.bytes.now _ k _ (b.at + 8 + 16) _ words child (d.rest_is ∙ ap (λ p. drop p b.bytes.now) sixteen) (sym left) h.values;
    }
