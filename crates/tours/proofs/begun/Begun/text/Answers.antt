use Rattle.std.proofs.Common.{◌≡◌, ◌+◌, ◌-◌, length, sym, refl, ap, ◌∙◌, arith, length-drop, rules}
use Rattle.pods.specs.Trees.{text}
use Rattle.format.proofs.Values.{only_there}
use Rattle.tours.specs.Told.{pod, text_of}
use Rattle.tours.proofs.Beginning.{body_laid}
use Rattle.tours.proofs.begun.Begun.text.Goals as goal

pub returns : goal.returns
returns c = λ part size h.
    let s = c.args.self.now in
    let l = body_laid s (text part) size h in
    let used : c.in_ok-total.field-0 ≡ size = c.in_ok-total.ensures.0 ∙ sym l.1.size_is in
    let kept : c.in_ok-kept.kept ≡ s.len - 1 = search rules in
    let less : c.in_ok-kept.kept ≡ length part = omega (arith, l.1.len_is) in
    let same = only_there s.bytes.now (s.at + 8) c.in_ok-kept.kept part (omega (arith, l.0, l.1.size_is, l.1.len_is, length-drop (s.at + 8) s.bytes.now)) (sym less) l.1.stands in
    rw c.on.ensures record {
      told_is = ap (λ n. pod s.at n (text_of c.part.result.now)) (ap (λ n. n + 8) used) ∙ ap (λ p. pod s.at (size + 8) (text_of p)) (c.part.ensures ∙ same);
      total_is = ap (λ n. n + 8) used;
      then_is = refl;
    }
