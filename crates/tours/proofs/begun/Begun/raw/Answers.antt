use Rattle.std.proofs.Common.{◌≡◌, ◌+◌, sym, refl, ap, ◌∙◌, arith, length-drop}
use Rattle.pods.specs.Trees.{raw}
use Rattle.format.proofs.Values.{only_there}
use Rattle.tours.specs.Told.{pod, raw_of}
use Rattle.tours.proofs.Beginning.{body_laid}
use Rattle.tours.proofs.begun.Begun.raw.Goals as goal

pub returns : goal.returns
returns c = λ part size h.
    let s = c.args.self.now in
    let l = body_laid s (raw part) size h in
    let used : c.in_ok-total.field-0 ≡ size = c.in_ok-total.ensures.0 ∙ sym l.1.size_is in
    let same = only_there s.bytes.now (s.at + 8) s.len part (omega (arith, l.0, l.1.size_is, length-drop (s.at + 8) s.bytes.now)) (sym l.1.len_is) l.1.stands in
    rw c.on.ensures record {
      told_is = ap (λ n. pod s.at n (raw_of c.part.result.now)) (ap (λ n. n + 8) used) ∙ ap (λ p. pod s.at (size + 8) (raw_of p)) (c.part.ensures ∙ same);
      total_is = ap (λ n. n + 8) used;
      then_is = refl;
    }
