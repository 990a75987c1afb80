use Rattle.std.proofs.Common.{◌≡◌, ◌+◌, refl, ap, ◌∙◌, arith}
use Rattle.words.specs.Words.{little}
use Rattle.pods.specs.declared.holding.Holds.TheVariants.{Properties}
use Rattle.pods.specs.Trees.{totals}
use Rattle.tours.proofs.Beginning.{head_in}
use Rattle.tours.proofs.begun.Begun.object.Goals as goal

pub returns : goal.returns
returns c = λ type id f h.
    let s = c.args.self.now in
    let a = head_in s.bytes.now _ (s.at + 8) _ _ _ c.body.ensures (omega (arith, s.there)) c.in_ok-named.ensures in
    let place : s.at + 8 + 4 ≡ s.at + 12 = omega arith in
    let first : c.in_ok-named.named.first ≡ type = a.first_is ∙ h.2 in
    let second : c.in_ok-named.named.second ≡ id = a.second_is ∙ ap (λ p. little 4 p s.bytes.now) place ∙ h.3 in
    let len : s.len ≡ totals Properties f + 8 = s.declared ∙ h.1 in
    let all : c.in_ok-total.total ≡ totals Properties f + 16 = omega arith in
    record {
      told_is = cc;
      total_is = all;
      then_is = refl;
    }
