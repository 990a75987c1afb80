-- One part after another. Assumes nothing.
use Rattle.std.proofs.Common.{◌≡◌, ℕ, suc, ◌+◌, ◌-◌, ◌/◌, ◌%◌, ◌<◌, ◌≤◌, List, [], ◌∷◌, ◌++◌, length, Ok, Err, Result, ap, ◌∙◌, append_assoc, arith, length-append}
use Rattle.std.specs.Result.{IsErr}
use Rattle.cuevalues.specs.declared.page.Full.{Full}
use Rattle.cuevalues.specs.Hex.{digit_of}
use Rattle.cuevalues.specs.Parts.{bits_of}
use Rattle.cuevalues.specs.Pages.{Laid}

-- where one piece does not fit after those before it, the whole does not fit
pub laid_short : (old before piece whole mid : List ℕ) (full : Full) (r : Result Unit Full) (new : List ℕ) → IsErr r → length before + length piece ≤ length whole → mid ≡ old ++ before → Laid mid piece (Err full) new → Laid old whole r new
laid_short old before piece whole mid full (Ok x) new wrong inside e l = cc wrong
laid_short old before piece whole mid full (Err f) new wrong inside e l =
    let long : length mid ≡ length old + length before = ap length e ∙ length-append old before in
    (omega (arith, inside, long, l.0), (before ++ l.1.0, l.1.1 ∙ ap (λ x. x ++ l.1.0) e ∙ append_assoc old before l.1.0))

bits_more : (k count n : ℕ) → count ≡ suc k → bits_of count n ≡ bits_of k (n / 16) ++ digit_of (n % 16) ∷ []
bits_more k count n e = ap (λ m. bits_of m n) e

pub bits_step : (count n : ℕ) → 0 < count → bits_of count n ≡ bits_of (count - 1) (n / 16) ++ digit_of (n % 16) ∷ []
bits_step count n h = bits_more (count - 1) count n (omega arith)
