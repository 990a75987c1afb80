-- The word of a float that is a number means that float. Assumes nothing.
use Rattle.std.proofs.Common.{◌≡◌, ℕ, ◌*◌, ◌<◌, T, ap, ◌∙◌, arith}
use lib.Ieee.{Float, Format, fits, of_bits, to_bits, top}
use lib.Ieee.Bits.{of_bits-to_bits, to_bits-lt}

pub meant : (f : Format) (x : Float) (word : ℕ) → T (fits f x) → word ≡ to_bits f x → (of_bits f word ≡ x) × (word < 2 * top f)
meant f x word fit is = (ap (of_bits f) is ∙ of_bits-to_bits f x fit, omega (arith, to_bits-lt f x fit))
