-- The bytes of parts. Assumes nothing.
use Rattle.std.specs.Prelude.{ℕ, zero, suc, ◌/◌, ◌%◌, List, [], ◌∷◌, ◌++◌, decimal}
use Rattle.std.specs.List.{flat_map}
use Rattle.cuevalues.specs.declared.part.Part.{Part}
use Rattle.cuevalues.specs.declared.part.Part.TheVariants.{Words, Decimal, Minus, Pair, Bits, Hex}
use Rattle.cuevalues.specs.Hex.{digit_of, digits_of}

-- the last so many hexadecimal digits of a number
abbrev pub bits_of : ℕ → ℕ → List ℕ
bits_of zero n = []
bits_of (suc k) n = bits_of k (n / 16) ++ digit_of (n % 16) ∷ []

abbrev pub said_part : Part → List ℕ
said_part (Words words) = words.now
said_part (Decimal n) = decimal n
said_part (Minus n) = 45 ∷ decimal n
said_part (Pair first between second) = decimal first ++ (between ∷ decimal second)
said_part (Bits count n) = bits_of count n
said_part (Hex bytes) = digits_of bytes.now

-- one part after the other
abbrev pub said : List Part → List ℕ
said parts = flat_map said_part parts
