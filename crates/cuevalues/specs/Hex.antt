-- Hexadecimal digits.
use Rattle.std.specs.Prelude.{ℕ, ◌+◌, ◌/◌, ◌%◌, cond, List, [], ◌∷◌, nat_lt}
use Rattle.std.specs.List.{flat_map}

-- the digit that stands for a number below 16: 0 to 9, then a to f
abbrev pub digit_of : ℕ → ℕ
digit_of v = cond (nat_lt v 10) (48 + v) (87 + v)

-- the two digits of a byte
abbrev pub digits_at : ℕ → List ℕ
digits_at b = digit_of (b / 16) ∷ digit_of (b % 16) ∷ []

-- the digits of some bytes, two for each
abbrev pub digits_of : List ℕ → List ℕ
digits_of bytes = flat_map digits_at bytes
