-- Hexadecimal digits.
use Rattle.std.specs.Prelude.{◌≡◌, ℕ, ◌+◌, ◌/◌, ◌%◌, cond, ◌⊎◌, List, [], ◌∷◌, codes, nat_lt}

-- the digit that stands for a number below 16: 0 to 9, then a to f
abbrev pub digit_of : ℕ → ℕ
digit_of v = cond (nat_lt v 10) (48 + v) (87 + v)

-- the digits of some bytes, two for each
abbrev pub digits_of : List ℕ → List ℕ
digits_of [] = []
digits_of (b ∷ bs) = digit_of (b / 16) ∷ digit_of (b % 16) ∷ digits_of bs

-- the digits are those of the bytes, or a dash, which stands for no bytes
abbrev pub Given : List ℕ → List ℕ → Type 0
Given digits bytes = ((digits ≡ codes "-") × (bytes ≡ [])) ⊎ (digits ≡ digits_of bytes)
