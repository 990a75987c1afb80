-- Little-endian words and padding, as a list of bytes has them. Assumes nothing.
use Rattle.std.specs.Prelude.{◌≡◌, ℕ, zero, suc, ◌+◌, ◌-◌, ◌*◌, ◌/◌, ◌%◌, ◌≤◌, List, [], ◌∷◌, ◌++◌, length, take, drop, slice_index}

-- the word of n bytes at place k, the least significant byte first
abbrev pub little : (n k : ℕ) → List ℕ → ℕ
little zero k bytes = 0
little (suc n) k bytes = slice_index bytes k + 256 * little n (suc k) bytes

-- the n bytes of a word, the least significant first
abbrev pub bytes_of : (n word : ℕ) → List ℕ
bytes_of zero word = []
bytes_of (suc n) word = word % 256 ∷ bytes_of n (word / 256)

-- the bytes with others laid over them from a place on
abbrev pub lay : (at : ℕ) → (over bytes : List ℕ) → List ℕ
lay at over bytes = take at bytes ++ (over ++ drop (at + length over) bytes)

-- the bytes that fill n up to a multiple of eight
abbrev pub padding : ℕ → ℕ
padding n = (8 - n % 8) % 8

-- n bytes and those that fill them up
abbrev pub padded : ℕ → ℕ
padded n = n + padding n

-- the first eight bytes are these two words of 32 bits, and these bytes come after them
pub record Halves (bytes : List ℕ) (first second : ℕ) (rest : List ℕ) : Type 0 where
  pub whole : 8 ≤ length bytes
  pub first_is : first ≡ little 4 0 bytes
  pub second_is : second ≡ little 4 4 bytes
  pub rest_is : rest ≡ drop 8 bytes
