-- Table 3-7 of the Unicode Standard, well-formed UTF-8 byte sequences. Assumes nothing.
use Rattle.std.specs.Prelude.{ℕ, Bool, true, false, cond, ◌&&◌, List, [], ◌∷◌, Some, None, IsUtf8, Decides, Option, nat_le}

-- the first and the last of the bytes that may stand at one place
pub record Span : Type 0 where
  pub low : ℕ
  pub high : ℕ

abbrev pub span : (low high : ℕ) → Span
span low high = record { low = low; high = high }

abbrev pub within : Span → ℕ → Bool
within s b = nat_le s.low b && nat_le b s.high

-- a line of the table: the first bytes, and then those of each further byte
pub record Line : Type 0 where
  pub first : Span
  pub further : List Span

abbrev pub line : Span → List Span → Line
line f r = record { first = f; further = r }

-- the bytes that most often follow
abbrev pub tail : Span
tail = span 0x80 0xbf

-- Table 3-7
abbrev pub table : List Line
table =
    line (span 0x00 0x7f) []
    ∷ line (span 0xc2 0xdf) (tail ∷ [])
    ∷ line (span 0xe0 0xe0) (span 0xa0 0xbf ∷ tail ∷ [])
    ∷ line (span 0xe1 0xec) (tail ∷ tail ∷ [])
    ∷ line (span 0xed 0xed) (span 0x80 0x9f ∷ tail ∷ [])
    ∷ line (span 0xee 0xef) (tail ∷ tail ∷ [])
    ∷ line (span 0xf0 0xf0) (span 0x90 0xbf ∷ tail ∷ tail ∷ [])
    ∷ line (span 0xf1 0xf3) (tail ∷ tail ∷ tail ∷ [])
    ∷ line (span 0xf4 0xf4) (span 0x80 0x8f ∷ tail ∷ tail ∷ []) ∷ []

-- what has to follow a first byte, by the line that has it
abbrev pub find : List Line → ℕ → Option (List Span)
find [] b = None
find (l ∷ ls) b = cond (within l.first b) (Some l.further) (find ls b)

-- how a text goes on after its first byte, which some line has to have
abbrev pub begun : Option (List Span) → (List Span → Bool) → Bool
begun None go = false
begun (Some further) go = go further

-- whether bytes are the rest of a text in which those of `due` have to come first
unfoldable pub formed : List ℕ → List Span → Bool
formed [] [] = true
formed [] (s ∷ due) = false
formed (b ∷ bytes) [] = begun (find table b) (λ further. formed bytes further)
formed (b ∷ bytes) (s ∷ due) = within s b && formed bytes due

-- whether bytes are well-formed sequences, one after the other
abbrev pub well_formed : List ℕ → Bool
well_formed bytes = formed bytes []

-- the table accepts what encodes a list of characters, and nothing else
abbrev pub TextIsUtf8 : Type 0
TextIsUtf8 = (bytes : List ℕ) → Decides (well_formed bytes) (IsUtf8 bytes)
