-- What is read is what is laid out. Assumes nothing.
use Rattle.std.specs.Prelude.{◌≡◌, ℕ, ◌≤◌, List, ◌++◌, length, take}
use Rattle.pods.specs.Trees.{Tree, deep, total}
use Rattle.pods.specs.Outcomes.{gave}
use Rattle.pods.specs.Survey.{rows_in, survey_of}
use Rattle.format.specs.Layout.{Laid}

-- the tree, at most 32 deep, takes the first `used` bytes and is laid out in them
pub record LaidIn (bytes : List ℕ) (used : ℕ) (t : Tree) : Type 0 where
  pub within : used ≤ length bytes
  pub whole : total t ≡ used
  pub shallow : deep t ≤ 32
  pub laid : Laid (take used bytes) t 0

-- within the limit of bytes, a survey accepts just the bytes in which a tree is laid out, and counts its rows
pub record AcceptsLaid (bytes : List ℕ) : Type 0 where
  pub laid : (rows used : ℕ) → survey_of bytes ≡ gave rows used → (t : Tree) × LaidIn bytes used t × (length (rows_in t) ≡ rows)
  pub accepted : (used : ℕ) (t : Tree) → LaidIn bytes used t → survey_of bytes ≡ gave (length (rows_in t)) used
  pub only : (used used' : ℕ) (t t' : Tree) → LaidIn bytes used t → LaidIn bytes used' t' → (t ≡ t') × (used ≡ used')

-- some tree is laid out in the first `used` bytes, has so many rows, and is the only one
pub record OneLaid (bytes : List ℕ) (rows used : ℕ) : Type 0 where
  pub tree : Tree
  pub laid : LaidIn bytes used tree
  pub counted : length (rows_in tree) ≡ rows
  pub only : (used' : ℕ) (t : Tree) → LaidIn bytes used' t → (t ≡ tree) × (used' ≡ used)

-- no tree is, however many bytes it takes
abbrev pub NoneLaid : List ℕ → Type 0
NoneLaid bytes = (used : ℕ) (t : Tree) → LaidIn bytes used t → ⊥

abbrev pub SurveyAcceptsLaid : Type 0
SurveyAcceptsLaid = (bytes : List ℕ) → length bytes ≤ 65536 → AcceptsLaid bytes

-- what follows the bytes that are used changes nothing
abbrev pub RestIsFree : Type 0
RestIsFree =
    (front rest rest' : List ℕ) (rows : ℕ) → survey_of (front ++ rest) ≡ gave rows (length front) → length (front ++ rest') ≤ 65536
    → survey_of (front ++ rest') ≡ gave rows (length front)
