-- The rows of an accepted cue and their elements, and that laying a value changes just that value. Assumes nothing.
use Rattle.std.specs.Prelude.{◌≡◌, ℕ, ◌+◌, ◌*◌, ◌^◌, ◌<◌, ◌≤◌, ◌⊎◌, List, length, Some, ◌≢◌, slice_index}
use Rattle.kinds.specs.declared.kind.Kind.{Kind}
use Rattle.kinds.specs.Kinds.{type_of, size_of}
use Rattle.pods.specs.declared.choices.ChoiceType.{ChoiceType}
use Rattle.pods.specs.declared.rows.Row.{Row}
use Rattle.pods.specs.Choices.{choice_number, needed}
use Rattle.pods.specs.Trees.{Tree}
use Rattle.pods.specs.Outcomes.{gave}
use Rattle.pods.specs.Survey.{says, rows_in, survey_of}
use Rattle.format.specs.Places.{row_at}
use Rattle.laying.specs.Elements.{element_size, element_place, look, settable_kind, Settable, IsWord, lay_word, with_word}
use Rattle.laying.specs.Values.{values_in, value_at, with_value, set_in}

abbrev pub row_in : Tree → ℕ → Row
row_in t i = row_at (rows_in t) i

-- a list of bytes
abbrev pub Bytes : List ℕ → Type 0
Bytes bytes = (x : ℕ) → slice_index bytes x < 256

-- ---- rows

-- what a row can be, by its kind
pub data Form (r : Row) : Type 0 where
  fixed : (k : Kind) → r.kind ≡ type_of k → r.child ≡ 0 → r.count ≡ 1 → IsWord k r.word → Form r
  text : r.kind ≡ 8 → r.child ≡ 0 → r.word ≡ 0 → Form r
  raw : r.kind ≡ 9 → r.child ≡ 0 → r.word ≡ 0 → Form r
  array : (k : Kind) → r.kind ≡ 13 → r.child ≡ type_of k → (size_of k ≡ 0 → r.count ≡ 0) → r.word ≡ 0 → Form r
  choice : (c : ChoiceType) (k : Kind) → r.kind ≡ 19 → r.child ≡ type_of k → (size_of k ≢ 0) → r.side ≡ choice_number c → needed c ≤ r.count → IsWord k r.word → Form r
  pointer : r.kind ≡ 17 → r.child ≡ 0 → r.count ≡ 1 → Form r
  struct : r.kind ≡ 14 → r.child ≡ 0 → r.count ≡ 1 → r.word ≡ 0 → Form r
  object : r.kind ≡ 15 → r.child ≡ 0 → r.count ≡ 1 → Form r

-- row i of a cue that uses so many bytes
pub record RowFits (used i : ℕ) (r : Row) : Type 0 where
  pub form : Form r
  pub there : r.place + r.total ≤ used
  -- its elements end within it
  pub elements : element_place r r.count ≤ r.place + r.total
  -- its container is an earlier row
  pub parent : r.parent ≤ i
  pub locked : r.locked ≤ 1
  pub key : r.key < 2 ^ 32
  pub flags : r.flags < 2 ^ 32
  pub side : r.side < 2 ^ 32
  pub bits : r.bits < 2 ^ 32
  pub word : r.word < 2 ^ 64

pub record Fits (bytes : List ℕ) (t : Tree) (used : ℕ) : Type 0 where
  pub short : length bytes ≤ 65536
  pub within : used ≤ length bytes
  -- every pod has a header
  pub few : length (rows_in t) * 8 ≤ used
  pub row : (i : ℕ) → i < length (rows_in t) → RowFits used i (row_in t i)

abbrev pub RowsFit : Type 0
RowsFit = (bytes : List ℕ) → Bytes bytes → (t : Tree) (used : ℕ) → says bytes ≡ gave t used → Fits bytes t used

-- ---- elements

-- a look at the row and the bytes answers what the tree says, and of a kind's value a word that the kind can have
pub record Looked (bytes : List ℕ) (t : Tree) (i e : ℕ) : Type 0 where
  pub answer : look bytes (row_in t i) e ≡ value_at t i e
  pub wide : Bytes bytes → value_at t i e < 2 ^ 64
  pub word : Bytes bytes → (k : Kind) → settable_kind (row_in t i) ≡ Some k → IsWord k (value_at t i e)

abbrev pub LooksStand : Type 0
LooksStand =
    (bytes : List ℕ) (t : Tree) (used : ℕ) → says bytes ≡ gave t used
    → (i e : ℕ) → i < length (rows_in t) → e < (row_in t i).count → Looked bytes t i e

-- two stretches of bytes have none in common
abbrev pub Clear : (at n at' n' : ℕ) → Type 0
Clear at n at' n' = (at + n ≤ at') ⊎ (at' + n' ≤ at)

-- elements stand in the bytes that are used, each apart from the others
pub record Apart (t : Tree) (used : ℕ) : Type 0 where
  pub within : (i e : ℕ) → i < length (rows_in t) → e < (row_in t i).count → element_place (row_in t i) e + element_size (row_in t i) ≤ used
  -- what can be set has the size of its kind
  pub sized : (i : ℕ) (k : Kind) → i < length (rows_in t) → settable_kind (row_in t i) ≡ Some k → element_size (row_in t i) ≡ size_of k
  pub apart : (i e i' e' : ℕ) → i < length (rows_in t) → e < (row_in t i).count → i' < length (rows_in t) → e' < (row_in t i').count
      → ((i ≡ i') × (e ≡ e') → ⊥) → Clear (element_place (row_in t i) e) (element_size (row_in t i)) (element_place (row_in t i') e') (element_size (row_in t i'))

abbrev pub ElementsApart : Type 0
ElementsApart = (bytes : List ℕ) (t : Tree) (used : ℕ) → says bytes ≡ gave t used → Apart t used

-- ---- laying

-- the bytes `new`, in which w was laid at element e of row i: they say the same tree but for that word, and so do its rows
-- and every look
pub record Kept (bytes new : List ℕ) (t : Tree) (used i e w : ℕ) : Type 0 where
  pub long : length new ≡ length bytes
  pub small : Bytes bytes → Bytes new
  pub said : says new ≡ gave (set_in t i e w) used
  pub surveyed : survey_of new ≡ survey_of bytes
  pub rows : rows_in (set_in t i e w) ≡ with_word (rows_in t) i w
  pub values : values_in (set_in t i e w) ≡ with_value (values_in t) i e w
  pub looked : look new (row_in (set_in t i e w) i) e ≡ w
  pub others : (i' e' : ℕ) → i' < length (rows_in t) → e' < (row_in t i').count → ((i' ≡ i) × (e' ≡ e) → ⊥)
      → look new (row_in (set_in t i e w) i') e' ≡ look bytes (row_in t i') e'
  -- so a choice keeps its limits and alternatives
  pub limits : (i' e' : ℕ) → i' < length (rows_in t) → e' < (row_in t i').count → (row_in t i').kind ≡ 19 → 0 < e'
      → look new (row_in (set_in t i e w) i') e' ≡ look bytes (row_in t i') e'

abbrev pub LayingKeeps : Type 0
LayingKeeps =
    (bytes : List ℕ) (t : Tree) (used : ℕ) → says bytes ≡ gave t used
    → (i e : ℕ) (k : Kind) (w : ℕ) → i < length (rows_in t) → Settable (row_in t i) e k → IsWord k w
    → Kept bytes (lay_word (row_in t i) e k w bytes) t used i e w
