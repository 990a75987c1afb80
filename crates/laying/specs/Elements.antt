-- The elements of rows: where they stand, which can be set, and what a look at one answers. Assumes nothing.
use Rattle.std.specs.Prelude.{◌≡◌, ℕ, ◌+◌, ◌*◌, ◌^◌, ◌<◌, Bool, cond, ◌||◌, List, drop, Some, None as no_kind, Option, ◌==◌, slice_index, slice_set}
use Rattle.words.specs.Words.{bytes_of, lay}
use Rattle.kinds.specs.declared.kind.Kind.{Kind}
use Rattle.kinds.specs.Kinds.{kind_of, size_of, said, word_of}
use Rattle.pods.specs.declared.rows.Row.{Row}
use Rattle.format.specs.Places.{row_at}

-- ---- where they stand

-- the elements of text and raw bytes are their bytes
abbrev pub has_bytes : Row → Bool
has_bytes r = r.kind == 8 || r.kind == 9

-- those of an array or choice are values of its child type
abbrev pub has_values : Row → Bool
has_values r = r.kind == 13 || r.kind == 19

-- the bytes of a value; what is no kind has none
abbrev pub bytes_by : Option Kind → ℕ
bytes_by no_kind = 0
bytes_by (Some k) = size_of k

-- how many bytes of a cue an element is
abbrev pub element_size : Row → ℕ
element_size r = cond (has_bytes r) 1 (cond (has_values r) (bytes_by (kind_of r.child)) (bytes_by (kind_of r.kind)))

-- the first stands after the header, and in an array or choice after what is said of its values
abbrev pub first_place : Row → ℕ
first_place r = r.place + cond (r.kind == 13) 16 (cond (r.kind == 19) 24 8)

-- where element e stands, if each stands `gap` bytes after the one before
abbrev pub element_at : (gap : ℕ) → Row → (e : ℕ) → ℕ
element_at gap r e = first_place r + e * gap

-- elements lie one after the other
abbrev pub element_place : Row → (e : ℕ) → ℕ
element_place r e = element_at (element_size r) r e

-- ---- what a look answers

abbrev pub word_by : Option Kind → List ℕ → ℕ
word_by no_kind bytes = 0
word_by (Some k) bytes = word_of k bytes

-- a byte of text or raw bytes, a value of an array or choice, else the row's word
abbrev pub look : List ℕ → Row → (e : ℕ) → ℕ
look bytes r e =
    cond (has_bytes r) (slice_index bytes (element_place r e))
    (cond (has_values r) (word_by (kind_of r.child) (drop (element_place r e) bytes)) r.word)

-- ---- what can be set

-- the kind of a type number whose values can be set: any but None, which has no bytes
abbrev pub settable_type : ℕ → Option Kind
settable_type type = cond (bytes_by (kind_of type) == 0) no_kind (kind_of type)

abbrev pub or_else : Option Kind → Option Kind → Option Kind
or_else no_kind other = other
or_else (Some k) other = Some k

-- a row's own kind or, of an array or choice, its child's
abbrev pub settable_kind : Row → Option Kind
settable_kind r = or_else (settable_type r.kind) (settable_type r.child)

-- a value of kind k can be set at element e: of a choice just at the default
pub record Settable (r : Row) (e : ℕ) (k : Kind) : Type 0 where
  pub kind_is : settable_kind r ≡ Some k
  pub there : e < r.count
  pub default : r.kind ≡ 19 → e ≡ 0

-- a word that a value of this kind can have
abbrev pub IsWord : Kind → ℕ → Type 0
IsWord k w = (w < 256 ^ size_of k) × (said k w ≡ w)

-- the bytes with a value's word laid at an element of a row
abbrev pub lay_word : Row → (e : ℕ) → Kind → (w : ℕ) → List ℕ → List ℕ
lay_word r e k w bytes = lay (element_place r e) (bytes_of (size_of k) w) bytes

-- a row whose value was set: an array's values are not in its row
abbrev pub reworded : Row → (w : ℕ) → Row
reworded r w =
    record { place = r.place; total = r.total; kind = r.kind; child = r.child; parent = r.parent; key = r.key; flags = r.flags; locked = r.locked; count = r.count; side = r.side; bits = r.bits; word = cond (r.kind == 13) r.word w }

abbrev pub with_word : List Row → (i w : ℕ) → List Row
with_word rows i w = slice_set rows i (reworded (row_at rows i) w)
