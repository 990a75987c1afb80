-- The rows of a tree: one for each pod, in the order of the bytes. Assumes nothing.
use Rattle.std.specs.Prelude.{ℕ, ◌+◌, ◌*◌, ◌%◌, ◌^◌, max, List, [], ◌∷◌, ◌++◌, length, slice_index}
use Rattle.kinds.specs.Kinds.{type_of}
use Rattle.pods.specs.declared.holding.Holds.{Holds}
use Rattle.pods.specs.declared.holding.Holds.TheVariants.{Fields, Properties}
use Rattle.pods.specs.declared.rows.Row.{Row}
use Rattle.pods.specs.Choices.{choice_number}
use Rattle.pods.specs.Trees.{Tree, Forest, Leaf, fixed, text, raw, array, choice, pointer, leaf, struct, object, none, more, past, total, count}

-- the type number of a leaf
abbrev pub leaf_type : Leaf → ℕ
leaf_type (fixed k w) = type_of k
leaf_type (text bytes) = 8
leaf_type (raw bytes) = 9
leaf_type (array k ws) = 13
leaf_type (choice c f k ws) = 19
leaf_type (pointer t w) = 17

-- the type number of its values
abbrev pub leaf_child : Leaf → ℕ
leaf_child (fixed k w) = 0
leaf_child (text bytes) = 0
leaf_child (raw bytes) = 0
leaf_child (array k ws) = type_of k
leaf_child (choice c f k ws) = type_of k
leaf_child (pointer t w) = 0

-- how many values or bytes there are, or 1
abbrev pub leaf_count : Leaf → ℕ
leaf_count (fixed k w) = 1
leaf_count (text bytes) = length bytes
leaf_count (raw bytes) = length bytes
leaf_count (array k ws) = length ws
leaf_count (choice c f k ws) = length ws
leaf_count (pointer t w) = 1

-- the type of a choice or pointer
abbrev pub leaf_side : Leaf → ℕ
leaf_side (fixed k w) = 0
leaf_side (text bytes) = 0
leaf_side (raw bytes) = 0
leaf_side (array k ws) = 0
leaf_side (choice c f k ws) = choice_number c
leaf_side (pointer t w) = t

-- the flags of a choice
abbrev pub leaf_bits : Leaf → ℕ
leaf_bits (fixed k w) = 0
leaf_bits (text bytes) = 0
leaf_bits (raw bytes) = 0
leaf_bits (array k ws) = 0
leaf_bits (choice c f k ws) = f
leaf_bits (pointer t w) = 0

-- the word of a kind, a choice's default or a pointer
abbrev pub leaf_word : Leaf → ℕ
leaf_word (fixed k w) = w
leaf_word (text bytes) = 0
leaf_word (raw bytes) = 0
leaf_word (array k ws) = 0
leaf_word (choice c f k ws) = slice_index ws 0
leaf_word (pointer t w) = w

-- what is known of a pod from outside it: its place and row, its container's row and one more (0 where there is none),
-- the key and flags of its property, and whether it stands in what is locked
pub record Above : Type 0 where
  pub place : ℕ
  pub index : ℕ
  pub parent : ℕ
  pub key : ℕ
  pub flags : ℕ
  pub held : ℕ

-- of the outermost pod
abbrev pub top : Above
top = record { place = 0; index = 0; parent = 0; key = 0; flags = 0; held = 0 }

-- READONLY is bit 0 of a property's flags; it locks all that the property holds
abbrev pub locked_of : Above → ℕ
locked_of a = max a.held (a.flags % 2)

abbrev pub leaf_row : Above → Leaf → (total : ℕ) → Row
leaf_row a l total =
    record { place = a.place; total = total; kind = leaf_type l; child = leaf_child l; parent = a.parent; key = a.key; flags = a.flags; locked = locked_of a; count = leaf_count l; side = leaf_side l; bits = leaf_bits l; word = leaf_word l }

-- the row of a struct, whose word is 0, or of an object, whose word is its type and id
abbrev pub open_row : Above → (total kind word : ℕ) → Row
open_row a total kind word =
    record { place = a.place; total = total; kind = kind; child = 0; parent = a.parent; key = a.key; flags = a.flags; locked = locked_of a; count = 1; side = 0; bits = 0; word = word }

abbrev mutual
  pub rows : Tree → Above → List Row
  rows (leaf l size) a = leaf_row a l (size + 8) ∷ []
  rows (struct f) a =
      open_row a (total (struct f)) 14 0 ∷ rows_of Fields f (a.place + 8) (a.index + 1) (a.index + 1) (locked_of a)
  rows (object type id f) a =
      open_row a (total (object type id f)) 15 (type + id * 2 ^ 32)
      ∷ rows_of Properties f (a.place + 16) (a.index + 1) (a.index + 1) (locked_of a)

  -- what a container holds from the place `at` and the row `index` on
  pub rows_of : Holds → Forest → (at index parent locked : ℕ) → List Row
  rows_of h none at index parent locked = []
  rows_of h (more key flags t f) at index parent locked =
      rows t record { place = past h at; index = index; parent = parent; key = key; flags = flags; held = locked }
      ++ rows_of h f (at + past h (total t)) (index + count t) parent locked
