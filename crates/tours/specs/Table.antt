-- What a table of rows makes of told things. Assumes nothing.
use Rattle.std.specs.Prelude.{ℕ, ◌+◌, ◌-◌, ◌*◌, ◌%◌, ◌^◌, min, max, cond, List, length, ◌==◌, nat_lt, slice_index_or, slice_set}
use Rattle.pods.specs.declared.rows.Row.{Row}
use Rattle.tours.specs.Told.{Content, value, text_of, raw_of, array_of, choice_of, pointer_to, struct_open, object_open, pod, element, property, end}
use Rattle.tours.specs.Lead.{holds, refuses, Rule}

-- a table, how many of its rows stand, the row of the innermost open container and one more (0 where none is open), and the
-- latest property
pub record Table : Type 0 where
  pub rows : List Row
  pub len : ℕ
  pub within : ℕ
  pub key : ℕ
  pub flags : ℕ

abbrev pub no_row : Row
no_row = record { place = 0; total = 0; kind = 0; child = 0; parent = 0; key = 0; flags = 0; locked = 0; count = 0; side = 0; bits = 0; word = 0 }

-- the row of the innermost open container
abbrev pub holder : Table → Row
holder t = cond (t.within == 0) no_row (slice_index_or t.rows (t.within - 1) no_row)

-- the row of a pod by its type, child, count, side, bits and word: READONLY of its property or of what holds it locks it
abbrev pub row_of : Table → (place total kind child count side bits word : ℕ) → Row
row_of t place total kind child count side bits word =
    record { place = place; total = total; kind = kind; child = child; parent = t.within; key = t.key; flags = t.flags; locked = max (holder t).locked (t.flags % 2); count = count; side = side; bits = bits; word = word }

-- the bytes of a part, counted up to the largest number of 32 bits
abbrev pub counted : List ℕ → ℕ
counted part = min (length part) 4294967295

abbrev pub content_row : Table → (place total : ℕ) → Content → Row
content_row t place total (value kind word) = row_of t place total kind 0 1 0 0 word
content_row t place total (text_of part) = row_of t place total 8 0 (counted part) 0 0 0
content_row t place total (raw_of part) = row_of t place total 9 0 (counted part) 0 0 0
content_row t place total (array_of child count) = row_of t place total 13 child count 0 0 0
content_row t place total (choice_of child type flags count default) = row_of t place total 19 child count type flags default
content_row t place total (pointer_to type word) = row_of t place total 17 0 1 type 0 word
content_row t place total struct_open = row_of t place total 14 0 1 0 0 0
content_row t place total (object_open type id) = row_of t place total 15 0 1 0 0 (type + id * 2 ^ 32)

-- what is then the innermost open container, where the pod is row `row`
abbrev pub entered : ℕ → ℕ → Content → ℕ
entered row outer (value kind word) = outer
entered row outer (text_of part) = outer
entered row outer (raw_of part) = outer
entered row outer (array_of child count) = outer
entered row outer (choice_of child type flags count default) = outer
entered row outer (pointer_to type word) = outer
entered row outer struct_open = row + 1
entered row outer (object_open type id) = row + 1

-- the most rows of a table, whose numbers have to fit 32 bits
abbrev pub room : Table → ℕ
room t = min (length t.rows) 4294967295

-- one row for each pod, refused with 1 where the table is full; a property is kept for the next pod; elements are passed over;
-- an end goes back to the container's own, and is refused with 2 where none is open
abbrev pub fills : Rule Table
fills t (pod place total c) =
    cond (nat_lt t.len (room t))
    (holds record { rows = slice_set t.rows t.len (content_row t place total c); len = t.len + 1; within = entered t.len t.within c; key = 0; flags = 0 })
    (refuses 1)
fills t (element kind word) = holds t
fills t (property key flags) = holds record { rows = t.rows; len = t.len; within = t.within; key = key; flags = flags }
fills t end =
    cond (t.within == 0) (refuses 2)
    (holds record { rows = t.rows; len = t.len; within = (holder t).parent; key = t.key; flags = t.flags })
