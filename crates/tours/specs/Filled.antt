-- A table that is told a tree then holds the tree's rows. Assumes nothing.
use Rattle.std.specs.Prelude.{◌≡◌, ℕ, ◌-◌, ◌^◌, ◌<◌, ◌≤◌, min, cond, List, ◌++◌, length, drop, Ok, Err, Result, nat_lt}
use Rattle.pods.specs.declared.holding.Holds.{Holds}
use Rattle.pods.specs.declared.holding.Holds.TheVariants.{Fields, Properties}
use Rattle.pods.specs.declared.rows.Row.{Row}
use Rattle.pods.specs.Trees.{Tree, Forest, leaf, struct, object, none, more, Leaf, fixed, text, raw, array, choice, pointer}
use Rattle.pods.specs.Survey.{rows_in}
use Rattle.refusals.specs.declared.Refusal.{Refusal}
use Rattle.refusals.specs.declared.Why.TheVariants.{TooManyRows}
use Rattle.pods.specs.declared.reading.Surveyed.{Surveyed}
use Rattle.pods.specs.Outcomes.{Outcome, gave, refused}
use Rattle.pods.specs.Pods.{spot_at}
use Rattle.tours.specs.Told.{tells}
use Rattle.tours.specs.Lead.{told_all, stopped, lead}
use Rattle.tours.specs.Table.{Table, fills}

-- what is not told is 0: a field has neither key nor flags
abbrev pub Unnamed : Holds → (key flags : ℕ) → Type 0
Unnamed Fields key flags = (key ≡ 0) × (flags ≡ 0)
Unnamed Properties key flags = Unit {0}

-- the bytes of a text or of raw data are counted in 32 bits
abbrev pub Short : Leaf → Type 0
Short (fixed k w) = Unit {0}
Short (text part) = length part ≤ 4294967295
Short (raw part) = length part ≤ 4294967295
Short (array k ws) = Unit {0}
Short (choice c flags k ws) = Unit {0}
Short (pointer t w) = Unit {0}

-- as all trees are that are read from bytes
abbrev mutual
  pub Plain : Tree → Type 0
  Plain (leaf l size) = Short l
  Plain (struct f) = PlainAll Fields f
  Plain (object type id f) = PlainAll Properties f

  pub PlainAll : Holds → Forest → Type 0
  PlainAll h none = Unit {0}
  PlainAll h (more key flags t f) = Unnamed h key flags × Plain t × PlainAll h f

-- so many rows stand, nothing is open, and no property is kept
abbrev pub closed : List Row → ℕ → Table
closed rows len = record { rows = rows; len = len; within = 0; key = 0; flags = 0 }

-- a table with room for all rows of a tree has them at its front once the tree is told, and the rest as it was
abbrev pub RowsFilled : Type 0
RowsFilled =
    (t : Tree) → Plain t → (table : List Row) → length (rows_in t) ≤ min (length table) 4294967295
    → lead fills (closed table 0) (tells t 0) ≡ told_all (closed (rows_in t ++ drop (length (rows_in t)) table) (length (rows_in t))) (min (length (tells t 0)) (2 ^ 64 - 1))

-- one with less room stops the telling with 1
abbrev pub RowsOverfill : Type 0
RowsOverfill =
    (t : Tree) → Plain t → (table : List Row) → min (length table) 4294967295 < length (rows_in t)
    → (held : Table) × (lead fills (closed table 0) (tells t 0) ≡ stopped held 1)

-- what filling a table with the rows of a cue comes to, and the table then: the survey's refusal; a refusal of more rows than
-- the table; or the rows at its front, and the rest as it was
abbrev pub filled_by : Outcome Tree → List Row → Result Surveyed Refusal × List Row
filled_by (refused e) table = (Err e, table)
filled_by (gave t used) table =
    cond (nat_lt (length table) (length (rows_in t))) (Err (record { why = TooManyRows; spot = spot_at 0 1 }), table)
    (Ok (record { rows = length (rows_in t); used = used }), rows_in t ++ drop (length (rows_in t)) table)
