-- Where the pods of a container stand. Assumes nothing.
use Rattle.std.specs.Prelude.{◌≡◌, ℕ, suc, ◌+◌, ◌<◌, cond, List, [], ◌∷◌, length, ◌==◌, slice_index_or}
use Rattle.pods.specs.declared.rows.Row.{Row}
use Rattle.pods.specs.declared.holding.Holds.{Holds}
use Rattle.pods.specs.declared.holding.Holds.TheVariants.{Fields, Properties}
use Rattle.pods.specs.Trees.{Tree, past}
use Rattle.pods.specs.Outcomes.{gave}
use Rattle.pods.specs.Survey.{says, rows_in}

-- a row of no pod
abbrev pub blank : Row
blank = record { place = 0; total = 0; kind = 0; child = 0; parent = 0; key = 0; flags = 0; locked = 0; count = 0; side = 0; bits = 0; word = 0 }

abbrev pub row_at : List Row → ℕ → Row
row_at rs i = slice_index_or rs i blank

-- the rows whose container's row and one more is q, in their order
abbrev pub children : (q : ℕ) → List Row → List Row
children q [] = []
children q (r ∷ rs) = cond (r.parent == q) (r ∷ children q rs) (children q rs)

-- pods stand one after the other from place `at` to place `end`, in an object each after eight bytes of key and flags
abbrev pub Chained : Holds → (at end : ℕ) → List Row → Type 0
Chained h at end [] = at ≡ end
Chained h at end (r ∷ rs) = (r.place ≡ past h at) × Chained h (past h at + r.total) end rs

-- a struct's pods stand from 8 after its place to its end; an object's properties from 16 after its place to its end, so
-- that its first pod stands 24 after its place
pub record Chain (r : Row) (held : List Row) : Type 0 where
  pub struct : r.kind ≡ 14 → Chained Fields (r.place + 8) (r.place + r.total) held
  pub object : r.kind ≡ 15 → Chained Properties (r.place + 16) (r.place + r.total) held

-- so it is with every row of a cue and the rows of the pods that it holds
abbrev pub PodsChained : Type 0
PodsChained =
    (bytes : List ℕ) (t : Tree) (used : ℕ) → says bytes ≡ gave t used
    → (i : ℕ) → i < length (rows_in t) → Chain (row_at (rows_in t) i) (children (suc i) (rows_in t))
