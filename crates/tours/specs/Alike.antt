-- Rows tell what the bytes tell. Assumes nothing.
use Rattle.std.specs.Prelude.{◌≡◌, ℕ, ◌<◌, List, [], slice_index}
use Rattle.pods.specs.Trees.{Tree}
use Rattle.pods.specs.Outcomes.{gave}
use Rattle.pods.specs.Survey.{says, rows_in}
use Rattle.tours.specs.Told.{tells}
use Rattle.tours.specs.RowsTold.{rows_tell}

abbrev pub RowsTellAlike : Type 0
RowsTellAlike =
    (bytes : List ℕ) → ((i : ℕ) → slice_index bytes i < 256) → (t : Tree) (used : ℕ) → says bytes ≡ gave t used
    → rows_tell bytes [] (rows_in t) ≡ tells t 0
