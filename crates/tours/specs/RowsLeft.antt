-- What a teller of rows has still to tell. Assumes nothing.
use Rattle.std.specs.Prelude.{◌≡◌, ℕ, Bool, false, cond, List, [], ◌∷◌, ◌++◌}
use Rattle.pods.specs.declared.holding.Holds.{Holds}
use Rattle.pods.specs.declared.rows.Row.{Row}
use Rattle.tours.specs.declared.open.Frame.{Frame}
use Rattle.tours.specs.declared.row_tour.RowTeller.{RowTeller}
use Rattle.tours.specs.Told.{Thing, pod, property}
use Rattle.tours.specs.Stack.{holding, is_due}
use Rattle.tours.specs.RowsTold.{row_content, row_elements, ends, unended, behind, rows_tell}
use Rattle.tours.specs.Starts.{elements_left}

abbrev pub unnamed : Bool → Holds → Row → List Thing
unnamed keyed h r = cond (is_due keyed h) (property r.key r.flags ∷ []) []

-- what rows still tell, where the key and flags of the first may have been told
abbrev pub rows_left : List ℕ → Bool → List Frame → List Row → List Thing
rows_left bytes keyed fs [] = ends fs
rows_left bytes keyed fs (r ∷ rs) =
    ends fs ++ ((unnamed keyed (holding (unended fs)) r ++ (pod r.place r.total (row_content bytes r) ∷ row_elements bytes r)) ++ rows_tell bytes (behind r (unended fs)) rs)

-- the innermost container, if any, has bytes left
abbrev pub Pending : List Frame → Type 0
Pending [] = Unit {0}
Pending (f ∷ outer) = f.remaining ≡ 0 → ⊥

-- the values of the row before, and then the rows
abbrev pub to_tell : RowTeller → List Thing
to_tell s = elements_left s.values ++ rows_left s.bytes.now s.keyed s.open s.rows.now

-- what is told behind the pod of a row, where the rows after it are left
abbrev pub after_pod : RowTeller → Row → List Thing
after_pod s r = row_elements s.bytes.now r ++ rows_left s.bytes.now false (behind r s.open) s.rows.now
