-- How a tour ends. Assumes nothing.
use Rattle.std.proofs.Common.{◌≡◌, ℕ, ◌<◌, List, [], get_or, Ok, Err, ap}
use Rattle.pods.specs.declared.rows.Row.{Row}
use Rattle.pods.specs.Trees.{Tree}
use Rattle.pods.specs.Outcomes.{gave}
use Rattle.pods.specs.Survey.{says, rows_in}
use Rattle.tours.specs.declared.stop.Stop.TheVariants.{Visitor}
use Rattle.tours.specs.Told.{told_by}
use Rattle.tours.specs.Lead.{Rule, Led, told_all, stopped, lead, Ends}
use Rattle.tours.specs.Tours.{ended, tour, Toured}
use Rattle.tours.specs.RowsTold.{rows_tell}
use Rattle.tours.proofs.Retold.{rows_tell_alike}

-- a tour's answer from what `tell_all` answers
pub ended_ok : {H : Type 0} (l : Led H) (n : ℕ) (new : H) → Ends l (Ok n) new → Toured (ended l) (Ok n) new
ended_ok (told_all h m) n new e = (ap Ok e.0, e.1)
ended_ok (stopped h k) n new e = absurd e

pub ended_err : {H : Type 0} (l : Led H) (k : ℕ) (new : H) → Ends l (Err k) new → Toured (ended l) (Err (Visitor k)) new
ended_err (told_all h m) k new e = absurd e
ended_err (stopped h j) k new e = (ap (λ x. Err (Visitor x)) e.0, e.1)

-- the tour of its rows is the tour of a cue
pub tour_agree : {H : Type 0} (rule : Rule H) (h : H) (bytes : List ℕ) (rows : List Row) → ((i : ℕ) → get_or bytes i 0 < 256) → (t : Tree) (used : ℕ) → says bytes ≡ gave t used → rows ≡ rows_in t
    → ended (lead rule h (rows_tell bytes [] rows)) ≡ tour rule h (told_by bytes)
tour_agree rule h bytes rows small t used e same = rw (e, same, rows_tell_alike bytes small t used e)
