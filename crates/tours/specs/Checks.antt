-- What a check of bytes and a table answers. Assumes nothing.
use Rattle.std.specs.Prelude.{ℕ, cond, length, Ok, Err, Result, nat_lt}
use Rattle.refusals.specs.declared.Refusal.{Refusal}
use Rattle.refusals.specs.declared.Why.TheVariants.{TooManyRows}
use Rattle.pods.specs.declared.reading.Surveyed.{Surveyed}
use Rattle.pods.specs.Outcomes.{Outcome, gave, refused}
use Rattle.pods.specs.Pods.{spot_at}
use Rattle.pods.specs.Survey.{rows_in}
use Rattle.pods.specs.Trees.{Tree}

-- the survey's refusal, then that of more rows than the table has, else rows and bytes used
abbrev pub checked_by : Outcome Tree → (room : ℕ) → Result Surveyed Refusal
checked_by (refused e) room = Err e
checked_by (gave t used) room =
    cond (nat_lt room (length (rows_in t))) (Err (record { why = TooManyRows; spot = spot_at 0 1 }))
    (Ok (record { rows = length (rows_in t); used = used }))
