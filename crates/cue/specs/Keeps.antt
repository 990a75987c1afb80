-- A held cue of the code by what it holds. Assumes nothing.
use Rattle.std.specs.Prelude.{◌≡◌, ℕ, true, false, cond, Some, None, Ok, Err, Option, Result}
use Rattle.std.specs.Option.{is_some, unwrap_or}
use Rattle.cue.specs.declared.held.Cue.{Cue}
use Rattle.cue.specs.declared.opened.Opened.{Opened}
use Rattle.histories.specs.Held.{Held, standing as rows_standing}
use Rattle.refusals.specs.declared.Why.{Why}
use Rattle.refusals.specs.declared.Why.TheVariants.{Shut}
use Rattle.tours.specs.declared.stop.Stop.{Stop}
use Rattle.tours.specs.Stops.{why_of}

abbrev pub held_of : Cue → Held
held_of c = record { bytes = c.bytes.now; rows = c.rows.now; count = unwrap_or c.standing 0; opened = is_some c.standing }

-- the cue still holds the slices that it was lent, so what they end as, the lenders have
abbrev pub Lent : Cue → Cue → Type 0
Lent c c' = (c'.bytes.ghost_name ≡ c.bytes.ghost_name) × (c'.rows.ghost_name ≡ c.rows.ghost_name)

-- how many rows stand, where the cue is open
abbrev pub standing_of : Held → Option ℕ
standing_of h = cond h.opened (Some h.count) None

-- an open cue by its bytes and the rows that stand, or the refusal of a shut one
abbrev pub Opens : Held → Result Opened Why → Type 0
Opens h (Ok o) = (h.opened ≡ true) × (o.bytes.now ≡ h.bytes) × (o.rows.now ≡ rows_standing h)
Opens h (Err why) = (h.opened ≡ false) × (why ≡ Shut)

-- a tour's answer as that of a call
abbrev pub told_of : Result ℕ Stop → Result ℕ Why
told_of (Ok n) = Ok n
told_of (Err stop) = Err (why_of stop)
