-- What a cue says, its rows, and what a survey of it answers. Assumes nothing.
use Rattle.std.specs.Prelude.{◌≡◌, ℕ, List, length, drop, Ok, Err, Result, nat_lt}
use Rattle.refusals.specs.declared.Refusal.{Refusal}
use Rattle.refusals.specs.declared.Why.TheVariants.{TooLong}
use Rattle.pods.specs.declared.rows.Row.{Row}
use Rattle.pods.specs.declared.reading.Surveyed.{Surveyed}
use Rattle.pods.specs.Trees.{Tree}
use Rattle.pods.specs.Rows.{rows, top}
use Rattle.pods.specs.Outcomes.{Outcome, gave, refused, refuse_if, mapped}
use Rattle.pods.specs.Pods.{pod, spot_at}

-- a cue is one pod at the front of at most 65,536 bytes, with pods at most 32 deep
abbrev pub says : List ℕ → Outcome Tree
says bytes = refuse_if (nat_lt 65536 (length bytes)) TooLong (spot_at 0 1) (pod 32 1 0 bytes)

abbrev pub rows_in : Tree → List Row
rows_in t = rows t top

-- how many rows there are, and bytes used, or the refusal
abbrev pub survey_of : List ℕ → Outcome ℕ
survey_of bytes = mapped (λ t. length (rows_in t)) (says bytes)

-- an answer of the code, whole
abbrev pub answered : Result Surveyed Refusal → Outcome ℕ
answered (Ok s) = gave s.rows s.used
answered (Err e) = refused e

-- the bytes after those that are used
abbrev pub Remains : List ℕ → Outcome ℕ → List ℕ → Type 0
Remains bytes (gave n used) left = left ≡ drop used bytes
Remains bytes (refused e) left = ⊥
