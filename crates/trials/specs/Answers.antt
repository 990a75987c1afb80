-- Right answers, and how they are written.
use Rattle.std.specs.Prelude.{◌≡◌, ℕ, true, false, List, ◌∷◌, ◌++◌, Some, None, Ok, Err, codes, decimal, Option, ◌≢◌}
use Rattle.hex.specs.Hex.{IsBytes}
use Rattle.refusals.specs.Refusals.{refusal_text}
use Rattle.utf8.specs.Table37.{well_formed}
use Rattle.pods.specs.Survey.{answered, survey_of}
use Rattle.trials.specs.declared.trial.Answer.{Answer}
use Rattle.trials.specs.declared.trial.Answer.TheVariants as answer
use Rattle.trials.specs.declared.trial.Task.{Task}
use Rattle.trials.specs.declared.trial.Task.TheVariants as task
use Rattle.trials.specs.Hex.{Given}

abbrev pub name_of : Task → List ℕ
name_of task.Survey = codes "survey"
name_of task.Text = codes "text"

-- a line with a task, digits and an expected answer
abbrev pub line_of : Task → List ℕ → List ℕ → List ℕ
line_of task digits expected = name_of task ++ (32 ∷ (digits ++ (codes " = " ++ expected)))

-- the answer is the right one to that task for those bytes
abbrev pub Right : Task → List ℕ → Answer → Type 0
Right task.Survey bytes (answer.Cue found) = answered found ≡ survey_of bytes
Right task.Survey bytes (answer.Text is_text) = ⊥
Right task.Text bytes (answer.Cue found) = ⊥
Right task.Text bytes (answer.Text is_text) = well_formed bytes ≡ is_text

-- an answer as a line writes it
abbrev pub written : Answer → List ℕ
written (answer.Cue (Ok found)) = codes "rows " ++ (decimal found.rows ++ (codes " used " ++ decimal found.used))
written (answer.Cue (Err refusal)) = refusal_text refusal
written (answer.Text true) = codes "yes"
written (answer.Text false) = codes "no"

-- the answer of a task for bytes that the digits spell is the expected one, or the other that is given
abbrev pub Judged : Task → List ℕ → List ℕ → List ℕ → Option Answer → Type 0
Judged task digits expected bytes None = IsBytes bytes × Given digits bytes × ((a : Answer) × (Right task bytes a × (written a ≡ expected)))
Judged task digits expected bytes (Some a) = IsBytes bytes × Given digits bytes × (Right task bytes a × (written a ≢ expected))

-- the same for the trial that a line spells
abbrev pub Tried : List ℕ → Option Answer → Type 0
Tried line other = (bytes : List ℕ) × (task : Task) × (digits : List ℕ) × (expected : List ℕ) × (line ≡ line_of task digits expected) × Judged task digits expected bytes other
