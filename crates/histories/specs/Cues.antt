-- A string of bytes as a cue: whether a survey accepts it, its rows, and what each element of them says. Assumes nothing.
use Rattle.std.specs.Prelude.{ℕ, Bool, true, false, List, []}
use Rattle.pods.specs.declared.rows.Row.{Row}
use Rattle.pods.specs.Outcomes.{Outcome, gave, refused}
use Rattle.pods.specs.Survey.{says, rows_in}
use Rattle.pods.specs.Trees.{Tree}
use Rattle.tours.specs.Told.{Thing, tells}
use Rattle.laying.specs.Values.{value_at}

abbrev pub is_given : Outcome Tree → Bool
is_given (gave t used) = true
is_given (refused e) = false

abbrev pub rows_said : Outcome Tree → List Row
rows_said (gave t used) = rows_in t
rows_said (refused e) = []

abbrev pub word_said : Outcome Tree → (i e : ℕ) → ℕ
word_said (gave t used) i e = value_at t i e
word_said (refused e') i e = 0

abbrev pub things_said : Outcome Tree → List Thing
things_said (gave t used) = tells t 0
things_said (refused e) = []

-- a survey accepts the bytes
unfoldable pub accepts : List ℕ → Bool
accepts bytes = is_given (says bytes)

-- the survey's rows of the bytes
unfoldable pub rows_of : List ℕ → List Row
rows_of bytes = rows_said (says bytes)

-- the word of element e of row i: a value of an array or choice, a byte of text or raw data, else the word of the row
unfoldable pub word_of : List ℕ → (i e : ℕ) → ℕ
word_of bytes = word_said (says bytes)

-- all that the bytes tell
unfoldable pub told_of : List ℕ → List Thing
told_of bytes = things_said (says bytes)
