-- A pod of an open cue: the row that it is of, what its elements say, and what can be set. Assumes nothing.
use Rattle.std.specs.Prelude.{◌≡◌, ℕ, pred, ◌<◌, ◌≤◌, Bool, ◌&&◌, List, length, Ok, Err, Result, nat_lt}
use Rattle.refusals.specs.declared.Why.{Why}
use Rattle.refusals.specs.declared.Why.TheVariants.{NoRow, NoElement}
use Rattle.kinds.specs.declared.kind.Kind.{Kind}
use Rattle.settable.specs.declared.value.Value.{Value}
use Rattle.settable.specs.Order.{at_most}
use Rattle.format.specs.Places.{row_at}
use Rattle.laying.specs.Elements.{look, settable_kind}
use Rattle.histories.specs.Choosing.{among, row_allows}
use Rattle.histories.specs.Cues.{rows_of}
use Rattle.histories.specs.Plain.{unless, value_checked}
use Rattle.cue.specs.declared.parties.Party.{Party}
use Rattle.cue.specs.declared.pod.Pod.{Pod}
use Rattle.cue.specs.Parties.{party_number}

-- the pod of row i of the bytes, or the refusal where there is no such row
abbrev pub Found : List ℕ → (i : ℕ) → Result Pod Why → Type 0
Found bytes i (Ok p) = (i < length (rows_of bytes)) × (p.row ≡ row_at (rows_of bytes) i) × (p.bytes.now ≡ bytes)
Found bytes i (Err why) = (length (rows_of bytes) ≤ i) × (why ≡ NoRow)

-- what element e says
abbrev pub look_in : Pod → (e : ℕ) → ℕ
look_in p e = look p.bytes.now p.row e

-- what a look at any element answers
abbrev pub looked : Pod → (e : ℕ) → Result ℕ Why
looked p e = unless (nat_lt e p.row.count) NoElement (Ok (look_in p e))

-- w is the word of an alternative
abbrev pub is_among : Pod → (w : ℕ) → Bool
is_among p w = among (pred p.row.count) (look_in p) w

-- w lies between the limits
abbrev pub is_between : Pod → Kind → (w : ℕ) → Bool
is_between p k w = at_most k (look_in p 1) w && at_most k w (look_in p 2)

-- w is allowed as the pod's value
abbrev pub is_allowed : Pod → Kind → (w : ℕ) → Bool
is_allowed p k w = row_allows p.row k (look_in p) w

-- what the checks of a value at element e answer
abbrev pub set_checked : Pod → Party → (e : ℕ) → Value → Result (Unit {0}) Why
set_checked p party e v = value_checked (settable_kind p.row) (party_number party) e v p.row (look_in p)
