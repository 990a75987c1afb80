-- A held cue, and what each call on it does: its answer, and what the cue then is. Assumes nothing.
use Rattle.std.specs.Prelude.{◌≡◌, ℕ, Bool, true, false, cond, ◌&&◌, List, [], ◌++◌, length, take, drop, Some, None as nothing, Ok, Err, Option, Result, nat_le}
use Rattle.refusals.specs.declared.Why.{Why}
use Rattle.refusals.specs.declared.Why.TheVariants.{Shut}
use Rattle.settable.specs.declared.value.Value.{Value}
use Rattle.settable.specs.Values.{value_kind, value_word}
use Rattle.pods.specs.declared.rows.Row.{Row}
use Rattle.format.specs.Places.{row_at}
use Rattle.tours.specs.Lead.{Rule, lead}
use Rattle.tours.specs.RowsTold.{rows_tell}
use Rattle.laying.specs.Elements.{IsWord, with_word}
use Rattle.histories.specs.Cues.{accepts, rows_of, word_of, told_of}
use Rattle.histories.specs.Plain.{look_by, set_by, value_laid, toured}

-- bytes and a table, of which the first `count` rows stand while the cue is open
pub record Held : Type 0 where
  pub bytes : List ℕ
  pub rows : List Row
  pub count : ℕ
  pub opened : Bool

-- the rows that stand
abbrev pub standing : Held → List Row
standing h = take h.count h.rows

-- the rows of the bytes in the first places of a table, the later places as they were
abbrev pub filled : List ℕ → List Row → List Row
filled bytes table = rows_of bytes ++ drop (length (rows_of bytes)) table

-- bytes and a table newly held: open where a survey accepts the bytes and the table has room for their rows, else shut and
-- untouched
abbrev pub holding : List ℕ → List Row → Held
holding bytes table =
    cond (accepts bytes && nat_le (length (rows_of bytes)) (length table))
    (record { bytes = bytes; rows = filled bytes table; count = length (rows_of bytes); opened = true })
    (record { bytes = bytes; rows = table; count = 0; opened = false })

abbrev pub if_open : {A : Type 0} → Held → A → A → A
if_open h answered shut = cond h.opened answered shut

-- a look answers from what the bytes say, and changes nothing
abbrev pub Looked : Held → (i e : ℕ) → Result ℕ Why → Type 0
Looked h i e a = a ≡ if_open h (look_by (rows_of h.bytes) (word_of h.bytes) i e) (Err Shut)

-- a value laid at an element, and its row updated
abbrev pub rows_relaid : Option ℕ → (i : ℕ) → List Row → List Row
rows_relaid nothing i rows = rows
rows_relaid (Some w) i rows = with_word rows i w

abbrev pub relaid : Held → (i e : ℕ) → Value → Held
relaid h i e v =
    record { bytes = value_laid (row_at h.rows i) e v h.bytes; rows = rows_relaid (value_word v) i h.rows; count = h.count; opened = h.opened }

-- what was accepted has its effect, and what was refused changes nothing
abbrev pub Left : Result (Unit {0}) Why → Held → Held → Held → Type 0
Left (Ok _) h new h' = h' ≡ new
Left (Err _) h new h' = h' ≡ h

-- the value's word is one of its kind, as that of every value of the code is
abbrev pub IsValue : Value → Type 0
IsValue v = (w : ℕ) → value_word v ≡ Some w → IsWord (value_kind v) w

pub record WasSet (h : Held) (party i e : ℕ) (v : Value) (a : Result (Unit {0}) Why) (h' : Held) : Type 0 where
  pub value : IsValue v
  pub answer : a ≡ if_open h (set_by (rows_of h.bytes) (word_of h.bytes) party i e v) (Err Shut)
  pub left : Left a h (relaid h i e v) h'

-- the rows filled from the bytes
abbrev pub refilled : Held → Held
refilled h = record { bytes = h.bytes; rows = filled h.bytes h.rows; count = h.count; opened = h.opened }

pub record WasReread (h : Held) (a : Result (Unit {0}) Why) (h' : Held) : Type 0 where
  pub answer : a ≡ if_open h (Ok tt) (Err Shut)
  pub left : Left a h (refilled h) h'

-- a tour leads the visitor's rule over what the bytes tell, or the rows that stand
abbrev pub TouredBytes : {S : Type 0} → Held → Rule S → S → Result ℕ Why × S → Type 0
TouredBytes h rule s a = a ≡ if_open h (toured (lead rule s (told_of h.bytes))) (Err Shut, s)

abbrev pub TouredRows : {S : Type 0} → Held → Rule S → S → Result ℕ Why × S → Type 0
TouredRows h rule s a = a ≡ if_open h (toured (lead rule s (rows_tell h.bytes [] (standing h)))) (Err Shut, s)
