-- What the checks of a set answer, and what can be laid after them. Assumes nothing.
use Rattle.std.specs.Prelude.{◌≡◌, ℕ, ◌^◌, ◌<◌, true, Some, Ok, Err, Result}
use Rattle.refusals.specs.declared.Why.{Why}
use Rattle.refusals.specs.declared.Why.TheVariants.{Shut}
use Rattle.settable.specs.declared.value.Value.{Value}
use Rattle.settable.specs.Values.{value_kind, value_word}
use Rattle.format.specs.Places.{row_at}
use Rattle.laying.specs.Elements.{IsWord, Settable}
use Rattle.histories.specs.Cues.{rows_of, word_of}
use Rattle.histories.specs.Plain.{set_by}
use Rattle.histories.specs.Held.{Held, if_open}

-- what a set on this cue answers
abbrev pub set_answer : Held → (party i e : ℕ) → Value → Result (Unit {0}) Why
set_answer h p i e v = if_open h (set_by (rows_of h.bytes) (word_of h.bytes) p i e v) (Err Shut)

-- the word of the value where the set of element e is accepted, else the refusal
abbrev pub Permitted : Result (Unit {0}) Why → Value → (e : ℕ) → Result ℕ Why → Type 0
Permitted answer v e (Ok w) = (answer ≡ Ok tt) × (value_word v ≡ Some w) × (e < 2 ^ 32)
Permitted answer v e (Err why) = answer ≡ Err why

-- the value v, whose word is w, can be laid at element e of row i
pub record CanLay (h : Held) (i e : ℕ) (v : Value) (w : ℕ) : Type 0 where
  pub opened : h.opened ≡ true
  pub there : i < h.count
  pub settable : Settable (row_at h.rows i) e (value_kind v)
  pub few : e < 2 ^ 32
  pub word : value_word v ≡ Some w
  pub fits : IsWord (value_kind v) w
