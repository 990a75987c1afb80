-- Every history of a cue newly held open: lists of calls, each doing what its contract says. Assumes nothing.
use Rattle.std.specs.Prelude.{◌≡◌, ℕ, ◌+◌, ◌<◌, Bool, true, false, ◌⊎◌, List, [], ◌∷◌, ◌++◌, length, Some, None as nothing, Ok, Err, Option, Result, ◌==◌, slice_index}
use Rattle.refusals.specs.declared.Why.{Why}
use Rattle.refusals.specs.declared.Why.TheVariants.{VisitorRefused}
use Rattle.words.specs.Words.{bytes_of}
use Rattle.kinds.specs.Kinds.{size_of}
use Rattle.settable.specs.Values.{value_kind, value_word}
use Rattle.pods.specs.declared.rows.Row.{Row}
use Rattle.format.specs.Places.{row_at}
use Rattle.tours.specs.Told.{Thing}
use Rattle.tours.specs.Lead.{Rule, holds, refuses}
use Rattle.laying.specs.Elements.{element_place}
use Rattle.laying.specs.Laws.{Bytes}
use Rattle.histories.specs.Cues.{accepts, rows_of, told_of}
use Rattle.histories.specs.Parties.{rigging, stage_management, read_only}
use Rattle.histories.specs.Plain.{Call, looks, sets, rereads, tours_bytes, tours_rows, Answer, Exchange, calls_of, plain}
use Rattle.histories.specs.Held.{Held, holding, standing, Looked, WasSet, WasReread, TouredBytes, TouredRows}

-- one call on a held cue, by the relation that the contract of that call states
abbrev pub Step : {S : Type 0} → Held → (c : Call S) → Answer c → Held → Type 0
Step h (looks i e) a h' = Looked h i e a × (h' ≡ h)
Step h (sets p i e v) a h' = WasSet h p i e v a h'
Step h rereads a h' = WasReread h a h'
Step h (tours_bytes rule s) a h' = TouredBytes h rule s a × (h' ≡ h)
Step h (tours_rows rule s) a h' = TouredRows h rule s a × (h' ≡ h)

-- calls one after another, each with its answer, accepted or refused, lead from one cue to another
abbrev pub Runs : {S : Type 0} → Held → List (Exchange S) → Held → Type 0
Runs h [] h' = h' ≡ h
Runs h (x ∷ xs) h' = (m : Held) × Step h x.0 x.1 m × Runs m xs h'

-- the calls of `xs` lead to this cue from one newly held open over the bytes `first`, whatever its table was
pub record Reached {S : Type 0} (first : List ℕ) (xs : List (Exchange S)) (h : Held) : Type 0 where
  pub bytes : Bytes first
  pub table : List Row
  pub opened : (holding first table).opened ≡ true
  pub runs : Runs (holding first table) xs h

-- ---- answers and bytes

-- byte k of those that a value laid at place p puts there is b
abbrev pub LaysAt : Option ℕ → (size p k b : ℕ) → Type 0
LaysAt nothing size p k b = ⊥
LaysAt (Some w) size p k b = (j : ℕ) × (j < size) × (k ≡ p + j) × (b ≡ slice_index (bytes_of size w) j)

-- an accepted set laid the byte b at place k; the places of elements never change, so they are those of the bytes at first
abbrev pub Lays : {S : Type 0} → (first : List ℕ) → (k b : ℕ) → (c : Call S) → Answer c → Type 0
Lays first k b (looks i e) a = ⊥
Lays first k b (sets p i e v) a = (a ≡ Ok tt) × LaysAt (value_word v) (size_of (value_kind v)) (element_place (row_at (rows_of first) i) e) k b
Lays first k b rereads a = ⊥
Lays first k b (tours_bytes rule s) a = ⊥
Lays first k b (tours_rows rule s) a = ⊥

-- no accepted set laid a byte there
abbrev pub Untouched : {S : Type 0} → (first : List ℕ) → ℕ → List (Exchange S) → Type 0
Untouched first k [] = Unit {0}
Untouched first k (x ∷ xs) = ((b : ℕ) → Lays first k b x.0 x.1 → ⊥) × Untouched first k xs

-- an accepted set laid b there, and no later one laid a byte there
pub record LastLaid {S : Type 0} (first : List ℕ) (k b : ℕ) (xs : List (Exchange S)) : Type 0 where
  pub before : List (Exchange S)
  pub laying : Exchange S
  pub later : List (Exchange S)
  pub split : xs ≡ before ++ (laying ∷ later)
  pub lays : Lays first k b laying.0 laying.1
  pub last : Untouched first k later

-- every answer is the plain cue's; each byte is what an accepted set last laid there, else as it was at first; a fresh survey
-- accepts the bytes, and its rows are those that stand
pub record Answered {S : Type 0} (first : List ℕ) (xs : List (Exchange S)) (h : Held) : Type 0 where
  pub answers : xs ≡ plain first (calls_of xs)
  pub long : length h.bytes ≡ length first
  pub bytes : (k : ℕ) → k < length first
      → LastLaid first k (slice_index h.bytes k) xs ⊎ (Untouched first k xs × (slice_index h.bytes k ≡ slice_index first k))
  pub opened : h.opened ≡ true
  pub accepted : accepts h.bytes ≡ true
  pub rows : rows_of h.bytes ≡ standing h

-- ---- tours agree

-- the rule takes every one of the told things, and leads from s to t
abbrev pub Takes : {S : Type 0} → Rule S → S → List Thing → S → Type 0
Takes rule s [] t = t ≡ s
Takes {S} rule s (x ∷ xs) t = (m : S) × (rule s x ≡ holds m) × Takes rule m xs t

-- up to the first refusal: what stands before it was taken, and it was not
pub record Stops {S : Type 0} (rule : Rule S) (s : S) (told : List Thing) (a : Result ℕ Why × S) : Type 0 where
  pub before : List Thing
  pub refused : Thing
  pub later : List Thing
  pub number : ℕ
  pub split : told ≡ before ++ (refused ∷ later)
  pub takes : Takes rule s before a.1
  pub refuses_it : rule a.1 refused ≡ refuses number
  pub says : a.0 ≡ Err (VisitorRefused number)

abbrev pub Ends : {S : Type 0} → Rule S → S → List Thing → Result ℕ Why × S → Type 0
Ends rule s told a = (Takes rule s told a.1 × (a.0 ≡ Ok (length told))) ⊎ Stops rule s told a

-- a tour of the bytes and one of the rows end alike, whatever the visitor's rule and whatever it holds: where the rule leads
-- over all that the bytes tell, up to its first refusal
abbrev pub ToursAgree : Type 0 → Held → Type 0
ToursAgree S h =
    (rule : Rule S) (s : S) (a b : Result ℕ Why × S) → TouredBytes h rule s a → TouredRows h rule s b
    → (a ≡ b) × Ends rule s (told_of h.bytes) a

-- ---- kept apart

-- whether a call is stage management's set
abbrev pub stage_set : {S : Type 0} → Call S → Bool
stage_set (looks i e) = false
stage_set (sets p i e v) = p == stage_management
stage_set rereads = false
stage_set (tours_bytes rule s) = false
stage_set (tours_rows rule s) = false

abbrev pub kept_unless : {S : Type 0} → Bool → Call S → List (Call S) → List (Call S)
kept_unless true c cs = cs
kept_unless false c cs = c ∷ cs

-- the list without stage management's sets
abbrev pub without_stage : {S : Type 0} → List (Call S) → List (Call S)
without_stage [] = []
without_stage (c ∷ cs) = kept_unless (stage_set c) c (without_stage cs)

abbrev pub answer_if : Bool → Result (Unit {0}) Why → List (Result (Unit {0}) Why) → List (Result (Unit {0}) Why)
answer_if true a rest = a ∷ rest
answer_if false a rest = rest

abbrev pub to_rigging : {S : Type 0} → (c : Call S) → Answer c → List (Result (Unit {0}) Why) → List (Result (Unit {0}) Why)
to_rigging (looks i e) a rest = rest
to_rigging (sets p i e v) a rest = answer_if (p == rigging) a rest
to_rigging rereads a rest = rest
to_rigging (tours_bytes rule s) a rest = rest
to_rigging (tours_rows rule s) a rest = rest

-- the answers to rigging's sets, in their order
abbrev pub answers_to_rigging : {S : Type 0} → List (Exchange S) → List (Result (Unit {0}) Why)
answers_to_rigging [] = []
answers_to_rigging (x ∷ xs) = to_rigging x.0 x.1 (answers_to_rigging xs)

-- rigging's sets are answered alike, the same rows are read-only, and looks at every element of these answer alike
pub record KeptApart {S : Type 0} (xs ys : List (Exchange S)) (h h' : Held) : Type 0 where
  pub answers : answers_to_rigging xs ≡ answers_to_rigging ys
  pub same : (i : ℕ) → read_only (row_at (standing h) i) ≡ read_only (row_at (standing h') i)
  pub values : (i : ℕ) → read_only (row_at (standing h) i) ≡ true → (e : ℕ) (a a' : Result ℕ Why) → Looked h i e a → Looked h' i e a' → a ≡ a'

-- ---- all three, of a cue that any list of calls may have led to from one newly held open; S is what the visitors of the
-- list may hold

pub record Laws {S : Type 0} (first : List ℕ) (xs : List (Exchange S)) (h : Held) : Type 0 where
  pub answered : Answered first xs h
  pub tours : ToursAgree S h
  pub apart : (ys : List (Exchange S)) (h' : Held) → Reached first ys h' → without_stage (calls_of xs) ≡ without_stage (calls_of ys) → KeptApart xs ys h h'

abbrev pub Lawful : Type 0 → Held → Type 0
Lawful S h = (first : List ℕ) (xs : List (Exchange S)) → Reached first xs h → Laws first xs h

-- the same, said at the start of a cue's life
abbrev pub Life : Type 0 → List ℕ → Held → Type 0
Life S first h₀ = (xs : List (Exchange S)) (h : Held) → Runs h₀ xs h → Laws first xs h
