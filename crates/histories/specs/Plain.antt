-- The plain cue: a string of bytes that is fed only the arguments of calls. Assumes nothing.
use Rattle.std.specs.Prelude.{ℕ, Bool, cond, not, ◌&&◌, ◌||◌, List, [], ◌∷◌, length, Some, None as nothing, Ok, Err, Option, Result, ◌==◌, nat_lt}
use Rattle.refusals.specs.declared.Why.{Why}
use Rattle.refusals.specs.declared.Why.TheVariants.{NoParty, NotANumber, NoRow, NotSettable, OtherKind, NoElement, Locked, Forbidden, VisitorRefused}
use Rattle.kinds.specs.declared.kind.Kind.{Kind}
use Rattle.kinds.specs.Kinds.{type_of}
use Rattle.settable.specs.declared.value.Value.{Value}
use Rattle.settable.specs.Values.{value_kind, value_word}
use Rattle.pods.specs.declared.rows.Row.{Row}
use Rattle.format.specs.Places.{row_at}
use Rattle.tours.specs.Lead.{Rule, Led, told_all, stopped, lead}
use Rattle.laying.specs.Elements.{settable_kind, lay_word}
use Rattle.histories.specs.Cues.{rows_of, word_of, told_of}
use Rattle.histories.specs.Parties.{known, may_set}
use Rattle.histories.specs.Choosing.{row_allows}

-- ---- the calls, and what each answers

-- a tour comes with its visitor's rule and what the visitor holds; S is what the visitors of a list of calls may hold
pub data Call (S : Type 0) : Type 0 where
  looks : (row element : ℕ) → Call S
  sets : (party row element : ℕ) → Value → Call S
  rereads : Call S
  tours_bytes : Rule S → (holds : S) → Call S
  tours_rows : Rule S → (holds : S) → Call S

-- with a tour's answer comes what its visitor then holds
abbrev pub Answer : {S : Type 0} → Call S → Type 0
Answer (looks i e) = Result ℕ Why
Answer (sets p i e v) = Result (Unit {0}) Why
Answer rereads = Result (Unit {0}) Why
Answer {S} (tours_bytes rule s) = Result ℕ Why × S
Answer {S} (tours_rows rule s) = Result ℕ Why × S

-- what follows where a check holds, else the refusal
abbrev pub unless : {A : Type 0} → Bool → Why → Result A Why → Result A Why
unless holds why next = cond holds next (Err why)

-- ---- looking

-- by the rows, and the words of their elements
abbrev pub look_by : List Row → (word : ℕ → ℕ → ℕ) → (i e : ℕ) → Result ℕ Why
look_by rows word i e = unless (nat_lt i (length rows)) NoRow (unless (nat_lt e (row_at rows i).count) NoElement (Ok (word i e)))

-- ---- setting

-- an element below the count, and of a choice only the default
abbrev pub can_set : Row → (e : ℕ) → Bool
can_set r e = nat_lt e r.count && (not (r.kind == 19) || e == 0)

abbrev pub same_kind : Kind → Kind → Bool
same_kind j k = type_of j == type_of k

abbrev pub number_checked : Option ℕ → (ℕ → Result (Unit {0}) Why) → Result (Unit {0}) Why
number_checked nothing next = Err NotANumber
number_checked (Some w) next = next w

-- the checks of a value at an element of a row with settable values of this kind
abbrev pub value_checked : Option Kind → (party e : ℕ) → Value → Row → (word : ℕ → ℕ) → Result (Unit {0}) Why
value_checked nothing p e v r word = Err NotSettable
value_checked (Some k) p e v r word =
    unless (same_kind k (value_kind v)) OtherKind
    (unless (can_set r e) NoElement
    (unless (may_set p r) Locked
    (number_checked (value_word v) (λ w. unless (row_allows r k word w) Forbidden (Ok tt)))))

-- the first check that refuses, else acceptance
abbrev pub set_by : List Row → (word : ℕ → ℕ → ℕ) → (party i e : ℕ) → Value → Result (Unit {0}) Why
set_by rows word p i e v =
    unless (known p) NoParty
    (unless (nat_lt i (length rows)) NoRow
    (value_checked (settable_kind (row_at rows i)) p e v (row_at rows i) (word i)))

-- the bytes with a value laid at an element of a row
abbrev pub word_laid : Option ℕ → Kind → Row → (e : ℕ) → List ℕ → List ℕ
word_laid nothing k r e bytes = bytes
word_laid (Some w) k r e bytes = lay_word r e k w bytes

abbrev pub value_laid : Row → (e : ℕ) → Value → List ℕ → List ℕ
value_laid r e v bytes = word_laid (value_word v) (value_kind v) r e bytes

-- ---- touring

-- how many things were told, or the visitor's refusal with its number; and what the visitor then holds
abbrev pub toured : {S : Type 0} → Led S → Result ℕ Why × S
toured (told_all h n) = (Ok n, h)
toured (stopped h k) = (Err (VisitorRefused k), h)

-- ---- the plain cue

-- what it answers
abbrev pub answer : {S : Type 0} → List ℕ → (c : Call S) → Answer c
answer bytes (looks i e) = look_by (rows_of bytes) (word_of bytes) i e
answer bytes (sets p i e v) = set_by (rows_of bytes) (word_of bytes) p i e v
answer bytes rereads = Ok tt
answer bytes (tours_bytes rule s) = toured (lead rule s (told_of bytes))
answer bytes (tours_rows rule s) = toured (lead rule s (told_of bytes))

abbrev pub if_accepted : {A : Type 0} → Result (Unit {0}) Why → A → A → A
if_accepted (Ok _) new old = new
if_accepted (Err _) new old = old

-- what its string then is: only an accepted set changes it
abbrev pub after : {S : Type 0} → List ℕ → Call S → List ℕ
after bytes (looks i e) = bytes
after bytes (sets p i e v) = if_accepted (set_by (rows_of bytes) (word_of bytes) p i e v) (value_laid (row_at (rows_of bytes) i) e v bytes) bytes
after bytes rereads = bytes
after bytes (tours_bytes rule s) = bytes
after bytes (tours_rows rule s) = bytes

-- a call with its answer
abbrev pub Exchange : Type 0 → Type 0
Exchange S = (c : Call S) × Answer c

abbrev pub calls_of : {S : Type 0} → List (Exchange S) → List (Call S)
calls_of [] = []
calls_of (x ∷ xs) = x.0 ∷ calls_of xs

-- a list of calls on it, each with its answer, and its string after them
abbrev pub plain : {S : Type 0} → List ℕ → List (Call S) → List (Exchange S)
plain bytes [] = []
plain bytes (c ∷ cs) = (c, answer bytes c) ∷ plain (after bytes c) cs

abbrev pub run : {S : Type 0} → List ℕ → List (Call S) → List ℕ
run bytes [] = bytes
run bytes (c ∷ cs) = run (after bytes c) cs
