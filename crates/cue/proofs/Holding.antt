-- A table filled with the rows of bytes, and held. Assumes nothing.
use Rattle.std.proofs.Common.{◌≡◌, ℕ, ◌≤◌, Bool, true, false, cond, ◌&&◌, ltb, leb, List, ◌++◌, length, take, drop, Some, None, Option, Ok, Err, Result, sym, refl, ap, ◌∙◌, subst, arith, length-append, length-take-le, ltb-false, ltb-true, le-ltb, le-leb}
use Rattle.std.specs.Option.{is_some, unwrap_or, option_map}
use Rattle.std.specs.Result.{result_ok}
use borrow.Author.Tests.{lt-leb}
use lib.Seq.{take-append_seam}
use Rattle.refusals.specs.declared.Refusal.{Refusal}
use Rattle.refusals.specs.declared.Why.TheVariants.{TooManyRows}
use Rattle.pods.specs.declared.reading.Surveyed.{Surveyed}
use Rattle.pods.specs.declared.rows.Row.{Row}
use Rattle.pods.specs.Outcomes.{Outcome, gave, refused}
use Rattle.pods.specs.Pods.{spot_at}
use Rattle.pods.specs.Survey.{says, rows_in}
use Rattle.pods.specs.Trees.{Tree}
use Rattle.refusals.specs.declared.Why.{Why}
use Rattle.pods.specs.Outcomes.{mapped}
use Rattle.tours.specs.declared.stop.Stop.{Stop}
use Rattle.tours.specs.Filled.{filled_by}
use Rattle.tours.specs.Lead.{Rule, Led, told_all, stopped, lead}
use Rattle.tours.specs.Told.{tells, told_by}
use Rattle.tours.specs.Tours.{ended, tour, Toured}
use Rattle.histories.specs.Plain.{toured}
use Rattle.histories.specs.Cues.{told_of as things_told_of}
use Rattle.histories.proofs.Saying.{accepted_says, told_said}
use Rattle.cue.specs.Keeps.{told_of}
use Rattle.cue.specs.Rows.{Stands}
use Rattle.histories.specs.Cues.{is_given, rows_said, accepts, rows_of}
use Rattle.histories.specs.Held.{Held, holding, filled}

-- what filling comes to where the table is full, or is not
abbrev filled_if : (full : Bool) → (t : Tree) (used : ℕ) → List Row → Result Surveyed Refusal × List Row
filled_if full t used table =
    cond full (Err (record { why = TooManyRows; spot = spot_at 0 1 }), table) (Ok (record { rows = length (rows_in t); used = used }), rows_in t ++ drop (length (rows_in t)) table)

-- a table that was filled
record Full (o : Outcome Tree) (table : List Row) (found : Surveyed) : Type 0 where
  is_given_lem : is_given o ≡ true
  rows_are : found.rows ≡ length (rows_said o)
  table_is : (filled_by o table).1 ≡ rows_said o ++ drop (length (rows_said o)) table
  room : length (rows_said o) ≤ length table

full : (o : Outcome Tree) (table : List Row) (found : Surveyed) → Ok found ≡ (filled_by o table).0 → Full o table found
full (refused e) table found h = absurd (cc)
full (gave t used) table found h = by (ltb (length table) (length (rows_in t))) refl h
  where
    by : (b : Bool) → ltb (length table) (length (rows_in t)) ≡ b
        → Ok found ≡ (filled_if b t used table).0
        → Full (gave t used) table found
    by true e h = absurd (cc)
    by false e h =
        let same : Ok found ≡ Ok (record { rows = length (rows_in t); used = used }) = h in
        let is : found ≡ record { rows = length (rows_in t); used = used } = cc in
        record {
          is_given_lem = refl;
          rows_are = ap (λ s. s.rows) is;
          table_is = ap (λ b. (filled_if b t used table).1) e;
          room = ltb-false (length table) (length (rows_in t)) e;
        }

-- a table that was not
record Left (o : Outcome Tree) (table : List Row) : Type 0 where
  table_is : (filled_by o table).1 ≡ table
  no_room : is_given o && leb (length (rows_said o)) (length table) ≡ false

not_filled : (o : Outcome Tree) (table : List Row) (e : Refusal) → Err e ≡ (filled_by o table).0 → Left o table
not_filled (refused x) table e h = record { table_is = refl; no_room = refl }
not_filled (gave t used) table e h = by (ltb (length table) (length (rows_in t))) refl h
  where
    by : (b : Bool) → ltb (length table) (length (rows_in t)) ≡ b
        → Err e ≡ (filled_if b t used table).0
        → Left (gave t used) table
    by false z h = absurd (cc)
    by true z h =
        record {
          table_is = ap (λ b. (filled_if b t used table).1) z;
          no_room = lt-leb (length (rows_in t)) (length table) (ltb-true (length table) (length (rows_in t)) z);
        }

-- ---- held open, or shut

abbrev held_if : Bool → List ℕ → List Row → Held
held_if fits bytes table =
    cond fits (record { bytes = bytes; rows = filled bytes table; count = length (rows_of bytes); opened = true }) (record { bytes = bytes; rows = table; count = 0; opened = false })

pub record Newly (bytes : List ℕ) (table new : List Row) (standing : Option ℕ) : Type 0 where
  pub stands : (n : ℕ) → standing ≡ Some n → Stands bytes new n
  pub held : ◌≡◌ {A = Held} (record { bytes = bytes; rows = new; count = unwrap_or standing 0; opened = is_some standing }) (holding bytes table)

opened : (bytes : List ℕ) (table new : List Row) (found : Surveyed) → Ok found ≡ (filled_by (says bytes) table).0 → new ≡ (filled_by (says bytes) table).1 → Newly bytes table new (Some found.rows)
unfolding accepts rows_of
opened bytes table new found h is =
    let f = full (says bytes) table found h in
    let new_is : new ≡ filled bytes table = is ∙ f.table_is in
    let open' : accepts bytes && leb (length (rows_of bytes)) (length table) ≡ true =
    ap (λ b. b && leb (length (rows_of bytes)) (length table)) f.is_given_lem ∙ le-leb (length (rows_of bytes)) (length table) f.room in
    let st : Stands bytes new found.rows =
    record {
      whole = f.is_given_lem;
      same = sym (ap (λ n. take n new) f.rows_are ∙ ap (take (length (rows_of bytes))) new_is ∙ take-append_seam (rows_of bytes) (drop (length (rows_of bytes)) table));
      fits = omega (arith, f.rows_are, ap length new_is, length-append (rows_of bytes) (drop (length (rows_of bytes)) table));
    } in
    record {
      stands = λ n e. (let same : found.rows ≡ n = cc in subst (Stands bytes new) same st);
      held = (λ j. record { bytes = bytes; rows = new_is j; count = f.rows_are j; opened = true })
          ∙ sym (ap (λ b. held_if b bytes table) open');
    }

shut : (bytes : List ℕ) (table new : List Row) (e : Refusal) → Err e ≡ (filled_by (says bytes) table).0 → new ≡ (filled_by (says bytes) table).1 → Newly bytes table new None
unfolding accepts rows_of
shut bytes table new e h is =
    let f = not_filled (says bytes) table e h in
    record {
      stands = λ n e. absurd (cc);
      held = (λ j. record { bytes = bytes; rows = (is ∙ f.table_is) j; count = 0; opened = false })
          ∙ sym (ap (λ b. held_if b bytes table) f.no_room);
    }

pub newly : (bytes : List ℕ) (table new : List Row) (r : Result Surveyed Refusal) → r ≡ (filled_by (says bytes) table).0 → new ≡ (filled_by (says bytes) table).1
    → (standing : Option ℕ) → standing ≡ option_map (λ s. s.rows) (result_ok r) → Newly bytes table new standing
newly bytes table new (Ok found) h is standing s = subst (Newly bytes table new) (sym s) (opened bytes table new found h is)
newly bytes table new (Err e) h is standing s = subst (Newly bytes table new) (sym s) (shut bytes table new e h is)

-- a tour's answer as that of a call
pub toured_as : {S : Type 0} (l : Led S) (r : Result ℕ Stop) (new : S) → Toured (ended l) r new → ◌≡◌ {A = Result ℕ Why × S} (told_of r, new) (toured l)
toured_as (told_all h n) r new e = λ j. (told_of (e.0 j), e.1 j)
toured_as (stopped h k) r new e = λ j. (told_of (e.0 j), e.1 j)

pub toured_bytes : {S : Type 0} (rule : Rule S) (s : S) (bytes : List ℕ) (r : Result ℕ Stop) (a : Result ℕ Why) (new : S) → accepts bytes ≡ true → Toured (tour rule s (told_by bytes)) r new → a ≡ told_of r
    → ◌≡◌ {A = Result ℕ Why × S} (a, new) (toured (lead rule s (things_told_of bytes)))
toured_bytes rule s bytes r a new ok e is =
    let x = accepted_says bytes ok in
    let told = told_said bytes x.tree x.used x.is in
    let by : told_by bytes ≡ gave (tells x.tree 0) x.used = ap (mapped (λ t. tells t 0)) x.is in
    ap (λ b. (b, new)) is ∙ toured_as (lead rule s (tells x.tree 0)) r new (subst (λ o. Toured (tour rule s o) r new) by e)
    ∙ ap (λ ts. toured (lead rule s ts)) (sym told)

-- rows that stand are filled again as they are
pub record Refilled (bytes : List ℕ) (table new : List Row) (count : ℕ) : Type 0 where
  pub rows : new ≡ filled bytes table
  pub stands : Stands bytes new count

pub refilled : (bytes : List ℕ) (table new : List Row) (count : ℕ) (r : Result Surveyed Refusal) → Stands bytes table count
    → r ≡ (filled_by (says bytes) table).0 → new ≡ (filled_by (says bytes) table).1 → Refilled bytes table new count
unfolding accepts rows_of
refilled bytes table new count r st h is =
    let rows = rows_of bytes in
    let new_is : new ≡ filled bytes table = is ∙ by (says bytes) st.whole st.same in
    let counts : length rows ≡ count = ap length st.same ∙ length-take-le count table st.fits in
    record {
      rows = new_is;
      stands = record {
        whole = st.whole;
        same = sym (ap (take count) new_is ∙ ap (λ n. take n (filled bytes table)) (sym counts) ∙ take-append_seam rows (drop (length rows) table));
        fits = omega (arith, counts, ap length new_is, length-append rows (drop (length rows) table));
      };
    }
  where
    by : (o : Outcome Tree) → is_given o ≡ true → rows_said o ≡ take count table → (filled_by o table).1 ≡ rows_said o ++ drop (length (rows_said o)) table
    by (refused e) ok st' = absurd (cc)
    by (gave t used) ok st' =
        ap (λ b. (filled_if b t used table).1)
        (le-ltb (length table) (length (rows_in t)) (omega (arith, ap length st', length-take-le count table st.fits)))
