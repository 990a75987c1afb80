-- A tour of bytes from its beginning. Assumes nothing.
use Rattle.std.proofs.Common.{◌≡◌, ℕ, ◌≤◌, Bool, true, false, ltb, cond, List, [], length, Ok, Err, Result, sym, refl, ap, ◌∙◌, subst, arith}
use Rattle.pods.specs.Trees.{Tree, deep}
use Rattle.pods.specs.Outcomes.{Outcome, gave, refused, mapped}
use Rattle.pods.specs.Pods.{pod}
use Rattle.pods.specs.Survey.{says, rows_in, survey_of}
use Rattle.format.specs.Layout.{Laid}
use Rattle.format.proofs.Reading.{given_at, counted, accepted_short, says_pod}
use Rattle.format.proofs.Trees.{PodLaid, pod_laid}
use Rattle.tours.specs.declared.open.Frame.{Frame}
use Rattle.tours.specs.Told.{Thing, tells, told_by}
use Rattle.tours.specs.ByteTold.{tree_told, Standing}
use Rattle.tours.specs.declared.byte_tour.ByteTeller.{ByteTeller}
use Rattle.tours.specs.BytesLeft.{TellsAll, to_tell}
use Rattle.tours.specs.Starts.{elements_left}
use Rattle.tours.specs.Lead.{Rule, lead}
use Rattle.std.proofs.lemmas.Bool.{le-ltb, ltb-false}
use Rattle.pods.specs.declared.reading.Surveyed.{Surveyed}
use Rattle.pods.specs.Rows.{top}
use Rattle.pods.proofs.Sizes.{Sized, pod_sized}
use Rattle.pods.proofs.Counted.{rows_count}
use Rattle.tours.specs.Checks.{checked_by}
use Rattle.pods.specs.declared.rows.Row.{Row}
use Rattle.tours.specs.declared.stop.Stop.{Stop}
use Rattle.tours.specs.Tours.{Toured, tour, ended}
use Rattle.tours.specs.Table.{Table, fills}
use Rattle.tours.specs.Filled.{Plain, closed, filled_by}
use Rattle.tours.proofs.Filling.{rows_filled, said_plain}

-- bytes that a survey accepts say a tree that is laid out in them
pub record Accepted (bytes : List ℕ) (used : ℕ) : Type 0 where
  pub tree : Tree
  pub short : length bytes ≤ 65536
  pub says_it : says bytes ≡ gave tree used
  pub read : pod 32 1 0 bytes ≡ gave tree used
  pub laid : Laid bytes tree 0
  pub shallow : deep tree ≤ 32

pub accepted : (bytes : List ℕ) (rows used : ℕ) → gave rows used ≡ survey_of bytes → Accepted bytes used
accepted bytes rows used e =
    let short = accepted_short bytes rows used (sym e) in
    let c = counted (says bytes) rows used (sym e) in
    let read = sym (says_pod bytes short) ∙ c.1 in
    let l = given_at (PodLaid bytes 32 0) (pod 32 1 0 bytes) c.0 used (pod_laid bytes 32 1 0) read in
    record { tree = c.0; short = short; says_it = c.1; read = read; laid = l.0; shallow = l.1 }

pub told_by_lem : (bytes : List ℕ) (used : ℕ) (a : Accepted bytes used) → told_by bytes ≡ gave (tells a.tree 0) used
told_by_lem bytes used a = ap (mapped (λ t. tells t 0)) a.says_it

-- a tour of accepted bytes that has not begun stands right, and has all to tell
pub first_short : (bytes : List ℕ) (rows used : ℕ) → gave rows used ≡ survey_of bytes → length bytes ≤ 65536
first_short bytes rows used e = accepted_short bytes rows used (sym e)

pub first_stands : (bytes : List ℕ) (rows used : ℕ) (fs : List Frame) → gave rows used ≡ survey_of bytes → fs ≡ [] → ∥ Standing bytes 0 fs false ∥₁
first_stands bytes rows used fs e none = let a = accepted bytes rows used e in ∣ (none, refl, (a.tree, a.laid, a.shallow)) ∣₁

pub first_told : (s : ByteTeller) (rows used : ℕ) → gave rows used ≡ survey_of s.bytes.now → s.at ≡ 0 → s.keyed ≡ false → elements_left s.values ≡ [] → TellsAll (told_by s.bytes.now) (Ok s)
first_told s rows used e at keyed none =
    let a = accepted s.bytes.now rows used e in
    rw (told_by_lem s.bytes.now used a, none, at, keyed) (ap tree_told a.read)

-- a tour goes as its teller's things lead
pub tour_opened : {H : Type 0} (rule : Rule H) (h : H) (o : Outcome (List Thing)) (s : ByteTeller) → TellsAll o (Ok s) → tour rule h o ≡ ended (lead rule h (to_tell s))
tour_opened rule h (gave ts used) s e = ap (λ ts. ended (lead rule h ts)) (sym e)
tour_opened rule h (refused x) s e = absurd e

-- a table that has room is filled by a tour of the bytes
module _ (bytes : List ℕ) (table : List Row) where
  fits : {A E : Type 0} (n : ℕ) (err : E) (x found : A) → Ok found ≡ cond (ltb (length table) n) (Err err) (Ok x) → (n ≤ length table) × (found ≡ x)
  fits {A} {E} n err x found e = by (ltb (length table) n) refl e
    where
      by : (b : Bool) → ltb (length table) n ≡ b → Ok found ≡ cond b (Err err) (Ok x) → (n ≤ length table) × (found ≡ x)
      by true is e = let z : ◌≡◌ {A = ℕ} 0 1 = cc in absurd (omega arith)
      by false is e = (ltb-false (length table) n is, cc)

  few_rows : (t : Tree) (used : ℕ) → says bytes ≡ gave t used → length (rows_in t) ≤ 65536
  few_rows t used is =
      let short = accepted_short bytes (length (rows_in t)) used (ap (mapped (λ t. length (rows_in t))) is) in
      let s = given_at (Sized (length bytes)) (pod 32 1 0 bytes) t used (pod_sized 32 1 0 bytes) (sym (says_pod bytes short) ∙ is) in
      omega (arith, s.0, s.1, rows_count t top)

  pub fills_table : (table' : List Row) (found : Surveyed) (r : Result ℕ Stop) (held : Table) → Ok found ≡ checked_by (says bytes) (length table)
      → Toured (tour fills (closed table 0) (told_by bytes)) r held → table' ≡ held.rows
      → (Ok found ≡ (filled_by (says bytes) table).0) × (table' ≡ (filled_by (says bytes) table).1)
  fills_table table' found r held c toured same = by (says bytes) refl c
    where
      by : (o : Outcome Tree) → says bytes ≡ o → Ok found ≡ checked_by o (length table) → (Ok found ≡ (filled_by o table).0) × (table' ≡ (filled_by o table).1)
      by (refused e) is c = let z : ◌≡◌ {A = ℕ} 0 1 = cc in absurd (omega arith)
      by (gave t used) is c =
          let f = fits (length (rows_in t)) _ _ found c in
          let plain = given_at (λ t _. Plain t) (says bytes) t used (said_plain bytes) is in
          let law = rows_filled t plain table (omega (arith, f.0, few_rows t used is)) in
          let told = subst (λ o. Toured (tour fills (closed table 0) o) r held) (ap (mapped (λ t. tells t 0)) is) toured in
          let all = subst (λ l. Toured (ended l) r held) law told in
          rw (le-ltb (length table) (length (rows_in t)) f.0)
          (ap Ok f.1, same ∙ ap (λ t. t.rows) all.1)
