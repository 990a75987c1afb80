-- One call on an open cue: its answer is the plain cue's, and the cue stays in step with the plain one. Assumes nothing.
use Rattle.std.proofs.Common.{◌≡◌, ℕ, ◌<◌, ◌≤◌, Bool, true, false, cond, ◌&&◌, leb, List, [], ◌++◌, length, take, drop, set, Ok, Err, Result, sym, refl, ap, ◌∙◌, subst, arith, length-append, take-append-drop, length-take-le, get_or-take}
use lib.Seq.{take-append_seam, take-set-lt}
use Rattle.refusals.specs.declared.Why.{Why}
use Rattle.refusals.specs.declared.Why.TheVariants.{Shut}
use Rattle.settable.specs.declared.value.Value.{Value}
use Rattle.pods.specs.declared.rows.Row.{Row}
use Rattle.format.specs.Places.{row_at, blank}
use Rattle.tours.specs.Lead.{lead}
use Rattle.tours.specs.RowsTold.{rows_tell}
use Rattle.tours.proofs.Retold.{rows_tell_alike}
use Rattle.laying.specs.Elements.{reworded, with_word}
use Rattle.laying.specs.Laws.{Bytes}
use Rattle.histories.specs.Cues.{accepts, rows_of, word_of, told_of}
use Rattle.histories.specs.Plain.{Call, looks, sets, rereads, tours_bytes, tours_rows, Answer, answer, after, if_accepted, look_by, set_by, value_laid, toured}
use Rattle.histories.specs.Held.{Held, holding, filled, standing, if_open, Left, IsValue, rows_relaid, relaid, refilled}
use Rattle.histories.specs.Histories.{Step}
use Rattle.histories.proofs.Saying.{accepted_says, rows_said_lem, told_said}
use Rattle.histories.proofs.Forms.{length_with}
use Rattle.histories.proofs.Framing.{Framed, set_laid}

-- a survey accepts the bytes, and its rows are those that stand
pub record InStep (h : Held) : Type 0 where
  pub bytes : Bytes h.bytes
  pub opened : h.opened ≡ true
  pub accepted : accepts h.bytes ≡ true
  pub stands : rows_of h.bytes ≡ standing h
  pub fits : h.count ≤ length h.rows

-- ---- a cue newly held open

newly : (t : Bool) (x y : Held) → x.opened ≡ true → y.opened ≡ false → (cond t x y).opened ≡ true → t ≡ true
newly true x y p q e = refl
newly false x y p q e = let no' : false ≡ true = sym q ∙ e in let z : ◌≡◌ {A = ℕ} 0 1 = cc in absurd (omega arith)

both_true : (s t : Bool) → s && t ≡ true → (s ≡ true) × (t ≡ true)
both_true true t e = (refl, e)
both_true false t e = let z : ◌≡◌ {A = ℕ} 0 1 = cc in absurd (omega arith)

module _ (first : List ℕ) (table : List Row) (small : Bytes first) (opened : (holding first table).opened ≡ true) where
  abbrev test : Bool
  test = accepts first && leb (length (rows_of first)) (length table)

  abbrev held : Held
  held = record { bytes = first; rows = filled first table; count = length (rows_of first); opened = true }

  abbrev shut : Held
  shut = record { bytes = first; rows = table; count = 0; opened = false }

  test_holds : test ≡ true
  test_holds = newly test held shut refl refl opened

  pub newly_held : holding first table ≡ held
  newly_held = ap (λ t. cond t held shut) test_holds

  newly_in_step : InStep held
  newly_in_step =
      let both = both_true (accepts first) (leb (length (rows_of first)) (length table)) test_holds in
      record {
        bytes = small;
        opened = refl;
        accepted = both.0;
        stands = sym (take-append_seam (rows_of first) (drop (length (rows_of first)) table));
        fits = omega (arith, length-append (rows_of first) (drop (length (rows_of first)) table));
      }

  pub start : InStep (holding first table)
  start = subst InStep (sym newly_held) newly_in_step

-- ---- one step

module _ (h : Held) (g : InStep h) where
  -- past the check that the cue is open
  pub past : {R : Type 0} (x y : R) → if_open h x y ≡ x
  past x y = ap (λ o. cond o x y) g.opened

  pub count_is : length (rows_of h.bytes) ≡ h.count
  count_is = ap length g.stands ∙ length-take-le h.count h.rows g.fits

  -- a row that stands is the survey's
  pub row_is : (i : ℕ) → i < length (rows_of h.bytes) → row_at h.rows i ≡ row_at (rows_of h.bytes) i
  row_is i lt = sym (get_or-take h.count h.rows i blank (omega (arith, count_is))) ∙ ap (λ rs. row_at rs i) (sym g.stands)

  relaid_stands : (i w : ℕ) → i < length (rows_of h.bytes) → with_word (rows_of h.bytes) i w ≡ take h.count (with_word h.rows i w)
  relaid_stands i w lt =
      ap (λ rs. with_word rs i w) g.stands
      ∙ ap (λ r. set (standing h) i (reworded r w)) (get_or-take h.count h.rows i blank (omega (arith, count_is)))
      ∙ sym (take-set-lt h.count h.rows i (reworded (row_at h.rows i) w) (omega (arith, count_is)))

  -- a cue in which a value was laid
  pub record Relaid (i e : ℕ) (v : Value) : Type 0 where
    pub in_step : InStep (relaid h i e v)
    pub bytes : (relaid h i e v).bytes ≡ value_laid (row_at (rows_of h.bytes) i) e v h.bytes

  pub laid_in_step : (p i e : ℕ) (v : Value) (u : Unit {0}) → IsValue v → set_by (rows_of h.bytes) (word_of h.bytes) p i e v ≡ Ok u → Relaid i e v
  laid_in_step p i e v u is ok =
      let a = set_laid h.bytes p i e v u g.accepted is ok in
      let w = a.was.word in
      let bytes : (relaid h i e v).bytes ≡ value_laid (row_at (rows_of h.bytes) i) e v h.bytes = ap (λ r. value_laid r e v h.bytes) (row_is i a.there) in
      let rows : (relaid h i e v).rows ≡ with_word h.rows i w = ap (λ o. rows_relaid o i h.rows) a.was.word_is in
      let f : Framed h.bytes (relaid h i e v).bytes i e w = subst (λ b. Framed h.bytes b i e w) (sym bytes) a.new in
      record {
        in_step = record {
          bytes = f.small g.bytes;
          opened = g.opened;
          accepted = f.accepted;
          stands = f.rows ∙ relaid_stands i w a.there ∙ ap (take h.count) (sym rows);
          fits = omega (arith, g.fits, ap length rows, length_with h.rows i w);
        };
        bytes = bytes;
      }

  set_step : (p i e : ℕ) (v : Value) (a : Result (Unit {0}) Why) (m : Held) → IsValue v → a ≡ set_by (rows_of h.bytes) (word_of h.bytes) p i e v → Left a h (relaid h i e v) m
      → InStep m × (m.bytes ≡ if_accepted (set_by (rows_of h.bytes) (word_of h.bytes) p i e v) (value_laid (row_at (rows_of h.bytes) i) e v h.bytes) h.bytes)
  set_step p i e v (Ok u) m is a l =
      let q = laid_in_step p i e v u is (sym a) in
      (subst InStep (sym l) q.in_step, ap (λ x. x.bytes) l ∙ q.bytes ∙ ap (λ r. if_accepted r (value_laid (row_at (rows_of h.bytes) i) e v h.bytes) h.bytes) a)
  set_step p i e v (Err x) m is a l =
      (subst InStep (sym l) g, ap (λ x. x.bytes) l ∙ ap (λ r. if_accepted r (value_laid (row_at (rows_of h.bytes) i) e v h.bytes) h.bytes) a)

  -- rows that stand are reread as they are
  reread_same : refilled h ≡ h
  reread_same =
      let e : filled h.bytes h.rows ≡ h.rows =
      ap (λ n. rows_of h.bytes ++ drop n h.rows) count_is ∙ ap (λ r. r ++ drop h.count h.rows) g.stands ∙ take-append-drop h.count h.rows in
      λ j. record { bytes = h.bytes; rows = e j; count = h.count; opened = h.opened }

  reread_step : (a : Result (Unit {0}) Why) (m : Held) → Left a h (refilled h) m → m ≡ h
  reread_step (Ok u) m l = l ∙ reread_same
  reread_step (Err x) m l = l

  -- the rows that stand tell what the bytes tell
  pub rows_tell_lem : rows_tell h.bytes [] (standing h) ≡ told_of h.bytes
  rows_tell_lem =
      let s = accepted_says h.bytes g.accepted in
      ap (rows_tell h.bytes []) (sym g.stands ∙ rows_said_lem h.bytes s.tree s.used s.is)
      ∙ rows_tell_alike h.bytes g.bytes s.tree s.used s.is ∙ sym (told_said h.bytes s.tree s.used s.is)

module _ {S : Type 0} where
  -- a set comes with a value of its kind
  abbrev pub Valued : Call S → Type 0
  Valued (looks i e) = Unit {0}
  Valued (sets p i e v) = IsValue v
  Valued rereads = Unit {0}
  Valued (tours_bytes rule s) = Unit {0}
  Valued (tours_rows rule s) = Unit {0}

  pub record Stepped (h : Held) (c : Call S) (a : Answer c) (m : Held) : Type 0 where
    pub answer_is : a ≡ answer h.bytes c
    pub in_step : InStep m
    pub bytes : m.bytes ≡ after h.bytes c
    pub valued : Valued c

  pub stepped : (h : Held) (c : Call S) (a : Answer c) (m : Held) → InStep h → Step h c a m → Stepped h c a m
  stepped h (looks i e) a m g st =
      record {
        answer_is = st.0 ∙ past h g (look_by (rows_of h.bytes) (word_of h.bytes) i e) (Err Shut);
        in_step = subst InStep (sym st.1) g;
        bytes = ap (λ x. x.bytes) st.1;
        valued = tt;
      }
  stepped h (sets p i e v) a m g st =
      let is = st.answer ∙ past h g (set_by (rows_of h.bytes) (word_of h.bytes) p i e v) (Err Shut) in
      let q = set_step h g p i e v a m st.value is st.left in
      record { answer_is = is; in_step = q.0; bytes = q.1; valued = st.value }
  stepped h rereads a m g st =
      let same = reread_step h g a m st.left in
      record {
        answer_is = st.answer ∙ past h g (Ok tt) (Err Shut);
        in_step = subst InStep (sym same) g;
        bytes = ap (λ x. x.bytes) same;
        valued = tt;
      }
  stepped h (tours_bytes rule s) a m g st =
      record {
        answer_is = st.0 ∙ past h g (toured (lead rule s (told_of h.bytes))) (Err Shut, s);
        in_step = subst InStep (sym st.1) g;
        bytes = ap (λ x. x.bytes) st.1;
        valued = tt;
      }
  stepped h (tours_rows rule s) a m g st =
      record {
        answer_is = st.0 ∙ past h g (toured (lead rule s (rows_tell h.bytes [] (standing h)))) (Err Shut, s) ∙ ap (λ told. toured (lead rule s told)) (rows_tell_lem h g);
        in_step = subst InStep (sym st.1) g;
        bytes = ap (λ x. x.bytes) st.1;
        valued = tt;
      }
