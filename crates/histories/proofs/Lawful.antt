-- The laws of every history. Assumes nothing.
use Rattle.std.proofs.Common.{◌≡◌, ℕ, ◌<◌, Bool, true, false, ltb, List, [], ◌∷◌, length, get_or, Ok, Err, sym, refl, ap, ◌∙◌, subst, inr, arith, ltb-true}
use Rattle.refusals.specs.declared.Why.TheVariants.{Shut, NoRow, NoElement}
use Rattle.pods.specs.declared.rows.Row.{Row}
use Rattle.format.specs.Places.{row_at}
use Rattle.laying.specs.Laws.{Bytes}
use Rattle.histories.specs.Cues.{accepts, rows_of, word_of, told_of}
use Rattle.histories.specs.Parties.{read_only}
use Rattle.histories.specs.Plain.{tours_bytes, tours_rows, answer, Exchange, calls_of, plain, run, look_by, unless}
use Rattle.histories.specs.Held.{Held, holding}
use Rattle.histories.specs.Histories.{Runs, Reached, Answered, Ends, ToursAgree, without_stage, answers_to_rigging, KeptApart, Lawful, Life}
use Rattle.histories.proofs.Alike.{Alike, alike_refl, alike_sym, alike_trans}
use Rattle.histories.proofs.Telling.{few_told}
use Rattle.histories.proofs.Ending.{lead_ends}
use Rattle.histories.proofs.Erasing.{Good, AllValued, erased}
use Rattle.histories.proofs.Lasting.{SameForm, LeftAt, after_form, one_in_front}
use Rattle.histories.proofs.Stepping.{InStep, newly_held, start, past, stepped}

look_alike : (s t : List ℕ) (i e : ℕ) → Alike s t → read_only (row_at (rows_of s) i) ≡ true → look_by (rows_of s) (word_of s) i e ≡ look_by (rows_of t) (word_of t) i e
look_alike s t i e a o =
    ap (λ n. unless (ltb i n) NoRow (unless (ltb e (row_at (rows_of s) i).count) NoElement (Ok (word_of s i e)))) a.len
    ∙ by (ltb i (length (rows_of t))) refl
  where
    element : (b : Bool) → ltb e (row_at (rows_of t) i).count ≡ b → i < length (rows_of s) → unless b NoElement (Ok (word_of s i e)) ≡ unless b NoElement (Ok (word_of t i e))
    element false z lt = refl
    element true z lt = ap Ok (a.words i e lt o (omega (arith, ltb-true e (row_at (rows_of t) i).count z, ap (λ r. r.count) (a.form i))))

    by : (b : Bool) → ltb i (length (rows_of t)) ≡ b
        → unless b NoRow (unless (ltb e (row_at (rows_of s) i).count) NoElement (Ok (word_of s i e)))
        ≡ unless b NoRow (unless (ltb e (row_at (rows_of t) i).count) NoElement (Ok (word_of t i e)))
    by false z = refl
    by true z =
        ap (λ n. unless (ltb e n) NoElement (Ok (word_of s i e))) (ap (λ r. r.count) (a.form i))
        ∙ element (ltb e (row_at (rows_of t) i).count) refl (omega (arith, ltb-true i (length (rows_of t)) z, a.len))

good : (h : Held) → InStep h → Good h.bytes
good h g = record { accepted = g.accepted; bytes = g.bytes }

same_form : (s : List ℕ) → SameForm s s
same_form s = record { len = refl; form = λ i. refl; long = refl }

module _ {S : Type 0} where
  pub record Ran (first s : List ℕ) (xs : List (Exchange S)) (h : Held) : Type 0 where
    pub answers : xs ≡ plain s (calls_of xs)
    pub in_step : InStep h
    pub bytes : h.bytes ≡ run s (calls_of xs)
    pub valued : AllValued (calls_of xs)
    pub form : SameForm first h.bytes
    pub each : (k : ℕ) → LeftAt first k s xs h.bytes

  ran : (first : List ℕ) (xs : List (Exchange S)) (h h' : Held) → InStep h → SameForm first h.bytes → Runs h xs h' → Ran first h.bytes xs h'
  ran first [] h h' g f r =
      record {
        answers = refl;
        in_step = subst InStep (sym r) g;
        bytes = ap (λ x. x.bytes) r;
        valued = tt;
        form = subst (λ x. SameForm first x.bytes) (sym r) f;
        each = λ k. inr (tt, ap (λ x. get_or x.bytes k 0) r);
      }
  ran first (x ∷ xs) h h' g f r =
      let st = stepped h x.0 x.1 r.0 g r.1 in
      let f₁ = after_form first h.bytes x.0 (good h g) st.valued f in
      let ih = subst (λ s. Ran first s xs h') st.bytes (ran first xs r.0 h' st.in_step (subst (SameForm first) (sym st.bytes) f₁) r.2) in
      record {
        answers = ap (λ a. (x.0, a) ∷ xs) st.answer_is ∙ ap (λ ys. (x.0, answer h.bytes x.0) ∷ ys) ih.answers;
        in_step = ih.in_step;
        bytes = ih.bytes;
        valued = (st.valued, ih.valued);
        form = ih.form;
        each = λ k. one_in_front first k h.bytes h'.bytes x xs (good h g) st.valued f st.answer_is (ih.each k);
      }

  reached : (first : List ℕ) (xs : List (Exchange S)) (h : Held) → Reached first xs h → Ran first first xs h
  reached first xs h r =
      let held = newly_held first r.table r.bytes r.opened in
      let same : (holding first r.table).bytes ≡ first = ap (λ x. x.bytes) held in
      subst (λ s. Ran first s xs h) same
      (ran first xs (holding first r.table) h (start first r.table r.bytes r.opened) (subst (SameForm first) (sym same) (same_form first)) r.runs)

  answered : (first : List ℕ) (xs : List (Exchange S)) (h : Held) → Ran first first xs h → Answered first xs h
  answered first xs h q =
      record {
        answers = q.answers;
        long = sym q.form.long;
        bytes = λ k lt. q.each k;
        opened = q.in_step.opened;
        accepted = q.in_step.accepted;
        rows = q.in_step.stands;
      }

  tours_agree : (h : Held) → InStep h → ToursAgree S h
  tours_agree h g rule s a b ta tb =
      let ea = (stepped h (tours_bytes rule s) a h g (ta, refl)).answer_is in
      let eb = (stepped h (tours_rows rule s) b h g (tb, refl)).answer_is in
      (ea ∙ sym eb, subst (Ends rule s (told_of h.bytes)) (sym ea) (lead_ends rule s (told_of h.bytes) (few_told h.bytes)))

  first_good : (first : List ℕ) (xs : List (Exchange S)) (h : Held) → Reached first xs h → Good first
  first_good first xs h r =
      let same = newly_held first r.table r.bytes r.opened in
      record { accepted = ap accepts (sym (ap (λ x. x.bytes) same)) ∙ (start first r.table r.bytes r.opened).accepted; bytes = r.bytes }

  kept_apart : (first : List ℕ) (xs ys : List (Exchange S)) (h h' : Held) → Reached first xs h → Reached first ys h' → without_stage (calls_of xs) ≡ without_stage (calls_of ys) → KeptApart xs ys h h'
  kept_apart first xs ys h h' r r' same =
      let q = reached first xs h r in
      let q' = reached first ys h' r' in
      let g = first_good first xs h r in
      let x = erased (calls_of xs) first first q.valued g g (alike_refl first) in
      let y = erased (calls_of ys) first first q'.valued g g (alike_refl first) in
      let mid = subst (λ ds. Alike (run first (calls_of xs)) (run first ds)) same x.alike in
      let alike₀ = alike_trans mid (alike_sym y.alike) in
      let alike : Alike h.bytes h'.bytes = subst (λ b. Alike b h'.bytes) (sym q.bytes) (subst (λ b. Alike (run first (calls_of xs)) b) (sym q'.bytes) alike₀) in
      let rows = q.in_step.stands in
      let rows' = q'.in_step.stands in
      record {
        answers =
            ap answers_to_rigging q.answers ∙ x.answers ∙ ap (λ ds. answers_to_rigging (plain first ds)) same ∙ sym y.answers ∙ ap answers_to_rigging (sym q'.answers);
        same = λ i. ap (λ rs. read_only (row_at rs i)) (sym rows) ∙ ap read_only (alike.form i) ∙ ap (λ rs. read_only (row_at rs i)) rows';
        values = λ i o e a a' la la'.
            la ∙ past h q.in_step (look_by (rows_of h.bytes) (word_of h.bytes) i e) (Err Shut)
            ∙ look_alike h.bytes h'.bytes i e alike (ap (λ rs. read_only (row_at rs i)) rows ∙ o)
            ∙ sym (past h' q'.in_step (look_by (rows_of h'.bytes) (word_of h'.bytes) i e) (Err Shut)) ∙ sym la';
      }

pub lawful : {S : Type 0} (h : Held) → Lawful S h
lawful h first xs r =
    let q = reached first xs h r in
    record { answered = answered first xs h q; tours = tours_agree h q.in_step; apart = λ ys h' r' same. kept_apart first xs ys h h' r r' same }

pub life : {S : Type 0} (first : List ℕ) (table : List Row) (h₀ : Held) → Bytes first → h₀ ≡ holding first table → h₀.opened ≡ true → Life S first h₀
life first table h₀ small e o xs h runs =
    lawful h first xs (record {
      bytes = small;
      table = table;
      opened = ap (λ x. x.opened) (sym e) ∙ o;
      runs = subst (λ x. Runs x xs h) e runs;
    })
