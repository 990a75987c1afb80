-- What is known of an open cue, of the pods in it, and of its table. Assumes nothing.
use Rattle.std.proofs.Common.{◌≡◌, ℕ, ◌+◌, ◌<◌, ◌≤◌, Bool, true, false, cond, ltb, List, length, take, set, Some, None, Ok, Err, Option, Result, sym, refl, ap, ◌∙◌, subst, arith, length-set, length-take-le, get_or-take, lt-ltb, ltb-true}
use Rattle.std.specs.Option.{is_some, unwrap_or}
use lib.Seq.{take-set-lt}
use Rattle.refusals.specs.declared.Why.{Why}
use Rattle.refusals.specs.declared.Why.TheVariants.{Shut, NoParty, NoRow, NoElement}
use Rattle.words.specs.Words.{bytes_of, lay}
use Rattle.kinds.specs.declared.kind.Kind.{Kind}
use Rattle.kinds.specs.Kinds.{size_of}
use Rattle.settable.specs.declared.value.Value.{Value}
use Rattle.settable.specs.Values.{value_kind}
use Rattle.pods.specs.declared.rows.Row.{Row}
use Rattle.format.specs.Places.{row_at, blank}
use Rattle.laying.specs.Elements.{element_place, element_size, look, settable_kind, Settable, IsWord, lay_word, reworded, with_word}
use Rattle.laying.proofs.Accepted.{accepted as read_within}
use Rattle.laying.proofs.Apart.{elements_apart}
use Rattle.laying.proofs.Looks.{looks_stand}
use Rattle.histories.specs.Cues.{accepts, rows_of, word_of}
use Rattle.histories.specs.Held.{Held, IsValue, Looked}
use Rattle.histories.specs.Parties.{known}
use Rattle.histories.specs.Plain.{look_by, set_by, unless, value_checked}
use Rattle.histories.proofs.Alike.{value_same, row_allows_same}
use Rattle.histories.proofs.Asking.{set_accepted}
use Rattle.histories.proofs.Enough.{enough}
use Rattle.histories.proofs.Framing.{Framed, framed, framed_within}
use Rattle.histories.proofs.Saying.{accepted_says, rows_said_lem, word_said_lem}
use Rattle.cue.specs.declared.held.Cue.{Cue}
use Rattle.cue.specs.declared.opened.Opened.{Opened}
use Rattle.cue.specs.declared.parties.Party.{Party}
use Rattle.cue.specs.declared.parties.Party.TheVariants.{Rigging, StageManagement}
use Rattle.cue.specs.declared.pod.Pod.{Pod}
use Rattle.cue.specs.Keeps.{held_of, Opens}
use Rattle.cue.specs.Parties.{party_number, IsParty}
use Rattle.cue.specs.Permits.{CanLay, Permitted, set_answer}
use Rattle.cue.specs.Pods.{Found, looked, set_checked}
use Rattle.cue.specs.Rows.{Sound, Stands}

-- ---- the rows of bytes that a survey accepts

module _ (bytes : List ℕ) (whole : accepts bytes ≡ true) (i : ℕ) (lt : i < length (rows_of bytes)) where
  there : ltb i (length (rows_of bytes)) ≡ true
  there = lt-ltb i (length (rows_of bytes)) lt

  -- elements stand within the bytes
  within : (e : ℕ) → e < (row_at (rows_of bytes) i).count → element_place (row_at (rows_of bytes) i) e + element_size (row_at (rows_of bytes) i) ≤ length bytes
  within e h =
      let s = accepted_says bytes whole in
      let said = rows_said_lem bytes s.tree s.used s.is in
      let row = ap (λ rs. row_at rs i) said in
      subst (λ r. element_place r e + element_size r ≤ length bytes) (sym row)
      (omega (arith, (read_within bytes s.tree s.used s.is).within, (elements_apart bytes s.tree s.used s.is).within i e (omega (arith, lt, ap length said)) (omega (arith, h, ap (λ r. r.count) row))))

  pub sound_row : Sound bytes (row_at (rows_of bytes) i)
  sound_row = record { there = within; enough = enough bytes whole i lt }

  look_here : (e : ℕ) → e < (row_at (rows_of bytes) i).count → look bytes (row_at (rows_of bytes) i) e ≡ word_of bytes i e
  look_here e h =
      let s = accepted_says bytes whole in
      let said = rows_said_lem bytes s.tree s.used s.is in
      let row = ap (λ rs. row_at rs i) said in
      ap (λ r. look bytes r e) row
      ∙ (looks_stand bytes s.tree s.used s.is i e (omega (arith, lt, ap length said)) (omega (arith, h, ap (λ r. r.count) row))).answer
      ∙ sym (word_said_lem bytes s.tree s.used s.is i e)

  looked_here : (e : ℕ) → unless (ltb e (row_at (rows_of bytes) i).count) NoElement (Ok (look bytes (row_at (rows_of bytes) i) e)) ≡ look_by (rows_of bytes) (word_of bytes) i e
  looked_here e = by (ltb e count) refl ∙ sym (ap (λ b. unless b NoRow (unless (ltb e count) NoElement (Ok (word_of bytes i e)))) there)
    where
      count : ℕ
      count = (row_at (rows_of bytes) i).count

      by : (b : Bool) → ltb e count ≡ b → unless (ltb e count) NoElement (Ok (look bytes (row_at (rows_of bytes) i) e)) ≡ unless (ltb e count) NoElement (Ok (word_of bytes i e))
      by true z = ap (λ w. unless (ltb e count) NoElement (Ok w)) (look_here e (ltb-true e count z))
      by false z = ap (λ b. unless b NoElement (Ok (look bytes (row_at (rows_of bytes) i) e))) z ∙ sym (ap (λ b. unless b NoElement (Ok (word_of bytes i e))) z)

  -- past the party and the row, a set is checked by its value
  checked_here : (p e : ℕ) (v : Value) → known p ≡ true
      → value_checked (settable_kind (row_at (rows_of bytes) i)) p e v (row_at (rows_of bytes) i) (look bytes (row_at (rows_of bytes) i)) ≡ set_by (rows_of bytes) (word_of bytes) p i e v
  checked_here p e v party =
      let r = row_at (rows_of bytes) i in
      let said = value_checked (settable_kind r) p e v r (word_of bytes i) in
      value_same (settable_kind r) p e v r r (look bytes r) (word_of bytes i) refl
      (λ k w. row_allows_same r k (look bytes r) (word_of bytes i) w sound_row.enough (λ is j z l. look_here j l))
      ∙ sym (ap (λ b. unless b NoRow said) there)
      ∙ sym (ap (λ b. unless b NoParty (unless (ltb i (length (rows_of bytes))) NoRow said)) party)

-- ---- calls on an open cue

is_known : (p : Party) → known (party_number p) ≡ true
is_known Rigging = refl
is_known StageManagement = refl

module _ (h : Held) (o : Opened) (here : Opens h (Ok o)) where
  pub answered : {A : Type 0} (f : List ℕ → A) (x y : A) → x ≡ f o.bytes.now → x ≡ cond h.opened (f h.bytes) y
  answered f x y is = is ∙ ap f here.1 ∙ sym (ap (λ b. cond b (f h.bytes) y) here.0)

  module _ (i : ℕ) (p : Pod) (found : Found o.bytes.now i (Ok p)) where
    pub looked_at : (e : ℕ) (a : Result ℕ Why) → a ≡ looked p e → Looked h i e a
    looked_at e a is =
        answered (λ b. look_by (rows_of b) (word_of b) i e) a (Err Shut)
        (is ∙ ap (λ b. unless (ltb e p.row.count) NoElement (Ok (look b p.row e))) found.2 ∙ ap (λ r. unless (ltb e r.count) NoElement (Ok (look o.bytes.now r e))) found.1 ∙ looked_here o.bytes.now o.whole i found.0 e)

    pub checked_at : (n : ℕ) (party : Party) (e : ℕ) (v : Value) (r : Result ℕ Why) → IsParty n (Ok party)
        → Permitted (set_checked p party e v) v e r → Permitted (set_answer h n i e v) v e r
    checked_at n party e v r number permitted =
        let m = party_number party in
        let f : List ℕ → Result (Unit {0}) Why = λ b. set_by (rows_of b) (word_of b) n i e v in
        let same =
        ap (λ b. value_checked (settable_kind p.row) m e v p.row (look b p.row)) found.2
        ∙ ap (λ x. value_checked (settable_kind x) m e v x (look o.bytes.now x)) found.1
        ∙ checked_here o.bytes.now o.whole i found.0 m e v (is_known party)
        ∙ ap (λ k. set_by (rows_of o.bytes.now) (word_of o.bytes.now) k i e v) (sym number) in
        subst (λ a. Permitted a v e r) (answered f _ (Err Shut) same) permitted

-- ---- a table whose first rows stand

-- how many rows stand of an open cue
count_is : (s : Option ℕ) → is_some s ≡ true → s ≡ Some (unwrap_or s 0)
count_is None h = cc
count_is (Some n) h = refl

pub count_of : (s : Option ℕ) (n : ℕ) → s ≡ Some n → unwrap_or s 0 ≡ n
count_of s n is = ap (λ x. unwrap_or x 0) is

pub stands_open : (c : Cue) → (held_of c).opened ≡ true → Stands c.bytes.now c.rows.now (unwrap_or c.standing 0)
stands_open c h = c.stands (unwrap_or c.standing 0) (count_is c.standing h)

module _ (bytes : List ℕ) (rows : List Row) (count : ℕ) (stands : Stands bytes rows count) (i : ℕ) (lt : i < count) where
  in_rows : i < length (rows_of bytes)
  in_rows = omega (arith, ap length stands.same, length-take-le count rows stands.fits)

  row_here : row_at rows i ≡ row_at (rows_of bytes) i
  row_here = sym (get_or-take count rows i blank lt) ∙ ap (λ rs. row_at rs i) (sym stands.same)

  pub sound_here : Sound bytes (row_at rows i)
  sound_here = subst (Sound bytes) (sym row_here) (sound_row bytes stands.whole i in_rows)

  -- a value laid in a row that stands
  module _ (e : ℕ) (k : Kind) (w : ℕ) (can : Settable (row_at rows i) e k) (is : IsWord k w) where
    can' : Settable (row_at (rows_of bytes) i) e k
    can' = subst (λ r. Settable r e k) row_here can

    pub lay_within : element_place (row_at rows i) e + size_of k ≤ length bytes
    lay_within = subst (λ r. element_place r e + size_of k ≤ length bytes) (sym row_here) (framed_within bytes stands.whole i e k in_rows can')

    new_is : Framed bytes (lay_word (row_at rows i) e k w bytes) i e w
    new_is = subst (λ r. Framed bytes (lay_word r e k w bytes) i e w) (sym row_here) (framed bytes stands.whole i e k w in_rows can' is)

    pub still : (new : List ℕ) (row : Row) (at : ℕ) → at ≡ element_place (row_at rows i) e → new ≡ lay at (bytes_of (size_of k) w) bytes → row ≡ reworded (row_at rows i) w → Stands new (set rows i row) count
    still new row at at_is laid row_is =
        let same : new ≡ lay_word (row_at rows i) e k w bytes = laid ∙ ap (λ n. lay n (bytes_of (size_of k) w) bytes) at_is in
        record {
          whole = ap accepts same ∙ new_is.accepted;
          same =
              ap rows_of same ∙ new_is.rows ∙ ap (λ rs. with_word rs i w) stands.same
              ∙ ap (λ x. set (take count rows) i (reworded x w)) (get_or-take count rows i blank lt)
              ∙ ap (set (take count rows) i) (sym row_is) ∙ sym (take-set-lt count rows i row lt);
          fits = omega (arith, stands.fits, length-set rows i row);
        }

-- ---- an accepted set

accepted_open : (o : Bool) (x : Result (Unit {0}) Why) → cond o x (Err Shut) ≡ Ok tt → (o ≡ true) × (x ≡ Ok tt)
accepted_open true x e = (refl, e)
accepted_open false x e = absurd (cc)

pub can_lay : (h : Held) (p i e : ℕ) (v : Value) (w : ℕ) → (h.opened ≡ true → Stands h.bytes h.rows h.count) → IsValue v → Permitted (set_answer h p i e v) v e (Ok w) → CanLay h i e v w
can_lay h p i e v w stands value ok =
    let a = accepted_open h.opened (set_by (rows_of h.bytes) (word_of h.bytes) p i e v) ok.0 in
    let st = stands a.0 in
    let q = set_accepted (rows_of h.bytes) (word_of h.bytes) p i e v tt a.1 in
    let lt : i < h.count = omega (arith, q.0, ap length st.same, length-take-le h.count h.rows st.fits) in
    record {
      opened = a.0;
      there = lt;
      settable = subst (λ r. Settable r e (value_kind v)) (sym (row_here h.bytes h.rows h.count st i lt)) q.1.settable;
      few = ok.2;
      word = ok.1;
      fits = value w ok.1;
    }
