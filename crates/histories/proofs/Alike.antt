-- Two plain cues that differ in nothing but the values of rows that are not read-only. Assumes nothing.
use Rattle.std.proofs.Common.{◌≡◌, ℕ, zero, suc, pred, ◌<◌, ◌≤◌, Bool, true, false, cond, ◌&&◌, ◌||◌, eqb, ltb, ◌≢◌, ◌⊎◌, List, length, Some, None as nothing, Ok, Option, Result, sym, refl, ap, ◌∙◌, inl, inr, arith, ltb-true, eqb-true}
use Rattle.refusals.specs.declared.Why.{Why}
use Rattle.refusals.specs.declared.Why.TheVariants.{NoParty, NoRow, OtherKind, NoElement, Locked, Forbidden}
use Rattle.kinds.specs.declared.kind.Kind.{Kind}
use Rattle.settable.specs.declared.value.Value.{Value}
use Rattle.settable.specs.Values.{value_kind, value_word}
use Rattle.settable.specs.Order.{at_most}
use Rattle.pods.specs.declared.choices.ChoiceType.{ChoiceType}
use Rattle.pods.specs.declared.choices.ChoiceType.TheVariants.{None, Range, Step, Enum, Flags}
use Rattle.pods.specs.declared.rows.Row.{Row}
use Rattle.pods.specs.Choices.{choice_type_of, needed}
use Rattle.format.specs.Places.{row_at}
use Rattle.laying.specs.Elements.{settable_kind}
use Rattle.histories.specs.Cues.{rows_of, word_of}
use Rattle.histories.specs.Parties.{known, read_only, may_set}
use Rattle.histories.specs.Choosing.{among, allows, allows_by, row_allows}
use Rattle.histories.specs.Plain.{unless, can_set, same_kind, number_checked, value_checked, set_by}
use Rattle.histories.proofs.Enough.{Enough}
use Rattle.histories.proofs.Forms.{unworded, same_or, length_with, form_with}
use Rattle.histories.proofs.Framing.{Framed}

pub record Alike (s t : List ℕ) : Type 0 where
  pub len : length (rows_of s) ≡ length (rows_of t)
  pub form : (i : ℕ) → unworded (row_at (rows_of s) i) ≡ unworded (row_at (rows_of t) i)
  -- values of read-only rows
  pub words : (i e : ℕ) → i < length (rows_of s) → read_only (row_at (rows_of s) i) ≡ true → e < (row_at (rows_of s) i).count → word_of s i e ≡ word_of t i e
  -- limits and alternatives of choices
  pub limits : (i e : ℕ) → i < length (rows_of s) → (row_at (rows_of s) i).kind ≡ 19 → 0 < e → e < (row_at (rows_of s) i).count → word_of s i e ≡ word_of t i e

pub alike_refl : (s : List ℕ) → Alike s s
alike_refl s = record { len = refl; form = λ i. refl; words = λ i e l o m. refl; limits = λ i e l k z m. refl }

pub alike_sym : {s t : List ℕ} → Alike s t → Alike t s
alike_sym {s} {t} a =
    record {
      len = sym a.len;
      form = λ i. sym (a.form i);
      words = λ i e l o m.
          (let f = a.form i in
          sym (a.words i e (omega (arith, a.len)) (ap read_only f ∙ o) (omega (arith, ap (λ r. r.count) f))));
      limits = λ i e l k z m.
          (let f = a.form i in
          sym (a.limits i e (omega (arith, a.len)) (ap (λ r. r.kind) f ∙ k) z (omega (arith, ap (λ r. r.count) f))));
    }

pub alike_trans : {s t u : List ℕ} → Alike s t → Alike t u → Alike s u
alike_trans {s} {t} {u} a b =
    record {
      len = a.len ∙ b.len;
      form = λ i. a.form i ∙ b.form i;
      words = λ i e l o m.
          (let f = a.form i in
          a.words i e l o m ∙ b.words i e (omega (arith, a.len)) (sym (ap read_only f) ∙ o) (omega (arith, ap (λ r. r.count) f)));
      limits = λ i e l k z m.
          (let f = a.form i in
          a.limits i e l k z m ∙ b.limits i e (omega (arith, a.len)) (sym (ap (λ r. r.kind) f) ∙ k) z (omega (arith, ap (λ r. r.count) f)));
    }

-- ---- alike cues answer a set alike

among_same : (n : ℕ) (word word' : ℕ → ℕ) (w : ℕ) → ((j : ℕ) → 0 < j → j ≤ n → word j ≡ word' j) → among n word w ≡ among n word' w
among_same zero word word' w h = refl
among_same (suc n) word word' w h =
    ap (λ x. eqb x w || among n word w) (h (suc n) (omega arith) (omega arith))
    ∙ ap (λ b. eqb (word' (suc n)) w || b) (among_same n word word' w (λ j z l. h j z (omega arith)))

allows_same : (c : ChoiceType) (k : Kind) (count : ℕ) (word word' : ℕ → ℕ) (w : ℕ) → needed c ≤ count
    → ((j : ℕ) → 0 < j → j < count → word j ≡ word' j) → allows c k count word w ≡ allows c k count word' w
allows_same None k count word word' w n h = refl
allows_same Range k count word word' w n h =
    ap (λ x. at_most k x w && at_most k w (word 2)) (h 1 (omega arith) (omega arith)) ∙ ap (λ x. at_most k (word' 1) w && at_most k w x) (h 2 (omega arith) (omega arith))
allows_same Step k count word word' w n h =
    ap (λ x. at_most k x w && at_most k w (word 2)) (h 1 (omega arith) (omega arith)) ∙ ap (λ x. at_most k (word' 1) w && at_most k w x) (h 2 (omega arith) (omega arith))
allows_same Enum k count word word' w n h = among_same (pred count) word word' w (λ j z l. h j z (omega arith))
allows_same Flags k count word word' w n h = refl

allows_by_same : (o : Option ChoiceType) (k : Kind) (count : ℕ) (word word' : ℕ → ℕ) (w : ℕ) → ((c : ChoiceType) → o ≡ Some c → needed c ≤ count)
    → ((j : ℕ) → 0 < j → j < count → word j ≡ word' j) → allows_by o k count word w ≡ allows_by o k count word' w
allows_by_same nothing k count word word' w n h = refl
allows_by_same (Some c) k count word word' w n h = allows_same c k count word word' w (n c refl) h

pub row_allows_same : (r : Row) (k : Kind) (word word' : ℕ → ℕ) (w : ℕ) → Enough r → (r.kind ≡ 19 → (j : ℕ) → 0 < j → j < r.count → word j ≡ word' j)
    → row_allows r k word w ≡ row_allows r k word' w
unfolding row_allows
row_allows_same r k word word' w n h = go (eqb r.kind 19) refl
  where
    go : (b : Bool) → eqb r.kind 19 ≡ b → cond b (allows_by (choice_type_of r.side) k r.count word w) true ≡ cond b (allows_by (choice_type_of r.side) k r.count word' w) true
    go true e = let is = eqb-true r.kind 19 e in allows_by_same (choice_type_of r.side) k r.count word word' w (n is) (h is)
    go false e = refl

-- a row's word plays no part
row_allows_unworded : (r : Row) (k : Kind) (word : ℕ → ℕ) (w : ℕ) → row_allows r k word w ≡ row_allows (unworded r) k word w
unfolding row_allows
row_allows_unworded r k word w = refl

number_same : (o : Option ℕ) (next next' : ℕ → Result (Unit {0}) Why) → ((w : ℕ) → next w ≡ next' w) → number_checked o next ≡ number_checked o next'
number_same nothing next next' h = refl
number_same (Some w) next next' h = h w

pub value_same : (o : Option Kind) (p e : ℕ) (v : Value) (r q : Row) (word word' : ℕ → ℕ) → unworded r ≡ unworded q → ((k : Kind) (w : ℕ) → row_allows r k word w ≡ row_allows q k word' w)
    → value_checked o p e v r word ≡ value_checked o p e v q word'
value_same nothing p e v r q word word' f h = refl
value_same (Some k) p e v r q word word' f h =
    let last : (w : ℕ) → unless (row_allows r k word w) Forbidden (Ok tt) ≡ unless (row_allows q k word' w) Forbidden (Ok tt) = λ w. ap (λ b. unless b Forbidden (Ok tt)) (h k w) in
    let number = number_same (value_word v) (λ w. unless (row_allows r k word w) Forbidden (Ok tt)) (λ w. unless (row_allows q k word' w) Forbidden (Ok tt)) last in
    ap (λ x. unless (same_kind k (value_kind v)) OtherKind (unless (can_set x e) NoElement (unless (may_set p x) Locked (number_checked (value_word v) (λ w. unless (row_allows r k word w) Forbidden (Ok tt)))))) f
    ∙ ap (λ x. unless (same_kind k (value_kind v)) OtherKind (unless (can_set q e) NoElement (unless (may_set p q) Locked x))) number

pub same_answer : (s t : List ℕ) (p i e : ℕ) (v : Value) → ((i : ℕ) → i < length (rows_of s) → Enough (row_at (rows_of s) i)) → Alike s t
    → set_by (rows_of s) (word_of s) p i e v ≡ set_by (rows_of t) (word_of t) p i e v
same_answer s t p i e v enough a =
    ap (λ n. unless (known p) NoParty (unless (ltb i n) NoRow (value_checked (settable_kind (row_at (rows_of s) i)) p e v (row_at (rows_of s) i) (word_of s i)))) a.len
    ∙ ap (unless (known p) NoParty) (by (ltb i (length (rows_of t))) refl)
  where
    by : (b : Bool) → ltb i (length (rows_of t)) ≡ b
        → unless b NoRow (value_checked (settable_kind (row_at (rows_of s) i)) p e v (row_at (rows_of s) i) (word_of s i))
        ≡ unless b NoRow (value_checked (settable_kind (row_at (rows_of t) i)) p e v (row_at (rows_of t) i) (word_of t i))
    by false z = refl
    by true z =
        let lt : i < length (rows_of s) = omega (arith, ltb-true i (length (rows_of t)) z, a.len) in
        let r = row_at (rows_of s) i in
        let q = row_at (rows_of t) i in
        let f : unworded r ≡ unworded q = a.form i in
        ap (λ o. value_checked o p e v r (word_of s i)) (ap settable_kind f)
        ∙ value_same (settable_kind q) p e v r q (word_of s i) (word_of t i) f
        (λ k w. row_allows_same r k (word_of s i) (word_of t i) w (enough i lt) (λ is j z l. a.limits i j lt is z l)
        ∙ row_allows_unworded r k (word_of t i) w ∙ ap (λ x. row_allows x k (word_of t i) w) f ∙ sym (row_allows_unworded q k (word_of t i) w))

-- ---- a value laid

-- the rows after it, but for their words, and their number
module _ (s s' : List ℕ) (i e w : ℕ) (new : Framed s s' i e w) where
  pub framed_len : length (rows_of s') ≡ length (rows_of s)
  framed_len = ap length new.rows ∙ length_with (rows_of s) i w

  pub framed_form : i < length (rows_of s) → (j : ℕ) → unworded (row_at (rows_of s') j) ≡ unworded (row_at (rows_of s) j)
  framed_form lt j = ap (λ rs. unworded (row_at rs j)) new.rows ∙ form_with (rows_of s) i w lt j

-- the same value in both
module _ (s t s' t' : List ℕ) (i e w : ℕ) (lt : i < length (rows_of s)) (a : Alike s t) (new : Framed s s' i e w) (new' : Framed t t' i e w) where
  lt' : i < length (rows_of t)
  lt' = omega (arith, a.len)

  fs : (j : ℕ) → unworded (row_at (rows_of s') j) ≡ unworded (row_at (rows_of s) j)
  fs j = framed_form s s' i e w new lt j

  -- a word that was alike is alike
  still : (j f : ℕ) → j < length (rows_of s) → f < (row_at (rows_of s) j).count → word_of s j f ≡ word_of t j f → word_of s' j f ≡ word_of t' j f
  still j f l m old = by (same_or j i) (same_or f e)
    where
      apart : ((j ≡ i) × (f ≡ e) → ⊥) → word_of s' j f ≡ word_of t' j f
      apart ne = new.others j f l m ne ∙ old ∙ sym (new'.others j f (omega (arith, a.len)) (omega (arith, ap (λ r. r.count) (a.form j))) ne)

      by : (j ≡ i) ⊎ (j ≢ i) → (f ≡ e) ⊎ (f ≢ e) → word_of s' j f ≡ word_of t' j f
      by (inr ne) q = apart (λ both. ne both.0)
      by (inl x) (inr ne) = apart (λ both. ne both.1)
      by (inl x) (inl y) =
          ap (λ n. word_of s' n f) x ∙ ap (word_of s' i) y ∙ new.word ∙ sym new'.word ∙ ap (word_of t' i) (sym y) ∙ ap (λ n. word_of t' n f) (sym x)

  pub both_laid : Alike s' t'
  both_laid =
      let ls = framed_len s s' i e w new in
      record {
        len = ls ∙ a.len ∙ sym (framed_len t t' i e w new');
        form = λ j. fs j ∙ a.form j ∙ sym (framed_form t t' i e w new' lt' j);
        words = λ j f l o m.
            (let l₀ : j < length (rows_of s) = omega (arith, ls) in
            let m₀ : f < (row_at (rows_of s) j).count = omega (arith, ap (λ r. r.count) (fs j)) in
            still j f l₀ m₀ (a.words j f l₀ (sym (ap read_only (fs j)) ∙ o) m₀));
        limits = λ j f l k z m.
            (let l₀ : j < length (rows_of s) = omega (arith, ls) in
            let m₀ : f < (row_at (rows_of s) j).count = omega (arith, ap (λ r. r.count) (fs j)) in
            still j f l₀ m₀ (a.limits j f l₀ (sym (ap (λ r. r.kind) (fs j)) ∙ k) z m₀));
      }

-- a value in one of them, in a row that is not read-only, and of a choice in its default
pub one_laid : (s s' : List ℕ) (i e w : ℕ) → i < length (rows_of s) → read_only (row_at (rows_of s) i) ≡ false → ((row_at (rows_of s) i).kind ≡ 19 → e ≡ 0)
    → Framed s s' i e w → Alike s s'
one_laid s s' i e w lt free default new =
    record {
      len = sym (framed_len s s' i e w new);
      form = λ j. sym (framed_form s s' i e w new lt j);
      words = λ j f l o m. sym (new.others j f l m (λ both.
          (let no' : true ≡ false = sym o ∙ ap (λ n. read_only (row_at (rows_of s) n)) both.0 ∙ free in
          let z : ◌≡◌ {A = ℕ} 0 1 = cc in omega arith)));
      limits = λ j f l k z m. sym (new.others j f l m (λ both.
          (let none = default (sym (ap (λ n. (row_at (rows_of s) n).kind) both.0) ∙ k) in omega (arith, both.1))));
    }
