-- An accepted set changes the word that it lays, and nothing else. Assumes nothing.
use Rattle.std.proofs.Common.{◌≡◌, ℕ, ◌+◌, ◌<◌, ◌≤◌, true, List, length, Ok, sym, ap, ◌∙◌, subst, arith}
use Rattle.kinds.specs.declared.kind.Kind.{Kind}
use Rattle.kinds.specs.Kinds.{size_of}
use Rattle.settable.specs.declared.value.Value.{Value}
use Rattle.settable.specs.Values.{value_kind}
use Rattle.pods.specs.Outcomes.{gave}
use Rattle.pods.specs.Survey.{says, rows_in}
use Rattle.pods.specs.Trees.{Tree}
use Rattle.format.specs.Places.{row_at}
use Rattle.laying.specs.Elements.{element_place, look, Settable, IsWord, lay_word, with_word}
use Rattle.laying.specs.Laws.{row_in, Bytes}
use Rattle.laying.specs.Values.{set_in}
use Rattle.laying.proofs.Accepted.{accepted as read_within}
use Rattle.laying.proofs.Apart.{elements_apart}
use Rattle.laying.proofs.Kept.{laying_keeps}
use Rattle.laying.proofs.Looks.{looks_stand}
use Rattle.histories.specs.Cues.{accepts, rows_of, word_of}
use Rattle.histories.specs.Held.{IsValue}
use Rattle.histories.specs.Plain.{set_by, word_laid, value_laid}
use Rattle.histories.proofs.Asking.{Accepted, set_accepted}
use Rattle.histories.proofs.Forms.{length_with, form_with}
use Rattle.histories.proofs.Saying.{accepted_says, accepts_said, rows_said_lem, word_said_lem}

-- the bytes `new`, in which w was laid at element e of row i
pub record Framed (bytes new : List ℕ) (i e w : ℕ) : Type 0 where
  pub accepted : accepts new ≡ true
  pub rows : rows_of new ≡ with_word (rows_of bytes) i w
  pub long : length new ≡ length bytes
  pub small : Bytes bytes → Bytes new
  pub word : word_of new i e ≡ w
  pub others : (j f : ℕ) → j < length (rows_of bytes) → f < (row_at (rows_of bytes) j).count → ((j ≡ i) × (f ≡ e) → ⊥) → word_of new j f ≡ word_of bytes j f

module _ (bytes : List ℕ) (ok : accepts bytes ≡ true) where
  pub framed : (i e : ℕ) (k : Kind) (w : ℕ) → i < length (rows_of bytes) → Settable (row_at (rows_of bytes) i) e k → IsWord k w
      → Framed bytes (lay_word (row_at (rows_of bytes) i) e k w bytes) i e w
  framed i e k w lt can is =
      let s = accepted_says bytes ok in
      let t = s.tree in
      let u = s.used in
      let rows : rows_of bytes ≡ rows_in t = rows_said_lem bytes t u s.is in
      let new : List ℕ = lay_word (row_at (rows_of bytes) i) e k w bytes in
      let t' : Tree = set_in t i e w in
      let lt' : i < length (rows_in t) = omega (arith, ap length rows) in
      let kept = laying_keeps bytes t u s.is i e k w lt' (subst (λ rs. Settable (row_at rs i) e k) rows can) is in
      let same : new ≡ lay_word (row_in t i) e k w bytes = ap (λ rs. lay_word (row_at rs i) e k w bytes) rows in
      let said : says new ≡ gave t' u = ap says same ∙ kept.said in
      let rows' : rows_in t' ≡ with_word (rows_in t) i w = kept.rows in
      let long' : length (rows_in t') ≡ length (rows_in t) = ap length rows' ∙ length_with (rows_in t) i w in
      let counts : (j : ℕ) → (row_in t' j).count ≡ (row_in t j).count = λ j. ap (λ rs. (row_at rs j).count) rows' ∙ ap (λ r. r.count) (form_with (rows_in t) i w lt' j) in
      let there = ap (λ rs. (row_at rs i).count) rows in
      let at : (j f : ℕ) → j < length (rows_in t) → f < (row_in t j).count → word_of new j f ≡ look new (row_in t' j) f =
      λ j f l m. word_said_lem new t' u said j f ∙ sym (looks_stand new t' u said j f (omega (arith, long')) (omega (arith, counts j))).answer in
      record {
        accepted = accepts_said new t' u said;
        rows = rows_said_lem new t' u said ∙ rows' ∙ ap (λ rs. with_word rs i w) (sym rows);
        long = ap length same ∙ kept.long;
        small = λ b. subst Bytes (sym same) (kept.small b);
        word = at i e lt' (omega (arith, can.there)) ∙ ap (λ b. look b (row_in t' i) e) same ∙ kept.looked;
        others = λ j f l m ne.
            (let l' : j < length (rows_in t) = omega (arith, ap length rows) in
            let m' : f < (row_in t j).count = omega (arith, ap (λ rs. (row_at rs j).count) rows) in
            at j f l' m' ∙ ap (λ b. look b (row_in t' j) f) same ∙ kept.others j f l' m' ne ∙ (looks_stand bytes t u s.is j f l' m').answer
            ∙ sym (word_said_lem bytes t u s.is j f));
      }

  -- what is laid stands within the bytes
  pub framed_within : (i e : ℕ) (k : Kind) → i < length (rows_of bytes) → Settable (row_at (rows_of bytes) i) e k
      → element_place (row_at (rows_of bytes) i) e + size_of k ≤ length bytes
  framed_within i e k lt can =
      let s = accepted_says bytes ok in
      let t = s.tree in
      let rows : rows_of bytes ≡ rows_in t = rows_said_lem bytes t s.used s.is in
      let lt' : i < length (rows_in t) = omega (arith, ap length rows) in
      let can' = subst (λ rs. Settable (row_at rs i) e k) rows can in
      let apart = elements_apart bytes t s.used s.is in
      let whole = (read_within bytes t s.used s.is).within in
      subst (λ rs. element_place (row_at rs i) e + size_of k ≤ length bytes) (sym rows)
      (omega (arith, whole, apart.within i e lt' can'.there, apart.sized i k lt' can'.kind_is))

-- an accepted set of the plain cue
pub record Laid (bytes : List ℕ) (p i e : ℕ) (v : Value) : Type 0 where
  pub there : i < length (rows_of bytes)
  pub was : Accepted (row_at (rows_of bytes) i) p e v
  pub new : Framed bytes (value_laid (row_at (rows_of bytes) i) e v bytes) i e was.word
  pub within : element_place (row_at (rows_of bytes) i) e + size_of (value_kind v) ≤ length bytes

pub set_laid : (bytes : List ℕ) (p i e : ℕ) (v : Value) (u : Unit {0}) → accepts bytes ≡ true → IsValue v → set_by (rows_of bytes) (word_of bytes) p i e v ≡ Ok u → Laid bytes p i e v
set_laid bytes p i e v u ok is h =
    let a = set_accepted (rows_of bytes) (word_of bytes) p i e v u h in
    let w = a.1.word in
    let r = row_at (rows_of bytes) i in
    let laid : value_laid r e v bytes ≡ lay_word r e (value_kind v) w bytes = ap (λ o. word_laid o (value_kind v) r e bytes) a.1.word_is in
    record {
      there = a.0;
      was = a.1;
      new = subst (λ b. Framed bytes b i e w) (sym laid) (framed bytes ok i e (value_kind v) w a.0 a.1.settable (is w a.1.word_is));
      within = framed_within bytes ok i e (value_kind v) a.0 a.1.settable;
    }
