-- A list of calls, and the same list without stage management's sets. Assumes nothing.
use Rattle.std.proofs.Common.{◌≡◌, ℕ, Bool, true, false, cond, not, eqb, ◌⊎◌, List, [], ◌∷◌, Some, Ok, Err, Result, sym, refl, ap, ◌∙◌, subst, inl, inr, ⊎_elim, arith, ne_eqb, eqb-true}
use Rattle.refusals.specs.declared.Why.{Why}
use Rattle.settable.specs.declared.value.Value.{Value}
use Rattle.format.specs.Places.{row_at}
use Rattle.laying.specs.Laws.{Bytes}
use Rattle.histories.specs.Cues.{accepts, rows_of, word_of}
use Rattle.histories.specs.Parties.{rigging, stage_management, read_only}
use Rattle.histories.specs.Plain.{Call, looks, sets, rereads, tours_bytes, tours_rows, answer, after, if_accepted, set_by, value_laid, plain, run}
use Rattle.histories.specs.Held.{IsValue}
use Rattle.histories.specs.Histories.{stage_set, kept_unless, without_stage, answer_if, to_rigging, answers_to_rigging}
use Rattle.histories.proofs.Enough.{enough}
use Rattle.histories.proofs.Framing.{Framed, set_laid}
use Rattle.histories.proofs.Alike.{Alike, alike_refl, alike_sym, alike_trans, same_answer, both_laid, one_laid}
use Rattle.histories.proofs.Stepping.{Valued}

pub record Good (s : List ℕ) : Type 0 where
  pub accepted : accepts s ≡ true
  pub bytes : Bytes s

-- ---- sets

module _ (p i e : ℕ) (v : Value) (is : IsValue v) where
  set_good : (s : List ℕ) (q : Result (Unit {0}) Why) → set_by (rows_of s) (word_of s) p i e v ≡ q → Good s → Good (if_accepted q (value_laid (row_at (rows_of s) i) e v s) s)
  set_good s (Ok u) h g =
      let l = set_laid s p i e v u g.accepted is h in
      record { accepted = l.new.accepted; bytes = l.new.small g.bytes }
  set_good s (Err x) h g = g

  same_set : (s t : List ℕ) (q : Result (Unit {0}) Why) → set_by (rows_of s) (word_of s) p i e v ≡ q → set_by (rows_of t) (word_of t) p i e v ≡ q → Good s → Good t → Alike s t
      → Alike (if_accepted q (value_laid (row_at (rows_of s) i) e v s) s) (if_accepted q (value_laid (row_at (rows_of t) i) e v t) t)
  same_set s t (Ok u) x y g g' a =
      let l = set_laid s p i e v u g.accepted is x in
      let l' = set_laid t p i e v u g'.accepted is y in
      let words : Some l.was.word ≡ Some l'.was.word = sym l.was.word_is ∙ l'.was.word_is in
      let same : l.was.word ≡ l'.was.word = cc in
      both_laid s t (value_laid (row_at (rows_of s) i) e v s) (value_laid (row_at (rows_of t) i) e v t) i e l'.was.word l.there a (subst (λ w. Framed s (value_laid (row_at (rows_of s) i) e v s) i e w) same l.new) l'.new
  same_set s t (Err r) x y g g' a = a

  skip_set : (s : List ℕ) (q : Result (Unit {0}) Why) → set_by (rows_of s) (word_of s) p i e v ≡ q → Good s → eqb p stage_management ≡ true → Alike s (if_accepted q (value_laid (row_at (rows_of s) i) e v s) s)
  skip_set s (Ok u) h g stage =
      let l = set_laid s p i e v u g.accepted is h in
      let free = not_locked (read_only (row_at (rows_of s) i)) (ap (λ b. cond b (not (read_only (row_at (rows_of s) i))) true) (sym stage) ∙ l.was.may) in
      one_laid s (value_laid (row_at (rows_of s) i) e v s) i e l.was.word l.there free l.was.settable.default l.new
    where
      not_locked : (b : Bool) → not b ≡ true → b ≡ false
      not_locked true e = let z : ◌≡◌ {A = ℕ} 0 1 = cc in absurd (omega arith)
      not_locked false e = refl
  skip_set s (Err x) h g stage = alike_refl s

either_way : (b : Bool) → (b ≡ true) ⊎ (b ≡ false)
either_way true = inl refl
either_way false = inr refl

module _ {S : Type 0} where
  pub after_good : (c : Call S) (s : List ℕ) → Valued c → Good s → Good (after s c)
  after_good (looks i e) s is g = g
  after_good (sets p i e v) s is g = set_good p i e v is s (set_by (rows_of s) (word_of s) p i e v) refl g
  after_good rereads s is g = g
  after_good (tours_bytes rule h) s is g = g
  after_good (tours_rows rule h) s is g = g

  -- the same call on both
  same_call : (c : Call S) (s t : List ℕ) → Valued c → Good s → Good t → Alike s t → Alike (after s c) (after t c)
  same_call (looks i e) s t is g g' a = a
  same_call (sets p i e v) s t is g g' a =
      let same = same_answer s t p i e v (enough s g.accepted) a in
      subst (λ q. Alike (after {S = S} s (sets p i e v)) (if_accepted q (value_laid (row_at (rows_of t) i) e v t) t)) same
      (same_set p i e v is s t (set_by (rows_of s) (word_of s) p i e v) refl (sym same) g g' a)
  same_call rereads s t is g g' a = a
  same_call (tours_bytes rule h) s t is g g' a = a
  same_call (tours_rows rule h) s t is g g' a = a

  -- stage management's set leaves the cue alike
  skip : (c : Call S) (s : List ℕ) → Valued c → Good s → stage_set c ≡ true → Alike s (after s c)
  skip (looks i e) s is g h = alike_refl s
  skip (sets p i e v) s is g h = skip_set p i e v is s (set_by (rows_of s) (word_of s) p i e v) refl g h
  skip rereads s is g h = alike_refl s
  skip (tours_bytes rule x) s is g h = alike_refl s
  skip (tours_rows rule x) s is g h = alike_refl s

  -- and is none of rigging's
  skip_answer : (c : Call S) (s : List ℕ) (rest : List (Result (Unit {0}) Why)) → stage_set c ≡ true → to_rigging c (answer s c) rest ≡ rest
  skip_answer (looks i e) s rest h = refl
  skip_answer (sets p i e v) s rest h =
      let two = eqb-true p stage_management h in
      ap (λ b. answer_if b (set_by (rows_of s) (word_of s) p i e v) rest) (ne_eqb p rigging (λ one. omega (arith, one, two)))
  skip_answer rereads s rest h = refl
  skip_answer (tours_bytes rule x) s rest h = refl
  skip_answer (tours_rows rule x) s rest h = refl

  same_rigging : (c : Call S) (s t : List ℕ) (rest : List (Result (Unit {0}) Why)) → Good s → Alike s t → to_rigging c (answer s c) rest ≡ to_rigging c (answer t c) rest
  same_rigging (looks i e) s t rest g a = refl
  same_rigging (sets p i e v) s t rest g a = ap (λ x. answer_if (eqb p rigging) x rest) (same_answer s t p i e v (enough s g.accepted) a)
  same_rigging rereads s t rest g a = refl
  same_rigging (tours_bytes rule x) s t rest g a = refl
  same_rigging (tours_rows rule x) s t rest g a = refl

  abbrev pub AllValued : List (Call S) → Type 0
  AllValued [] = Unit {0}
  AllValued (c ∷ cs) = Valued c × AllValued cs

  pub record Erased (cs ds : List (Call S)) (s t : List ℕ) : Type 0 where
    pub alike : Alike (run s cs) (run t ds)
    pub answers : answers_to_rigging (plain s cs) ≡ answers_to_rigging (plain t ds)

  pub erased : (cs : List (Call S)) (s t : List ℕ) → AllValued cs → Good s → Good t → Alike s t → Erased cs (without_stage cs) s t
  erased [] s t all g g' a = record { alike = a; answers = refl }
  erased (c ∷ cs) s t all g g' a =
      let after' = after_good c s all.0 g in
      ⊎_elim
      (λ h.
      let ih = erased cs (after s c) t all.1 after' g' (alike_trans (alike_sym (skip c s all.0 g h)) a) in
      subst (λ b. Erased (c ∷ cs) (kept_unless b c (without_stage cs)) s t) (sym h)
      (record { alike = ih.alike; answers = skip_answer c s (answers_to_rigging (plain (after s c) cs)) h ∙ ih.answers }))
      (λ h.
      let ih = erased cs (after s c) (after t c) all.1 after' (after_good c t all.0 g') (same_call c s t all.0 g g' a) in
      subst (λ b. Erased (c ∷ cs) (kept_unless b c (without_stage cs)) s t) (sym h)
      (record { alike = ih.alike; answers = same_rigging c s t (answers_to_rigging (plain (after s c) cs)) g a ∙ ap (to_rigging c (answer t c)) ih.answers }))
      (either_way (stage_set c))
