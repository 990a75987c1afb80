-- What is read is what is laid out. Assumes nothing.
use Rattle.std.proofs.Common.{◌≡◌, ℕ, ◌≤◌, ltb, List, ◌++◌, length, take, Ok, Err, Result, sym, refl, ap, ◌∙◌, subst, arith, length-append, MatchResult}
use Rattle.std.proofs.lemmas.List.{get_or-take, length-take-le, take_at}
use Rattle.std.proofs.lemmas.Bool.{le-ltb, ltb-false}
use Rattle.pods.specs.Trees.{Tree}
use Rattle.pods.specs.Outcomes.{Outcome, gave, refused, mapped}
use Rattle.pods.specs.Pods.{pod, spot_at}
use Rattle.pods.specs.Survey.{answered, says, rows_in, survey_of}
use Rattle.pods.specs.declared.reading.Surveyed.{Surveyed}
use Rattle.refusals.specs.declared.Refusal.{Refusal}
use Rattle.pods.proofs.Sizes.{Given, Sized, given_if, pod_sized}
use Rattle.format.specs.Layout.{Laid}
use Rattle.format.specs.Laws.{LaidIn, OneLaid, NoneLaid, SurveyAcceptsLaid, RestIsFree}
use Rattle.format.proofs.Trees.{PodLaid, pod_laid, pod_read_lem}
use Rattle.format.proofs.Ahead.{laid_same}

-- what holds of all that is given holds of what was given
pub given_at : {A : Type 0} (P : A → ℕ → Type 0) (o : Outcome A) (x : A) (u : ℕ) → Given P o → o ≡ gave x u → P x u
given_at P o x u g e = subst (Given P) e g

-- within the limit of bytes the cue is what its first pod says
module _ (bytes : List ℕ) (short : length bytes ≤ 65536) where
  pub says_pod : says bytes ≡ pod 32 1 0 bytes
  says_pod = rw (le-ltb 65536 (length bytes) short)

  pub read_laid : (t : Tree) (used : ℕ) → pod 32 1 0 bytes ≡ gave t used → LaidIn bytes used t
  read_laid t used e =
      let s = given_at (Sized (length bytes)) (pod 32 1 0 bytes) t used (pod_sized 32 1 0 bytes) e in
      let l = given_at (PodLaid bytes 32 0) (pod 32 1 0 bytes) t used (pod_laid bytes 32 1 0) e in
      let there = length-take-le used bytes s.0 in
      record {
        within = s.0;
        whole = s.3;
        shallow = l.1;
        laid = laid_same bytes (take used bytes) 0 used (λ x _ h. get_or-take used bytes x 0 h) (omega (arith, there)) t 0 (omega arith) (omega (arith, s.3)) l.0;
      }

  pub laid_read : (t : Tree) (used : ℕ) → LaidIn bytes used t → pod 32 1 0 bytes ≡ gave t used
  laid_read t used h =
      pod_read_lem bytes t 32 1 0
      (laid_same (take used bytes) bytes 0 used (λ x _ l. sym (get_or-take used bytes x 0 l)) h.within t 0 (omega arith) (omega (arith, h.whole)) h.laid) h.shallow
      ∙ ap (gave t) h.whole

-- what a survey counts is there
pub counted : (o : Outcome Tree) (rows used : ℕ) → mapped (λ t. length (rows_in t)) o ≡ gave rows used → (t : Tree) × (o ≡ gave t used) × (length (rows_in t) ≡ rows)
counted (gave t u) rows used e =
    let same : u ≡ used = cc in
    let rs : length (rows_in t) ≡ rows = cc in
    (t, ap (gave t) same, rs)
counted (refused x) rows used e = let z : ◌≡◌ {A = ℕ} 0 1 = cc in absurd (omega arith)

pub survey_accepts_laid : SurveyAcceptsLaid
survey_accepts_laid bytes short =
    record {
      laid = λ rows used e.
          (let c = counted (says bytes) rows used e in
          (c.0, read_laid bytes short c.0 used (sym (says_pod bytes short) ∙ c.1), c.2));
      accepted = λ used t h. ap (mapped (λ t. length (rows_in t))) (says_pod bytes short ∙ laid_read bytes short t used h);
      only = λ used used' t t' h h'.
          (let e : gave t used ≡ gave t' used' = sym (laid_read bytes short t used h) ∙ laid_read bytes short t' used' h' in
          (cc, cc));
    }

-- a survey that accepts has no more bytes than the limit
pub accepted_short : (bytes : List ℕ) (rows used : ℕ) → survey_of bytes ≡ gave rows used → length bytes ≤ 65536
accepted_short bytes rows used e =
    given_at (λ _ _. length bytes ≤ 65536) (survey_of bytes) rows used
    (mapped_given (says bytes) (given_if (λ _ _. length bytes ≤ 65536) (ltb 65536 (length bytes)) _ (spot_at 0 1) (pod 32 1 0 bytes) (λ z. all (pod 32 1 0 bytes) (ltb-false 65536 (length bytes) z)))) e
  where
    all : (o : Outcome Tree) → length bytes ≤ 65536 → Given (λ _ _. length bytes ≤ 65536) o
    all (gave t u) h = h
    all (refused x) h = tt

    mapped_given : (o : Outcome Tree) → Given (λ _ _. length bytes ≤ 65536) o → Given (λ _ _. length bytes ≤ 65536) (mapped (λ t. length (rows_in t)) o)
    mapped_given (gave t u) h = h
    mapped_given (refused x) h = tt

-- what an answer of a survey says of the layout
pub survey_laid : (bytes : List ℕ) (r : Result Surveyed Refusal) → answered r ≡ survey_of bytes → MatchResult r (λ s. OneLaid bytes s.rows s.used) (λ _. length bytes ≤ 65536 → NoneLaid bytes)
survey_laid bytes (Ok s) e =
    let law = survey_accepts_laid bytes (accepted_short bytes s.rows s.used (sym e)) in
    let l = law.laid s.rows s.used (sym e) in
    record {
      tree = l.0;
      laid = l.1;
      counted = l.2;
      only = λ used' t h. law.only used' s.used t l.0 h l.1;
    }
survey_laid bytes (Err x) e =
    λ short used t h.
    let a = (survey_accepts_laid bytes short).accepted used t h in
    let z : ◌≡◌ {A = ℕ} 0 1 = cc in
    omega arith

-- the first bytes of a front with something after it
front_is : (front rest : List ℕ) → take (length front) (front ++ rest) ≡ front
front_is front rest = take_at front rest (length front) refl

pub rest_is_free : RestIsFree
rest_is_free front rest rest' rows e short' =
    let short = accepted_short (front ++ rest) rows (length front) e in
    let l = (survey_accepts_laid (front ++ rest) short).laid rows (length front) e in
    let h = l.1 in
    (survey_accepts_laid (front ++ rest') short').accepted (length front) l.0
    record {
      within = omega (arith, length-append front rest');
      whole = h.whole;
      shallow = h.shallow;
      laid = subst (λ bs. Laid bs l.0 0) (front_is front rest ∙ sym (front_is front rest')) h.laid;
    }
    ∙ ap (λ n. gave n (length front)) l.2
