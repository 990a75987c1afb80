-- A kind and its type number say each other. Assumes nothing.
use Rattle.std.proofs.Common.{◌≡◌, ℕ, Bool, true, false, cond, eqb, Some, None as no_kind, Option, sym, refl, ap, ◌∙◌, arith}
use Rattle.std.proofs.lemmas.Bool.{eqb-true}
use Rattle.kinds.specs.declared.kind.Kind.{Kind}
use Rattle.kinds.specs.declared.kind.Kind.TheVariants.{None, Bool as BoolKind, Id, Int, Long, Float, Double, Rectangle, Fraction, Fd}
use Rattle.kinds.specs.Kinds.{type_of, kind_of}

-- one step of a search by number: what it finds has the number that was looked for
pub found : {A : Type 0} (number : A → ℕ) (t j : ℕ) (first : A) (others : Option A) (a : A) → number first ≡ j → cond (eqb t j) (Some first) others ≡ Some a → (others ≡ Some a → t ≡ number a) → t ≡ number a
found number t j first others a is e next = go (eqb t j) refl e
  where
    go : (b : Bool) → eqb t j ≡ b → cond b (Some first) others ≡ Some a → t ≡ number a
    go true z q =
        let same : first ≡ a = cc in
        eqb-true t j z ∙ sym is ∙ ap number same
    go false z q = next q

pub none_found : {A : Type 0} (number : A → ℕ) (t : ℕ) (a : A) → no_kind ≡ Some a → t ≡ number a
none_found number t a e = let z : ◌≡◌ {A = ℕ} 0 1 = cc in absurd (omega arith)

pub type_of_kind : (t : ℕ) (k : Kind) → kind_of t ≡ Some k → t ≡ type_of k
unfolding kind_of
type_of_kind t k e =
    found type_of t 1 None _ k refl e (λ e. found type_of t 2 BoolKind _ k refl e
    (λ e. found type_of t 3 Id _ k refl e (λ e. found type_of t 4 Int _ k refl e
    (λ e. found type_of t 5 Long _ k refl e (λ e. found type_of t 6 Float _ k refl e
    (λ e. found type_of t 7 Double _ k refl e (λ e. found type_of t 10 Rectangle _ k refl e
    (λ e. found type_of t 11 Fraction _ k refl e (λ e. found type_of t 18 Fd _ k refl e (none_found type_of t k))))))))))

pub kind_of_type : (k : Kind) → kind_of (type_of k) ≡ Some k
unfolding kind_of
kind_of_type None = refl
kind_of_type BoolKind = refl
kind_of_type Id = refl
kind_of_type Int = refl
kind_of_type Long = refl
kind_of_type Float = refl
kind_of_type Double = refl
kind_of_type Rectangle = refl
kind_of_type Fraction = refl
kind_of_type Fd = refl
