-- Type numbers. Assumes nothing.
use Rattle.std.proofs.Common.{◌≡◌, ℕ, List, Some, None, Option, sym, ◌∙◌, ap, refl, arith}
use Rattle.std.proofs.lemmas.Bool.{ne_eqb}
use Rattle.kinds.specs.Kinds.{kind_of, type_of}
use Rattle.kinds.proofs.Types.{kind_of_type, type_of_kind}
use Rattle.pods.specs.declared.types.PodType.{PodType}
use Rattle.pods.specs.declared.types.PodType.TheVariants.{Fixed, Text, Raw, Array, Struct, Object, Pointer, Choice}
use Rattle.refusals.specs.declared.Spot.{Spot}
use Rattle.refusals.specs.declared.Why.TheVariants.{UnknownType}
use Rattle.kinds.specs.declared.kind.Kind.{Kind}
use Rattle.pods.specs.Leaves.{leaf_body}
use Rattle.pods.specs.Outcomes.{refuse}
use Rattle.pods.specs.Types.{type_number}

-- a number that is none of these and that of none of the ten kinds stands for no type
pub no_type : (n : ℕ) → (n ≡ 8 → ⊥) → (n ≡ 9 → ⊥) → (n ≡ 13 → ⊥) → (n ≡ 14 → ⊥) → (n ≡ 15 → ⊥) → (n ≡ 17 → ⊥) → (n ≡ 19 → ⊥) → None ≡ kind_of n → (t : PodType) → type_number t ≡ n → ⊥
no_type n text raw array struct object pointer choice none (Fixed k) e =
    let z : None ≡ Some k = none ∙ ap kind_of (sym e) ∙ kind_of_type k in
    let y : ◌≡◌ {A = ℕ} 0 1 = cc in
    omega arith
no_type n text raw array struct object pointer choice none Text e = text (sym e)
no_type n text raw array struct object pointer choice none Raw e = raw (sym e)
no_type n text raw array struct object pointer choice none Array e = array (sym e)
no_type n text raw array struct object pointer choice none Struct e = struct (sym e)
no_type n text raw array struct object pointer choice none Object e = object (sym e)
no_type n text raw array struct object pointer choice none Pointer e = pointer (sym e)
no_type n text raw array struct object pointer choice none Choice e = choice (sym e)

-- the number of a container is that of no kind
kind_not : (m : ℕ) → None ≡ kind_of m → (k : Kind) → type_of k ≡ m → ⊥
kind_not m none k e =
    let z : None ≡ Some k = none ∙ ap kind_of (sym e) ∙ kind_of_type k in
    let y : ◌≡◌ {A = ℕ} 0 1 = cc in
    omega arith

pub only_struct : (t : PodType) → type_number t ≡ 14 → t ≡ Struct
unfolding kind_of
only_struct (Fixed k) e = absurd (kind_not 14 refl k e)
only_struct Text e = absurd (omega arith)
only_struct Raw e = absurd (omega arith)
only_struct Array e = absurd (omega arith)
only_struct Struct e = refl
only_struct Object e = absurd (omega arith)
only_struct Pointer e = absurd (omega arith)
only_struct Choice e = absurd (omega arith)

pub only_object : (t : PodType) → type_number t ≡ 15 → t ≡ Object
unfolding kind_of
only_object (Fixed k) e = absurd (kind_not 15 refl k e)
only_object Text e = absurd (omega arith)
only_object Raw e = absurd (omega arith)
only_object Array e = absurd (omega arith)
only_object Struct e = absurd (omega arith)
only_object Object e = refl
only_object Pointer e = absurd (omega arith)
only_object Choice e = absurd (omega arith)

-- where no type has the number, no kind has it
no_kind : (n : ℕ) → ((t : PodType) → type_number t ≡ n → ⊥) → (o : Option Kind) → kind_of n ≡ o → None ≡ o
no_kind n none None e = refl
no_kind n none (Some k) e = absurd (none (Fixed k) (sym (type_of_kind n k e)))

pub no_leaf : (n len : ℕ) (spot : Spot) (rest : List ℕ) → ((t : PodType) → type_number t ≡ n → ⊥) → leaf_body len n spot rest ≡ refuse UnknownType spot
unfolding leaf_body
no_leaf n len spot rest none =
    rw (ne_eqb n 8 (λ e. none Text (sym e)), ne_eqb n 9 (λ e. none Raw (sym e)), ne_eqb n 13 (λ e. none Array (sym e)), ne_eqb n 17 (λ e. none Pointer (sym e)), ne_eqb n 19 (λ e. none Choice (sym e)), ← no_kind n none (kind_of n) refl)
    refl
