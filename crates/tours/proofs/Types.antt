-- The type that a number stands for, or that it stands for none. Assumes nothing.
use Rattle.std.proofs.Common.{◌≡◌, ℕ, List, [], Some, None, Ok, Err, Result, sym, ap, ◌∙◌, arith}
use Rattle.std.proofs.lemmas.Bool.{ne_eqb}
use Rattle.std.specs.Result.{result_ok}
use Rattle.refusals.specs.declared.Why.{Why}
use Rattle.pods.specs.declared.rows.Row.{Row}
use Rattle.pods.specs.declared.types.PodType.{PodType}
use Rattle.pods.specs.declared.types.PodType.TheVariants.{Text, Raw, Array, Struct, Object, Pointer, Choice}
use Rattle.pods.specs.Types.{IsTypeOf, type_number}
use Rattle.tours.specs.Told.{value}
use Rattle.tours.specs.RowsTold.{row_content, row_elements, frame_of}

pub type_found : (n : ℕ) (t : PodType) (r : Result PodType Why) → IsTypeOf n r → Some t ≡ result_ok r → type_number t ≡ n
type_found n t (Ok u) h e = let same : t ≡ u = cc in ap type_number same ∙ h
type_found n t (Err x) h e = let z : ◌≡◌ {A = ℕ} 0 1 = cc in absurd (omega arith)

pub no_type_found : (n : ℕ) (r : Result PodType Why) → IsTypeOf n r → None ≡ result_ok r → (t : PodType) → type_number t ≡ n → ⊥
no_type_found n (Ok u) h e = let z : ◌≡◌ {A = ℕ} 0 1 = cc in absurd (omega arith)
no_type_found n (Err x) h e = h.0

-- what a row tells whose number stands for no type
module _ (r : Row) (none : (t : PodType) → type_number t ≡ r.kind → ⊥) where
  pub no_type_content : (bytes : List ℕ) → row_content bytes r ≡ value r.kind r.word
  no_type_content bytes =
      rw (ne_eqb r.kind 8 (λ e. none Text (sym e)), ne_eqb r.kind 9 (λ e. none Raw (sym e)), ne_eqb r.kind 13 (λ e. none Array (sym e)), ne_eqb r.kind 14 (λ e. none Struct (sym e)), ne_eqb r.kind 15 (λ e. none Object (sym e)), ne_eqb r.kind 17 (λ e. none Pointer (sym e)), ne_eqb r.kind 19 (λ e. none Choice (sym e)))

  pub no_type_elements : (bytes : List ℕ) → row_elements bytes r ≡ []
  no_type_elements bytes = rw (ne_eqb r.kind 13 (λ e. none Array (sym e)), ne_eqb r.kind 19 (λ e. none Choice (sym e)))

  pub no_type_frame : frame_of r ≡ None
  no_type_frame = rw (ne_eqb r.kind 14 (λ e. none Struct (sym e)), ne_eqb r.kind 15 (λ e. none Object (sym e)))
