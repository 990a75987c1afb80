-- The types of pods and their numbers. Assumes nothing.
use Rattle.std.specs.Prelude.{◌≡◌, ◌≢◌, ℕ, Result, MatchResult}
use Rattle.refusals.specs.declared.Why.{Why}
use Rattle.refusals.specs.declared.Why.TheVariants.{UnknownType}
use Rattle.kinds.specs.Kinds.{type_of}
use Rattle.pods.specs.declared.types.PodType.{PodType}
use Rattle.pods.specs.declared.types.PodType.TheVariants.{Fixed, Text, Raw, Array, Struct, Object, Pointer, Choice}

-- the number that stands for a type in a header
abbrev pub type_number : PodType → ℕ
type_number (Fixed k) = type_of k
type_number Text = 8
type_number Raw = 9
type_number Array = 13
type_number Struct = 14
type_number Object = 15
type_number Pointer = 17
type_number Choice = 19

-- the type that a number stands for, or the refusal of a number that stands for none
abbrev pub IsTypeOf : ℕ → Result PodType Why → Type 0
IsTypeOf n r = MatchResult r (λ t. type_number t ≡ n) (λ e. ((t : PodType) → type_number t ≢ n) × (e ≡ UnknownType))
