-- One value of any settable kind: its kind and its word. Assumes nothing.
use Rattle.std.specs.Prelude.{ℕ, ◌+◌, ◌*◌, ◌^◌, cond, Some, None as no_word, Option, is_nan, to_bits}
use Rattle.std.specs.Float.{binary32, binary64}
use Rattle.std.specs.Int.{w32, w64}
use Rattle.std.proofs.Common.{of_z}
use Rattle.kinds.specs.declared.kind.Kind.{Kind}
use Rattle.kinds.specs.declared.kind.Kind.TheVariants as kind
use Rattle.settable.specs.declared.value.Value.{Value}
use Rattle.settable.specs.declared.value.Value.TheVariants.{Bool, Id, Int, Long, Float, Double, Rectangle, Fraction, Fd}

abbrev pub value_kind : Value → Kind
value_kind (Bool v) = kind.Bool
value_kind (Id v) = kind.Id
value_kind (Int v) = kind.Int
value_kind (Long v) = kind.Long
value_kind (Float v) = kind.Float
value_kind (Double v) = kind.Double
value_kind (Rectangle v) = kind.Rectangle
value_kind (Fraction v) = kind.Fraction
value_kind (Fd v) = kind.Fd

-- the word that means the value, or none where it is not a number
abbrev pub value_word : Value → Option ℕ
value_word (Bool v) = Some (cond v 1 0)
value_word (Id v) = Some v.0
value_word (Int v) = Some (of_z w32 v)
value_word (Long v) = Some (of_z w64 v)
value_word (Float v) = cond (is_nan v) no_word (Some (to_bits binary32 v))
value_word (Double v) = cond (is_nan v) no_word (Some (to_bits binary64 v))
value_word (Rectangle v) = Some (v.width + v.height * 2 ^ 32)
value_word (Fraction v) = Some (v.num + v.denom * 2 ^ 32)
value_word (Fd v) = Some (of_z w64 v.0)
