-- The order of two values of a kind, by their words. Assumes nothing.
use Rattle.std.specs.Prelude.{ℕ, ◌*◌, ◌/◌, ◌%◌, ◌^◌, Bool, ◌&&◌, from_bits, int_le, nat_le}
use Rattle.std.specs.Float.{binary32, binary64}
use Rattle.std.specs.Float.Ieee.{le}
use Rattle.std.specs.Int.{w32, w64}
use Rattle.std.proofs.Common.{to_z}
use Rattle.kinds.specs.declared.kind.Kind.{Kind}
use Rattle.kinds.specs.declared.kind.Kind.TheVariants.{None, Bool as BoolKind, Id, Int, Long, Float, Double, Rectangle, Fraction, Fd}

-- false before true; an Id unsigned; Int, Long and Fd signed; floats as floats, so that what is not a number is not in
-- order with anything; both sides of a Rectangle; Fractions by their cross products
abbrev pub at_most : Kind → (a b : ℕ) → Bool
at_most None a b = nat_le a b
at_most BoolKind a b = nat_le a b
at_most Id a b = nat_le a b
at_most Int a b = int_le (to_z w32 (a % 2 ^ 32)) (to_z w32 (b % 2 ^ 32))
at_most Long a b = int_le (to_z w64 a) (to_z w64 b)
at_most Float a b = le (from_bits binary32 (a % 2 ^ 32)) (from_bits binary32 (b % 2 ^ 32))
at_most Double a b = le (from_bits binary64 a) (from_bits binary64 b)
at_most Rectangle a b = nat_le (a % 2 ^ 32) (b % 2 ^ 32) && nat_le (a / 2 ^ 32) (b / 2 ^ 32)
at_most Fraction a b = nat_le ((a % 2 ^ 32) * (b / 2 ^ 32)) ((b % 2 ^ 32) * (a / 2 ^ 32))
at_most Fd a b = int_le (to_z w64 a) (to_z w64 b)
