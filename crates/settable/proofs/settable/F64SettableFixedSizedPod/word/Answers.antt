use Rattle.std.proofs.Common.{T, refl, rules}
use lib.Ieee.{binary64, fits, to_bits}
use Rattle.settable.proofs.Floats.{meant}
use Rattle.settable.proofs.settable.F64SettableFixedSizedPod.word.Goals as goal

pub returns-clause-means : goal.returns-clause-means
returns-clause-means c =
    let fit : T (fits binary64 c.args.self) = search rules in
    let m = meant binary64 c.args.self (to_bits binary64 c.args.self) fit refl in
    (m.0, refl, m.1)
