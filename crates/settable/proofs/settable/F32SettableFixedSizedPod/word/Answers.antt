use Rattle.std.proofs.Common.{T, refl, rules}
use lib.Ieee.{binary32, fits}
use Rattle.settable.proofs.Floats.{meant}
use Rattle.settable.proofs.settable.F32SettableFixedSizedPod.word.Goals as goal

pub returns-clause-means : goal.returns-clause-means
returns-clause-means c =
    let fit : T (fits binary32 c.args.self) = search rules in
    let m = meant binary32 c.args.self c.from.result fit c.from.ensures in
    (m.0, refl, m.1)
