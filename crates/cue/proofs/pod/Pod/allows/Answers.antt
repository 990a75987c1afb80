use Rattle.std.proofs.Common.{◌≡◌, rules}
use Rattle.cue.proofs.Reading.{limits}
use Rattle.cue.proofs.pod.Pod.allows.Goals as goal

pub between-requires : goal.between-requires
between-requires c =
    let pod = c.args.self in
    let choice : pod.row.kind ≡ 19 = search rules in
    limits pod.bytes.now pod.row c.in-Ok.choice pod.sound choice c.in-Ok.ensures c.in-Range.is
