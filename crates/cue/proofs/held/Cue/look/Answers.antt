use Rattle.cue.specs.Keeps.{held_of}
use Rattle.cue.proofs.Standing.{looked_at}
use Rattle.cue.proofs.held.Cue.look.Goals as goal

pub returns : goal.returns
returns c =
    looked_at (held_of c.args.self.now) c.in_ok-opened.field-0 c.in_ok-opened.ensures c.args.row c.in_ok-pod.field-0 c.in_ok-pod.ensures c.args.element c.look.result c.look.ensures
