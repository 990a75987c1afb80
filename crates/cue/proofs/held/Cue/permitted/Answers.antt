use Rattle.cue.specs.Keeps.{held_of}
use Rattle.cue.proofs.Standing.{checked_at}
use Rattle.cue.proofs.held.Cue.permitted.Goals as goal

pub returns-clause-answer : goal.returns-clause-answer
returns-clause-answer c =
    checked_at (held_of c.args.self.now) c.in_ok-cue.cue c.in_ok-cue.ensures c.args.row c.in_ok-pod.field-0 c.in_ok-pod.ensures
    c.args.party c.in_ok-party.party c.args.element c.args.value c.checked.result c.in_ok-party.ensures c.checked.ensures
