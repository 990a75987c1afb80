use Rattle.laying.proofs.Kept.{laying_keeps}
use Rattle.laying.proofs.laying_keeps.Goals as goal

pub returns : goal.returns
returns c = laying_keeps
