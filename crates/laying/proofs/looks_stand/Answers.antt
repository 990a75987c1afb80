use Rattle.laying.proofs.Looks.{looks_stand}
use Rattle.laying.proofs.looks_stand.Goals as goal

pub returns : goal.returns
returns c = looks_stand
