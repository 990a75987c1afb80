use Rattle.laying.proofs.Apart.{elements_apart}
use Rattle.laying.proofs.elements_apart.Goals as goal

pub returns : goal.returns
returns c = elements_apart
