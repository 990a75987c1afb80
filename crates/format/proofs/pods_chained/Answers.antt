use Rattle.format.proofs.Chains.{pods_chained}
use Rattle.format.proofs.pods_chained.Goals as goal

pub returns : goal.returns
returns c = pods_chained
