use Rattle.format.proofs.Reading.{rest_is_free}
use Rattle.format.proofs.rest_is_free.Goals as goal

pub returns : goal.returns
returns c = rest_is_free
