use Rattle.laying.proofs.Forms.{rows_fit}
use Rattle.laying.proofs.rows_fit.Goals as goal

pub returns : goal.returns
returns c = rows_fit
