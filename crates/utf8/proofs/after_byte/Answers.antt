use Rattle.utf8.proofs.Steps.{missing, takes_one}
use Rattle.utf8.proofs.after_byte.Goals as goal

pub returns-in_err-b : goal.returns-in_err-b
returns-in_err-b c = rw c.from_residual.ensures (missing c.args.text.now _ c.in_err-b.ensures.cases)

pub returns : goal.returns
returns c = takes_one c.args.text.now _ c.in_ok-b.b.now c.in_ok-b.rest c.has.result c.then_some.result c.in_ok-b.ensures.cases.0 c.has.ensures c.then_some.ensures
