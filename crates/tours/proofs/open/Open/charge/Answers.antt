use Rattle.std.proofs.Common.{ap, ◌∙◌, arith, rules}
use Rattle.tours.specs.Stack.{charged}
use Rattle.tours.proofs.Stacks.{charge_at}
use Rattle.tours.proofs.open.Open.charge.Goals as goal

pub returns-then-self-gt0 : goal.returns-then-self-gt0
returns-then-self-gt0 c =
    charge_at c.self.inside.frames c.self.inside.len c.args.n _ (omega arith) (search rules) (search rules) ∙ ap (charged c.args.n) c.self.view_is
