use Rattle.std.proofs.Common.{ap, ◌∙◌, arith, rules}
use Rattle.tours.specs.Stack.{pushed}
use Rattle.tours.proofs.Stacks.{push_at}
use Rattle.tours.proofs.open.Open.push.Goals as goal

pub returns-then-self-lt32 : goal.returns-then-self-lt32
returns-then-self-lt32 c =
    push_at c.self.inside.frames c.self.inside.len _ (omega arith) (search rules) ∙ ap (pushed c.args.frame) c.self.view_is
