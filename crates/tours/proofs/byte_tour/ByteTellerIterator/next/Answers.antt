use Rattle.std.proofs.Common.{sym, ◌∙◌}
use Rattle.tours.specs.BytesLeft.{to_tell}
use Rattle.tours.specs.Told.{thing}
use Rattle.tours.proofs.Giving.{progress}
use Rattle.tours.proofs.ByteSteps.{close_step, due_inner, due_name}
use Rattle.tours.proofs.byte_tour.ByteTellerIterator.next.Goals as goal

pub invariant_of-self-then-frame-eq0 : goal.invariant_of-self-then-frame-eq0
invariant_of-self-then-frame-eq0 c =
    let s = c.args.self.now in
    let step = close_step s.bytes.now s.at s.open s.keyed s.stands c.in-Some-innermost.frame c.in-Some-innermost.ensures _ c.if-frame-eq0.true c.pop.ensures in
    record { short = s.short; stands = step.0 }

pub returns-then-frame-eq0-clause-steps : goal.returns-then-frame-eq0-clause-steps
returns-then-frame-eq0-clause-steps c =
    let s = c.args.self.now in
    let none = c.in_default.ensures.steps in
    let step = close_step s.bytes.now s.at s.open s.keyed s.stands c.in-Some-innermost.frame c.in-Some-innermost.ensures _ c.if-frame-eq0.true c.pop.ensures in
    rw (none.0, none.1) step.1

pub returns-then-frame-eq0-clause-goes : goal.returns-then-frame-eq0-clause-goes
returns-then-frame-eq0-clause-goes c = progress thing to_tell _ _ _ (returns-then-frame-eq0-clause-steps c)

pub name-requires-clause-due : goal.name-requires-clause-due
name-requires-clause-due c =
    let s = c.args.self.now in
    due_name s.bytes.now s.at s.open s.keyed s.stands c.in-Some-innermost.frame c.in-Some-innermost.ensures c.if-frame-eq0.false (sym c.if-due.true ∙ c.due.ensures)

pub take-requires-2-clause-due : goal.take-requires-2-clause-due
take-requires-2-clause-due c =
    let s = c.args.self.now in
    due_inner s.bytes.now s.at s.open s.keyed s.stands c.in-Some-innermost.frame c.in-Some-innermost.ensures c.if-frame-eq0.false (sym c.if-due.false ∙ c.due.ensures)
