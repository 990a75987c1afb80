use Rattle.std.proofs.Common.{◌≡◌, ◌<◌, ◌-◌, Ok, rules}
use Rattle.std.proofs.lemmas.List.{take_rest}
use Rattle.kinds.specs.Bodies.{body_read}
use Rattle.tours.specs.Told.{thing}
use Rattle.tours.specs.Starts.{elements_left}
use Rattle.tours.proofs.Giving.{progress}
use Rattle.tours.proofs.NextValue.{element_next}
use Rattle.tours.proofs.elements.ElementsIterator.next.Goals as goal

pub returns-clause-steps : goal.returns-clause-steps
returns-clause-steps c =
    let s = c.args.self.now in
    let read : Ok c.in_ok-word.word ≡ body_read s.kind (λ w. w) s.bytes.now = search rules in
    let some : 0 < s.left = search rules in
    let left : c.in_ok-left.left ≡ s.left - 1 = search rules in
    element_next s.bytes.now s.kind s.left some s.there _ _ c.in_ok-word.word _ _ c.size.ensures c.from.ensures read left (take_rest s.bytes.now c.size.result)

pub returns-clause-goes : goal.returns-clause-goes
returns-clause-goes c = progress thing elements_left _ _ _ (returns-clause-steps c)
