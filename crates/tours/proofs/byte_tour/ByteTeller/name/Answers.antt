use Rattle.std.proofs.Common.{length, ap, arith, length-drop}
use Rattle.std.proofs.lemmas.List.{take_rest}
use Rattle.tours.proofs.Beginning.{head_in}
use Rattle.tours.proofs.ByteSteps.{key_there, key_step}
use Rattle.tours.proofs.byte_tour.ByteTeller.name.Goals as goal

pub returns-in_err-named : goal.returns-in_err-named
returns-in_err-named c =
    let s = c.args.self.now in
    let there = key_there s.bytes.now s.at s.open s.keyed s.stands c.requires.due in
    absurd (omega (arith, c.in_err-named.ensures, ap length (take_rest s.bytes.now s.at), length-drop s.at s.bytes.now))

pub invariant_of-self : goal.invariant_of-self
invariant_of-self c =
    let s = c.args.self.now in
    let there = key_there s.bytes.now s.at s.open s.keyed s.stands c.requires.due in
    let a = head_in s.bytes.now _ s.at _ _ _ (take_rest s.bytes.now s.at) (omega arith) c.in_ok-named.ensures in
    let step = key_step s.bytes.now s.at s.open s.keyed s.stands c.requires.due c.requires.unnamed _ _ a.first_is a.second_is in
    record { short = s.short; stands = step.0 }

pub returns : goal.returns
returns c =
    let s = c.args.self.now in
    let there = key_there s.bytes.now s.at s.open s.keyed s.stands c.requires.due in
    let a = head_in s.bytes.now _ s.at _ _ _ (take_rest s.bytes.now s.at) (omega arith) c.in_ok-named.ensures in
    let step = key_step s.bytes.now s.at s.open s.keyed s.stands c.requires.due c.requires.unnamed _ _ a.first_is a.second_is in
    rw c.requires.none step.1
