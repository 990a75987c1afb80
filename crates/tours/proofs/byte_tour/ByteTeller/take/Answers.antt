use Rattle.std.proofs.Common.{◌+◌, ◌-◌, refl, ap, ◌∙◌, arith}
use Rattle.tours.specs.Stack.{charged, pushed}
use Rattle.tours.proofs.ByteSteps.{due_there, due_starts, start_within, start_opening, on_step, values_step, into_step}
use Rattle.tours.proofs.byte_tour.ByteTeller.take.Goals as goal

pub start_at-requires-clause-within : goal.start_at-requires-clause-within
start_at-requires-clause-within c =
    let s = c.args.self.now in
    omega (arith, c.past-place.ensures, due_there s.bytes.now s.at s.open s.keyed c.args.holds s.stands c.requires.due)

pub returns-in_err-start : goal.returns-in_err-start
returns-in_err-start c =
    let s = c.args.self.now in
    absurd (due_starts s.bytes.now s.at s.open s.keyed c.args.holds s.stands c.requires.due _ c.past-place.ensures c.in_err-start.ensures)

pub past-requires : goal.past-requires
past-requires c =
    let s = c.args.self.now in
    omega (arith, start_within s.bytes.now s.at s.open s.keyed c.args.holds s.stands c.requires.due _ c.past-place.ensures c.in_ok-start.start c.in_ok-start.ensures, s.short)

pub overflow_add-self : goal.overflow_add-self
overflow_add-self c =
    let s = c.args.self.now in
    omega (arith, start_within s.bytes.now s.at s.open s.keyed c.args.holds s.stands c.requires.due _ c.past-place.ensures c.in_ok-start.start c.in_ok-start.ensures, s.short)

pub overflow_add-self-in-Values : goal.overflow_add-self-in-Values
overflow_add-self-in-Values c =
    let s = c.args.self.now in
    omega (arith, start_within s.bytes.now s.at s.open s.keyed c.args.holds s.stands c.requires.due _ c.past-place.ensures c.in_ok-start.start c.in_ok-start.ensures, s.short)

pub overflow_sub-start : goal.overflow_sub-start
overflow_sub-start c =
    let s = c.args.self.now in
    omega (arith, c.past-opening.ensures, start_opening s.bytes.now s.at s.open s.keyed c.args.holds s.stands c.requires.due _ c.past-place.ensures c.in_ok-start.start c.in_ok-start.ensures c.in-Into.inside c.in-Into.is)

pub overflow_add-self-in-Into : goal.overflow_add-self-in-Into
overflow_add-self-in-Into c =
    let s = c.args.self.now in
    omega (arith, c.past-opening.ensures, start_opening s.bytes.now s.at s.open s.keyed c.args.holds s.stands c.requires.due _ c.past-place.ensures c.in_ok-start.start c.in_ok-start.ensures c.in-Into.inside c.in-Into.is, start_within s.bytes.now s.at s.open s.keyed c.args.holds s.stands c.requires.due _ c.past-place.ensures c.in_ok-start.start c.in_ok-start.ensures, s.short)

pub invariant_of-self : goal.invariant_of-self
invariant_of-self c =
    let s = c.args.self.now in
    let step = on_step s.bytes.now s.at s.open s.keyed c.args.holds s.stands c.requires.due _ c.past-place.ensures c.in_ok-start.start c.in_ok-start.ensures _ _ (c.charge.ensures ∙ ap (λ n. charged n s.open) c.past.ensures) refl c.in-On.is in
    record { short = s.short; stands = step.stays }

pub returns-in-On : goal.returns-in-On
returns-in-On c =
    let s = c.args.self.now in
    let step = on_step s.bytes.now s.at s.open s.keyed c.args.holds s.stands c.requires.due _ c.past-place.ensures c.in_ok-start.start c.in_ok-start.ensures _ _ (c.charge.ensures ∙ ap (λ n. charged n s.open) c.past.ensures) refl c.in-On.is in
    rw c.requires.none step.next

pub invariant_of-self-in-Values : goal.invariant_of-self-in-Values
invariant_of-self-in-Values c =
    let s = c.args.self.now in
    let step = values_step s.bytes.now s.at s.open s.keyed c.args.holds s.stands c.requires.due _ c.past-place.ensures c.in_ok-start.start c.in_ok-start.ensures _ _ (c.charge.ensures ∙ ap (λ n. charged n s.open) c.past.ensures) refl _ c.in-Values.is in
    record { short = s.short; stands = step.stays }

pub returns-in-Values : goal.returns-in-Values
returns-in-Values c =
    let s = c.args.self.now in
    let step = values_step s.bytes.now s.at s.open s.keyed c.args.holds s.stands c.requires.due _ c.past-place.ensures c.in_ok-start.start c.in_ok-start.ensures _ _ (c.charge.ensures ∙ ap (λ n. charged n s.open) c.past.ensures) refl _ c.in-Values.is in
    rw c.requires.none step.next

pub invariant_of-self-in-Into : goal.invariant_of-self-in-Into
invariant_of-self-in-Into c =
    let s = c.args.self.now in
    let step = into_step s.bytes.now s.at s.open s.keyed c.args.holds s.stands c.requires.due _ c.past-place.ensures c.in_ok-start.start c.in_ok-start.ensures _ _ _ (c.charge.ensures ∙ ap (λ n. charged n s.open) c.past.ensures) c.in-Into.inside c.in-Into.is
    (c.push.ensures ∙ ap (λ n. pushed record { holds = c.in-Into.inside; remaining = c.in_ok-start.start.total - n } c.charge.new.self) c.past-opening.ensures)
    (ap (λ n. c.past-place.result + n) c.past-opening.ensures) in
    record { short = s.short; stands = step.stays }

pub returns-in-Into : goal.returns-in-Into
returns-in-Into c =
    let s = c.args.self.now in
    let step = into_step s.bytes.now s.at s.open s.keyed c.args.holds s.stands c.requires.due _ c.past-place.ensures c.in_ok-start.start c.in_ok-start.ensures _ _ _ (c.charge.ensures ∙ ap (λ n. charged n s.open) c.past.ensures) c.in-Into.inside c.in-Into.is
    (c.push.ensures ∙ ap (λ n. pushed record { holds = c.in-Into.inside; remaining = c.in_ok-start.start.total - n } c.charge.new.self) c.past-opening.ensures)
    (ap (λ n. c.past-place.result + n) c.past-opening.ensures) in
    rw c.requires.none step.next
