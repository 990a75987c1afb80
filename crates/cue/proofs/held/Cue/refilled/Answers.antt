use Rattle.std.specs.Option.{is_some, unwrap_or}
use Rattle.cue.proofs.Holding.{refilled}
use Rattle.cue.proofs.Standing.{stands_open}
use Rattle.cue.proofs.held.Cue.refilled.Goals as goal

pub invariant_of-result : goal.invariant_of-result
invariant_of-result c =
    let cue = c.args.self in
    record { stands = λ n is. (refilled cue.bytes.now cue.rows.now c.fill.new.rows n c.fill.result (cue.stands n is) c.fill.ensures.answer c.fill.ensures.table).stands }

pub returns-clause-was : goal.returns-clause-was
returns-clause-was c =
    let cue = c.args.self in
    let r = refilled cue.bytes.now cue.rows.now c.fill.new.rows _ c.fill.result (stands_open cue c.requires) c.fill.ensures.answer c.fill.ensures.table in
    λ j. record { bytes = cue.bytes.now; rows = r.rows j; count = unwrap_or cue.standing 0; opened = is_some cue.standing }
