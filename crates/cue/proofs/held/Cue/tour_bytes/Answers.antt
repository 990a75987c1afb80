use Rattle.std.proofs.Common.{◌≡◌, Err, rules}
use Rattle.refusals.specs.declared.Why.TheVariants.{Shut}
use Rattle.tours.specs.Lead.{lead}
use Rattle.histories.specs.Cues.{told_of as things_told_of}
use Rattle.histories.specs.Plain.{toured}
use Rattle.cue.specs.Keeps.{held_of, told_of}
use Rattle.cue.proofs.Holding.{toured_bytes}
use Rattle.cue.proofs.Standing.{answered}
use Rattle.cue.proofs.held.Cue.tour_bytes.Goals as goal

pub returns-clause-toured : goal.returns-clause-toured
returns-clause-toured g c =
    let rule = g.V.Visitor.rule in
    let held = g.V.Visitor.held in
    let told : c.map_err.result ≡ told_of c.tour_bytes.result = search rules in
    answered (held_of c.args.self.now) c.in_ok-cue.cue c.in_ok-cue.ensures (λ b. toured (lead rule (held c.args.visitor.now) (things_told_of b))) (c.map_err.result, held c.tour_bytes.new.visitor) (Err Shut, held c.args.visitor.now)
    (toured_bytes rule (held c.args.visitor.now) c.in_ok-cue.cue.bytes.now c.tour_bytes.result c.map_err.result (held c.tour_bytes.new.visitor) c.in_ok-cue.cue.whole c.tour_bytes.ensures.leads told)
