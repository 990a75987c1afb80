use Rattle.std.proofs.Common.{◌≡◌, ℕ, ◌<◌, get_or, refl, rules}
use Rattle.std.specs.Option.{option_map}
use Rattle.std.specs.Result.{result_ok}
use Rattle.histories.proofs.Lawful.{life}
use Rattle.cue.proofs.Holding.{newly}
use Rattle.cue.proofs.held.Cue.hold.Goals as goal

pub invariant_of-result : goal.invariant_of-result
invariant_of-result c =
    let same : c.map-standing.result ≡ option_map (λ s. s.rows) (result_ok c.fill.result) = search rules in
    let new = newly c.args.bytes.now c.args.rows.now c.fill.new.rows c.fill.result c.fill.ensures.answer c.fill.ensures.table c.map-standing.result same in
    record { stands = new.stands }

pub returns : goal.returns
returns c =
    let same : c.map-standing.result ≡ option_map (λ s. s.rows) (result_ok c.fill.result) = search rules in
    let new = newly c.args.bytes.now c.args.rows.now c.fill.new.rows c.fill.result c.fill.ensures.answer c.fill.ensures.table c.map-standing.result same in
    let small : (k : ℕ) → get_or c.args.bytes.now k 0 < 256 = search rules in
    record {
      held = new.held;
      lends = (refl, refl);
      life = life c.args.bytes.now c.args.rows.now _ small new.held;
    }
