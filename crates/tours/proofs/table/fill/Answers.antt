use Rattle.std.proofs.Common.{subst, rules}
use Rattle.tours.specs.Rowed.{table_of}
use Rattle.tours.specs.Table.{Table, fills}
use Rattle.tours.specs.Told.{told_by}
use Rattle.tours.specs.Tours.{Toured, tour}
use Rattle.tours.proofs.Touring.{fills_table}
use Rattle.tours.proofs.table.fill.Goals as goal

pub returns : goal.returns
returns c =
    let toured = subst (λ (s : Table). Toured (tour fills s (told_by c.args.bytes.now)) c.tour_bytes.result (table_of c.tour_bytes.new.visitor)) c.new-visitor.ensures.holds c.tour_bytes.ensures.leads in
    let f = fills_table c.args.bytes.now c.args.rows.now _ c.in_ok-found.found c.tour_bytes.result (table_of c.tour_bytes.new.visitor) c.in_ok-found.ensures toured (search rules) in
    record { answer = f.0; table = f.1 }
