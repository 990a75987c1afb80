use Rattle.std.proofs.Common.{sym, ap}
use Rattle.tours.specs.Told.{pod}
use Rattle.tours.proofs.Types.{no_type_content}
use Rattle.tours.proofs.row_tour.RowTeller.told.Goals as goal

pub returns-in_default : goal.returns-in_default
returns-in_default c = ap (pod c.args.row.place c.args.row.total) (sym (no_type_content c.args.row c.in_default.ensures.0 c.args.self.now.bytes.now))
