use Rattle.std.proofs.Common.{sym, ◌∙◌}
use Rattle.tours.proofs.Types.{no_type_elements}
use Rattle.tours.proofs.row_tour.RowTeller.elements.Goals as goal

pub returns-in_default : goal.returns-in_default
returns-in_default c = c.none.ensures ∙ sym (no_type_elements c.args.row c.in_default.ensures.0 c.args.self.now.bytes.now)
