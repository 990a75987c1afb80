use Rattle.std.proofs.Common.{sym, ◌∙◌}
use Rattle.tours.proofs.Types.{no_type_found, no_type_frame}
use Rattle.tours.proofs.row_tour.frame.Goals as goal

pub returns-in_err-ok : goal.returns-in_err-ok
returns-in_err-ok c = c.from_residual.ensures ∙ sym (no_type_frame c.args.row (no_type_found c.args.row.kind c.try_from.result c.try_from.ensures c.in_err-ok.ensures.value))
