use Rattle.std.proofs.Common.{sym, ◌∙◌}
use Rattle.tours.proofs.RowSteps.{first_of, next_none, next_key, next_pod}
use Rattle.tours.proofs.row_tour.RowTeller.next_row.Goals as goal

pub returns-in_default : goal.returns-in_default
returns-in_default c =
    let none = next_none c.args.self.now c.requires.none c.requires.pending c.in_default.len_below in
    (none, none)

pub returns-then-due : goal.returns-then-due
returns-then-due c =
    let first = first_of _ c.args.self.now.rows.now c.in-len1-up.len_at_least in
    next_key c.args.self.now c.requires.none c.requires.pending _ _ first c.holding.result c.holding.ensures (sym c.if-due.true ∙ c.due.ensures)

pub returns : goal.returns
returns c =
    let first = first_of _ c.args.self.now.rows.now c.in-len1-up.len_at_least in
    rw (c.take.ensures.told, c.take.ensures.rest)
    (next_pod c.args.self.now c.requires.none c.requires.pending _ _ first c.holding.result c.holding.ensures (sym c.if-due.false ∙ c.due.ensures))
