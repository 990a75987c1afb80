use Rattle.std.proofs.Common.{◌<◌, length, get_or, take, rules}
use Rattle.std.proofs.lemmas.List.Folds.{length-flat_map-take}
use Rattle.cuevalues.specs.Parts.{said, said_part}
use Rattle.cuevalues.specs.Pages.{text_of}
use Rattle.cuevalues.proofs.Laying.{laid_short}
use Rattle.cuevalues.proofs.page.Page.lay_all.Goals as goal

pub returns-in_err-lay : goal.returns-in_err-lay
returns-in_err-lay c =
    let parts = c.args.parts.now in
    let i = c.loop-part.part-index in
    let inside : i < length parts = search rules in
    laid_short (text_of c.args.self.now) (said (take i parts)) (said_part (get_or parts i _)) (said parts) (text_of c.loop-part.self) c.in_err-lay.field-0.0 c.from_residual.result (text_of c.lay.new.self)
    c.from_residual.ensures.0 (length-flat_map-take said_part parts i _ inside) c.loop-part.invariant c.in_err-lay.ensures
