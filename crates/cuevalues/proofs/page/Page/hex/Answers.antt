use Rattle.std.proofs.Common.{◌<◌, length, get_or, take, rules}
use Rattle.std.proofs.lemmas.List.Folds.{length-flat_map-take}
use Rattle.cuevalues.specs.Hex.{digits_at, digits_of}
use Rattle.cuevalues.specs.Pages.{text_of}
use Rattle.cuevalues.proofs.Laying.{laid_short}
use Rattle.cuevalues.proofs.page.Page.hex.Goals as goal

pub returns-in_err-words : goal.returns-in_err-words
returns-in_err-words c =
    let bytes = c.args.bytes.now in
    let i = c.loop-byte.byte-index in
    let inside : i < length bytes = search rules in
    laid_short (text_of c.args.self.now) (digits_of (take i bytes)) (digits_at (get_or bytes i 0)) (digits_of bytes) (text_of c.loop-byte.self) c.in_err-words.field-0.0 c.from_residual.result (text_of c.words.new.self)
    c.from_residual.ensures.0 (length-flat_map-take digits_at bytes i 0 inside) c.loop-byte.invariant c.in_err-words.ensures
