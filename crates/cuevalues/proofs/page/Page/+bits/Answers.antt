use Rattle.std.proofs.Common.{◌-◌, ◌/◌, ◌<◌, [], length, sym, ap, arith, append-nil, length-append}
use Rattle.std.proofs.lemmas.Grind.{common_steps}
use Rattle.cuevalues.specs.Parts.{bits_of}
use Rattle.cuevalues.specs.Pages.{text_of}
use Rattle.cuevalues.proofs.Laying.{laid_short, bits_step}
use Rattle.cuevalues.proofs.page.Page.+bits.Goals as goal

pub returns-in_err-bits : goal.returns-in_err-bits
returns-in_err-bits t c =
    let some : 0 < c.args.count = omega arith in
    let old = text_of c.args.self.now in
    laid_short old [] (bits_of (c.args.count - 1) (c.args.n / 16)) (bits_of c.args.count c.args.n) old c.in_err-bits.field-0.0 c.from_residual.result (text_of c.bits.new.self)
    c.from_residual.ensures.0 (omega (arith, simp length-append at (ap length (bits_step c.args.count c.args.n some)))) (sym (append-nil old)) c.in_err-bits.ensures

pub returns : goal.returns
returns t c =
    let some : 0 < c.args.count = omega arith in
    rw (bits_step c.args.count c.args.n some) (grind (arith, common_steps))
