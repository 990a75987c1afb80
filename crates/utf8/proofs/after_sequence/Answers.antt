use Rattle.std.proofs.Common.{◌-◌, [], ◌++◌, Some, replicate, sym, ap, ◌∙◌, arith}
use Rattle.utf8.specs.Table37.{tail}
use Rattle.utf8.proofs.Steps.{leads_more, leads_alone, leads_not, weaker}
use Rattle.utf8.proofs.after_sequence.Goals as goal

pub returns-in_err-count : goal.returns-in_err-count
returns-in_err-count c = rw c.from_residual.ensures (leads_not c.args.lead c.args.rest.now (sym c.in_err-count.ensures))

pub returns-in-0 : goal.returns-in-0
returns-in-0 c = (omega arith, leads_alone c.args.lead c.args.rest.now (sym c.in_ok-count.ensures ∙ ap Some c.in-0.is))

pub returns-in_err-after_byte-in_default : goal.returns-in_err-after_byte-in_default
returns-in_err-after_byte-in_default c =
    let lead = leads_more c.args.lead c.args.rest.now c.in_ok-count.count c.second.result.low c.second.result.high (sym c.in_ok-count.ensures) c.second.ensures (omega arith) in
    rw c.from_residual-in_err-after_byte-in_default.ensures (lead ∙ c.in_err-after_byte-in_default.ensures (replicate (c.in_ok-count.count - 1) tail ++ []))

pub returns-in_ok-after_byte-in_default : goal.returns-in_ok-after_byte-in_default
returns-in_ok-after_byte-in_default c =
    let lead = leads_more c.args.lead c.args.rest.now c.in_ok-count.count c.second.result.low c.second.result.high (sym c.in_ok-count.ensures) c.second.ensures (omega arith) in
    let first = c.in_ok-after_byte-in_default.ensures in
    let start = lead ∙ first.1 (replicate (c.in_ok-count.count - 1) tail ++ []) in
    weaker c.after_tails.result c.after_tails.ensures (λ no. start ∙ no []) (λ left yes. (omega (arith, first.0, yes.0), start ∙ yes.1 []))
