use Rattle.std.proofs.Common.{ap, ◌∙◌}
use Rattle.settable.specs.Laying.{lay_answer, lay_body}
use Rattle.settable.proofs.Bytes.{laid_reads}
use Rattle.settable.proofs.settable.SettableFixedSizedPod.serialize_body.Goals as goal

pub returns-clause-reads : goal.returns-clause-reads
returns-clause-reads g c =
    let kind = g.Self.CanonicalFixedSizedPod.kind in
    let body = c.args.body.now in
    let word = c.word.result in
    laid_reads kind g.Self.CanonicalFixedSizedPod.means c.args.self word body c.lay_value.result c.lay_value.new.body c.word.ensures.means
    (c.lay_value.ensures.answer ∙ ap (λ k. lay_answer k word body) c.kind.ensures) (c.lay_value.ensures.after ∙ ap (λ k. lay_body k word body) c.kind.ensures)
