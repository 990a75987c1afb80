use Rattle.std.proofs.Common.{true, false, sym, ap, ◌∙◌}
use Rattle.std.proofs.lemmas.List.{nil_from_length}
use Rattle.utf8.specs.Table37.{formed, well_formed}
use Rattle.utf8.proofs.Text.{decided}
use Rattle.utf8.proofs.check.Goals as goal

-- nothing is left
pub returns-in_default-clause-text : goal.returns-in_default-clause-text
unfolding formed
returns-in_default-clause-text c =
    decided true c.args.text.now (sym (c.loop-lead.invariant ∙ c.after_ascii.ensures.1 ∙ ap well_formed (nil_from_length c.after_ascii.result.now c.in_default.ensures.cases)))

pub returns-in_default-after_sequence-clause-text : goal.returns-in_default-after_sequence-clause-text
returns-in_default-after_sequence-clause-text c =
    decided false c.args.text.now (sym (c.loop-lead.invariant ∙ c.after_ascii.ensures.1 ∙ ap well_formed c.in-Some.ensures.cases.0 ∙ c.in_default-after_sequence.ensures))
