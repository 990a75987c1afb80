use Rattle.std.proofs.Common.{◌≡◌, pred, ◌-◌, ◌==◌, ◌∙◌, refl, arith, rules}
use Rattle.std.proofs.lemmas.Iterator.{YieldsList-from_range}
use Rattle.std.proofs.lemmas.Iterator.Search.{any_from_yields_List}
use Rattle.laying.specs.Elements.{look}
use Rattle.cue.proofs.Reading.{among_found}
use Rattle.cue.proofs.pod.Pod.among.Goals as goal

pub returns : goal.returns
returns c =
    let word = look c.args.self.bytes.now c.args.self.row in
    let few : c.args.self.row.count - 1 ≡ pred c.args.self.row.count = omega arith in
    any_from_yields_List (λ i. word i == c.args.word) _ _ c.any.result c.any.ensures.ran (YieldsList-from_range 1 c.args.self.row.count (pred c.args.self.row.count) refl few) (λ x b q h. search rules)
    ∙ among_found (pred c.args.self.row.count) c.args.word word
