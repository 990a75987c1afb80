use Rattle.std.proofs.Common.{◌≡◌, false, inr, sym, ◌∙◌, rules, tests}
use Rattle.std.specs.Char.{is_ascii_uppercase}
use Rattle.std.specs.List.{list_any}
use Rattle.std.proofs.lemmas.Iterator.{YieldsList-from_slice}
use Rattle.std.proofs.lemmas.Iterator.Search.{any_from_yields_List}
use Rattle.trials.proofs.Digits.{read_back}
use Rattle.trials.proofs.trial.Trial.bytes.Goals as goal

pub returns-in_ok-decode-in_default-2 : goal.returns-in_ok-decode-in_default-2
returns-in_ok-decode-in_default-2 c =
    let digits = c.args.self.digits.now in
    let low : list_any is_ascii_uppercase c.as_bytes.result.now ≡ false =
    sym (any_from_yields_List is_ascii_uppercase _ _ c.any.result c.any.ensures.ran (YieldsList-from_slice c.as_bytes.result.now (cc)) (λ x b q k. search (rules, tests))) ∙ c.if-any.false in
    inr (sym c.as_bytes.ensures.value ∙ read_back c.as_bytes.result.now c.in_ok-decode-in_default-2.field-0.items low c.in_ok-decode-in_default-2.ensures.ok)
