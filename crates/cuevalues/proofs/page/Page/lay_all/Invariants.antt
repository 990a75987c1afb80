use Rattle.std.proofs.Common.{◌≡◌, ◌++◌, take}
use Rattle.cuevalues.specs.Parts.{said}
use Rattle.cuevalues.specs.Pages.{text_of}
use Rattle.cuevalues.proofs.page.Page.lay_all.Given as goal

abbrev pub invariant-loop-part : goal.invariant-loop-part
invariant-loop-part l = text_of l.self ≡ text_of l.initial.self ++ said (take l.part-index l.parts)
