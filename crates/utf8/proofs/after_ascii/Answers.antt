use Rattle.std.proofs.Common.{◌<◌, length, ◌∙◌, arith, length-drop, rules}
use Rattle.std.proofs.lemmas.List.{take_rest}
use Rattle.utf8.proofs.Ascii.{ascii}
use Rattle.utf8.proofs.after_ascii.Goals as goal

pub loop-left-preserved : goal.loop-left-preserved
loop-left-preserved c =
    let left = c.loop-left.left.now in
    let some : 0 < length left = search rules in
    rw (take_rest left 1) (omega (arith, length-drop 1 left), c.loop-left.invariant.1 ∙ ascii left 0 some (search rules))
