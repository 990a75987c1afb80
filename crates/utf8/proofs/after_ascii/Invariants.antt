use Rattle.std.proofs.Common.{◌≡◌, ◌≤◌, length}
use Rattle.utf8.specs.Table37.{well_formed}
use Rattle.utf8.proofs.after_ascii.Given as goal

abbrev pub invariant-loop-rest : goal.invariant-loop-rest
invariant-loop-rest l = (length l.left ≤ length l.text) × (well_formed l.text ≡ well_formed l.left)

abbrev pub decreases-loop-rest : goal.decreases-loop-rest
decreases-loop-rest l = length l.left

abbrev pub invariant-loop-left : goal.invariant-loop-left
invariant-loop-left l = (length l.left ≤ length l.text) × (well_formed l.text ≡ well_formed l.left)

abbrev pub decreases-loop-left : goal.decreases-loop-left
decreases-loop-left l = length l.left
