use Rattle.std.proofs.Common.{◌≡◌, length}
use Rattle.utf8.specs.Table37.{well_formed}
use Rattle.utf8.proofs.check.Given as goal

abbrev pub invariant-loop-lead : goal.invariant-loop-lead
invariant-loop-lead l = well_formed l.text ≡ well_formed l.left

abbrev pub decreases-loop-lead : goal.decreases-loop-lead
decreases-loop-lead l = length l.left
