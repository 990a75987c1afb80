use Rattle.std.proofs.Common.{refl}
use Rattle.utf8.specs.Table37.{formed}
use Rattle.kinds.specs.Kinds.{kind_of}
use Rattle.pods.specs.Choices.{choice_type_of}
use Rattle.pods.specs.Leaves.{leaf_body}
use Rattle.pods.specs.Pods.{items, pod}
use Rattle.laying.proofs.lines_laid.Goals as goal

pub returns : goal.returns
unfolding pod items leaf_body kind_of choice_type_of formed
returns c = record { letter = refl; maximum = refl; default = refl; second = refl; property = refl; eight = refl; truth = refl }
