use Rattle.std.proofs.Common.{refl}
use Rattle.utf8.specs.Table37.{formed}
use Rattle.kinds.specs.Kinds.{kind_of}
use Rattle.pods.specs.Choices.{choice_type_of}
use Rattle.pods.specs.Leaves.{leaf_body}
use Rattle.pods.specs.Pods.{items, pod}
use Rattle.format.proofs.lines_hold.Goals as goal

pub returns : goal.returns
unfolding pod items leaf_body kind_of choice_type_of formed
returns c =
    record {
      no_bytes = refl;
      nothing = refl;
      int = refl;
      two_bytes = refl;
      no_zero = refl;
      three = refl;
      empty = refl;
      two_pods = refl;
      two_rows = refl;
      past_it = refl;
      range = refl;
      too_few = refl;
      pointer_length = refl;
      deep = refl;
      too_deep = refl;
      read_only = refl;
      locked = refl;
    }
