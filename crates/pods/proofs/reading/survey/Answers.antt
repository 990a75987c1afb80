use Rattle.std.proofs.Common.{length, sym, ◌∙◌}
use Rattle.pods.specs.Pods.{pod}
use Rattle.pods.proofs.Sizes.{pod_sized}
use Rattle.pods.proofs.Starts.{within}
use Rattle.pods.proofs.Counted.{counted}
use Rattle.pods.proofs.reading.survey.Goals as goal

pub returns : goal.returns
returns c =
    record {
      answer = rw (sym c.too_long.ensures ∙ c.if-too_long.false) (c.pod.ensures ∙ sym (counted (pod 32 1 0 c.args.bytes.now)));
      within = within (length c.args.bytes.now) c.pod.result (pod 32 1 0 c.args.bytes.now) (pod_sized 32 1 0 c.args.bytes.now) c.pod.ensures;
    }
