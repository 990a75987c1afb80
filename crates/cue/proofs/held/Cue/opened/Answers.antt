use Rattle.std.proofs.Common.{sym}
use Rattle.cue.proofs.held.Cue.opened.Goals as goal

pub invariant_of-result : goal.invariant_of-result
invariant_of-result c =
    let st = c.args.self.now.stands c.in_ok-count.count c.in_ok-count.ensures.ok_part in
    record { whole = st.whole; stands = sym st.same }
