use Rattle.std.proofs.Common.{sym, subst}
use Rattle.cue.specs.declared.held.Cue.{Cue}
use Rattle.cue.specs.Keeps.{held_of}
use Rattle.cue.specs.Permits.{CanLay}
use Rattle.cue.proofs.Standing.{can_lay, stands_open}
use Rattle.cue.proofs.held.Cue.set.Goals as goal

pub relaid-requires : goal.relaid-requires
relaid-requires c =
    let cue = c.args.self.now in
    subst (λ (x : Cue). CanLay (held_of x) c.args.row c.args.element c.args.value c.in_ok-word.word) (sym c.replace-cue.ensures.value)
    (can_lay (held_of cue) c.args.party c.args.row c.args.element c.args.value c.in_ok-word.word (stands_open cue) c.in_ok-word.ensures.value c.in_ok-word.ensures.answer)
