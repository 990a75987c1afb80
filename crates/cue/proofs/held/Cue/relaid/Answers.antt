use Rattle.std.proofs.Common.{arith}
use Rattle.settable.specs.Values.{value_kind}
use Rattle.cue.proofs.Standing.{count_of, stands_open, sound_here, lay_within, still}
use Rattle.cue.proofs.held.Cue.relaid.Goals as goal

pub invariant_of-pod : goal.invariant_of-pod
invariant_of-pod c =
    let cue = c.args.self in
    record { sound = sound_here cue.bytes.now cue.rows.now _ (stands_open cue c.requires.opened) c.args.row c.requires.there }

pub lay_at-requires : goal.lay_at-requires
lay_at-requires c =
    let cue = c.args.self in
    let can = c.requires in
    omega (arith, c.element_place-at.ensures, lay_within cue.bytes.now cue.rows.now _ (stands_open cue can.opened) c.args.row can.there c.args.element (value_kind c.args.value) c.args.word can.settable can.fits)

pub invariant_of-result : goal.invariant_of-result
invariant_of-result c =
    let cue = c.args.self in
    let can = c.requires in
    record {
      stands = λ n is.
          still cue.bytes.now cue.rows.now n (cue.stands n is) c.args.row (omega (arith, can.there, count_of cue.standing n is)) c.args.element (value_kind c.args.value) c.args.word can.settable can.fits
          c.lay_at.new.bytes c.reworded.result c.element_place-at.result c.element_place-at.ensures (c.lay_at.ensures c.args.word can.word) c.reworded.ensures;
    }
