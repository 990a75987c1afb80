use Rattle.std.proofs.Common.{◌≡◌, ◌<◌, length, sym, ap, ◌∙◌, subst, arith, rules}
use Rattle.format.specs.Places.{row_at}
use Rattle.cue.specs.Rows.{Sound}
use Rattle.cue.proofs.Standing.{sound_row}
use Rattle.cue.proofs.opened.Opened.pod.Goals as goal

pub invariant_of-result : goal.invariant_of-result
invariant_of-result c =
    let o = c.args.self in
    let i = c.args.row in
    let got : c.in_ok-row.row.now ≡ row_at o.rows.now i = search rules in
    let lt : i < length o.rows.now = search rules in
    let is = got ∙ ap (λ rs. row_at rs i) o.stands in
    record { sound = subst (Sound o.bytes.now) (sym is) (sound_row o.bytes.now o.whole i (omega (arith, ap length o.stands))) }
