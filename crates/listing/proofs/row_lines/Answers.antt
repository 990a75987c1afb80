use Rattle.std.proofs.Common.{◌<◌, length, rules}
use Rattle.listing.proofs.Lines.{line_more}
use Rattle.listing.proofs.row_lines.Goals as goal

pub loop-i-preserved : goal.loop-i-preserved
loop-i-preserved c =
    let inside : c.loop-i.i < length c.args.rows.now = search rules in
    rw (line_more c.args.rows.now c.loop-i.i _ _ inside c.in_ok-line.ensures, ← c.loop-i.invariant) (search rules)
