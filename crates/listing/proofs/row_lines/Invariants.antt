use Rattle.listing.proofs.row_lines.Given as goal
use Rattle.std.proofs.Common.{◌≡◌, take, string_bytes}
use Rattle.listing.specs.Listing.{row_lines}

abbrev pub invariant-loop-i : goal.invariant-loop-i
invariant-loop-i l = string_bytes l.all ≡ row_lines 0 (take l.i l.rows)
