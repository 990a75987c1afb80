use Rattle.std.proofs.Common.{◌≡◌, ◌-◌, ◌≤◌, List, ◌++◌, length, replicate}
use Rattle.utf8.specs.Table37.{Span, tail, formed}
use Rattle.utf8.proofs.after_tails.Given as goal

abbrev pub invariant-loop : goal.invariant-loop
invariant-loop l =
    (length l.rest ≤ length l.text)
    × ((others : List Span) → formed l.text (replicate l.count tail ++ others) ≡ formed l.rest (replicate (l.count - l.counter) tail ++ others))
