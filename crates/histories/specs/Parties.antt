-- The parties, whose a row is, and what a party may set. Assumes nothing.
use Rattle.std.specs.Prelude.{ℕ, Bool, true, cond, not, ◌||◌, ◌==◌}
use Rattle.pods.specs.declared.rows.Row.{Row}

abbrev pub rigging : ℕ
rigging = 1

abbrev pub stage_management : ℕ
stage_management = 2

abbrev pub known : (party : ℕ) → Bool
known party = party == rigging || party == stage_management

-- a row is rigging's alone where it is locked: its property, or one that encloses it, is read-only
abbrev pub read_only : Row → Bool
read_only r = r.locked == 1

-- stage management may set what is not read-only
abbrev pub may_set : (party : ℕ) → Row → Bool
may_set party r = cond (party == stage_management) (not (read_only r)) true
