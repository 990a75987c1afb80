-- The parts of what a `ValueVisitor` makes of told things. Assumes nothing.
use Rattle.std.specs.Prelude.{ℕ, ◌+◌, ◌%◌, max, cond, List, Ok, Err, Result, ◌==◌, nat_lt, slice_set}
use Rattle.pods.specs.declared.rows.Row.{Row}
use Rattle.tours.specs.declared.value_visitor.Unkept.{Unkept}
use Rattle.tours.specs.declared.value_visitor.Unkept.TheVariants.{TableFull, NothingOpen}
use Rattle.tours.specs.declared.value_visitor.ValueVisitor.{ValueVisitor}
use Rattle.tours.specs.Lead.{Answer, holds, refuses}
use Rattle.tours.specs.Table.{Table, holder, room}

-- what it holds, the rows by the table that is lent to it
abbrev pub table_of : ValueVisitor → Table
table_of v = record { rows = v.rows.now; len = v.len; within = v.within; key = v.key; flags = v.flags }

-- the number with which it refuses
abbrev pub unkept : Unkept → ℕ
unkept TableFull = 1
unkept NothingOpen = 2

abbrev pub numbered : Result Unit Unkept → Result Unit ℕ
numbered (Ok _) = Ok tt
numbered (Err why) = Err (unkept why)

-- a table of which no row stands yet
abbrev pub empty : List Row → Table
empty rows = record { rows = rows; len = 0; within = 0; key = 0; flags = 0 }

-- a pod's row with what comes from its property and from what holds it
abbrev pub dressed : Table → Row → Row
dressed t r =
    record { place = r.place; total = r.total; kind = r.kind; child = r.child; parent = t.within; key = t.key; flags = t.flags; locked = max (holder t).locked (t.flags % 2); count = r.count; side = r.side; bits = r.bits; word = r.word }

-- one row more, where there is room, and then within row `within`
abbrev pub placed : Table → Row → (within : ℕ) → Answer Table
placed t r within =
    cond (nat_lt t.len (room t))
    (holds record { rows = slice_set t.rows t.len (dressed t r); len = t.len + 1; within = within; key = 0; flags = 0 })
    (refuses 1)

-- back to the container's own
abbrev pub left : Table → Answer Table
left t =
    cond (t.within == 0) (refuses 2)
    (holds record { rows = t.rows; len = t.len; within = (holder t).parent; key = t.key; flags = t.flags })
