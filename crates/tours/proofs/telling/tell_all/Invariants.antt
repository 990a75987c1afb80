use Rattle.std.proofs.Common.{◌≡◌, List}
use Rattle.std.specs.Iterator.{AlwaysYields}
use Rattle.tours.specs.Told.{Thing, thing}
use Rattle.tours.specs.Lead.{lead}
use Rattle.tours.proofs.Leading.{LeadsTo}
use Rattle.tours.proofs.telling.tell_all.Given as goal

-- what is still to be told leads where all leads
abbrev pub invariant-loop-told : goal.invariant-loop-told
invariant-loop-told g l = record {
  keeps : g.V.Visitor.lent l.to ≡ g.V.Visitor.lent l.initial.to;
  leads : (ts : List Thing) → AlwaysYields g.I.Iterator.next_gives thing l.fn.things ts
      → LeadsTo g.I.Iterator.next_gives g.V.Visitor.rule (lead g.V.Visitor.rule (g.V.Visitor.held l.initial.to) ts) l.count (g.V.Visitor.held l.to) l.told-iterator;
}
