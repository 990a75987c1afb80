use Rattle.cuevalues.proofs.page.Page.+bits.Given as goal

abbrev pub decreases-bits : goal.decreases-bits
decreases-bits l = l.count
