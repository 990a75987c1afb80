use Rattle.std.proofs.Common.{rules}
use Rattle.tours.proofs.Touring.{first_short, first_stands, first_told}
use Rattle.tours.proofs.byte_tour.ByteTeller.new.Goals as goal

pub invariant_of-result : goal.invariant_of-result
invariant_of-result c = record { short = search (rules, first_short); stands = search (rules, first_stands) }

pub returns : goal.returns
returns c = search (rules, first_told)
