use Rattle.std.proofs.Common.{◌≡◌, Ok, Err, sym, refl, subst, rules}
use Rattle.std.proofs.lemmas.Iterator.Consumers.{YieldsList-from_first}
use Rattle.tours.specs.declared.stop.Stop.TheVariants.{Visitor}
use Rattle.tours.specs.Lead.{lead}
use Rattle.tours.specs.BytesLeft.{to_tell}
use Rattle.tours.specs.Told.{thing}
use Rattle.tours.specs.Tours.{Toured, ended}
use Rattle.tours.proofs.Agree.{ended_ok, ended_err}
use Rattle.tours.proofs.Touring.{tour_opened}
use Rattle.tours.proofs.byte_tour.tour_bytes.Goals as goal

pub returns-clause-leads : goal.returns-clause-leads
returns-clause-leads g c =
    let rule = g.V.Visitor.rule in
    let old = g.V.Visitor.held c.args.visitor.now in
    let new = g.V.Visitor.held c.tell_all.new.to in
    let ts = to_tell c.in_ok-teller.teller in
    let ends = c.in_ok-tell_all.ensures.leads ts (YieldsList-from_first thing to_tell ts refl).runs in
    subst (λ t. Toured t (Ok c.in_ok-tell_all.field-0) new) (sym (tour_opened rule old _ c.in_ok-teller.teller c.in_ok-teller.ensures)) (ended_ok (lead rule old ts) c.in_ok-tell_all.field-0 new ends)

pub returns-in_err-tell_all-clause-leads : goal.returns-in_err-tell_all-clause-leads
returns-in_err-tell_all-clause-leads g c =
    let is : c.from_residual-in_err-tell_all.result ≡ Err (Visitor c.in_err-tell_all.field-0.0) = search rules in
    let rule = g.V.Visitor.rule in
    let old = g.V.Visitor.held c.args.visitor.now in
    let new = g.V.Visitor.held c.tell_all.new.to in
    let ts = to_tell c.in_ok-teller.teller in
    let ends = c.in_err-tell_all.ensures.leads ts (YieldsList-from_first thing to_tell ts refl).runs in
    subst (λ t. Toured t c.from_residual-in_err-tell_all.result new) (sym (tour_opened rule old _ c.in_ok-teller.teller c.in_ok-teller.ensures))
    (subst (λ r. Toured (ended (lead rule old ts)) r new) (sym is) (ended_err (lead rule old ts) c.in_err-tell_all.field-0.0 new ends))
