use Rattle.std.proofs.Common.{◌≡◌, [], Ok, Err, sym, subst, arith, rules}
use Rattle.std.proofs.lemmas.Iterator.Consumers.{YieldsList-from_first}
use Rattle.tours.specs.declared.stop.Stop.TheVariants.{Visitor}
use Rattle.tours.specs.Lead.{lead}
use Rattle.tours.specs.RowsLeft.{to_tell}
use Rattle.tours.specs.RowsTold.{rows_tell}
use Rattle.tours.specs.Told.{thing}
use Rattle.tours.specs.Tours.{Toured, ended}
use Rattle.tours.proofs.Agree.{ended_ok, ended_err, tour_agree}
use Rattle.tours.proofs.RowSteps.{all_left}
use Rattle.tours.proofs.row_tour.tour_rows.Goals as goal

pub returns-clause-leads : goal.returns-clause-leads
returns-clause-leads g c =
    let rule = g.V.Visitor.rule in
    let old = g.V.Visitor.held c.args.visitor.now in
    let new = g.V.Visitor.held c.tell_all.new.to in
    let bytes = c.args.bytes.now in
    let rows = c.args.rows.now in
    let ts = rows_tell bytes [] rows in
    let ends = c.in_ok-tell_all.ensures.leads ts (YieldsList-from_first thing to_tell ts (all_left bytes _ _ rows c.none.ensures c.new.ensures)).runs in
    ended_ok (lead rule old ts) c.in_ok-tell_all.field-0 new ends

pub returns-in_err-tell_all-clause-leads : goal.returns-in_err-tell_all-clause-leads
returns-in_err-tell_all-clause-leads g c =
    let is : c.from_residual.result ≡ Err (Visitor c.in_err-tell_all.field-0.0) = search rules in
    let rule = g.V.Visitor.rule in
    let old = g.V.Visitor.held c.args.visitor.now in
    let new = g.V.Visitor.held c.tell_all.new.to in
    let bytes = c.args.bytes.now in
    let rows = c.args.rows.now in
    let ts = rows_tell bytes [] rows in
    let ends = c.in_err-tell_all.ensures.leads ts (YieldsList-from_first thing to_tell ts (all_left bytes _ _ rows c.none.ensures c.new.ensures)).runs in
    subst (λ r. Toured (ended (lead rule old ts)) r new) (sym is) (ended_err (lead rule old ts) c.in_err-tell_all.field-0.0 new ends)

pub returns-in_err-tell_all-clause-alike : goal.returns-in_err-tell_all-clause-alike
returns-in_err-tell_all-clause-alike g c = λ tree used says same.
    subst (λ x. Toured x c.from_residual.result (g.V.Visitor.held c.tell_all.new.to))
    (tour_agree g.V.Visitor.rule (g.V.Visitor.held c.args.visitor.now) c.args.bytes.now c.args.rows.now (λ i. omega (arith, c.type_inv.bytes i)) tree used says same) (returns-in_err-tell_all-clause-leads g c)

pub returns-clause-alike : goal.returns-clause-alike
returns-clause-alike g c = λ tree used says same.
    subst (λ x. Toured x (Ok c.in_ok-tell_all.field-0) (g.V.Visitor.held c.tell_all.new.to))
    (tour_agree g.V.Visitor.rule (g.V.Visitor.held c.args.visitor.now) c.args.bytes.now c.args.rows.now (λ i. omega (arith, c.type_inv.bytes i)) tree used says same) (returns-clause-leads g c)
