use Rattle.std.proofs.Common.{◌≡◌, Err, rules, subst, sym}
use Rattle.tours.specs.Lead.{lead, Ends}
use Rattle.tours.proofs.Leading.{leads_on, leads_back, leads_end}
use Rattle.tours.proofs.telling.tell_all.Goals as goal

pub returns-in_err-count-clause-leads : goal.returns-in_err-count-clause-leads
returns-in_err-count-clause-leads g c = λ ts gives.
    let all = lead g.V.Visitor.rule (g.V.Visitor.held c.args.to.now) ts in
    let is : c.from_residual.result ≡ Err c.in_err-count.field-0.0 = search rules in
    subst (λ r. Ends all r (g.V.Visitor.held c.tell.new.to)) (sym is)
    (leads_back g.I.Iterator.next_gives g.V.Visitor.rule all _ _ c.loop-told.told-iterator (c.loop-told.invariant.leads ts gives) c.next.new.self c.in-Some.told _ _ c.in-Some.ensures.steps c.in_err-count.ensures.leads)

pub loop-told-preserved : goal.loop-told-preserved
loop-told-preserved g c = record {
  keeps = search rules;
  leads = λ ts gives.
      leads_on g.I.Iterator.next_gives g.V.Visitor.rule (lead g.V.Visitor.rule (g.V.Visitor.held c.args.to.now) ts) _ _ c.loop-told.told-iterator (c.loop-told.invariant.leads ts gives) c.next.new.self c.in-Some.told _ _ c.in-Some.ensures.steps c.in_ok-count.ensures.leads;
}

pub returns-clause-leads : goal.returns-clause-leads
returns-clause-leads g c = λ ts gives.
    leads_end g.I.Iterator.next_gives g.V.Visitor.rule (lead g.V.Visitor.rule (g.V.Visitor.held c.args.to.now) ts) _ _ c.loop-told.told-iterator (c.loop-told.invariant.leads ts gives) c.next.new.self c.in-None.ensures.steps
