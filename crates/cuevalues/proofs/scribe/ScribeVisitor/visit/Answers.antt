use Rattle.std.proofs.Common.{◌≡◌, ◌≤◌, length, take, refl, ap, ◌∙◌, arith}
use Rattle.tours.specs.Told.{thing}
use Rattle.cuevalues.specs.Pages.{text_of}
use Rattle.cuevalues.specs.Values.{joins, leaves}
use Rattle.cuevalues.proofs.Rules.{kept, full}
use Rattle.cuevalues.proofs.scribe.ScribeVisitor.visit.Goals as goal

pub returns-in-Err : goal.returns-in-Err
returns-in-Err c =
    let self = c.args.self.now in
    let mid = text_of c.say.new.self.page in
    let cut : text_of c.truncate.new.self ≡ take (length (text_of self.page)) mid = cc in
    record {
      does =
          full (text_of self.page) self.joined self.left (thing c.args.told) c.in-Err.full mid (text_of c.truncate.new.self) c.say.new.self.joined c.say.new.self.left c.from.result
          c.in-Err.ensures.says cut c.in-Err.ensures.same.0 c.in-Err.ensures.same.1 c.from.ensures;
      keeps = refl;
    }

pub returns : goal.returns
returns c =
    let self = c.args.self.now in
    let page = c.say.new.self.page in
    let few : length (text_of page) ≤ 262144 = omega (arith, page.few, page.text.ok.0) in
    record {
      does =
          kept (text_of self.page) self.joined self.left (thing c.args.told) (text_of page) c.joins-self.result c.leaves-self.result c.in_default.ensures.says few
          (c.joins-self.ensures ∙ ap (λ j. joins j (thing c.args.told)) c.in_default.ensures.same.0)
          (c.leaves-self.ensures ∙ ap (λ n. leaves n (thing c.args.told)) c.in_default.ensures.same.1);
      keeps = refl;
    }
