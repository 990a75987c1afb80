use Rattle.std.proofs.Common.{◌≡◌, ◌+◌, ◌≤◌, length, refl, ap, ◌∙◌, arith}
use Rattle.std.specs.Result.{result_ok}
use Rattle.pods.specs.Trees.{pointer}
use Rattle.tours.proofs.Beginning.{body_laid, head_in, pointer_word}
use Rattle.tours.proofs.begun.Begun.pointer.Goals as goal

pub returns : goal.returns
returns c = λ type word size h.
    let s = c.args.self.now in
    let l = body_laid s (pointer type word) size h in
    let a = head_in s.bytes.now _ (s.at + 8) _ _ _ c.body.ensures (omega (arith, s.there)) c.in_ok-head.ensures in
    let long : s.at + 8 + 8 + 8 ≤ length s.bytes.now = omega (arith, l.0, l.1.size_is) in
    let read = c.in_ok-word.ensures.value ∙ ap result_ok c.word.ensures in
    let same = pointer_word s.bytes.now (s.at + 8) s.len word c.in_ok-word.word c.pointer_kind.result _ a.rest_is long c.pointer_kind.ensures read l.1.word_is in
    let first : c.in_ok-head.head.first ≡ type = a.first_is ∙ l.1.type_is in
    let all : 24 ≡ size + 8 = omega (arith, l.1.size_is) in
    rw c.on.ensures record {
      told_is = cc;
      total_is = all;
      then_is = refl;
    }
