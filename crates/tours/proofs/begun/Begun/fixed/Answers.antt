use Rattle.std.proofs.Common.{◌≡◌, ◌+◌, sym, refl, ap, ◌∙◌, arith}
use Rattle.words.specs.Words.{padded}
use Rattle.std.specs.Result.{result_ok}
use Rattle.kinds.specs.Kinds.{type_of}
use Rattle.pods.specs.Trees.{fixed}
use Rattle.tours.specs.Told.{pod, value}
use Rattle.tours.proofs.Beginning.{body_laid, word_read}
use Rattle.tours.proofs.begun.Begun.fixed.Goals as goal

pub returns : goal.returns
returns c = λ word size h.
    let s = c.args.self.now in
    let l = body_laid s (fixed c.args.kind word) size h in
    let fits = c.in_ok-total.ensures in
    let used : c.in_ok-total.field-0 ≡ size = fits.0 ∙ ap padded c.size.ensures ∙ sym l.1.size_is in
    let read = c.in_ok-word.ensures.value ∙ ap result_ok c.word.ensures in
    let same = word_read c.args.kind (s.at + 8) c.in_ok-word.word s.bytes.now _ c.body-rest.ensures read (omega (arith, fits.0, fits.1, c.size.ensures)) in
    rw c.on.ensures record {
      told_is = ap (λ n. pod s.at (n + 8) (value c.from.result c.in_ok-word.word)) used
          ∙ ap (λ n. pod s.at (size + 8) (value n c.in_ok-word.word)) c.from.ensures
          ∙ ap (λ w. pod s.at (size + 8) (value (type_of c.args.kind) w)) (same ∙ sym l.1.word_is);
      total_is = ap (λ n. n + 8) used;
      then_is = refl;
    }
