use Rattle.std.proofs.Common.{◌≡◌, Some, None, Err, sym, ap, arith, rules}
use Rattle.refusals.specs.declared.Why.TheVariants.{ChoiceType}
use Rattle.kinds.specs.Kinds.{kind_of}
use Rattle.pods.specs.Choices.{choice_type_of}
use Rattle.pods.specs.Outcomes.{sized}
use Rattle.pods.proofs.Bodies.{choice_missing, choice_other_type, choice_few, choice_takes}
use Rattle.pods.proofs.body.Body.choice.Goals as goal

pub returns-in_default-padded : goal.returns-in_default-padded
returns-in_default-padded c =
    let child : Some c.in_ok-child.child ≡ kind_of c.in-Some-two_words.declared.second = search rules in
    rw c.refuse-in_default-padded.ensures
    (sym (choice_missing c.args.self.len c.args.self.spot c.args.self.rest.now _ _ _ _ _ _ _ _ c.in-Some.ensures c.in-Some-two_words.ensures child c.size-size.ensures
    c.if-len-lt16.false c.if-declared-eq0.false c.if-size-eq0.false c.in_default-padded.ensures))

pub returns-in_err-choice : goal.returns-in_err-choice
returns-in_err-choice c =
    let child : Some c.in_ok-child.child ≡ kind_of c.in-Some-two_words.declared.second = search rules in
    let other : None ≡ choice_type_of c.in-Some.head.first = search rules in
    let answer : c.from_residual-in_err-choice.result ≡ Err record { why = ChoiceType; spot = c.args.self.spot } = search rules in
    let fits = c.in-Some-padded.ensures in
    rw answer
    (sym (ap sized (choice_other_type c.args.self.len c.args.self.spot c.args.self.rest.now _ _ _ _ _ _ _ _ c.in-Some.ensures c.in-Some-two_words.ensures child c.size-size.ensures
    c.if-len-lt16.false c.if-declared-eq0.false c.if-size-eq0.false (omega (arith, fits.0, fits.1)) other)))

pub returns-then-count-needed : goal.returns-then-count-needed
returns-then-count-needed c =
    let child : Some c.in_ok-child.child ≡ kind_of c.in-Some-two_words.declared.second = search rules in
    let choice : Some c.in_ok-choice.choice ≡ choice_type_of c.in-Some.head.first = search rules in
    let fits = c.in-Some-padded.ensures in
    rw c.refuse-then-count-needed.ensures
    (sym (ap sized (choice_few c.args.self.len c.args.self.spot c.args.self.rest.now _ _ _ _ _ _ _ _ c.in-Some.ensures c.in-Some-two_words.ensures child c.size-size.ensures
    c.if-len-lt16.false c.if-declared-eq0.false c.if-size-eq0.false (omega (arith, fits.0, fits.1)) _ choice (omega arith))))

pub returns : goal.returns
returns c =
    let child : Some c.in_ok-child.child ≡ kind_of c.in-Some-two_words.declared.second = search rules in
    let choice : Some c.in_ok-choice.choice ≡ choice_type_of c.in-Some.head.first = search rules in
    let fits = c.in-Some-padded.ensures in
    rw fits.0
    (sym (choice_takes c.args.self.len c.args.self.spot c.args.self.rest.now _ _ _ _ _ _ _ _ c.in-Some.ensures c.in-Some-two_words.ensures child c.size-size.ensures
    c.if-len-lt16.false c.if-declared-eq0.false c.if-size-eq0.false (omega (arith, fits.0, fits.1)) _ choice (omega arith)))
