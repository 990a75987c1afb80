-- Arrays and choices by what stands before their values. Assumes nothing.
use Rattle.std.proofs.Common.{◌≡◌, ℕ, ◌+◌, ◌-◌, ◌*◌, ◌/◌, ◌<◌, ◌≤◌, List, length, Some, None, refl, ap, ◌∙◌, arith, length-drop}
use Rattle.std.proofs.lemmas.Bool.{le-ltb, lt-ltb, ne_eqb}
use Rattle.refusals.specs.declared.Spot.{Spot}
use Rattle.refusals.specs.declared.Why.TheVariants.{Missing, ChoiceType as OtherChoice, TooFewValues}
use Rattle.words.specs.Words.{padded, Halves}
use Rattle.words.proofs.Places.{quarters}
use Rattle.kinds.specs.declared.kind.Kind.{Kind}
use Rattle.kinds.specs.declared.kind.Kind.TheVariants.{None as NoneKind, Bool as BoolKind, Id, Int, Long, Float, Double, Rectangle, Fraction, Fd}
use Rattle.kinds.specs.Kinds.{kind_of, size_of, type_of}
use Rattle.pods.specs.declared.choices.ChoiceType.{ChoiceType}
use Rattle.pods.specs.Choices.{choice_type_of, needed}
use Rattle.pods.specs.Outcomes.{gave, refuse, sized}
use Rattle.pods.specs.Leaves.{choice_body, choice_of, choice_using, fixed_body, leaf_body}

-- a leaf with the number of one of the ten kinds
pub leaf_fixed : (k : Kind) (len : ℕ) (spot : Spot) (rest : List ℕ) → leaf_body len (type_of k) spot rest ≡ fixed_body k spot rest
unfolding leaf_body kind_of
leaf_fixed NoneKind len spot rest = refl
leaf_fixed BoolKind len spot rest = refl
leaf_fixed Id len spot rest = refl
leaf_fixed Int len spot rest = refl
leaf_fixed Long len spot rest = refl
leaf_fixed Float len spot rest = refl
leaf_fixed Double len spot rest = refl
leaf_fixed Rectangle len spot rest = refl
leaf_fixed Fraction len spot rest = refl
leaf_fixed Fd len spot rest = refl

module _ (len : ℕ) (spot : Spot) (rest : List ℕ) (number flags size second : ℕ) (inner values : List ℕ) (k : Kind) (s : ℕ) (h : Halves rest number flags inner) (q : Halves inner size second values) (is : Some k ≡ kind_of second) (s-is : s ≡ size_of k) (long : 16 ≤ len) (some : size ≡ 0 → ⊥) (kind_some : s ≡ 0 → ⊥) where
  choice_by : choice_body len spot rest ≡ choice_of (Some k) len number flags size spot rest
  choice_by =
      let f = quarters h q in
      rw (le-ltb (length rest) 16 f.whole, le-ltb len 16 long, ← f.third_is, ne_eqb size 0 some, ← f.fourth_is, ← is, ← h.first_is, ← h.second_is)

  pub choice_missing : length values < padded ((len - 16) / size * s) → sized (choice_body len spot rest) ≡ refuse Missing spot
  choice_missing e =
      let f = quarters h q in
      let less : length rest < padded ((len - 16) / size * s) + 16 = omega (arith, ap length f.rest_is, length-drop 16 rest) in
      ap sized choice_by ∙ rw (← s-is, ne_eqb s 0 kind_some, lt-ltb _ _ less)

  module _ (there : padded ((len - 16) / size * s) ≤ length values) where
    choice_there : choice_body len spot rest ≡ choice_using (choice_type_of number) k flags ((len - 16) / size) spot rest
    choice_there =
        let f = quarters h q in
        let enough : padded ((len - 16) / size * s) + 16 ≤ length rest = omega (arith, f.whole, ap length f.rest_is, length-drop 16 rest) in
        choice_by ∙ rw (← s-is, ne_eqb s 0 kind_some, le-ltb _ _ enough)

    pub choice_other_type : None ≡ choice_type_of number → choice_body len spot rest ≡ refuse OtherChoice spot
    choice_other_type e = choice_there ∙ rw (← e)

    module _ (c : ChoiceType) (e : Some c ≡ choice_type_of number) where
      pub choice_few : (len - 16) / size < needed c → choice_body len spot rest ≡ refuse TooFewValues spot
      choice_few less = choice_there ∙ rw (← e, lt-ltb _ _ less)

      pub choice_takes : needed c ≤ (len - 16) / size → sized (choice_body len spot rest) ≡ gave tt (padded ((len - 16) / size * s) + 16)
      choice_takes enough = ap sized choice_there ∙ rw (← e, le-ltb _ _ enough, s-is)
