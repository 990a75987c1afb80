-- The five choice types. Assumes nothing.
use Rattle.std.specs.Prelude.{◌≡◌, ℕ, cond, Some, None as no_choice, Option, Result, MatchResult, ◌==◌}
use Rattle.refusals.specs.declared.Why.{Why}
use Rattle.refusals.specs.declared.Why.TheVariants.{ChoiceType as OtherChoice}
use Rattle.pods.specs.declared.choices.ChoiceType.{ChoiceType}
use Rattle.pods.specs.declared.choices.ChoiceType.TheVariants.{None, Range, Step, Enum, Flags}

abbrev pub choice_number : ChoiceType → ℕ
choice_number None = 0
choice_number Range = 1
choice_number Step = 2
choice_number Enum = 3
choice_number Flags = 4

unfoldable pub choice_type_of : ℕ → Option ChoiceType
choice_type_of n =
    cond (n == 0) (Some None)
    (cond (n == 1) (Some Range)
    (cond (n == 2) (Some Step)
    (cond (n == 3) (Some Enum)
    (cond (n == 4) (Some Flags) no_choice))))

-- the choice type that a number stands for, or the refusal of a number that stands for none
abbrev pub IsChoiceTypeOf : ℕ → Result ChoiceType Why → Type 0
IsChoiceTypeOf n r = MatchResult r (λ c. Some c ≡ choice_type_of n) (λ e. (no_choice ≡ choice_type_of n) × (e ≡ OtherChoice))

-- how many values there have to be: the default; then minimum and maximum; and then a step
abbrev pub needed : ChoiceType → ℕ
needed None = 1
needed Range = 3
needed Step = 4
needed Enum = 1
needed Flags = 1

-- how many of n values are used: all alternatives of an Enum or Flags, and of the others just those needed
abbrev pub used_of : ChoiceType → ℕ → ℕ
used_of None n = 1
used_of Range n = 3
used_of Step n = 4
used_of Enum n = n
used_of Flags n = n

-- the flags that are kept: a choice of no choice has none
abbrev pub flags_kept : ChoiceType → ℕ → ℕ
flags_kept None f = 0
flags_kept Range f = f
flags_kept Step f = f
flags_kept Enum f = f
flags_kept Flags f = f
