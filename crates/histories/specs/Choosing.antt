-- What a choice allows as its default. `word` gives the words of its values: the default, then limits or alternatives.
-- Assumes nothing.
use Rattle.std.specs.Prelude.{ℕ, zero, suc, pred, Bool, true, false, cond, ◌&&◌, ◌||◌, Some, None as no_choice, Option, ◌==◌}
use Rattle.kinds.specs.declared.kind.Kind.{Kind}
use Rattle.pods.specs.declared.choices.ChoiceType.{ChoiceType}
use Rattle.pods.specs.declared.choices.ChoiceType.TheVariants.{None, Range, Step, Enum, Flags}
use Rattle.pods.specs.declared.rows.Row.{Row}
use Rattle.pods.specs.Choices.{choice_type_of}
use Rattle.settable.specs.Order.{at_most}

-- w is the word of an alternative, of which there are n after the default
abbrev pub among : (n : ℕ) → (word : ℕ → ℕ) → (w : ℕ) → Bool
among zero word w = false
among (suc n) word w = word (suc n) == w || among n word w

-- limits are the two values after the default; alternatives are all of them
abbrev pub allows : ChoiceType → Kind → (count : ℕ) → (word : ℕ → ℕ) → (w : ℕ) → Bool
allows None k count word w = true
allows Range k count word w = at_most k (word 1) w && at_most k w (word 2)
allows Step k count word w = at_most k (word 1) w && at_most k w (word 2)
allows Enum k count word w = among (pred count) word w
allows Flags k count word w = true

abbrev pub allows_by : Option ChoiceType → Kind → (count : ℕ) → (word : ℕ → ℕ) → (w : ℕ) → Bool
allows_by no_choice k count word w = true
allows_by (Some c) k count word w = allows c k count word w

-- a row that is no choice allows every value
unfoldable pub row_allows : Row → Kind → (word : ℕ → ℕ) → (w : ℕ) → Bool
row_allows r k word w = cond (r.kind == 19) (allows_by (choice_type_of r.side) k r.count word w) true
