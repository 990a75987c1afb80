-- What is known of the rows of an open cue. Assumes nothing.
use Rattle.std.specs.Prelude.{◌≡◌, ℕ, ◌+◌, ◌<◌, ◌≤◌, true, List, length, take, Some}
use Rattle.pods.specs.declared.choices.ChoiceType.{ChoiceType}
use Rattle.pods.specs.declared.rows.Row.{Row}
use Rattle.pods.specs.Choices.{choice_type_of, needed}
use Rattle.laying.specs.Elements.{element_place, element_size}
use Rattle.histories.specs.Cues.{accepts, rows_of}

-- a survey accepts the bytes, and the first n rows of the table are its rows
pub record Stands (bytes : List ℕ) (rows : List Row) (n : ℕ) : Type 0 where
  pub whole : accepts bytes ≡ true
  pub same : rows_of bytes ≡ take n rows
  pub fits : n ≤ length rows

-- its elements are there, and a choice has as many values as its type needs
pub record Sound (bytes : List ℕ) (r : Row) : Type 0 where
  pub there : (e : ℕ) → e < r.count → element_place r e + element_size r ≤ length bytes
  pub enough : r.kind ≡ 19 → (c : ChoiceType) → choice_type_of r.side ≡ Some c → needed c ≤ r.count
