-- Worked lines: looks at elements, and values laid at them. Assumes nothing.
use Rattle.std.specs.Prelude.{◌≡◌, ℕ, List, [], ◌∷◌, ◌++◌}
use Rattle.kinds.specs.declared.kind.Kind.{Kind}
use Rattle.kinds.specs.declared.kind.Kind.TheVariants.{Bool, Int, Long}
use Rattle.pods.specs.declared.rows.Row.{Row}
use Rattle.pods.specs.Trees.{Tree}
use Rattle.pods.specs.Outcomes.{Outcome, gave, refused}
use Rattle.pods.specs.Survey.{says}
use Rattle.format.specs.Places.{blank}
use Rattle.format.specs.Lines.{line}
use Rattle.laying.specs.Elements.{look, lay_word}
use Rattle.laying.specs.Laws.{row_in}

-- row i of a cue
abbrev pub row_said : Outcome Tree → (i : ℕ) → Row
row_said (gave t used) i = row_in t i
row_said (refused e) i = blank

abbrev pub look_in : List ℕ → (i e : ℕ) → ℕ
look_in bytes i e = look bytes (row_said (says bytes) i) e

abbrev pub lay_in : List ℕ → (i e : ℕ) → Kind → (w : ℕ) → List ℕ
lay_in bytes i e k w = lay_word (row_said (says bytes) i) e k w bytes

pub record LinesLaid : Type 0 where
  -- the second letter of a text
  pub letter : look_in (line (3 ∷ 8 ∷ []) ++ 0x55 ∷ 0x70 ∷ 0 ∷ 0 ∷ 0 ∷ 0 ∷ 0 ∷ 0 ∷ []) 0 1 ≡ 0x70
  -- the maximum of a range, and its default set to that
  pub maximum : look_in (line (28 ∷ 19 ∷ 1 ∷ 0 ∷ 4 ∷ 4 ∷ 5 ∷ 0 ∷ 9 ∷ 0 ∷ [])) 0 2 ≡ 9
  pub default : lay_in (line (28 ∷ 19 ∷ 1 ∷ 0 ∷ 4 ∷ 4 ∷ 5 ∷ 0 ∷ 9 ∷ 0 ∷ [])) 0 0 Int 9 ≡ line (28 ∷ 19 ∷ 1 ∷ 0 ∷ 4 ∷ 4 ∷ 9 ∷ 0 ∷ 9 ∷ 0 ∷ [])
  -- the second of three values of an array
  pub second : lay_in (line (20 ∷ 13 ∷ 4 ∷ 4 ∷ 1 ∷ 2 ∷ 3 ∷ 0 ∷ [])) 0 1 Int 7 ≡ line (20 ∷ 13 ∷ 4 ∷ 4 ∷ 1 ∷ 7 ∷ 3 ∷ 0 ∷ [])
  -- the value of an object's property
  pub property : lay_in (line (32 ∷ 15 ∷ 2130706433 ∷ 0 ∷ 12 ∷ 1 ∷ 4 ∷ 4 ∷ 5 ∷ 0 ∷ [])) 1 0 Int 8 ≡ line (32 ∷ 15 ∷ 2130706433 ∷ 0 ∷ 12 ∷ 1 ∷ 4 ∷ 4 ∷ 8 ∷ 0 ∷ [])
  -- eight bytes, and a Bool whose body was neither 0 nor 1
  pub eight : lay_in (line (16 ∷ 14 ∷ 8 ∷ 5 ∷ 0 ∷ 0 ∷ [])) 1 0 Long 4294967299 ≡ line (16 ∷ 14 ∷ 8 ∷ 5 ∷ 3 ∷ 1 ∷ [])
  pub truth : lay_in (line (4 ∷ 2 ∷ 300 ∷ 0 ∷ [])) 0 0 Bool 1 ≡ line (4 ∷ 2 ∷ 1 ∷ 0 ∷ [])
