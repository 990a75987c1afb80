-- Worked lines: what each says, or why it is refused. Assumes nothing.
use Rattle.std.specs.Prelude.{◌≡◌, ℕ, zero, suc, ◌*◌, ◌/◌, ◌%◌, List, [], ◌∷◌, ◌++◌, map}
use Rattle.refusals.specs.declared.Why.TheVariants.{Missing, TooShort, PointerLength, PastContainer, TooFewValues, TooDeep}
use Rattle.kinds.specs.declared.kind.Kind.TheVariants.{None, Int}
use Rattle.pods.specs.declared.choices.ChoiceType.TheVariants.{Range}
use Rattle.pods.specs.Trees.{Tree, fixed, text, array, choice, leaf, struct, object, none, more}
use Rattle.pods.specs.Outcomes.{Outcome, gave, refused, refuse}
use Rattle.pods.specs.Pods.{spot_at}
use Rattle.pods.specs.Survey.{says, rows_in, survey_of}

-- the bytes of a list of 32-bit words
abbrev pub line : List ℕ → List ℕ
line [] = []
line (w ∷ ws) = w % 256 ∷ w / 256 % 256 ∷ w / 65536 % 256 ∷ w / 16777216 % 256 ∷ line ws

-- n structs, each but the last with another in it
abbrev pub nest : ℕ → List ℕ
nest zero = []
nest (suc n) = line (n * 8 ∷ 14 ∷ []) ++ nest n

-- which rows are locked
abbrev pub locks : Outcome Tree → List ℕ
locks (gave t used) = map (λ r. r.locked) (rows_in t)
locks (refused e) = []

pub record LinesHold : Type 0 where
  pub no_bytes : says [] ≡ refuse Missing (spot_at 0 1)
  pub nothing : says (line (0 ∷ 1 ∷ [])) ≡ gave (leaf (fixed None 0) 0) 8
  -- an Int, whatever length is declared
  pub int : says (line (99 ∷ 4 ∷ 4294967294 ∷ 0 ∷ [])) ≡ gave (leaf (fixed Int 4294967294) 8) 16
  pub two_bytes : says (line (3 ∷ 8 ∷ []) ++ 0x55 ∷ 0x70 ∷ 0 ∷ 0 ∷ 0 ∷ 0 ∷ 0 ∷ 0 ∷ []) ≡ gave (leaf (text (0x55 ∷ 0x70 ∷ [])) 8) 16
  pub no_zero : says (line (0 ∷ 8 ∷ [])) ≡ refuse TooShort (spot_at 0 1)
  pub three : says (line (20 ∷ 13 ∷ 4 ∷ 4 ∷ 1 ∷ 2 ∷ 3 ∷ 0 ∷ [])) ≡ gave (leaf (array Int (1 ∷ 2 ∷ 3 ∷ [])) 24) 32
  pub empty : says (line (5 ∷ 13 ∷ 0 ∷ 1 ∷ [])) ≡ gave (leaf (array None []) 8) 16
  pub two_pods : says (line (16 ∷ 14 ∷ 4 ∷ 4 ∷ 7 ∷ 0 ∷ [])) ≡ gave (struct (more 0 0 (leaf (fixed Int 7) 8) none)) 24
  pub two_rows : survey_of (line (16 ∷ 14 ∷ 4 ∷ 4 ∷ 7 ∷ 0 ∷ [])) ≡ gave 2 24
  pub past_it : says (line (8 ∷ 14 ∷ 4 ∷ 4 ∷ 7 ∷ 0 ∷ [])) ≡ refuse PastContainer (spot_at 0 1)
  pub range : says (line (28 ∷ 19 ∷ 1 ∷ 0 ∷ 4 ∷ 4 ∷ 5 ∷ 0 ∷ 9 ∷ 0 ∷ [])) ≡ gave (leaf (choice Range 0 Int (5 ∷ 0 ∷ 9 ∷ [])) 32) 40
  pub too_few : says (line (24 ∷ 19 ∷ 1 ∷ 0 ∷ 4 ∷ 4 ∷ 5 ∷ 0 ∷ [])) ≡ refuse TooFewValues (spot_at 0 1)
  pub pointer_length : says (line (14 ∷ 17 ∷ 0 ∷ 0 ∷ [])) ≡ refuse PointerLength (spot_at 0 1)
  pub deep : survey_of (nest 32) ≡ gave 32 256
  pub too_deep : says (nest 33) ≡ refuse TooDeep (spot_at 256 33)
  pub read_only : says (line (32 ∷ 15 ∷ 2130706433 ∷ 0 ∷ 12 ∷ 1 ∷ 4 ∷ 4 ∷ 5 ∷ 0 ∷ [])) ≡ gave (object 2130706433 0 (more 12 1 (leaf (fixed Int 5) 8) none)) 40
  pub locked : locks (says (line (32 ∷ 15 ∷ 2130706433 ∷ 0 ∷ 12 ∷ 1 ∷ 4 ∷ 4 ∷ 5 ∷ 0 ∷ []))) ≡ 0 ∷ 1 ∷ []
