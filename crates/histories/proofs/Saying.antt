-- What accepted bytes say. Assumes nothing.
use Rattle.std.proofs.Common.{◌≡◌, ℕ, true, List, refl, ap, arith}
use Rattle.pods.specs.Outcomes.{Outcome, gave, refused}
use Rattle.pods.specs.Survey.{says, rows_in}
use Rattle.pods.specs.Trees.{Tree}
use Rattle.tours.specs.Told.{tells}
use Rattle.laying.specs.Values.{value_at}
use Rattle.histories.specs.Cues.{is_given, rows_said, word_said, things_said, accepts, rows_of, word_of, told_of}

-- bytes say a tree, and so their rows, words and told things
pub record Says (bytes : List ℕ) : Type 0 where
  pub tree : Tree
  pub used : ℕ
  pub is : says bytes ≡ gave tree used

given : (o : Outcome Tree) → is_given o ≡ true → (t : Tree) × ((u : ℕ) × (o ≡ gave t u))
given (gave t u) e = (t, (u, refl))
given (refused x) e = let z : ◌≡◌ {A = ℕ} 0 1 = cc in absurd (omega arith)

pub accepted_says : (bytes : List ℕ) → accepts bytes ≡ true → Says bytes
unfolding accepts
accepted_says bytes e = let g = given (says bytes) e in record { tree = g.0; used = g.1.0; is = g.1.1 }

module _ (bytes : List ℕ) (t : Tree) (used : ℕ) (e : says bytes ≡ gave t used) where
  pub accepts_said : accepts bytes ≡ true
  unfolding accepts
  accepts_said = ap is_given e

  pub rows_said_lem : rows_of bytes ≡ rows_in t
  unfolding rows_of
  rows_said_lem = ap rows_said e

  pub word_said_lem : (i j : ℕ) → word_of bytes i j ≡ value_at t i j
  unfolding word_of
  word_said_lem i j = ap (λ o. word_said o i j) e

  pub told_said : told_of bytes ≡ tells t 0
  unfolding told_of
  told_said = ap things_said e
