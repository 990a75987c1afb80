-- A call of an iterator that gives the first of what is left. Assumes nothing.
use Rattle.std.proofs.Common.{List, length, Some, None, Option, ap, arith}
use Rattle.std.specs.Prelude.{⊤}
use Rattle.std.specs.Iterator.{YieldsFirstBy, MakesProgress, item_count}

-- one less is left then
pub progress : {S A B : Type 0} (v : A → B) (rest : S → List B) (s t : S) (r : Option A) → YieldsFirstBy v rest s r t → MakesProgress (λ _. ⊤) (item_count rest) s r t
progress v rest s t None h = record { on = λ _. tt; keeps = tt; rests = λ _. tt }
progress v rest s t (Some x) h = record { on = λ _. (tt, tt, omega (arith, ap length h)); keeps = tt; rests = λ _. tt }
