-- An entry of a table in which each is the class of its place. Assumes nothing.
use Rattle.std.proofs.Common.{◌≡◌, ℕ, zero, suc, ◌+◌, ◌<◌, true, eqb, List, [], ◌∷◌, length, get_or, subst, arith}
use Rattle.std.proofs.lemmas.Bool.{eqb-true, and_parts}
use Rattle.utf8.specs.Reading.{class_of, right_from}

from : (b : ℕ) (classes : List ℕ) → right_from b classes ≡ true → (k : ℕ) → k < length classes → (n : ℕ) → n ≡ b + k → get_or classes k 0 ≡ class_of n
from b [] e k h n at = absurd (omega arith)
from b (class ∷ classes) e zero h n at =
    let same : b ≡ n = omega arith in
    subst (λ (m : ℕ). class ≡ class_of m) same (eqb-true class (class_of b) (and_parts (eqb class (class_of b)) (right_from (suc b) classes) e).0)
from b (class ∷ classes) e (suc k) h n at =
    from (suc b) classes (and_parts (eqb class (class_of b)) (right_from (suc b) classes) e).1 k (omega arith) n (omega arith)

pub entry : (classes : List ℕ) (k : ℕ) → right_from 0 classes ≡ true → k < length classes → get_or classes k 0 ≡ class_of k
entry classes k e h = from 0 classes e k h k (omega arith)
