-- Telling one value more. Assumes nothing.
use Rattle.std.proofs.Common.{◌≡◌, ℕ, zero, suc, ◌+◌, ◌-◌, ◌*◌, ◌<◌, ◌≤◌, List, ◌∷◌, map, length, drop, Ok, ap, ◌∙◌, suc-mul, arith, length-drop}
use Rattle.std.proofs.lemmas.Bool.{le-ltb}
use Rattle.kinds.specs.declared.kind.Kind.{Kind}
use Rattle.kinds.specs.Kinds.{size_of, type_of, word_of}
use Rattle.kinds.specs.Bodies.{body_read}
use Rattle.pods.specs.Leaves.{values}
use Rattle.tours.specs.Told.{element}

values_more : (k : Kind) (gap n : ℕ) (bytes : List ℕ) → 0 < n → values k gap n bytes ≡ word_of k bytes ∷ values k gap (n - 1) (drop gap bytes)
values_more k gap zero bytes h = absurd (omega arith)
values_more k gap (suc n) bytes h = ap (λ m. word_of k bytes ∷ values k gap m (drop gap bytes)) (omega arith)

-- the first of the values that are left, and the others
module _ (bytes : List ℕ) (k : Kind) (n : ℕ) (some : 0 < n) (there : n * size_of k ≤ length bytes) where
  one : n * size_of k ≡ (n - 1) * size_of k + size_of k
  one = ap (λ n. n * size_of k) (let m : n ≡ suc (n - 1) = omega arith in m) ∙ suc-mul (n - 1) (size_of k)

  pub one_there : size_of k ≤ length bytes
  one_there = omega (arith, one)

  pub others_there : (n - 1) * size_of k ≤ length (drop (size_of k) bytes)
  others_there = omega (arith, one, length-drop (size_of k) bytes)

  pub element_next : (size type word left : ℕ) (rest : List ℕ) → size ≡ size_of k → type ≡ type_of k → Ok word ≡ body_read k (λ w. w) bytes → left ≡ n - 1 → rest ≡ drop size bytes
      → map (element (type_of k)) (values k (size_of k) n bytes) ≡ element type word ∷ map (element (type_of k)) (values k (size_of k) left rest)
  element_next size type word left rest size_is type_is read left_is rest_is =
      let got : Ok word ≡ Ok (word_of k bytes) = read ∙ rw (le-ltb (length bytes) (size_of k) one_there) in
      let same : word ≡ word_of k bytes = cc in
      ap (map (element (type_of k))) (values_more k (size_of k) n bytes some) ∙ rw (same, type_is, left_is, rest_is, size_is)
