-- Words in a part of the bytes. Assumes nothing.
use Rattle.std.proofs.Common.{◌≡◌, ℕ, zero, suc, ◌+◌, ◌^◌, ◌<◌, ◌≤◌, List, length, get_or, drop, refl, ap, ◌∙◌, add-zero, add-suc, arith, length-drop}
use native.Mathlib.Nat.{pow-succ'}
use Rattle.std.proofs.lemmas.List.{get_or-drop, drop-drop}
use Rattle.words.specs.Words.{little, Halves}

-- the word at place k after the first m bytes, at every width
pub little_drop : (n m k : ℕ) (bytes : List ℕ) → little n k (drop m bytes) ≡ little n (m + k) bytes
little_drop zero m k bytes = refl
little_drop (suc n) m k bytes = rw (get_or-drop m bytes k 0, little_drop n m (suc k) bytes, add-suc m k)

pub little_front : (n m : ℕ) (bytes : List ℕ) → little n 0 (drop m bytes) ≡ little n m bytes
little_front n m bytes = little_drop n m 0 bytes ∙ ap (λ k. little n k bytes) (add-zero m)

-- a word is that of its bytes alone
pub little_same : (n k : ℕ) (bytes bytes' : List ℕ) → ((x : ℕ) → k ≤ x → x < k + n → get_or bytes' x 0 ≡ get_or bytes x 0) → little n k bytes' ≡ little n k bytes
little_same zero k bytes bytes' h = refl
little_same (suc n) k bytes bytes' h =
    rw (h k (omega arith) (omega arith), little_same n (suc k) bytes bytes' (λ x from to. h x (omega arith) (omega arith)))

-- a word of n bytes is below 256 ^ n
pub little_below : (n k : ℕ) (bytes : List ℕ) → ((i : ℕ) → get_or bytes i 0 < 256) → little n k bytes < 256 ^ n
little_below zero k bytes h = omega arith
little_below (suc n) k bytes h = omega (arith, h k, little_below n (suc k) bytes h, pow-succ' 256 n)

-- the first sixteen bytes as four words
pub record Quarters (bytes : List ℕ) (third fourth : ℕ) (rest : List ℕ) : Type 0 where
  pub whole : 16 ≤ length bytes
  pub third_is : third ≡ little 4 8 bytes
  pub fourth_is : fourth ≡ little 4 12 bytes
  pub rest_is : rest ≡ drop 16 bytes

-- two words after two words
pub quarters : {bytes : List ℕ} {a b c d : ℕ} {r s : List ℕ} → Halves bytes a b r → Halves r c d s → Quarters bytes c d s
quarters {bytes} {a} {b} {c} {d} {r} {s} h k =
    let e = h.rest_is in
    record {
      whole = omega (arith, k.whole, ap length e, length-drop 8 bytes);
      third_is = k.first_is ∙ ap (little 4 0) e ∙ little_drop 4 8 0 bytes;
      fourth_is = k.second_is ∙ ap (little 4 4) e ∙ little_drop 4 8 4 bytes;
      rest_is = k.rest_is ∙ ap (drop 8) e ∙ drop-drop 8 8 bytes;
    }
