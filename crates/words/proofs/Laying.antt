-- The bytes of a word, and bytes that are laid over others. Assumes nothing.
use Rattle.std.proofs.Common.{◌≡◌, ℕ, zero, suc, ◌+◌, ◌-◌, ◌*◌, ◌/◌, ◌%◌, ◌^◌, ◌<◌, ◌≤◌, ◌⊎◌, List, [], ◌∷◌, ◌++◌, length, get_or, take, drop, sym, refl, ap, ◌∙◌, inl, inr, ⊎_elim, add-zero, pow-suc, arith, length-append, length-drop}
use native.Mathlib.Nat.{div-div-eq-div-mul}
use borrow.Rule.Slice.PartMut.{put_mid}
use Rattle.std.proofs.lemmas.Nat.{div-add-mod', div_below, mod_below}
use Rattle.std.proofs.lemmas.List.{get_or_append_left, get_or-append_right, get_or-drop, get_or-take, length-take-le}
use Rattle.std.proofs.lemmas.List.Edits.{paste_all}
use Rattle.std.proofs.lemmas.Slice.{put_mid-paste}
use Rattle.std.proofs.lemmas.Bool.{cases_lt}
use Rattle.words.specs.Words.{little, bytes_of, lay}
use Rattle.words.proofs.Places.{little_drop, little_same}

pub length_bytes : (n word : ℕ) → length (bytes_of n word) ≡ n
length_bytes zero word = refl
length_bytes (suc n) word = ap suc (length_bytes n (word / 256))

pub bytes_below : (n word i : ℕ) → get_or (bytes_of n word) i 0 < 256
bytes_below zero word i = omega arith
bytes_below (suc n) word zero = mod_below word 256 (omega arith)
bytes_below (suc n) word (suc i) = bytes_below n (word / 256) i

-- the bytes of a word say that word
pub little_bytes : (n word : ℕ) → word < 256 ^ n → little n 0 (bytes_of n word) ≡ word
little_bytes zero word h = omega arith
little_bytes (suc n) word h =
    let later : little n 1 (word % 256 ∷ bytes_of n (word / 256)) ≡ little n 0 (bytes_of n (word / 256)) = sym (little_drop n 1 0 (word % 256 ∷ bytes_of n (word / 256))) in
    let less : word < 256 ^ n * 256 = omega (arith, pow-suc 256 n) in
    let rest = little_bytes n (word / 256) (div_below word 256 (256 ^ n) (omega arith) less) in
    omega (arith, later, rest, div-add-mod' word 256)

-- those of four and of eight bytes, as the standard library has them
pub bytes_four : (word : ℕ) → bytes_of 4 word ≡ word % 256 ∷ (word / 256 % 256) ∷ (word / 65536 % 256) ∷ (word / 16777216 % 256) ∷ []
bytes_four word = rw (div-div-eq-div-mul word 256 256, div-div-eq-div-mul word 65536 256)

pub bytes_eight : (word : ℕ) → bytes_of 8 word ≡ word % 256 ∷ (word / 256 % 256) ∷ (word / 65536 % 256) ∷ (word / 16777216 % 256) ∷ (word / 4294967296 % 256) ∷ (word / 1099511627776 % 256) ∷ (word / 281474976710656 % 256) ∷ (word / 72057594037927936 % 256) ∷ []
bytes_eight word =
    rw (div-div-eq-div-mul word 256 256, div-div-eq-div-mul word 65536 256, div-div-eq-div-mul word 16777216 256, div-div-eq-div-mul word 4294967296 256, div-div-eq-div-mul word 1099511627776 256, div-div-eq-div-mul word 281474976710656 256)

-- a write to a part of a slice lays what the part then holds
pub lay_part : (at n : ℕ) (over bytes : List ℕ) → n ≡ length over → put_mid at n bytes over ≡ lay at over bytes
lay_part at n over bytes e =
    put_mid-paste at n bytes over over (length over) refl (sym e) refl ∙ paste_all bytes at over (length over) refl

module _ (at : ℕ) (over bytes : List ℕ) (fits : at + length over ≤ length bytes) where
  front_length : length (take at bytes) ≡ at
  front_length = length-take-le at bytes (omega arith)

  pub length_lay : length (lay at over bytes) ≡ length bytes
  length_lay =
      let all = length-append (take at bytes) (over ++ drop (at + length over) bytes) in
      let last = length-append over (drop (at + length over) bytes) in
      omega (arith, front_length, length-drop (at + length over) bytes)

  -- what was laid
  pub lay_inside : (x : ℕ) → x < length over → get_or (lay at over bytes) (at + x) 0 ≡ get_or over x 0
  lay_inside x h =
      get_or-append_right (take at bytes) (over ++ drop (at + length over) bytes) at (at + x) 0 front_length (omega arith)
      ∙ ap (λ n. get_or (over ++ drop (at + length over) bytes) n 0) (omega arith) ∙ get_or_append_left over (drop (at + length over) bytes) 0 x h

  -- what was there
  pub lay_outside : (x : ℕ) → (at ≤ x → x < at + length over → ⊥) → get_or (lay at over bytes) x 0 ≡ get_or bytes x 0
  lay_outside x h = by (cases_lt x at)
    where
      behind : at ≤ x → at + length over ≤ x → get_or (lay at over bytes) x 0 ≡ get_or bytes x 0
      behind from past =
          get_or-append_right (take at bytes) (over ++ drop (at + length over) bytes) at x 0 front_length from
          ∙ get_or-append_right over (drop (at + length over) bytes) (length over) (x - at) 0 refl (omega arith)
          ∙ get_or-drop (at + length over) bytes (x - at - length over) 0 ∙ ap (λ n. get_or bytes n 0) (omega arith)

      by : (x < at) ⊎ (at ≤ x) → get_or (lay at over bytes) x 0 ≡ get_or bytes x 0
      by (inl less) =
          get_or_append_left (take at bytes) (over ++ drop (at + length over) bytes) 0 x (omega (arith, front_length)) ∙ get_or-take at bytes x 0 less
      by (inr from) = ⊎_elim (λ inside. absurd (h from inside)) (behind from) (cases_lt x (at + length over))

-- a word that was laid is there
pub lay_word_lem : (at n word : ℕ) (bytes : List ℕ) → at + n ≤ length bytes → word < 256 ^ n → little n at (lay at (bytes_of n word) bytes) ≡ word
lay_word_lem at n word bytes fits small =
    let long = length_bytes n word in
    let new : List ℕ = lay at (bytes_of n word) bytes in
    ap (λ k. little n k new) (sym (add-zero at)) ∙ sym (little_drop n at 0 new)
    ∙ little_same n 0 (bytes_of n word) (drop at new)
    (λ x from to. get_or-drop at new x 0 ∙ lay_inside at (bytes_of n word) bytes (omega arith) x (omega arith))
    ∙ little_bytes n word small

-- bytes stay bytes
pub lay_below : (at n word : ℕ) (bytes : List ℕ) → at + n ≤ length bytes → ((x : ℕ) → get_or bytes x 0 < 256) → (x : ℕ) → get_or (lay at (bytes_of n word) bytes) x 0 < 256
lay_below at n word bytes fits small x = by (cases_lt x at) (cases_lt x (at + n))
  where
    long : length (bytes_of n word) ≡ n
    long = length_bytes n word

    outside : (at ≤ x → x < at + n → ⊥) → get_or (lay at (bytes_of n word) bytes) x 0 < 256
    outside h =
        let e = lay_outside at (bytes_of n word) bytes (omega (arith, long)) x (λ from to. h from (omega (arith, long))) in
        omega (arith, small x)

    by : (x < at) ⊎ (at ≤ x) → (x < at + n) ⊎ (at + n ≤ x) → get_or (lay at (bytes_of n word) bytes) x 0 < 256
    by (inl less) b = outside (λ from to. omega arith)
    by (inr from) (inr past) = outside (λ a b. omega arith)
    by (inr from) (inl to) =
        let e = lay_inside at (bytes_of n word) bytes (omega (arith, long)) (x - at) (omega (arith, long)) in
        let same : at + (x - at) ≡ x = omega arith in
        omega (arith, bytes_below n word (x - at), ap (λ y. get_or (lay at (bytes_of n word) bytes) y 0) same)
