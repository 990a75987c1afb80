-- What the crate hex reads of text with no upper-case letter. Assumes nothing.
use Rattle.std.proofs.Common.{◌≡◌, ℕ, ◌+◌, ◌*◌, ◌/◌, ◌%◌, ◌<◌, false, ◌||◌, List, [], ◌∷◌, ◌++◌, Some, None, Option, Ok, Err, Result, sym, refl, ap, ◌∙◌, arith}
use Rattle.std.specs.Char.{is_ascii_uppercase}
use Rattle.std.specs.List.{list_any}
use Rattle.std.specs.Result.{result_unwrap_or}
use Rattle.std.proofs.lemmas.Bool.{or_parts}
use Rattle.std.proofs.lemmas.Bool.Decides.{nat_tests}
use Rattle.hex.specs.Hex.{decode_of, decode_pairs, digit_or_error, hex_digit_value, pair_value, value_at, ◌>>=◌}
use Rattle.hex.specs.declared.error.FromHexError.{FromHexError}
use Rattle.hex.proofs.HexLemmas.{decode_of-ok, decode_of-even}
use Rattle.trials.specs.Hex.{digit_of, digits_of}

-- the digits of joined bytes are those of the first and then those of the others
pub digits_joined : (xs ys : List ℕ) → digits_of (xs ++ ys) ≡ digits_of xs ++ digits_of ys
digits_joined [] ys = refl
digits_joined (x ∷ xs) ys = ap (λ ds. digit_of (x / 16) ∷ digit_of (x % 16) ∷ ds) (digits_joined xs ys)

-- a step that gave a value, and the value
bound : {A B : Type 0} (r : Result A FromHexError) (f : A → Result B FromHexError) (y : B) → (r >>= f) ≡ Ok y → (x : A) × (r ≡ Ok x) × (f x ≡ Ok y)
bound (Ok x) f y e = (x, refl, e)
bound (Err e) f y h = cc h

-- a digit that is no upper-case letter is the one that stands for its value
digit_back : (c v : ℕ) → is_ascii_uppercase c ≡ false → hex_digit_value c ≡ Some v → (v < 16) × (c ≡ digit_of v)
digit_back c v low is = (grind (arith, nat_tests), grind (arith, nat_tests))

value_back : (c i v : ℕ) → is_ascii_uppercase c ≡ false → value_at c i ≡ Ok v → (v < 16) × (c ≡ digit_of v)
value_back c i v low is = digit_back c v low (read (hex_digit_value c) is)
  where
    read : (o : Option ℕ) → digit_or_error c i o ≡ Ok v → o ≡ Some v
    read (Some w) e = cc
    read None e = cc

pairs_back : (i : ℕ) (text bytes : List ℕ) → list_any is_ascii_uppercase text ≡ false → decode_pairs i text ≡ Ok bytes → text ≡ digits_of bytes
unfolding decode_pairs
pairs_back i [] bytes low is = ap digits_of (ap (λ (r : Result (List ℕ) FromHexError). result_unwrap_or r []) is)
pairs_back i (a ∷ []) bytes low is = cc is
pairs_back i (a ∷ b ∷ rest) bytes low is =
    let byte = bound (pair_value a b i) _ bytes is in
    let high = bound (value_at a i) _ byte.0 byte.1 in
    let low_digit = bound (value_at b (i + 1)) _ byte.0 high.2 in
    let others = bound (decode_pairs (i + 2) rest) _ bytes byte.2 in
    let first = or_parts (is_ascii_uppercase a) (is_ascii_uppercase b || list_any is_ascii_uppercase rest) low in
    let second = or_parts (is_ascii_uppercase b) (list_any is_ascii_uppercase rest) first.1 in
    let h = value_back a i high.0 first.0 high.1 in
    let l = value_back b (i + 1) low_digit.0 second.0 low_digit.1 in
    let is_byte : high.0 * 16 + low_digit.0 ≡ byte.0 = ap (λ (r : Result ℕ FromHexError). result_unwrap_or r 0) low_digit.2 in
    let whole : byte.0 ∷ others.0 ≡ bytes = ap (λ (r : Result (List ℕ) FromHexError). result_unwrap_or r []) others.2 in
    let top : high.0 ≡ byte.0 / 16 = omega arith in
    let bottom : low_digit.0 ≡ byte.0 % 16 = omega arith in
    let back = pairs_back (i + 2) rest others.0 second.1 others.1 in
    let first_digit : a ≡ digit_of (byte.0 / 16) = h.1 ∙ ap digit_of top in
    let second_digit : b ≡ digit_of (byte.0 % 16) = l.1 ∙ ap digit_of bottom in
    (λ j. first_digit j ∷ second_digit j ∷ back j) ∙ ap digits_of whole

-- text that is read as bytes, with no upper-case letter, is their digits
pub read_back : (text bytes : List ℕ) → list_any is_ascii_uppercase text ≡ false → decode_of text ≡ Ok bytes → text ≡ digits_of bytes
read_back text bytes low is = pairs_back 0 text bytes low (sym (decode_of-even text (decode_of-ok text bytes is).0) ∙ is)
