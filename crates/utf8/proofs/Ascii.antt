-- Eight bytes in one word. Assumes nothing.
use Rattle.std.proofs.Common.{◌≡◌, ℕ, ◌+◌, ◌*◌, ◌/◌, ◌%◌, ◌<◌, ◌≤◌, List, ◌∷◌, length, get_or, take, drop, sym, ap, ◌∙◌, arith, lit<, get_or-take}
use lib.Bits.{bit_and, and_block, and_high}
use lib.Pow.{shr_mod}
use Rattle.std.proofs.lemmas.List.{drop_more}
use Rattle.std.proofs.lemmas.Bool.{le-leb}
use Rattle.utf8.specs.Table37.{formed, well_formed}

low : (b : ℕ) → b < 256 → bit_and b 128 ≡ 0 → b < 128
low b h e =
    let top : bit_and b 128 ≡ b / 128 % 2 * 128 = and_high b 1 7 in
    let one : b / 128 % 2 ≡ b / 128 = shr_mod 1 7 h in
    let none : b / 128 ≡ 0 = omega arith in
    omega arith

-- the lowest byte of a word, and the bytes above it
low_byte : (high b mask : ℕ) → b < 256 → bit_and (high * 256 + b) (mask * 256 + 128) ≡ 0 → (b < 128) × (bit_and high mask ≡ 0)
low_byte high b mask h e =
    let split : bit_and (high * 256 + b) (mask * 256 + 128) ≡ bit_and high mask * 256 + bit_and b 128 = and_block 8 high mask b 128 h (lit< tt) in
    (low b h (omega arith), omega arith)

-- a word that has none of its bytes' highest bits has all its bytes below 128
pub ascii_word : (a b c d e f g h w : ℕ) → a < 256 → b < 256 → c < 256 → d < 256 → e < 256 → f < 256 → g < 256 → h < 256 → w ≡ a + b * 256 + c * 65536 + d * 16777216 + e * 4294967296 + f * 1099511627776 + g * 281474976710656 + h * 72057594037927936 → bit_and w 0x8080808080808080 ≡ 0 → (a < 128) × (b < 128) × (c < 128) × (d < 128) × (e < 128) × (f < 128) × (g < 128) × (h < 128)
ascii_word a b c d e f g h w a< b< c< d< e< f< g< h< is z =
    let w₇ : ℕ = h in
    let w₆ : ℕ = h * 256 + g in
    let w₅ : ℕ = (h * 256 + g) * 256 + f in
    let w₄ : ℕ = ((h * 256 + g) * 256 + f) * 256 + e in
    let w₃ : ℕ = (((h * 256 + g) * 256 + f) * 256 + e) * 256 + d in
    let w₂ : ℕ = ((((h * 256 + g) * 256 + f) * 256 + e) * 256 + d) * 256 + c in
    let w₁ : ℕ = (((((h * 256 + g) * 256 + f) * 256 + e) * 256 + d) * 256 + c) * 256 + b in
    let whole : w ≡ w₁ * 256 + a = omega arith in
    let p₀ = low_byte w₁ a 0x80808080808080 a< (ap (λ x. bit_and x 0x8080808080808080) (sym whole) ∙ z) in
    let p₁ = low_byte w₂ b 0x808080808080 b< p₀.1 in
    let p₂ = low_byte w₃ c 0x8080808080 c< p₁.1 in
    let p₃ = low_byte w₄ d 0x80808080 d< p₂.1 in
    let p₄ = low_byte w₅ e 0x808080 e< p₃.1 in
    let p₅ = low_byte w₆ f 0x8080 f< p₄.1 in
    let p₆ = low_byte w₇ g 0x80 g< p₅.1 in
    (p₀.0, p₁.0, p₂.0, p₃.0, p₄.0, p₅.0, p₆.0, low h h< p₆.1)

one : (b : ℕ) (bs : List ℕ) → b < 128 → well_formed (b ∷ bs) ≡ well_formed bs
unfolding formed
one b bs h = let k : b ≤ 0x7f = omega arith in rw (le-leb 0 b (omega arith), le-leb b 0x7f k)

-- a byte below 128 at place i
pub ascii : (text : List ℕ) (i : ℕ) → i < length text → get_or text i 0 < 128 → well_formed (drop i text) ≡ well_formed (drop (i + 1) text)
ascii text i h k = ap well_formed (drop_more text i 0 h) ∙ one (get_or text i 0) (drop (i + 1) text) k

-- eight bytes at the front whose word has none of the highest bits
pub ascii_eight : (text front : List ℕ) (w : ℕ) → 8 ≤ length text → ((k : ℕ) → get_or text k 0 < 256) → front ≡ take 8 text
    → w ≡ get_or front 0 0 + get_or front 1 0 * 256 + get_or front 2 0 * 65536 + get_or front 3 0 * 16777216 + get_or front 4 0 * 4294967296 + get_or front 5 0 * 1099511627776 + get_or front 6 0 * 281474976710656 + get_or front 7 0 * 72057594037927936
    → bit_and w 0x8080808080808080 ≡ 0 → well_formed text ≡ well_formed (drop 8 text)
ascii_eight text front w long bytes cut is none =
    let same = λ (k : ℕ) (few : k < 8). ap (λ bs. get_or bs k 0) cut ∙ get_or-take 8 text k 0 few in
    let whole : w ≡ get_or text 0 0 + get_or text 1 0 * 256 + get_or text 2 0 * 65536 + get_or text 3 0 * 16777216 + get_or text 4 0 * 4294967296 + get_or text 5 0 * 1099511627776 + get_or text 6 0 * 281474976710656 + get_or text 7 0 * 72057594037927936 =
    omega (arith, is, same 0 (lit< tt), same 1 (lit< tt), same 2 (lit< tt), same 3 (lit< tt), same 4 (lit< tt), same 5 (lit< tt), same 6 (lit< tt), same 7 (lit< tt)) in
    let p = ascii_word _ _ _ _ _ _ _ _ w (bytes 0) (bytes 1) (bytes 2) (bytes 3) (bytes 4) (bytes 5) (bytes 6) (bytes 7) whole none in
    ascii text 0 (omega arith) p.0 ∙ ascii text 1 (omega arith) p.1 ∙ ascii text 2 (omega arith) p.2 ∙ ascii text 3 (omega arith) p.3
    ∙ ascii text 4 (omega arith) p.4 ∙ ascii text 5 (omega arith) p.5 ∙ ascii text 6 (omega arith) p.6 ∙ ascii text 7 (omega arith) p.7
