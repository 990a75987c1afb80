-- Table 3-7 accepts what std calls text, and nothing else. Assumes nothing.
use Rattle.std.proofs.Common.{◌≡◌, ℕ, zero, suc, ◌+◌, ◌-◌, ◌*◌, ◌/◌, ◌<◌, ◌≤◌, Bool, true, false, cond, ◌&&◌, leb, ◌⊎◌, List, [], ◌∷◌, ◌++◌, length, Some, IsUtf8, Decides, sym, refl, ap, ◌∙◌, inl, inr, ⊎_elim, arith}
use mathlib.Core.Bool.{false≢true}
use lib.Utf8.{scalar, scalars, next, encode, encodes, scalar_cases}
use Rattle.std.proofs.lemmas.Bool.{leb-true, lt-ltb, le-ltb, le-leb, and_parts, cases_lt}
use Rattle.std.proofs.lemmas.Bool.Decides.{nat_tests, Decides-at}
use Rattle.utf8.specs.Table37.{Span, span, tail, within, Line, table, find, begun, formed, well_formed, TextIsUtf8}

-- a character's bytes, by how many they are
one : (c : ℕ) → c < 128 → encode c ≡ c ∷ []
unfolding encode
one c h = rw (lt-ltb c 128 h)

two : (c : ℕ) → 128 ≤ c → c < 2048 → encode c ≡ (192 + c / 64) ∷ next c ∷ []
unfolding encode
two c l h = rw (le-ltb c 128 l, lt-ltb c 2048 h)

three : (c : ℕ) → 2048 ≤ c → c < 65536 → encode c ≡ (224 + c / 4096) ∷ next (c / 64) ∷ next c ∷ []
unfolding encode
three c l h = let k : 128 ≤ c = omega arith in rw (le-ltb c 128 k, le-ltb c 2048 l, lt-ltb c 65536 h)

four : (c : ℕ) → 65536 ≤ c → encode c ≡ (240 + c / 262144) ∷ next (c / 4096) ∷ next (c / 64) ∷ next c ∷ []
unfolding encode
four c l =
    let k : 128 ≤ c = omega arith in
    let m : 2048 ≤ c = omega arith in
    rw (le-ltb c 128 k, le-ltb c 2048 m, le-ltb c 65536 l)

is_scalar : (c : ℕ) → (c < 55296) ⊎ ((57344 ≤ c) × (c < 1114112)) → scalar c ≡ true
is_scalar c h = grind (arith, nat_tests)

-- a text that the table accepts begins with a character
record Begins (bytes : List ℕ) : Type 0 where
  char : ℕ
  rest : List ℕ
  is : scalar char ≡ true
  joined : encode char ++ rest ≡ bytes
  formed_on : well_formed rest ≡ true
  shorter : length rest < length bytes

-- a byte that is due, and what follows it
record Taken (bytes : List ℕ) (s : Span) (due : List Span) : Type 0 where
  byte : ℕ
  rest : List ℕ
  joined : byte ∷ rest ≡ bytes
  low : s.low ≤ byte
  high : byte ≤ s.high
  formed_on : formed rest due ≡ true

inside : (s : Span) (b : ℕ) → within s b ≡ true → (s.low ≤ b) × (b ≤ s.high)
inside s b e = let p = and_parts (leb s.low b) (leb b s.high) e in (leb-true s.low b p.0, leb-true b s.high p.1)

taken : (bytes : List ℕ) (s : Span) (due : List Span) → formed bytes (s ∷ due) ≡ true → Taken bytes s due
unfolding formed
taken [] s due e = absurd (false≢true e)
taken (b ∷ bytes) s due e =
    let p = and_parts (within s b) (formed bytes due) e in
    let k = inside s b p.0 in
    record { byte = b; rest = bytes; joined = refl; low = k.0; high = k.1; formed_on = p.1 }

-- one of the lines has the byte
abbrev Any : List Line → (Line → Type 0) → Type 0
Any [] P = ⊥
Any (l ∷ ls) P = P l ⊎ Any ls P

abbrev Has : ℕ → (List Span → Bool) → Line → Type 0
Has a go l = (within l.first a ≡ true) × (go l.further ≡ true)

found : (ls : List Line) (a : ℕ) (go : List Span → Bool) → begun (find ls a) go ≡ true → Any ls (Has a go)
found [] a go e = absurd (false≢true e)
found (l ∷ ls) a go e = by (within l.first a) refl (found ls a go) e
  where
    by : (y : Bool) → within l.first a ≡ y → (begun (find ls a) go ≡ true → Any ls (Has a go)) → begun (cond y (Some l.further) (find ls a)) go ≡ true → Any (l ∷ ls) (Has a go)
    by true w later e = inl (w, e)
    by false w later e = inr (later e)

-- a character in front, from its bytes by how many they are
module _ (a : ℕ) (bytes : List ℕ) where
  of_one : a ≤ 0x7f → well_formed bytes ≡ true → Begins (a ∷ bytes)
  of_one h e = record {
    char = a;
    rest = bytes;
    is = is_scalar a (inl (omega arith));
    joined = ap (λ p. p ++ bytes) (one a (omega arith));
    formed_on = e;
    shorter = omega arith;
  }

  of_two : 0xc2 ≤ a → a ≤ 0xdf → formed bytes (tail ∷ []) ≡ true → Begins (a ∷ bytes)
  of_two l h e =
      let t = taken bytes tail [] e in
      let c : ℕ = (a - 192) * 64 + (t.byte - 128) in
      let p : 192 + c / 64 ≡ a = omega arith in
      let q : next c ≡ t.byte = omega arith in
      record {
        char = c;
        rest = t.rest;
        is = is_scalar c (inl (omega arith));
        joined = ap (λ p. p ++ t.rest) (two c (omega arith) (omega arith)) ∙ (λ i. p i ∷ q i ∷ t.rest) ∙ ap (λ bs. a ∷ bs) t.joined;
        formed_on = t.formed_on;
        shorter = omega (arith, ap length t.joined);
      }

  of_three : (low high : ℕ) → 0xe0 ≤ a → a ≤ 0xef → 0x80 ≤ low → high ≤ 0xbf
      → ((b : ℕ) → low ≤ b → b ≤ high → let c = (a - 224) * 64 + (b - 128) in (32 ≤ c) × ((c < 864) ⊎ (896 ≤ c)))
      → formed bytes (span low high ∷ tail ∷ []) ≡ true → Begins (a ∷ bytes)
  of_three low high l h l' h' fit e =
      let t = taken bytes (span low high) (tail ∷ []) e in
      let u = taken t.rest tail [] t.formed_on in
      let top : ℕ = (a - 224) * 64 + (t.byte - 128) in
      let c : ℕ = top * 64 + (u.byte - 128) in
      let f = fit t.byte t.low t.high in
      let p : 224 + c / 4096 ≡ a = omega arith in
      let q : next (c / 64) ≡ t.byte = omega arith in
      let r : next c ≡ u.byte = omega arith in
      record {
        char = c;
        rest = u.rest;
        is = is_scalar c (⊎_elim (λ k. inl (omega arith)) (λ k. inr (omega arith, omega arith)) f.1);
        joined = ap (λ p. p ++ u.rest) (three c (omega arith) (omega arith)) ∙ (λ i. p i ∷ q i ∷ r i ∷ u.rest) ∙ ap (λ bs. a ∷ t.byte ∷ bs) u.joined ∙ ap (λ bs. a ∷ bs) t.joined;
        formed_on = u.formed_on;
        shorter = omega (arith, ap length t.joined, ap length u.joined);
      }

  of_four : (low high : ℕ) → 0xf0 ≤ a → a ≤ 0xf4 → 0x80 ≤ low → high ≤ 0xbf
      → ((b : ℕ) → low ≤ b → b ≤ high → let c = (a - 240) * 64 + (b - 128) in (16 ≤ c) × (c < 272))
      → formed bytes (span low high ∷ tail ∷ tail ∷ []) ≡ true → Begins (a ∷ bytes)
  of_four low high l h l' h' fit e =
      let t = taken bytes (span low high) (tail ∷ tail ∷ []) e in
      let u = taken t.rest tail (tail ∷ []) t.formed_on in
      let v = taken u.rest tail [] u.formed_on in
      let top : ℕ = (a - 240) * 64 + (t.byte - 128) in
      let c : ℕ = (top * 64 + (u.byte - 128)) * 64 + (v.byte - 128) in
      let f = fit t.byte t.low t.high in
      let p : 240 + c / 262144 ≡ a = omega arith in
      let q : next (c / 4096) ≡ t.byte = omega arith in
      let six : c / 64 ≡ top * 64 + (u.byte - 128) = omega arith in
      let last : next (top * 64 + (u.byte - 128)) ≡ u.byte = omega arith in
      let r : next (c / 64) ≡ u.byte = ap next six ∙ last in
      let s : next c ≡ v.byte = omega arith in
      record {
        char = c;
        rest = v.rest;
        is = is_scalar c (inr (omega arith, omega arith));
        joined = ap (λ p. p ++ v.rest) (four c (omega arith)) ∙ (λ i. p i ∷ q i ∷ r i ∷ s i ∷ v.rest) ∙ ap (λ bs. a ∷ t.byte ∷ u.byte ∷ bs) v.joined ∙ ap (λ bs. a ∷ t.byte ∷ bs) u.joined ∙ ap (λ bs. a ∷ bs) t.joined;
        formed_on = v.formed_on;
        shorter = omega (arith, ap length t.joined, ap length u.joined, ap length v.joined);
      }

  by_line : Any table (Has a (λ further. formed bytes further)) → Begins (a ∷ bytes)
  by_line (inl (w, e)) = let k = inside (span 0x00 0x7f) a w in of_one k.1 e
  by_line (inr (inl (w, e))) = let k = inside (span 0xc2 0xdf) a w in of_two k.0 k.1 e
  by_line (inr (inr (inl (w, e)))) = let k = inside (span 0xe0 0xe0) a w in of_three 0xa0 0xbf (omega arith) (omega arith) (omega arith) (omega arith) (λ b m n. (omega arith, inl (omega arith))) e
  by_line (inr (inr (inr (inl (w, e))))) = let k = inside (span 0xe1 0xec) a w in of_three 0x80 0xbf (omega arith) (omega arith) (omega arith) (omega arith) (λ b m n. (omega arith, inl (omega arith))) e
  by_line (inr (inr (inr (inr (inl (w, e)))))) = let k = inside (span 0xed 0xed) a w in of_three 0x80 0x9f (omega arith) (omega arith) (omega arith) (omega arith) (λ b m n. (omega arith, inl (omega arith))) e
  by_line (inr (inr (inr (inr (inr (inl (w, e))))))) = let k = inside (span 0xee 0xef) a w in of_three 0x80 0xbf (omega arith) (omega arith) (omega arith) (omega arith) (λ b m n. (omega arith, inr (omega arith))) e
  by_line (inr (inr (inr (inr (inr (inr (inl (w, e)))))))) = let k = inside (span 0xf0 0xf0) a w in of_four 0x90 0xbf (omega arith) (omega arith) (omega arith) (omega arith) (λ b m n. (omega arith, omega arith)) e
  by_line (inr (inr (inr (inr (inr (inr (inr (inl (w, e))))))))) = let k = inside (span 0xf1 0xf3) a w in of_four 0x80 0xbf (omega arith) (omega arith) (omega arith) (omega arith) (λ b m n. (omega arith, omega arith)) e
  by_line (inr (inr (inr (inr (inr (inr (inr (inr (inl (w, e)))))))))) = let k = inside (span 0xf4 0xf4) a w in of_four 0x80 0x8f (omega arith) (omega arith) (omega arith) (omega arith) (λ b m n. (omega arith, omega arith)) e
  by_line (inr (inr (inr (inr (inr (inr (inr (inr (inr none))))))))) = absurd none

  begins : well_formed (a ∷ bytes) ≡ true → Begins (a ∷ bytes)
  unfolding formed
  begins e = by_line (found table a (λ further. formed bytes further) e)

-- a text of at most n bytes
text : (n : ℕ) (bytes : List ℕ) → length bytes ≤ n → well_formed bytes ≡ true → IsUtf8 bytes
text n [] h e = ([], (refl, refl))
text zero (b ∷ bytes) h e = absurd (omega arith)
text (suc n) (b ∷ bytes) h e =
    let t = begins b bytes e in
    let u = text n t.rest (omega (arith, t.shorter)) t.formed_on in
    (t.char ∷ u.0, (ap (λ y. y && scalars u.0) t.is ∙ u.1.0, ap (λ bs. encode t.char ++ bs) u.1.1 ∙ t.joined))

-- the line that has a first byte
at_two : (a : ℕ) → 0xc2 ≤ a → a ≤ 0xdf → find table a ≡ Some (tail ∷ [])
at_two a l h = grind (arith, nat_tests)

at_e0 : (a : ℕ) → a ≡ 0xe0 → find table a ≡ Some (span 0xa0 0xbf ∷ tail ∷ [])
at_e0 a e = rw e refl

at_three : (a : ℕ) → 0xe1 ≤ a → a ≤ 0xec → find table a ≡ Some (tail ∷ tail ∷ [])
at_three a l h = grind (arith, nat_tests)

at_ed : (a : ℕ) → a ≡ 0xed → find table a ≡ Some (span 0x80 0x9f ∷ tail ∷ [])
at_ed a e = rw e refl

at_ee : (a : ℕ) → 0xee ≤ a → a ≤ 0xef → find table a ≡ Some (tail ∷ tail ∷ [])
at_ee a l h = grind (arith, nat_tests)

at_f0 : (a : ℕ) → a ≡ 0xf0 → find table a ≡ Some (span 0x90 0xbf ∷ tail ∷ tail ∷ [])
at_f0 a e = rw e refl

at_four : (a : ℕ) → 0xf1 ≤ a → a ≤ 0xf3 → find table a ≡ Some (tail ∷ tail ∷ tail ∷ [])
at_four a l h = grind (arith, nat_tests)

at_f4 : (a : ℕ) → a ≡ 0xf4 → find table a ≡ Some (span 0x80 0x8f ∷ tail ∷ tail ∷ [])
at_f4 a e = rw e refl

-- a first byte, and a byte that is due
starts : (a : ℕ) (due : List Span) (bytes : List ℕ) → find table a ≡ Some due → well_formed (a ∷ bytes) ≡ formed bytes due
unfolding formed
starts a due bytes e = ap (λ o. begun o (λ further. formed bytes further)) e

goes : (b low high : ℕ) (due : List Span) (bytes : List ℕ) → low ≤ b → b ≤ high → formed (b ∷ bytes) (span low high ∷ due) ≡ formed bytes due
unfolding formed
goes b low high due bytes l h = rw (le-leb low b l, le-leb b high h)

follows : (bits : ℕ) (due : List Span) (bytes : List ℕ) → formed (next bits ∷ bytes) (tail ∷ due) ≡ formed bytes due
follows bits due bytes = goes (next bits) 0x80 0xbf due bytes (omega arith) (omega arith)

-- a character's bytes in front of others
module _ (c : ℕ) (bytes : List ℕ) where
  past_one : c < 128 → well_formed (encode c ++ bytes) ≡ well_formed bytes
  past_one h = ap (λ p. well_formed (p ++ bytes)) (one c h) ∙ starts c [] bytes (grind (arith, nat_tests))

  past_two : 128 ≤ c → c < 2048 → well_formed (encode c ++ bytes) ≡ well_formed bytes
  past_two l h = ap (λ p. well_formed (p ++ bytes)) (two c l h) ∙ starts _ _ _ (at_two (192 + c / 64) (omega arith) (omega arith)) ∙ follows c [] bytes

  past_three : (low high : ℕ) → 2048 ≤ c → c < 65536 → find table (224 + c / 4096) ≡ Some (span low high ∷ tail ∷ []) → low ≤ next (c / 64) → next (c / 64) ≤ high → well_formed (encode c ++ bytes) ≡ well_formed bytes
  past_three low high l h e m n = ap (λ p. well_formed (p ++ bytes)) (three c l h) ∙ starts _ _ _ e ∙ goes _ _ _ _ _ m n ∙ follows c [] bytes

  past_four : (low high : ℕ) → 65536 ≤ c → find table (240 + c / 262144) ≡ Some (span low high ∷ tail ∷ tail ∷ []) → low ≤ next (c / 4096) → next (c / 4096) ≤ high → well_formed (encode c ++ bytes) ≡ well_formed bytes
  past_four low high l e m n = ap (λ p. well_formed (p ++ bytes)) (four c l) ∙ starts _ _ _ e ∙ goes _ _ _ _ _ m n ∙ follows (c / 64) _ _ ∙ follows c [] bytes

  past : (c < 55296) ⊎ ((57344 ≤ c) × (c < 1114112)) → (c < 128) ⊎ (128 ≤ c) → (c < 2048) ⊎ (2048 ≤ c) → (c < 4096) ⊎ (4096 ≤ c) → (c < 53248) ⊎ (53248 ≤ c) → (c < 65536) ⊎ (65536 ≤ c) → (c < 262144) ⊎ (262144 ≤ c) → (c < 1048576) ⊎ (1048576 ≤ c) → well_formed (encode c ++ bytes) ≡ well_formed bytes
  past s (inl h) _ _ _ _ _ _ = past_one h
  past s (inr l) (inl h) _ _ _ _ _ = past_two l h
  past s (inr _) (inr l) (inl h) _ _ _ _ = past_three 0xa0 0xbf l (omega arith) (at_e0 (224 + c / 4096) (omega arith)) (omega arith) (omega arith)
  past s (inr _) (inr l) (inr m) (inl h) _ _ _ = past_three 0x80 0xbf l (omega arith) (at_three (224 + c / 4096) (omega arith) (omega arith)) (omega arith) (omega arith)
  past (inl h) (inr _) (inr l) (inr _) (inr m) _ _ _ = past_three 0x80 0x9f l (omega arith) (at_ed (224 + c / 4096) (omega arith)) (omega arith) (omega arith)
  past (inr s) (inr _) (inr l) (inr _) (inr m) (inl h) _ _ = past_three 0x80 0xbf l h (at_ee (224 + c / 4096) (omega arith) (omega arith)) (omega arith) (omega arith)
  past (inr s) (inr _) (inr _) (inr _) (inr _) (inr l) (inl h) _ = past_four 0x90 0xbf l (at_f0 (240 + c / 262144) (omega arith)) (omega arith) (omega arith)
  past (inr s) (inr _) (inr _) (inr _) (inr _) (inr l) (inr m) (inl h) = past_four 0x80 0xbf l (at_four (240 + c / 262144) (omega arith) (omega arith)) (omega arith) (omega arith)
  past (inr s) (inr _) (inr _) (inr _) (inr _) (inr l) (inr _) (inr m) = past_four 0x80 0x8f l (at_f4 (240 + c / 262144) (omega arith)) (omega arith) (omega arith)

encoded : (cs : List ℕ) → scalars cs ≡ true → well_formed (encodes cs) ≡ true
unfolding formed
encoded [] e = refl
encoded (c ∷ cs) e =
    let p = and_parts (scalar c) (scalars cs) e in
    past c (encodes cs) (scalar_cases c p.0) (cases_lt c 128) (cases_lt c 2048) (cases_lt c 4096) (cases_lt c 53248) (cases_lt c 65536) (cases_lt c 262144) (cases_lt c 1048576)
    ∙ encoded cs p.1

pub text_is_utf8 : TextIsUtf8
text_is_utf8 bytes = (text (length bytes) bytes (omega arith), λ u. ap well_formed (sym u.1.1) ∙ encoded u.0 u.1.0)

-- a test that answers as the table does tells text from other bytes
pub decided : (answer : Bool) (bytes : List ℕ) → answer ≡ well_formed bytes → Decides answer (IsUtf8 bytes)
decided answer bytes same = Decides-at answer (well_formed bytes) same (text_is_utf8 bytes)
