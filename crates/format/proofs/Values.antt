-- The words of values that lie one after the other. Assumes nothing.
use Rattle.std.proofs.Common.{◌≡◌, ℕ, zero, suc, ◌+◌, ◌*◌, ◌<◌, ◌≤◌, List, length, get_or, take, drop, sym, refl, ap, ◌∙◌, not-suc-le-zero, suc-mul, arith}
use Rattle.std.proofs.lemmas.List.{drop-drop, ext_get_or, get_or-take, get_or-drop, length-take-le}
use Rattle.words.proofs.Places.{little_front}
use Rattle.kinds.specs.declared.kind.Kind.{Kind}
use Rattle.kinds.specs.Kinds.{size_of, said, word_of}
use Rattle.pods.specs.Leaves.{values}
use Rattle.format.specs.Layout.{word_at, Stand, Values}

pub length_values : (k : Kind) (gap n : ℕ) (bytes : List ℕ) → length (values k gap n bytes) ≡ n
length_values k gap zero bytes = refl
length_values k gap (suc n) bytes = ap suc (length_values k gap n (drop gap bytes))

pub word_front : (k : Kind) (b : ℕ) (bytes : List ℕ) → word_of k (drop b bytes) ≡ word_at k b bytes
word_front k b bytes = ap (said k) (little_front (size_of k) b bytes)

pub value_at_lem : (k : Kind) (gap n b i : ℕ) (bytes : List ℕ) → i < n → get_or (values k gap n (drop b bytes)) i 0 ≡ word_at k (b + i * gap) bytes
value_at_lem k gap zero b i bytes h = absurd (not-suc-le-zero h)
value_at_lem k gap (suc n) b zero bytes h = word_front k b bytes ∙ ap (λ p. word_at k p bytes) (omega arith)
value_at_lem k gap (suc n) b (suc i) bytes h =
    ap (λ bs. get_or (values k gap n bs) i 0) (drop-drop gap b bytes) ∙ value_at_lem k gap n (b + gap) i bytes (omega arith)
    ∙ ap (λ p. word_at k p bytes) (let e : suc i * gap ≡ i * gap + gap = suc-mul i gap in omega arith)

-- these are the values there
pub are_values : (bytes : List ℕ) (k : Kind) (n b : ℕ) → Values bytes k b (values k (size_of k) n (drop b bytes))
are_values bytes k n b i h = value_at_lem k (size_of k) n b i bytes (omega (arith, length_values k (size_of k) n (drop b bytes)))

-- and no others are
pub only_values : (bytes : List ℕ) (k : Kind) (n b : ℕ) (words : List ℕ) → length words ≡ n → Values bytes k b words → values k (size_of k) n (drop b bytes) ≡ words
only_values bytes k n b words e v =
    let len = length_values k (size_of k) n (drop b bytes) in
    ext_get_or 0 (values k (size_of k) n (drop b bytes)) words (len ∙ sym e)
    (λ i h. value_at_lem k (size_of k) n b i bytes (omega arith) ∙ sym (v i (omega arith)))

-- the bytes of a part, and no others
pub are_there : (bytes : List ℕ) (b n : ℕ) → n ≤ length (drop b bytes) → Stand bytes b (take n (drop b bytes))
are_there bytes b n h i l =
    let len = length-take-le n (drop b bytes) h in get_or-take n (drop b bytes) i 0 (omega arith) ∙ get_or-drop b bytes i 0

pub only_there : (bytes : List ℕ) (b n : ℕ) (part : List ℕ) → n ≤ length (drop b bytes) → length part ≡ n → Stand bytes b part → take n (drop b bytes) ≡ part
only_there bytes b n part h e s =
    let len = length-take-le n (drop b bytes) h in
    ext_get_or 0 (take n (drop b bytes)) part (len ∙ sym e)
    (λ i l. get_or-take n (drop b bytes) i 0 (omega arith) ∙ get_or-drop b bytes i 0 ∙ sym (s i (omega arith)))
