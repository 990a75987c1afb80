-- What is laid out is read so: bodies that hold no pods. Assumes nothing.
use Rattle.std.proofs.Common.{◌≡◌, ℕ, ◌+◌, ◌-◌, ◌*◌, ◌/◌, ◌≤◌, cond, eqb, ltb, ◌⊎◌, List, [], length, get_or, take, drop, Some, sym, refl, ap, ◌∙◌, inl, inr, arith}
use Rattle.std.proofs.lemmas.List.{drop-drop, get_or-drop, nil_from_length}
use Rattle.std.proofs.lemmas.Bool.{eq-eqb, ne_eqb, le-ltb}
use Rattle.refusals.specs.declared.Spot.{Spot}
use Rattle.refusals.specs.declared.Why.TheVariants.{Missing, ChildSize, TooShort}
use Rattle.words.specs.Words.{little, padded}
use Rattle.words.proofs.Places.{little_drop, little_front}
use Rattle.kinds.specs.declared.kind.Kind.{Kind}
use Rattle.kinds.specs.declared.kind.Kind.TheVariants.{None, Bool as BoolKind, Id, Int, Long, Float, Double, Rectangle, Fraction, Fd}
use Rattle.kinds.specs.Kinds.{kind_of, size_of, type_of}
use Rattle.kinds.proofs.Types.{kind_of_type}
use Rattle.pods.specs.declared.choices.ChoiceType.{ChoiceType}
use Rattle.pods.specs.declared.choices.ChoiceType.TheVariants.{None as NoChoice, Range, Step, Enum, Flags}
use Rattle.pods.specs.Choices.{choice_number, choice_type_of, needed, used_of, flags_kept}
use Rattle.pods.specs.Trees.{Leaf, fixed, text, raw, array, choice, pointer}
use Rattle.pods.specs.Rows.{leaf_type}
use Rattle.pods.specs.Outcomes.{gave, refuse_if, refuse_unless}
use Rattle.pods.specs.Leaves.{taking, values, fixed_body, text_body, raw_body, array_of, array_body, choice_using, choice_of, choice_body, pointer_body, leaf_body}
use Rattle.format.specs.Layout.{FixedLaid, TextLaid, RawLaid, ArrayLaid, ChoiceLaid, PointerLaid, BodyLaid}
use Rattle.format.proofs.Values.{word_front, only_values, only_there}

pub choice_of_number : (c : ChoiceType) → choice_type_of (choice_number c) ≡ Some c
unfolding choice_type_of
choice_of_number NoChoice = refl
choice_of_number Range = refl
choice_of_number Step = refl
choice_of_number Enum = refl
choice_of_number Flags = refl

-- a leaf of a kind's type is of that kind
fixed_type : (k : Kind) (len : ℕ) (spot : Spot) (rest : List ℕ) → leaf_body len (type_of k) spot rest ≡ fixed_body k spot rest
unfolding leaf_body kind_of
fixed_type None len spot rest = refl
fixed_type BoolKind len spot rest = refl
fixed_type Id len spot rest = refl
fixed_type Int len spot rest = refl
fixed_type Long len spot rest = refl
fixed_type Float len spot rest = refl
fixed_type Double len spot rest = refl
fixed_type Rectangle len spot rest = refl
fixed_type Fraction len spot rest = refl
fixed_type Fd len spot rest = refl

taking_is : (l l' : Leaf) (size size' : ℕ) (spot : Spot) (rest : List ℕ) → l ≡ l' → size ≡ size' → size' ≤ length rest → taking l size spot rest ≡ gave l' size'
taking_is l l' size size' spot rest e e' h = rw (e, e', le-ltb (length rest) size' h)

-- the body from place b on
module _ (bytes : List ℕ) (b len : ℕ) (spot : Spot) where
  abbrev rest : List ℕ
  rest = drop b bytes

  module _ (size : ℕ) (fits : size ≤ length rest) where
    fixed_read : (k : Kind) (w : ℕ) → FixedLaid bytes b k w size → fixed_body k spot rest ≡ gave (fixed k w) size
    fixed_read k w h = taking_is _ _ _ size spot rest (ap (fixed k) (word_front k b bytes ∙ sym h.word_is)) (sym h.size_is) fits

    text_read : (part : List ℕ) → TextLaid bytes b len part size → text_body len spot rest ≡ gave (text part) size
    text_read part h =
        let le : len ≤ length rest = omega (arith, h.size_is) in
        let less : len - 1 ≡ length part = omega (arith, h.len_is) in
        let last : get_or rest (len - 1) 0 ≡ 0 = get_or-drop b bytes (len - 1) 0 ∙ ap (λ n. get_or bytes (b + n) 0) less ∙ h.closed in
        let same : take (len - 1) rest ≡ part = only_there bytes b (len - 1) part (omega arith) (sym less) h.stands in
        rw (ne_eqb len 0 (λ z. omega (arith, h.len_is)), le-ltb (length rest) len le, eq-eqb (get_or rest (len - 1) 0) 0 last, same, h.formed)
        (taking_is _ _ _ size spot rest refl (sym h.size_is) fits)

    raw_read : (part : List ℕ) → RawLaid bytes b len part size → raw_body len spot rest ≡ gave (raw part) size
    raw_read part h =
        taking_is _ _ _ size spot rest (ap raw (only_there bytes b len part (omega (arith, h.size_is)) (sym h.len_is) h.stands)) (sym h.size_is) fits

    array_read : (k : Kind) (words : List ℕ) → ArrayLaid bytes b len k words size → array_body len spot rest ≡ gave (array k words) size
    array_read k words h =
        ap (λ t. refuse_if t Missing spot (array_of (kind_of (little 4 4 rest)) len (little 4 0 rest) spot rest)) (le-ltb (length rest) 8 (omega (arith, h.size_is)))
        ∙ ap (λ o. array_of o len (little 4 0 rest) spot rest) (ap kind_of (little_drop 4 b 4 bytes ∙ h.child_type) ∙ kind_of_type k)
        ∙ ap (λ t. refuse_unless t ChildSize spot (cond (eqb (size_of k) 0) (taking (array k []) 8 spot rest) (refuse_if (ltb len 8) TooShort spot (taking (array k (values k (size_of k) ((len - 8) / size_of k) (drop 8 rest))) (padded ((len - 8) / size_of k * size_of k) + 8) spot rest))))
        (eq-eqb (little 4 0 rest) (size_of k) (little_front 4 b bytes ∙ h.child_size))
        ∙ by h.counted
      where
        by : ((size_of k ≡ 0) × (length words ≡ 0)) ⊎ ((size_of k ≡ 0 → ⊥) × (8 ≤ len) × (length words ≡ (len - 8) / size_of k))
            → cond (eqb (size_of k) 0) (taking (array k []) 8 spot rest) (refuse_if (ltb len 8) TooShort spot (taking (array k (values k (size_of k) ((len - 8) / size_of k) (drop 8 rest))) (padded ((len - 8) / size_of k * size_of k) + 8) spot rest)) ≡ gave (array k words) size
        by (inl (z, n)) =
            rw (eq-eqb (size_of k) 0 z)
            (taking_is _ _ _ size spot rest (ap (array k) (sym (nil_from_length words n))) (sym (h.size_is ∙ ap (λ m. padded (m * size_of k) + 8) n ∙ ap (λ m. padded (0 * m) + 8) z)) fits)
        by (inr (z, long, n)) =
            rw (ne_eqb (size_of k) 0 z, le-ltb len 8 long)
            (taking_is _ _ _ size spot rest
            (ap (array k) (ap (values k (size_of k) ((len - 8) / size_of k)) (drop-drop 8 b bytes) ∙ only_values bytes k ((len - 8) / size_of k) (b + 8) words n h.values))
            (ap (λ m. padded (m * size_of k) + 8) (sym n) ∙ sym h.size_is) fits)

    choice_read : (c : ChoiceType) (flags : ℕ) (k : Kind) (words : List ℕ) → ChoiceLaid bytes b len c flags k words size → choice_body len spot rest ≡ gave (choice c flags k words) size
    choice_read c flags k words h =
        let n : ℕ = (len - 16) / little 4 8 rest in
        let child : little 4 8 rest ≡ little 4 (b + 8) bytes = little_drop 4 b 8 bytes in
        let n_is : n ≡ h.n = ap (λ m. (len - 16) / m) child ∙ sym h.counted in
        let used : padded (n * size_of k) + 16 ≡ size = ap (λ m. padded (m * size_of k) + 16) n_is ∙ sym h.size_is in
        let kept : flags_kept c (little 4 4 rest) ≡ flags = ap (flags_kept c) (little_drop 4 b 4 bytes) ∙ sym h.flags_are in
        let all : values k (size_of k) (used_of c n) (drop 16 rest) ≡ words =
        ap (values k (size_of k) (used_of c n)) (drop-drop 16 b bytes) ∙ only_values bytes k (used_of c n) (b + 16) words (h.used ∙ ap (used_of c) (sym n_is)) h.values in
        let type : choice_type_of (little 4 0 rest) ≡ Some c = ap choice_type_of (little_front 4 b bytes ∙ h.type_is) ∙ choice_of_number c in
        rw (le-ltb (length rest) 16 (omega (arith, used)), le-ltb len 16 h.long, ne_eqb (little 4 8 rest) 0 (λ z. h.child_some (sym child ∙ z)))
        (ap (λ o. choice_of o len (little 4 0 rest) (little 4 4 rest) (little 4 8 rest) spot rest) (ap kind_of (little_drop 4 b 12 bytes ∙ h.child_type) ∙ kind_of_type k)
        ∙ rw (ne_eqb (size_of k) 0 h.kind_some, le-ltb (length rest) (padded (n * size_of k) + 16) (omega (arith, used)))
        (ap (λ o. choice_using o k (little 4 4 rest) n spot rest) type
        ∙ rw (le-ltb n (needed c) (omega (arith, h.enough, n_is)), kept, all, used)))

    pointer_read : (type word : ℕ) → PointerLaid bytes b len type word size → pointer_body len spot rest ≡ gave (pointer type word) size
    pointer_read type word h = by h.word_is
      where
        by : ((len ≡ 16) × (word ≡ little 8 (b + 8) bytes)) ⊎ ((len ≡ 12) × (word ≡ little 4 (b + 8) bytes)) → pointer_body len spot rest ≡ gave (pointer type word) size
        by (inl (e, w)) =
            rw (le-ltb (length rest) 8 (omega (arith, h.size_is)), le-ltb len 8 (omega arith), eq-eqb len 16 e)
            (taking_is _ _ _ size spot rest (ap (λ t. pointer t (little 8 8 rest)) (little_front 4 b bytes ∙ h.type_is) ∙ ap (pointer type) (little_drop 8 b 8 bytes ∙ sym w)) (sym h.size_is) fits)
        by (inr (e, w)) =
            rw (le-ltb (length rest) 8 (omega (arith, h.size_is)), le-ltb len 8 (omega arith), ne_eqb len 16 (λ z. omega arith), eq-eqb len 12 e)
            (taking_is _ _ _ size spot rest (ap (λ t. pointer t (little 4 8 rest)) (little_front 4 b bytes ∙ h.type_is) ∙ ap (pointer type) (little_drop 4 b 8 bytes ∙ sym w)) (sym h.size_is) fits)

    pub leaf_read : (l : Leaf) → BodyLaid bytes b len l size → leaf_body len (leaf_type l) spot rest ≡ gave l size
    unfolding leaf_body
    leaf_read (fixed k w) h = fixed_type k len spot rest ∙ fixed_read k w h
    leaf_read (text part) h = text_read part h
    leaf_read (raw part) h = raw_read part h
    leaf_read (array k words) h = array_read k words h
    leaf_read (choice c flags k words) h = choice_read c flags k words h
    leaf_read (pointer type word) h = pointer_read type word h
