-- What is laid out in some bytes is laid out wherever those bytes stand. Assumes nothing.
use Rattle.std.proofs.Common.{◌≡◌, ℕ, suc, ◌+◌, ◌-◌, ◌*◌, ◌/◌, ◌<◌, ◌≤◌, ◌⊎◌, List, length, get_or, sym, refl, ap, ◌∙◌, subst, inl, inr, mul-le-mul_right, suc-mul, arith}
use Rattle.words.specs.Words.{little}
use Rattle.words.proofs.Places.{little_same}
use Rattle.kinds.specs.declared.kind.Kind.{Kind}
use Rattle.kinds.specs.Kinds.{size_of, said}
use Rattle.pods.specs.declared.choices.ChoiceType.{ChoiceType}
use Rattle.pods.specs.declared.choices.ChoiceType.TheVariants.{None as NoChoice, Range, Step, Enum, Flags}
use Rattle.pods.specs.declared.holding.Holds.{Holds}
use Rattle.pods.specs.declared.holding.Holds.TheVariants.{Fields, Properties}
use Rattle.pods.specs.Choices.{needed, used_of, flags_kept}
use Rattle.pods.specs.Trees.{Tree, Forest, Leaf, fixed, text, raw, array, choice, pointer, leaf, struct, object, none, more, past, total, totals}
use Rattle.format.specs.Layout.{Stand, Values, FixedLaid, TextLaid, RawLaid, ArrayLaid, ChoiceLaid, PointerLaid, BodyLaid, Header, declared, Named, Laid, AllLaid}

-- no more values are used than there are
pub used_le : (c : ChoiceType) (n : ℕ) → needed c ≤ n → used_of c n ≤ n
used_le NoChoice n h = h
used_le Range n h = h
used_le Step n h = h
used_le Enum n h = omega arith
used_le Flags n h = omega arith

-- the last byte of a value of several
pub value_end : (i n s : ℕ) → i < n → i * s + s ≤ n * s
value_end i n s h = let m : suc i * s ≤ n * s = mul-le-mul_right s h in omega (arith, suc-mul i s)

-- where key and flags stand, and the pod after them
pub past_both : (h : Holds) (at m : ℕ) → past h at + m ≡ at + past h m
past_both Fields at m = refl
past_both Properties at m = omega arith

pub past_from : (h : Holds) (at : ℕ) → at ≤ past h at
past_from Fields at = omega arith
past_from Properties at = omega arith

-- the same in the bytes from `low` to n, which are there
module _ (bytes bytes' : List ℕ) (low n : ℕ) (same : (x : ℕ) → low ≤ x → x < n → get_or bytes' x 0 ≡ get_or bytes x 0) (there : n ≤ length bytes') where
  pub word_same : (m k : ℕ) → low ≤ k → k + m ≤ n → little m k bytes' ≡ little m k bytes
  word_same m k from le = little_same m k bytes bytes' (λ x l r. same x (omega arith) (omega arith))

  stand_same : (b : ℕ) (part : List ℕ) → low ≤ b → b + length part ≤ n → Stand bytes b part → Stand bytes' b part
  stand_same b part from le h i l = h i l ∙ sym (same (b + i) (omega arith) (omega arith))

  values_same : (k : Kind) (b m : ℕ) (words : List ℕ) → length words ≤ m → low ≤ b → b + m * size_of k ≤ n → Values bytes k b words → Values bytes' k b words
  values_same k b m words few from le h i l =
      let e = value_end i m (size_of k) (omega arith) in
      h i l ∙ ap (said k) (sym (word_same (size_of k) (b + i * size_of k) (omega arith) (omega arith)))

  module _ (b len size : ℕ) (from : low ≤ b) (le : b + size ≤ n) where
    fixed_same : (k : Kind) (w : ℕ) → FixedLaid bytes b k w size → FixedLaid bytes' b k w size
    fixed_same k w h =
        record { word_is = h.word_is ∙ ap (said k) (sym (word_same (size_of k) b from (omega (arith, h.size_is)))); size_is = h.size_is }

    text_same : (part : List ℕ) → TextLaid bytes b len part size → TextLaid bytes' b len part size
    text_same part h =
        record {
          len_is = h.len_is;
          stands = stand_same b part from (omega (arith, h.len_is, h.size_is)) h.stands;
          closed = same (b + length part) (omega arith) (omega (arith, h.len_is, h.size_is)) ∙ h.closed;
          formed = h.formed;
          size_is = h.size_is;
        }

    raw_same : (part : List ℕ) → RawLaid bytes b len part size → RawLaid bytes' b len part size
    raw_same part h =
        record { len_is = h.len_is; stands = stand_same b part from (omega (arith, h.len_is, h.size_is)) h.stands; size_is = h.size_is }

    array_same : (k : Kind) (words : List ℕ) → ArrayLaid bytes b len k words size → ArrayLaid bytes' b len k words size
    array_same k words h =
        let z = h.size_is in
        record {
          child_size = word_same 4 b (omega arith) (omega arith) ∙ h.child_size;
          child_type = word_same 4 (b + 4) (omega arith) (omega arith) ∙ h.child_type;
          counted = h.counted;
          values = values_same k (b + 8) (length words) words (omega arith) (omega arith) (omega arith) h.values;
          size_is = h.size_is;
        }

    choice_same : (c : ChoiceType) (flags : ℕ) (k : Kind) (words : List ℕ) → ChoiceLaid bytes b len c flags k words size → ChoiceLaid bytes' b len c flags k words size
    choice_same c flags k words h =
        let z = h.size_is in
        let child = word_same 4 (b + 8) (omega arith) (omega arith) in
        record {
          n = h.n;
          type_is = word_same 4 b (omega arith) (omega arith) ∙ h.type_is;
          flags_are = h.flags_are ∙ ap (flags_kept c) (sym (word_same 4 (b + 4) (omega arith) (omega arith)));
          child_some = λ e. h.child_some (sym child ∙ e);
          child_type = word_same 4 (b + 12) (omega arith) (omega arith) ∙ h.child_type;
          kind_some = h.kind_some;
          long = h.long;
          counted = h.counted ∙ ap (λ m. (len - 16) / m) (sym child);
          enough = h.enough;
          used = h.used;
          values = values_same k (b + 16) h.n words (omega (arith, h.used, used_le c h.n h.enough)) (omega arith) (omega arith) h.values;
          size_is = h.size_is;
        }

    pointer_same : (type word : ℕ) → PointerLaid bytes b len type word size → PointerLaid bytes' b len type word size
    pointer_same type word h =
        let z = h.size_is in record { type_is = word_same 4 b (omega arith) (omega arith) ∙ h.type_is; word_is = by h.word_is; size_is = h.size_is }
      where
        by : ((len ≡ 16) × (word ≡ little 8 (b + 8) bytes)) ⊎ ((len ≡ 12) × (word ≡ little 4 (b + 8) bytes)) → ((len ≡ 16) × (word ≡ little 8 (b + 8) bytes')) ⊎ ((len ≡ 12) × (word ≡ little 4 (b + 8) bytes'))
        by (inl (e, w)) = inl (e, w ∙ sym (word_same 8 (b + 8) (omega arith) (omega (arith, h.size_is))))
        by (inr (e, w)) = inr (e, w ∙ sym (word_same 4 (b + 8) (omega arith) (omega (arith, h.size_is))))

    body_same : (l : Leaf) → BodyLaid bytes b len l size → BodyLaid bytes' b len l size
    body_same (fixed k w) h = fixed_same k w h
    body_same (text part) h = text_same part h
    body_same (raw part) h = raw_same part h
    body_same (array k words) h = array_same k words h
    body_same (choice c flags k words) h = choice_same c flags k words h
    body_same (pointer type word) h = pointer_same type word h

  header_same : (p type size : ℕ) → low ≤ p → p + 8 + size ≤ n → Header bytes p type size → Header bytes' p type size
  header_same p type size from le h = record { there = omega arith; type_is = word_same 4 (p + 4) (omega arith) (omega arith) ∙ h.type_is }

  pub named_same : (h : Holds) (at key flags : ℕ) → low ≤ at → past h at ≤ n → Named bytes h at key flags → Named bytes' h at key flags
  named_same Fields at key flags from le h = h
  named_same Properties at key flags from le h = (word_same 4 at (omega arith) (omega arith) ∙ h.0, word_same 4 (at + 4) (omega arith) (omega arith) ∙ h.1)

  mutual
    pub laid_same : (t : Tree) (p : ℕ) → low ≤ p → p + total t ≤ n → Laid bytes t p → Laid bytes' t p
    laid_same (leaf l size) p from le h = (
      header_same p _ size from (omega arith) h.0,
      subst (λ m. BodyLaid bytes' (p + 8) m l size) (sym (word_same 4 p (omega arith) (omega arith))) (body_same (p + 8) (declared bytes p) size (omega arith) (omega arith) l h.1),
    )
    laid_same (struct f) p from le h =
        (header_same p 14 _ from (omega arith) h.0, word_same 4 p (omega arith) (omega arith) ∙ h.1, all_same Fields f (p + 8) (omega arith) (omega arith) h.2)
    laid_same (object type id f) p from le h = (
      header_same p 15 _ from (omega arith) h.0,
      word_same 4 p (omega arith) (omega arith) ∙ h.1,
      word_same 4 (p + 8) (omega arith) (omega arith) ∙ h.2,
      word_same 4 (p + 12) (omega arith) (omega arith) ∙ h.3,
      all_same Properties f (p + 16) (omega arith) (omega arith) h.4,
    )

    pub all_same : (h : Holds) (f : Forest) (at : ℕ) → low ≤ at → at + totals h f ≤ n → AllLaid bytes h f at → AllLaid bytes' h f at
    all_same h none at from le a = tt
    all_same h (more key flags t f) at from le a =
        let e = past_both h at (total t) in
        let after = past_from h at in
        (named_same h at key flags from (omega arith) a.0, laid_same t (past h at) (omega arith) (omega arith) a.1, all_same h f (at + past h (total t)) (omega arith) (omega arith) a.2)
