-- Where the elements of any row stand, and what a look at one answers, by the row's kind. Assumes nothing.
use Rattle.std.proofs.Common.{◌≡◌, ℕ, ◌+◌, ◌*◌, ◌⊎◌, List, get_or, drop, Some, ap, inl, inr, arith}
use Rattle.std.proofs.lemmas.Bool.{ne_eqb}
use Rattle.kinds.specs.declared.kind.Kind.{Kind}
use Rattle.kinds.specs.Kinds.{kind_of, size_of, word_of}
use Rattle.kinds.proofs.Types.{type_of_kind}
use Rattle.pods.specs.declared.rows.Row.{Row}
use Rattle.laying.specs.Elements.{element_place, look}
use Rattle.laying.proofs.Elements.{plain}

module _ (r : Row) (e : ℕ) where
  -- text and raw bytes
  pub place_byte : (r.kind ≡ 8) ⊎ (r.kind ≡ 9) → element_place r e ≡ r.place + 8 + e
  place_byte (inl t) = rw t (omega arith)
  place_byte (inr t) = rw t (omega arith)

  pub look_byte : (bytes : List ℕ) → (r.kind ≡ 8) ⊎ (r.kind ≡ 9) → look bytes r e ≡ get_or bytes (r.place + 8 + e) 0
  look_byte bytes (inl t) = rw t (ap (λ p. get_or bytes p 0) (omega arith))
  look_byte bytes (inr t) = rw t (ap (λ p. get_or bytes p 0) (omega arith))

  module _ (k : Kind) where
    pub place_array : r.kind ≡ 13 → kind_of r.child ≡ Some k → element_place r e ≡ r.place + 16 + e * size_of k
    place_array t c = rw (t, c)

    pub look_array : (bytes : List ℕ) → r.kind ≡ 13 → kind_of r.child ≡ Some k → look bytes r e ≡ word_of k (drop (r.place + 16 + e * size_of k) bytes)
    look_array bytes t c = rw (t, c)

    pub place_choice : r.kind ≡ 19 → kind_of r.child ≡ Some k → element_place r e ≡ r.place + 24 + e * size_of k
    place_choice t c = rw (t, c)

    pub look_choice : (bytes : List ℕ) → r.kind ≡ 19 → kind_of r.child ≡ Some k → look bytes r e ≡ word_of k (drop (r.place + 24 + e * size_of k) bytes)
    look_choice bytes t c = rw (t, c)

    -- a row of a kind has one element, its word
    pub place_fixed : kind_of r.kind ≡ Some k → e ≡ 0 → element_place r e ≡ r.place + 8
    place_fixed h first = let type = type_of_kind r.kind k h in rw (first, type, (plain k).2, (plain k).3) (omega arith)

  pub look_word : (bytes : List ℕ) → (r.kind ≡ 8 → ⊥) → (r.kind ≡ 9 → ⊥) → (r.kind ≡ 13 → ⊥) → (r.kind ≡ 19 → ⊥) → look bytes r e ≡ r.word
  look_word bytes a b c d = rw (ne_eqb r.kind 8 a, ne_eqb r.kind 9 b, ne_eqb r.kind 13 c, ne_eqb r.kind 19 d)
