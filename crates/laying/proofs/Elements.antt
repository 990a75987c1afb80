-- The elements of one row: where they stand, and what a look at one answers. Assumes nothing.
use Rattle.std.proofs.Common.{◌≡◌, ℕ, ◌+◌, ◌*◌, ◌<◌, ◌≤◌, false, eqb, List, length, get_or, drop, sym, refl, ap, ◌∙◌, mul-le-mul_right, arith}
use Rattle.std.proofs.lemmas.Bool.{cond_both}
use Rattle.kinds.specs.declared.kind.Kind.{Kind}
use Rattle.kinds.specs.declared.kind.Kind.TheVariants.{None, Bool as BoolKind, Id, Int, Long, Float, Double, Rectangle, Fraction, Fd}
use Rattle.kinds.specs.Kinds.{kind_of, size_of, type_of}
use Rattle.kinds.proofs.Types.{kind_of_type}
use Rattle.pods.specs.declared.rows.Row.{Row}
use Rattle.pods.specs.Trees.{Tree, Leaf, fixed, text, raw, array, choice, pointer, leaf, struct, object, total}
use Rattle.pods.specs.Rows.{Above, leaf_count, leaf_row}
use Rattle.format.specs.Layout.{word_at, BodyLaid, Laid}
use Rattle.format.proofs.Values.{word_front}
use Rattle.format.proofs.Ahead.{used_le, value_end}
use Rattle.format.proofs.Chains.{root}
use Rattle.laying.specs.Elements.{element_size, first_place, element_place, word_by, look}
use Rattle.laying.specs.Values.{leaf_values, own_values}

-- ---- of any row

pub first_from : (r : Row) → r.place + 8 ≤ first_place r
first_from r =
    cond_both (eqb r.kind 13) 16 _ (λ n. r.place + 8 ≤ r.place + n) (λ _. omega arith)
    (λ _. cond_both (eqb r.kind 19) 24 8 (λ n. r.place + 8 ≤ r.place + n) (λ _. omega arith) (λ _. omega arith))

pub element_from : (r : Row) (e : ℕ) → r.place + 8 ≤ element_place r e
element_from r e = omega (arith, first_from r)

-- an element ends where the next one stands, or before
pub element_to : (r : Row) (e e' : ℕ) → e < e' → element_place r e + element_size r ≤ element_place r e'
element_to r e e' less = omega (arith, value_end e e' (element_size r) less)

-- ---- of the row of a leaf

-- a kind's type number is none of these
pub plain : (k : Kind) → (eqb (type_of k) 8 ≡ false) × (eqb (type_of k) 9 ≡ false) × (eqb (type_of k) 13 ≡ false) × (eqb (type_of k) 19 ≡ false)
plain None = (refl, refl, refl, refl)
plain BoolKind = (refl, refl, refl, refl)
plain Id = (refl, refl, refl, refl)
plain Int = (refl, refl, refl, refl)
plain Long = (refl, refl, refl, refl)
plain Float = (refl, refl, refl, refl)
plain Double = (refl, refl, refl, refl)
plain Rectangle = (refl, refl, refl, refl)
plain Fraction = (refl, refl, refl, refl)
plain Fd = (refl, refl, refl, refl)

-- the bytes of an element
abbrev pub leaf_size : Leaf → ℕ
leaf_size (fixed k w) = size_of k
leaf_size (text part) = 1
leaf_size (raw part) = 1
leaf_size (array k ws) = size_of k
leaf_size (choice c flags k ws) = size_of k
leaf_size (pointer type w) = 0

-- the bytes of a body before its elements
abbrev pub leaf_ahead : Leaf → ℕ
leaf_ahead (fixed k w) = 0
leaf_ahead (text part) = 0
leaf_ahead (raw part) = 0
leaf_ahead (array k ws) = 8
leaf_ahead (choice c flags k ws) = 16
leaf_ahead (pointer type w) = 0

module _ (a : Above) (n : ℕ) where
  pub size_is : (l : Leaf) → element_size (leaf_row a l n) ≡ leaf_size l
  unfolding kind_of
  size_is (fixed k w) = rw ((plain k).0, (plain k).1, (plain k).2, (plain k).3, kind_of_type k)
  size_is (text part) = refl
  size_is (raw part) = refl
  size_is (array k ws) = rw (kind_of_type k)
  size_is (choice c flags k ws) = rw (kind_of_type k)
  size_is (pointer type w) = refl

  first_is : (l : Leaf) → first_place (leaf_row a l n) ≡ a.place + 8 + leaf_ahead l
  first_is (fixed k w) = rw ((plain k).2, (plain k).3) (omega arith)
  first_is (text part) = omega arith
  first_is (raw part) = omega arith
  first_is (array k ws) = omega arith
  first_is (choice c flags k ws) = omega arith
  first_is (pointer type w) = omega arith

  pub place_is : (l : Leaf) (e : ℕ) → element_place (leaf_row a l n) e ≡ a.place + 8 + leaf_ahead l + e * leaf_size l
  place_is l e = ap (λ s. first_place (leaf_row a l n) + e * s) (size_is l) ∙ ap (λ p. p + e * leaf_size l) (first_is l)

-- they end within their body
leaf_ends : (bytes : List ℕ) (b len size : ℕ) (l : Leaf) → BodyLaid bytes b len l size → leaf_ahead l + leaf_count l * leaf_size l ≤ size
leaf_ends bytes b len size (fixed k w) h = omega (arith, h.size_is)
leaf_ends bytes b len size (text part) h = omega (arith, h.size_is, h.len_is)
leaf_ends bytes b len size (raw part) h = omega (arith, h.size_is, h.len_is)
leaf_ends bytes b len size (array k ws) h = omega (arith, h.size_is)
leaf_ends bytes b len size (choice c flags k ws) h =
    let few : length ws * size_of k ≤ h.n * size_of k = mul-le-mul_right (size_of k) (omega (arith, h.used, used_le c h.n h.enough)) in
    omega (arith, h.size_is)
leaf_ends bytes b len size (pointer type w) h = omega arith

pub root_ends : (bytes : List ℕ) (t : Tree) (a : Above) → Laid bytes t a.place → element_place (root t a) (root t a).count ≤ a.place + total t
unfolding kind_of
root_ends bytes (leaf l size) a h =
    let e = place_is a (size + 8) l (leaf_count l) in omega (arith, leaf_ends bytes (a.place + 8) _ size l h.1)
root_ends bytes (struct f) a h = omega arith
root_ends bytes (object type id f) a h = omega arith

-- ---- looks

module _ (bytes : List ℕ) (a : Above) (len size : ℕ) where
  -- a value at a place
  value_is : (k : Kind) (ws : List ℕ) (p q : ℕ) (e : ℕ) → p ≡ q → get_or ws e 0 ≡ word_at k q bytes → word_by (kind_of (type_of k)) (drop p bytes) ≡ get_or ws e 0
  value_is k ws p q e same is = rw (kind_of_type k) (word_front k p bytes ∙ ap (λ x. word_at k x bytes) same ∙ sym is)

  leaf_look : (l : Leaf) (e : ℕ) → e < leaf_count l → BodyLaid bytes (a.place + 8) len l size → look bytes (leaf_row a l (size + 8)) e ≡ get_or (leaf_values l) e 0
  leaf_look (fixed k w) e lt h =
      let z : e ≡ 0 = omega arith in rw ((plain k).0, (plain k).1, (plain k).2, (plain k).3, z)
  leaf_look (text part) e lt h =
      ap (λ p. get_or bytes p 0) (place_is a (size + 8) (text part) e ∙ omega arith) ∙ sym (h.stands e lt)
  leaf_look (raw part) e lt h =
      ap (λ p. get_or bytes p 0) (place_is a (size + 8) (raw part) e ∙ omega arith) ∙ sym (h.stands e lt)
  leaf_look (array k ws) e lt h =
      value_is k ws (element_place (leaf_row a (array k ws) (size + 8)) e) _ e (place_is a (size + 8) (array k ws) e) (h.values e lt)
  leaf_look (choice c flags k ws) e lt h =
      value_is k ws (element_place (leaf_row a (choice c flags k ws) (size + 8)) e) _ e (place_is a (size + 8) (choice c flags k ws) e) (h.values e lt)
  leaf_look (pointer type w) e lt h = let z : e ≡ 0 = omega arith in rw z

pub root_look : (bytes : List ℕ) (t : Tree) (a : Above) (e : ℕ) → e < (root t a).count → Laid bytes t a.place → look bytes (root t a) e ≡ get_or (own_values t) e 0
root_look bytes (leaf l size) a e lt h = leaf_look bytes a _ size l e lt h.1
root_look bytes (struct f) a e lt h = let z : e ≡ 0 = omega arith in rw z
root_look bytes (object type id f) a e lt h = let z : e ≡ 0 = omega arith in rw z
