-- What can be set, by the pod. Assumes nothing.
use Rattle.std.proofs.Common.{◌≡◌, ℕ, ◌+◌, ◌<◌, length, Some, None as no_kind, Option, sym, refl, ap, ◌∙◌, arith}
use Rattle.kinds.specs.declared.kind.Kind.{Kind}
use Rattle.kinds.specs.declared.kind.Kind.TheVariants.{None, Bool as BoolKind, Id, Int, Long, Float, Double, Rectangle, Fraction, Fd}
use Rattle.kinds.specs.Kinds.{kind_of, size_of, type_of}
use Rattle.pods.specs.Trees.{Tree, Leaf, fixed, text, raw, array, choice, pointer, leaf, struct, object}
use Rattle.pods.specs.Rows.{Above, leaf_row}
use Rattle.format.proofs.Chains.{root}
use Rattle.laying.specs.Elements.{element_size, settable_type, or_else, settable_kind, Settable}
use Rattle.laying.proofs.Elements.{leaf_size, size_is}

-- a leaf has values of kind k
abbrev pub Valued : Leaf → Kind → Type 0
Valued (fixed kind w) k = kind ≡ k
Valued (text part) k = ⊥
Valued (raw part) k = ⊥
Valued (array kind ws) k = kind ≡ k
Valued (choice c flags kind ws) k = kind ≡ k
Valued (pointer type w) k = ⊥

-- one stands at e, which can be set
abbrev pub Slot : Leaf → (e : ℕ) → Kind → Type 0
Slot (fixed kind w) e k = (kind ≡ k) × (e ≡ 0)
Slot (text part) e k = ⊥
Slot (raw part) e k = ⊥
Slot (array kind ws) e k = (kind ≡ k) × (e < length ws)
Slot (choice c flags kind ws) e k = (kind ≡ k) × (e < length ws) × (e ≡ 0)
Slot (pointer type w) e k = ⊥

no_kind_is : (k : Kind) → no_kind ≡ Some k → ⊥
no_kind_is k h = let z : ◌≡◌ {A = ℕ} 0 1 = cc in omega arith

type_kind : (kind k : Kind) → settable_type (type_of kind) ≡ Some k → kind ≡ k
unfolding kind_of
type_kind None k h = absurd (no_kind_is k h)
type_kind BoolKind k h = cc
type_kind Id k h = cc
type_kind Int k h = cc
type_kind Long k h = cc
type_kind Float k h = cc
type_kind Double k h = cc
type_kind Rectangle k h = cc
type_kind Fraction k h = cc
type_kind Fd k h = cc

or_none : (o : Option Kind) → or_else o no_kind ≡ o
or_none no_kind = refl
or_none (Some k) = refl

-- a struct or object has none
pub struct_valued : (k : Kind) → or_else (settable_type 14) (settable_type 0) ≡ Some k → ⊥
unfolding kind_of
struct_valued k h = no_kind_is k h

pub object_valued : (k : Kind) → or_else (settable_type 15) (settable_type 0) ≡ Some k → ⊥
unfolding kind_of
object_valued k h = no_kind_is k h

module _ (a : Above) (n : ℕ) (k : Kind) where
  pub leaf_valued : (l : Leaf) → settable_kind (leaf_row a l n) ≡ Some k → Valued l k
  unfolding kind_of
  leaf_valued (fixed kind w) h = type_kind kind k (sym (or_none (settable_type (type_of kind))) ∙ h)
  leaf_valued (text part) h = no_kind_is k h
  leaf_valued (raw part) h = no_kind_is k h
  leaf_valued (array kind ws) h = type_kind kind k h
  leaf_valued (choice c flags kind ws) h = type_kind kind k h
  leaf_valued (pointer type w) h = no_kind_is k h

  pub leaf_slot : (l : Leaf) (e : ℕ) → Settable (leaf_row a l n) e k → Slot l e k
  leaf_slot l e s = by l (leaf_valued l s.kind_is) s
    where
      by : (l : Leaf) → Valued l k → Settable (leaf_row a l n) e k → Slot l e k
      by (fixed kind w) v s = (v, omega (arith, s.there))
      by (text part) v s = v
      by (raw part) v s = v
      by (array kind ws) v s = (v, s.there)
      by (choice c flags kind ws) v s = (v, s.there, s.default refl)
      by (pointer type w) v s = v

-- an element that can be set has the size of its kind
leaf_sized : (l : Leaf) (k : Kind) → Valued l k → leaf_size l ≡ size_of k
leaf_sized (fixed kind w) k v = ap size_of v
leaf_sized (text part) k v = absurd v
leaf_sized (raw part) k v = absurd v
leaf_sized (array kind ws) k v = ap size_of v
leaf_sized (choice c flags kind ws) k v = ap size_of v
leaf_sized (pointer type w) k v = absurd v

pub root_sized : (t : Tree) (a : Above) (k : Kind) → settable_kind (root t a) ≡ Some k → element_size (root t a) ≡ size_of k
root_sized (leaf l size) a k h = size_is a (size + 8) l ∙ leaf_sized l k (leaf_valued a (size + 8) k l h)
root_sized (struct f) a k h = absurd (struct_valued k h)
root_sized (object type id f) a k h = absurd (object_valued k h)
