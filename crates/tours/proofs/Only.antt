-- A tree by the type number of its header. Assumes nothing.
use Rattle.std.proofs.Common.{◌≡◌, ℕ, ◌+◌, List, sym, refl, ap, arith}
use Rattle.words.specs.Words.{little}
use Rattle.format.specs.Layout.{Laid}
use Rattle.kinds.specs.declared.kind.Kind.{Kind}
use Rattle.kinds.specs.declared.kind.Kind.TheVariants.{None, Bool as BoolKind, Id, Int, Long, Float, Double, Rectangle, Fraction, Fd}
use Rattle.kinds.specs.Kinds.{kind_of, type_of}
use Rattle.kinds.proofs.Types.{kind_of_type}
use Rattle.pods.specs.declared.choices.ChoiceType.{ChoiceType}
use Rattle.pods.specs.declared.types.PodType.{PodType}
use Rattle.pods.specs.declared.types.PodType.TheVariants.{Fixed as FixedType, Text, Raw, Array, Struct, Object, Pointer, Choice}
use Rattle.pods.specs.Types.{type_number}
use Rattle.pods.specs.Trees.{Tree, Forest, fixed, text, raw, array, choice, pointer, leaf, struct, object}

-- a kind's type number is none of the others'
pub plain : (k : Kind) → (type_of k ≡ 8 → ⊥) × (type_of k ≡ 9 → ⊥) × (type_of k ≡ 13 → ⊥) × (type_of k ≡ 14 → ⊥) × (type_of k ≡ 15 → ⊥) × (type_of k ≡ 17 → ⊥) × (type_of k ≡ 19 → ⊥)
plain None = (λ e. omega arith, λ e. omega arith, λ e. omega arith, λ e. omega arith, λ e. omega arith, λ e. omega arith, λ e. omega arith)
plain BoolKind = (λ e. omega arith, λ e. omega arith, λ e. omega arith, λ e. omega arith, λ e. omega arith, λ e. omega arith, λ e. omega arith)
plain Id = (λ e. omega arith, λ e. omega arith, λ e. omega arith, λ e. omega arith, λ e. omega arith, λ e. omega arith, λ e. omega arith)
plain Int = (λ e. omega arith, λ e. omega arith, λ e. omega arith, λ e. omega arith, λ e. omega arith, λ e. omega arith, λ e. omega arith)
plain Long = (λ e. omega arith, λ e. omega arith, λ e. omega arith, λ e. omega arith, λ e. omega arith, λ e. omega arith, λ e. omega arith)
plain Float = (λ e. omega arith, λ e. omega arith, λ e. omega arith, λ e. omega arith, λ e. omega arith, λ e. omega arith, λ e. omega arith)
plain Double = (λ e. omega arith, λ e. omega arith, λ e. omega arith, λ e. omega arith, λ e. omega arith, λ e. omega arith, λ e. omega arith)
plain Rectangle = (λ e. omega arith, λ e. omega arith, λ e. omega arith, λ e. omega arith, λ e. omega arith, λ e. omega arith, λ e. omega arith)
plain Fraction = (λ e. omega arith, λ e. omega arith, λ e. omega arith, λ e. omega arith, λ e. omega arith, λ e. omega arith, λ e. omega arith)
plain Fd = (λ e. omega arith, λ e. omega arith, λ e. omega arith, λ e. omega arith, λ e. omega arith, λ e. omega arith, λ e. omega arith)

pub same_type : (k l : Kind) → type_of k ≡ type_of l → k ≡ l
same_type k l e = let a = kind_of_type k in let b = kind_of_type l in let same : kind_of (type_of k) ≡ kind_of (type_of l) = ap kind_of e in cc

-- the type number of a pod
abbrev pub type_in : Tree → ℕ
type_in (leaf (fixed k w) size) = type_of k
type_in (leaf (text part) size) = 8
type_in (leaf (raw part) size) = 9
type_in (leaf (array k words) size) = 13
type_in (leaf (choice c flags k words) size) = 19
type_in (leaf (pointer type word) size) = 17
type_in (struct f) = 14
type_in (object type id f) = 15

-- it is that of a type
pub typed_by : (t : Tree) → (p : PodType) × (type_number p ≡ type_in t)
typed_by (leaf (fixed k w) size) = (FixedType k, refl)
typed_by (leaf (text part) size) = (Text, refl)
typed_by (leaf (raw part) size) = (Raw, refl)
typed_by (leaf (array k words) size) = (Array, refl)
typed_by (leaf (choice c flags k words) size) = (Choice, refl)
typed_by (leaf (pointer type word) size) = (Pointer, refl)
typed_by (struct f) = (Struct, refl)
typed_by (object type id f) = (Object, refl)

-- the header of a tree that is laid out has its type number
pub laid_type : (bytes : List ℕ) (t : Tree) (p : ℕ) → Laid bytes t p → little 4 (p + 4) bytes ≡ type_in t
laid_type bytes (leaf (fixed k w) size) p h = h.0.type_is
laid_type bytes (leaf (text part) size) p h = h.0.type_is
laid_type bytes (leaf (raw part) size) p h = h.0.type_is
laid_type bytes (leaf (array k words) size) p h = h.0.type_is
laid_type bytes (leaf (choice c flags k words) size) p h = h.0.type_is
laid_type bytes (leaf (pointer type word) size) p h = h.0.type_is
laid_type bytes (struct f) p h = h.0.type_is
laid_type bytes (object type id f) p h = h.0.type_is

-- by the number, the tree has this shape
pub only_text : (t : Tree) → type_in t ≡ 8 → (part : List ℕ) × (size : ℕ) × (t ≡ leaf (text part) size)
only_text (leaf (fixed k w) size) e = absurd ((plain k).0 e)
only_text (leaf (text part) size) e = (part, size, refl)
only_text (leaf (raw part) size) e = absurd (omega arith)
only_text (leaf (array k words) size) e = absurd (omega arith)
only_text (leaf (choice c flags k words) size) e = absurd (omega arith)
only_text (leaf (pointer type word) size) e = absurd (omega arith)
only_text (struct f) e = absurd (omega arith)
only_text (object type id f) e = absurd (omega arith)

pub only_raw : (t : Tree) → type_in t ≡ 9 → (part : List ℕ) × (size : ℕ) × (t ≡ leaf (raw part) size)
only_raw (leaf (fixed k w) size) e = absurd ((plain k).1 e)
only_raw (leaf (text part) size) e = absurd (omega arith)
only_raw (leaf (raw part) size) e = (part, size, refl)
only_raw (leaf (array k words) size) e = absurd (omega arith)
only_raw (leaf (choice c flags k words) size) e = absurd (omega arith)
only_raw (leaf (pointer type word) size) e = absurd (omega arith)
only_raw (struct f) e = absurd (omega arith)
only_raw (object type id f) e = absurd (omega arith)

pub only_array : (t : Tree) → type_in t ≡ 13 → (k : Kind) × (words : List ℕ) × (size : ℕ) × (t ≡ leaf (array k words) size)
only_array (leaf (fixed k w) size) e = absurd ((plain k).2 e)
only_array (leaf (text part) size) e = absurd (omega arith)
only_array (leaf (raw part) size) e = absurd (omega arith)
only_array (leaf (array k words) size) e = (k, words, size, refl)
only_array (leaf (choice c flags k words) size) e = absurd (omega arith)
only_array (leaf (pointer type word) size) e = absurd (omega arith)
only_array (struct f) e = absurd (omega arith)
only_array (object type id f) e = absurd (omega arith)

pub only_choice : (t : Tree) → type_in t ≡ 19 → (c : ChoiceType) × (flags : ℕ) × (k : Kind) × (words : List ℕ) × (size : ℕ) × (t ≡ leaf (choice c flags k words) size)
only_choice (leaf (fixed k w) size) e = absurd ((plain k).6 e)
only_choice (leaf (text part) size) e = absurd (omega arith)
only_choice (leaf (raw part) size) e = absurd (omega arith)
only_choice (leaf (array k words) size) e = absurd (omega arith)
only_choice (leaf (choice c flags k words) size) e = (c, flags, k, words, size, refl)
only_choice (leaf (pointer type word) size) e = absurd (omega arith)
only_choice (struct f) e = absurd (omega arith)
only_choice (object type id f) e = absurd (omega arith)

pub only_pointer : (t : Tree) → type_in t ≡ 17 → (type : ℕ) × (word : ℕ) × (size : ℕ) × (t ≡ leaf (pointer type word) size)
only_pointer (leaf (fixed k w) size) e = absurd ((plain k).5 e)
only_pointer (leaf (text part) size) e = absurd (omega arith)
only_pointer (leaf (raw part) size) e = absurd (omega arith)
only_pointer (leaf (array k words) size) e = absurd (omega arith)
only_pointer (leaf (choice c flags k words) size) e = absurd (omega arith)
only_pointer (leaf (pointer type word) size) e = (type, word, size, refl)
only_pointer (struct f) e = absurd (omega arith)
only_pointer (object type id f) e = absurd (omega arith)

pub only_struct : (t : Tree) → type_in t ≡ 14 → (f : Forest) × (t ≡ struct f)
only_struct (leaf (fixed k w) size) e = absurd ((plain k).3 e)
only_struct (leaf (text part) size) e = absurd (omega arith)
only_struct (leaf (raw part) size) e = absurd (omega arith)
only_struct (leaf (array k words) size) e = absurd (omega arith)
only_struct (leaf (choice c flags k words) size) e = absurd (omega arith)
only_struct (leaf (pointer type word) size) e = absurd (omega arith)
only_struct (struct f) e = (f, refl)
only_struct (object type id f) e = absurd (omega arith)

pub only_object : (t : Tree) → type_in t ≡ 15 → (type : ℕ) × (id : ℕ) × (f : Forest) × (t ≡ object type id f)
only_object (leaf (fixed k w) size) e = absurd ((plain k).4 e)
only_object (leaf (text part) size) e = absurd (omega arith)
only_object (leaf (raw part) size) e = absurd (omega arith)
only_object (leaf (array k words) size) e = absurd (omega arith)
only_object (leaf (choice c flags k words) size) e = absurd (omega arith)
only_object (leaf (pointer type word) size) e = absurd (omega arith)
only_object (struct f) e = absurd (omega arith)
only_object (object type id f) e = (type, id, f, refl)

-- none of these numbers
abbrev pub Other : ℕ → Type 0
Other n = (n ≡ 8 → ⊥) × (n ≡ 9 → ⊥) × (n ≡ 13 → ⊥) × (n ≡ 14 → ⊥) × (n ≡ 15 → ⊥) × (n ≡ 17 → ⊥) × (n ≡ 19 → ⊥)

pub only_fixed : (t : Tree) (n : ℕ) → type_in t ≡ n → Other n → (k : Kind) × (word : ℕ) × (size : ℕ) × (t ≡ leaf (fixed k word) size)
only_fixed (leaf (fixed k w) size) n e o = (k, w, size, refl)
only_fixed (leaf (text part) size) n e o = absurd (o.0 (sym e))
only_fixed (leaf (raw part) size) n e o = absurd (o.1 (sym e))
only_fixed (leaf (array k words) size) n e o = absurd (o.2 (sym e))
only_fixed (leaf (choice c flags k words) size) n e o = absurd (o.6 (sym e))
only_fixed (leaf (pointer type word) size) n e o = absurd (o.5 (sym e))
only_fixed (struct f) n e o = absurd (o.3 (sym e))
only_fixed (object type id f) n e o = absurd (o.4 (sym e))
