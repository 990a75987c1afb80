-- How a tree is laid out in bytes, pod by pod. Assumes nothing.
use Rattle.std.specs.Prelude.{◌≡◌, ℕ, ◌+◌, ◌-◌, ◌*◌, ◌/◌, ◌<◌, ◌≤◌, true, ◌⊎◌, List, length, ◌≢◌, slice_index, slice_index_or}
use Rattle.words.specs.Words.{little, padded}
use Rattle.utf8.specs.Table37.{well_formed}
use Rattle.kinds.specs.declared.kind.Kind.{Kind}
use Rattle.kinds.specs.Kinds.{type_of, size_of, said}
use Rattle.pods.specs.declared.choices.ChoiceType.{ChoiceType}
use Rattle.pods.specs.declared.holding.Holds.{Holds}
use Rattle.pods.specs.declared.holding.Holds.TheVariants.{Fields, Properties}
use Rattle.pods.specs.Choices.{choice_number, needed, used_of, flags_kept}
use Rattle.pods.specs.Trees.{Tree, Forest, Leaf, fixed, text, raw, array, choice, pointer, leaf, struct, object, none, more, past, total, totals}
use Rattle.pods.specs.Rows.{leaf_type}

-- the word of a kind's value that stands at a place
abbrev pub word_at : Kind → ℕ → List ℕ → ℕ
word_at k p bytes = said k (little (size_of k) p bytes)

-- these are the bytes from place b on
abbrev pub Stand : List ℕ → (b : ℕ) → List ℕ → Type 0
Stand bytes b part = (i : ℕ) → i < length part → slice_index part i ≡ slice_index bytes (b + i)

-- these are the words of values that lie one after the other from place b on
abbrev pub Values : List ℕ → Kind → (b : ℕ) → List ℕ → Type 0
Values bytes k b words = (i : ℕ) → i < length words → slice_index words i ≡ word_at k (b + i * size_of k) bytes

-- ---- bodies that hold no pods: from place b on, where the header declares the length `len`

pub record FixedLaid (bytes : List ℕ) (b : ℕ) (k : Kind) (word size : ℕ) : Type 0 where
  pub word_is : word ≡ word_at k b bytes
  pub size_is : size ≡ padded (size_of k)

-- the text, a zero, and padding
pub record TextLaid (bytes : List ℕ) (b len : ℕ) (part : List ℕ) (size : ℕ) : Type 0 where
  pub len_is : len ≡ length part + 1
  pub stands : Stand bytes b part
  pub closed : slice_index_or bytes (b + length part) 0 ≡ 0
  pub formed : well_formed part ≡ true
  pub size_is : size ≡ padded len

pub record RawLaid (bytes : List ℕ) (b len : ℕ) (part : List ℕ) (size : ℕ) : Type 0 where
  pub len_is : len ≡ length part
  pub stands : Stand bytes b part
  pub size_is : size ≡ padded len

-- an array of None has no values; another has as many as its length has room for
abbrev pub ArrayCounted : (s len n : ℕ) → Type 0
ArrayCounted s len n = ((s ≡ 0) × (n ≡ 0)) ⊎ ((s ≢ 0) × (8 ≤ len) × (n ≡ (len - 8) / s))

-- the size and type of its values, and the values
pub record ArrayLaid (bytes : List ℕ) (b len : ℕ) (k : Kind) (words : List ℕ) (size : ℕ) : Type 0 where
  pub child_size : little 4 b bytes ≡ size_of k
  pub child_type : little 4 (b + 4) bytes ≡ type_of k
  pub counted : ArrayCounted (size_of k) len (length words)
  pub values : Values bytes k (b + 8) words
  pub size_is : size ≡ padded (length words * size_of k) + 8

-- choice type, flags, the size and type of its values, and n values, of which some may be spare
pub record ChoiceLaid (bytes : List ℕ) (b len : ℕ) (c : ChoiceType) (flags : ℕ) (k : Kind) (words : List ℕ) (size : ℕ) : Type 0 where
  pub n : ℕ
  pub type_is : little 4 b bytes ≡ choice_number c
  pub flags_are : flags ≡ flags_kept c (little 4 (b + 4) bytes)
  pub child_some : little 4 (b + 8) bytes ≡ 0 → ⊥
  pub child_type : little 4 (b + 12) bytes ≡ type_of k
  pub kind_some : size_of k ≡ 0 → ⊥
  pub long : 16 ≤ len
  pub counted : n ≡ (len - 16) / little 4 (b + 8) bytes
  pub enough : needed c ≤ n
  pub used : length words ≡ used_of c n
  pub values : Values bytes k (b + 16) words
  pub size_is : size ≡ padded (n * size_of k) + 16

-- the pointer's type, four spare bytes, and a pointer of eight bytes or of four
pub record PointerLaid (bytes : List ℕ) (b len type word size : ℕ) : Type 0 where
  pub type_is : little 4 b bytes ≡ type
  pub word_is : ((len ≡ 16) × (word ≡ little 8 (b + 8) bytes)) ⊎ ((len ≡ 12) × (word ≡ little 4 (b + 8) bytes))
  pub size_is : size ≡ 16

abbrev pub BodyLaid : List ℕ → (b len : ℕ) → Leaf → (size : ℕ) → Type 0
BodyLaid bytes b len (fixed k word) size = FixedLaid bytes b k word size
BodyLaid bytes b len (text part) size = TextLaid bytes b len part size
BodyLaid bytes b len (raw part) size = RawLaid bytes b len part size
BodyLaid bytes b len (array k words) size = ArrayLaid bytes b len k words size
BodyLaid bytes b len (choice c flags k words) size = ChoiceLaid bytes b len c flags k words size
BodyLaid bytes b len (pointer type word) size = PointerLaid bytes b len type word size

-- ---- pods

-- a header with this type, and a body with so many bytes, stand at place p
pub record Header (bytes : List ℕ) (p type size : ℕ) : Type 0 where
  pub there : p + 8 + size ≤ length bytes
  pub type_is : little 4 (p + 4) bytes ≡ type

-- the length that the header at place p declares
abbrev pub declared : List ℕ → ℕ → ℕ
declared bytes p = little 4 p bytes

-- what stands at place `at` before a pod: nothing before a field, key and flags before the pod of a property
abbrev pub Named : List ℕ → Holds → (at key flags : ℕ) → Type 0
Named bytes Fields at key flags = (key ≡ 0) × (flags ≡ 0)
Named bytes Properties at key flags = (little 4 at bytes ≡ key) × (little 4 (at + 4) bytes ≡ flags)

abbrev mutual
  -- the tree is laid out at place p
  pub Laid : List ℕ → Tree → ℕ → Type 0
  Laid bytes (leaf l size) p = Header bytes p (leaf_type l) size × BodyLaid bytes (p + 8) (declared bytes p) l size
  Laid bytes (struct f) p =
      Header bytes p 14 (totals Fields f) × (declared bytes p ≡ totals Fields f) × AllLaid bytes Fields f (p + 8)
  Laid bytes (object type id f) p =
      Header bytes p 15 (totals Properties f + 8) × (declared bytes p ≡ totals Properties f + 8)
      × (little 4 (p + 8) bytes ≡ type) × (little 4 (p + 12) bytes ≡ id) × AllLaid bytes Properties f (p + 16)

  -- what a container holds is laid out from place `at` on, each where the one before ends
  pub AllLaid : List ℕ → Holds → Forest → ℕ → Type 0
  AllLaid bytes h none at = Unit {0}
  AllLaid bytes h (more key flags t f) at =
      Named bytes h at key flags × Laid bytes t (past h at) × AllLaid bytes h f (at + past h (total t))
