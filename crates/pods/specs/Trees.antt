-- What bytes say: a pod as a tree. Assumes nothing.
use Rattle.std.specs.Prelude.{ℕ, suc, ◌+◌, max, List}
use Rattle.kinds.specs.declared.kind.Kind.{Kind}
use Rattle.pods.specs.declared.choices.ChoiceType.{ChoiceType}
use Rattle.pods.specs.declared.holding.Holds.{Holds}
use Rattle.pods.specs.declared.holding.Holds.TheVariants.{Fields, Properties}

-- what a pod says that holds no pods: words of values, bytes of text (without the closing zero) and of raw data
pub data Leaf : Type 0 where
  fixed : Kind → (word : ℕ) → Leaf
  text : (bytes : List ℕ) → Leaf
  raw : (bytes : List ℕ) → Leaf
  array : (child : Kind) (words : List ℕ) → Leaf
  choice : ChoiceType → (flags : ℕ) (child : Kind) (words : List ℕ) → Leaf
  pointer : (type word : ℕ) → Leaf

-- a leaf with the bytes that its body takes; or a container with what it holds, each with a key and flags, which are 0
-- in a struct
mutual
  pub data Tree : Type 0 where
    leaf : Leaf → (size : ℕ) → Tree
    struct : Forest → Tree
    object : (type id : ℕ) → Forest → Tree

  pub data Forest : Type 0 where
    none : Forest
    more : (key flags : ℕ) → Tree → Forest → Forest

-- a number of bytes, or a place, with the key and flags that stand before the pods of an object
abbrev pub past : Holds → ℕ → ℕ
past Fields n = n
past Properties n = n + 8

-- all the bytes of a pod, with its header
abbrev mutual
  pub total : Tree → ℕ
  total (leaf l size) = size + 8
  total (struct f) = totals Fields f + 8
  total (object type id f) = totals Properties f + 16

  pub totals : Holds → Forest → ℕ
  totals h none = 0
  totals h (more key flags t f) = past h (total t) + totals h f

-- how many pods there are
abbrev mutual
  pub count : Tree → ℕ
  count (leaf l size) = 1
  count (struct f) = counts f + 1
  count (object type id f) = counts f + 1

  pub counts : Forest → ℕ
  counts none = 0
  counts (more key flags t f) = count t + counts f

-- how deep pods stand in pods: a leaf is one deep
abbrev mutual
  pub deep : Tree → ℕ
  deep (leaf l size) = 1
  deep (struct f) = suc (deepest f)
  deep (object type id f) = suc (deepest f)

  pub deepest : Forest → ℕ
  deepest none = 0
  deepest (more key flags t f) = max (deep t) (deepest f)
