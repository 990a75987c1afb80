-- The values that a tree says, pod by pod, and a tree with one of them set. Assumes nothing.
use Rattle.std.specs.Prelude.{ℕ, zero, suc, ◌+◌, ◌-◌, ◌*◌, ◌^◌, cond, List, [], ◌∷◌, ◌++◌, nat_lt, slice_index, slice_index_or, slice_set}
use Rattle.pods.specs.Trees.{Tree, Forest, Leaf, fixed, text, raw, array, choice, pointer, leaf, struct, object, none, more, count}

-- the words of values, the bytes of text and raw data, else the one word of the pod
abbrev pub leaf_values : Leaf → List ℕ
leaf_values (fixed k w) = w ∷ []
leaf_values (text part) = part
leaf_values (raw part) = part
leaf_values (array k ws) = ws
leaf_values (choice c flags k ws) = ws
leaf_values (pointer type w) = w ∷ []

-- those of a pod itself
abbrev pub own_values : Tree → List ℕ
own_values (leaf l size) = leaf_values l
own_values (struct f) = 0 ∷ []
own_values (object type id f) = (type + id * 2 ^ 32) ∷ []

abbrev mutual
  -- of each pod in the order of the bytes
  pub values_in : Tree → List (List ℕ)
  values_in (leaf l size) = leaf_values l ∷ []
  values_in (struct f) = own_values (struct f) ∷ values_of f
  values_in (object type id f) = own_values (object type id f) ∷ values_of f

  pub values_of : Forest → List (List ℕ)
  values_of none = []
  values_of (more key flags t f) = values_in t ++ values_of f

-- what the pod of row i says at element e
abbrev pub value_at : Tree → (i e : ℕ) → ℕ
value_at t i e = slice_index (slice_index_or (values_in t) i []) e

-- the values with the word w at element e of row i
abbrev pub with_value : List (List ℕ) → (i e w : ℕ) → List (List ℕ)
with_value values i e w = slice_set values i (slice_set (slice_index_or values i []) e w)

-- a leaf with the word w at element e; bytes and pointers are never set
abbrev pub set_leaf : Leaf → (e w : ℕ) → Leaf
set_leaf (fixed k old) e w = fixed k w
set_leaf (text part) e w = text part
set_leaf (raw part) e w = raw part
set_leaf (array k ws) e w = array k (slice_set ws e w)
set_leaf (choice c flags k ws) e w = choice c flags k (slice_set ws e w)
set_leaf (pointer type old) e w = pointer type old

abbrev mutual
  -- the tree with the word w at element e of row i
  pub set_in : Tree → (i e w : ℕ) → Tree
  set_in (leaf l size) i e w = leaf (set_leaf l e w) size
  set_in (struct f) zero e w = struct f
  set_in (struct f) (suc i) e w = struct (set_of f i e w)
  set_in (object type id f) zero e w = object type id f
  set_in (object type id f) (suc i) e w = object type id (set_of f i e w)

  pub set_of : Forest → (i e w : ℕ) → Forest
  set_of none i e w = none
  set_of (more key flags t f) i e w =
      cond (nat_lt i (count t)) (more key flags (set_in t i e w) f) (more key flags t (set_of f (i - count t) e w))
