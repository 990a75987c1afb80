-- What a pod tells first, and what comes after that. Assumes nothing.
use Rattle.std.specs.Prelude.{◌≡◌, ℕ, ◌+◌, ◌-◌, ◌/◌, cond, List, [], map, Some, None, Option, ◌==◌}
use Rattle.kinds.specs.declared.kind.Kind.{Kind}
use Rattle.kinds.specs.declared.kind.Kind.TheVariants.{Long, Id}
use Rattle.kinds.specs.Kinds.{size_of, type_of}
use Rattle.pods.specs.declared.holding.Holds.TheVariants.{Fields, Properties}
use Rattle.pods.specs.Trees.{Tree, Leaf, leaf, struct, object, total}
use Rattle.pods.specs.Leaves.{values}
use Rattle.format.specs.Layout.{Laid}
use Rattle.tours.specs.declared.begun.Begun.{Begun}
use Rattle.tours.specs.declared.elements.Elements.{Elements}
use Rattle.tours.specs.declared.starts.Start.{Start}
use Rattle.tours.specs.declared.starts.Then.{Then}
use Rattle.tours.specs.declared.starts.Then.TheVariants.{On, Values, Into}
use Rattle.tours.specs.Told.{Content, struct_open, object_open, Thing, pod, element, thing, content_of, elements_of}

-- the values that are still to be told
abbrev pub elements_left : Elements → List Thing
elements_left e = map (element (type_of e.kind)) (values e.kind (size_of e.kind) e.left e.bytes.now)

-- what comes after a pod that holds no pods are these things
abbrev pub Follows : Then → List Thing → Type 0
Follows On ts = ts ≡ []
Follows (Values e) ts = ts ≡ elements_left e
Follows (Into h) ts = ⊥

-- how many values of s bytes a length has room for after `head` bytes
abbrev pub values_in : (len head s : ℕ) → ℕ
values_in len head s = cond (s == 0) 0 ((len - head) / s)

-- the kind of number that a pointer is, by its length
abbrev pub pointer_kind : ℕ → Kind
pointer_kind len = cond (len == 16) Long Id

-- the answer is the start of a pod that says this, takes so many bytes, and goes on so
pub record Begins (place size : ℕ) (c : Content) (after : Then → Type 0) (s : Start) : Type 0 where
  pub told_is : thing s.told ≡ pod place size c
  pub total_is : s.total ≡ size
  pub then_is : after s.then

abbrev pub BeginsLeaf : (place size : ℕ) → Leaf → Option Start → Type 0
BeginsLeaf place size l None = ⊥
BeginsLeaf place size l (Some s) = Begins place (size + 8) (content_of l) (λ t. Follows t (elements_of l)) s

-- the answer is the start of this tree
abbrev pub BeginsTree : (place : ℕ) → Tree → Option Start → Type 0
BeginsTree place (leaf l size) r = BeginsLeaf place size l r
BeginsTree place (struct f) None = ⊥
BeginsTree place (struct f) (Some s) = Begins place (total (struct f)) struct_open (λ t. t ≡ Into Fields) s
BeginsTree place (object type id f) None = ⊥
BeginsTree place (object type id f) (Some s) =
    Begins place (total (object type id f)) (object_open type id) (λ t. t ≡ Into Properties) s

-- the answer is the start of this tree, if it is laid out where the header was read
abbrev pub Starts : Begun → Tree → Option Start → Type 0
Starts b t r = Laid b.bytes.now t b.at → BeginsTree b.at t r
