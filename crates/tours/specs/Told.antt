-- Told things: what a cue says, one thing after the other, in the order of its bytes. Assumes nothing.
use Rattle.std.specs.Prelude.{ℕ, ◌+◌, List, [], ◌∷◌, ◌++◌, map, length, slice_index}
use Rattle.kinds.specs.Kinds.{type_of}
use Rattle.pods.specs.declared.holding.Holds.{Holds}
use Rattle.pods.specs.declared.holding.Holds.TheVariants.{Fields, Properties}
use Rattle.pods.specs.Choices.{choice_number}
use Rattle.pods.specs.Trees.{Tree, Forest, Leaf, fixed, text, raw, array, choice, pointer, leaf, struct, object, none, more, past, total}
use Rattle.pods.specs.Outcomes.{Outcome, mapped}
use Rattle.pods.specs.Survey.{says}
use Rattle.tours.specs.declared.told.Told.{Told}
use Rattle.tours.specs.declared.told.Told.TheVariants as v

-- what a pod says of itself: types are numbers, a text is without its closing zero
pub data Content : Type 0 where
  value : (kind word : ℕ) → Content
  text_of : (part : List ℕ) → Content
  raw_of : (part : List ℕ) → Content
  array_of : (child count : ℕ) → Content
  choice_of : (child type flags count default : ℕ) → Content
  pointer_to : (type word : ℕ) → Content
  struct_open : Content
  object_open : (type id : ℕ) → Content

-- a pod, with its place and all its bytes; a value of an array or choice; a property's key and flags, before its pod; the
-- end of a container
pub data Thing : Type 0 where
  pod : (place total : ℕ) → Content → Thing
  element : (kind word : ℕ) → Thing
  property : (key flags : ℕ) → Thing
  end : Thing

-- the same but for places and totals
abbrev pub unplaced : Thing → Thing
unplaced (pod place total c) = pod 0 0 c
unplaced (element kind word) = element kind word
unplaced (property key flags) = property key flags
unplaced end = end

-- a told thing of the code, a part by its bytes
abbrev pub thing : Told → Thing
thing (v.Fixed place total kind word) = pod place total (value kind word)
thing (v.Text place total part) = pod place total (text_of part.now)
thing (v.Raw place total part) = pod place total (raw_of part.now)
thing (v.ArrayOf place total child count) = pod place total (array_of child count)
thing (v.ChoiceOf place total child side flags count default) = pod place total (choice_of child side flags count default)
thing (v.Pointer place total kind word) = pod place total (pointer_to kind word)
thing (v.StructOpen place total) = pod place total struct_open
thing (v.ObjectOpen place total kind id) = pod place total (object_open kind id)
thing (v.Element kind word) = element kind word
thing (v.Property key flags) = property key flags
thing v.End = end

abbrev pub content_of : Leaf → Content
content_of (fixed k w) = value (type_of k) w
content_of (text part) = text_of part
content_of (raw part) = raw_of part
content_of (array k ws) = array_of (type_of k) (length ws)
content_of (choice c flags k ws) = choice_of (type_of k) (choice_number c) flags (length ws) (slice_index ws 0)
content_of (pointer t w) = pointer_to t w

-- the values of an array, and the used ones of a choice
abbrev pub elements_of : Leaf → List Thing
elements_of (fixed k w) = []
elements_of (text part) = []
elements_of (raw part) = []
elements_of (array k ws) = map (element (type_of k)) ws
elements_of (choice c flags k ws) = map (element (type_of k)) ws
elements_of (pointer t w) = []

-- key and flags are told in an object alone
abbrev pub named : Holds → (key flags : ℕ) → List Thing
named Fields key flags = []
named Properties key flags = property key flags ∷ []

abbrev mutual
  -- what a pod at a place tells
  pub tells : Tree → ℕ → List Thing
  tells (leaf l size) p = pod p (size + 8) (content_of l) ∷ elements_of l
  tells (struct f) p = pod p (total (struct f)) struct_open ∷ (tells_all Fields f (p + 8) ++ end ∷ [])
  tells (object type id f) p =
      pod p (total (object type id f)) (object_open type id) ∷ (tells_all Properties f (p + 16) ++ end ∷ [])

  -- what a container holds from a place on
  pub tells_all : Holds → Forest → ℕ → List Thing
  tells_all h none at = []
  tells_all h (more key flags t f) at =
      named h key flags ++ (tells t (past h at) ++ tells_all h f (at + past h (total t)))

-- what the bytes of a cue tell, or the survey's refusal
abbrev pub told_by : List ℕ → Outcome (List Thing)
told_by bytes = mapped (λ t. tells t 0) (says bytes)
