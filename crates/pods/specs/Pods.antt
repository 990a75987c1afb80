-- Reading a pod: the tree that bytes say and how many of them it uses, or a refusal. Assumes nothing.
use Rattle.std.specs.Prelude.{ℕ, zero, suc, ◌+◌, ◌-◌, cond, List, length, drop, ◌==◌, nat_lt}
use Rattle.refusals.specs.declared.Spot.{Spot}
use Rattle.refusals.specs.declared.Why.TheVariants.{Missing, TooShort, TooDeep, PastContainer}
use Rattle.words.specs.Words.{little}
use Rattle.pods.specs.declared.holding.Holds.{Holds}
use Rattle.pods.specs.declared.holding.Holds.TheVariants.{Fields, Properties}
use Rattle.pods.specs.Trees.{Tree, Forest, Leaf, leaf, struct, object, none, more}
use Rattle.pods.specs.Outcomes.{Outcome, gave, refused, refuse, refuse_if, mapped, after}
use Rattle.pods.specs.Leaves.{leaf_body}

abbrev pub spot_at : (place depth : ℕ) → Spot
spot_at place depth = record { place = place; depth = depth }

-- what reads the pod at a place from the bytes that begin there
abbrev pub Reader : Type 0
Reader = ℕ → List ℕ → Outcome Tree

-- a field or property: a pod with its key and flags
pub record Item : Type 0 where
  pub key : ℕ
  pub flags : ℕ
  pub pod : Tree

abbrev pub item : (key flags : ℕ) → Tree → Item
item key flags t = record { key = key; flags = flags; pod = t }

-- the key and flags that stand before each pod of an object have to be there; before a field there is nothing
abbrev pub ahead : Holds → Spot → List ℕ → Outcome (Unit {0})
ahead Fields spot bytes = gave tt 0
ahead Properties spot bytes = refuse_if (nat_lt (length bytes) 8) Missing spot (gave tt 8)

-- the next of what the container at `spot` holds, from the place `at` on: a field is a pod, and a property a key, flags and
-- a pod
abbrev pub item_read : Holds → Reader → Spot → ℕ → List ℕ → Outcome Item
item_read Fields read spot at bytes = mapped (item 0 0) (read at bytes)
item_read Properties read spot at bytes =
    refuse_if (nat_lt (length bytes) 8) Missing spot
    (after 8 (mapped (item (little 4 0 bytes) (little 4 4 bytes)) (read (at + 8) (drop 8 bytes))))

abbrev pub joined : Item → ℕ → Outcome Forest → Outcome Forest
joined i u (gave f used) = gave (more i.key i.flags i.pod f) (u + used)
joined i u (refused e) = refused e

-- what was read, and what follows it: it may not exceed the bytes that its container has left
abbrev pub fitted : Spot → (left : ℕ) → Outcome Item → (ℕ → Outcome Forest) → Outcome Forest
fitted spot left (gave i used) others = refuse_if (nat_lt left used) PastContainer spot (joined i used (others used))
fitted spot left (refused e) others = refused e

-- what the container at `spot` holds, until `left` bytes are used; the next stands at `at`. Each takes some bytes, so as
-- many turns as bytes are enough
unfoldable pub items : Holds → Reader → Spot → (turns left at : ℕ) → List ℕ → Outcome Forest
items h read spot zero left at bytes = gave none 0
items h read spot (suc turns) zero at bytes = gave none 0
items h read spot (suc turns) (suc l) at bytes =
    fitted spot (suc l) (item_read h read spot at bytes)
    (λ used. items h read spot turns (suc l - used) (at + used) (drop used bytes))

abbrev pub struct_body : Reader → (len : ℕ) → Spot → List ℕ → Outcome Tree
struct_body read len spot rest = mapped struct (items Fields read spot len len (spot.place + 8) rest)

-- the object's type and id, and then its properties
abbrev pub object_body : Reader → (len : ℕ) → Spot → List ℕ → Outcome Tree
object_body read len spot rest =
    refuse_if (nat_lt (length rest) 8) Missing spot
    (refuse_if (nat_lt len 8) TooShort spot
    (after 8 (mapped (object (little 4 0 rest) (little 4 4 rest)) (items Properties read spot (len - 8) (len - 8) (spot.place + 16) (drop 8 rest)))))

abbrev pub leaf_tree : Outcome Leaf → Outcome Tree
leaf_tree (gave l used) = gave (leaf l used) used
leaf_tree (refused e) = refused e

-- a body by its type; `read` reads a pod one depth further
abbrev pub body : Reader → (len type : ℕ) → Spot → List ℕ → Outcome Tree
body read len type spot rest =
    cond (type == 14) (struct_body read len spot rest)
    (cond (type == 15) (object_body read len spot rest) (leaf_tree (leaf_body len type spot rest)))

-- `room` is how many depths are left; a pod begun with none is refused before its header
unfoldable pub pod : (room depth : ℕ) → Reader
pod zero depth place bytes = refuse TooDeep (spot_at place depth)
pod (suc room) depth place bytes =
    refuse_if (nat_lt (length bytes) 8) Missing (spot_at place depth)
    (after 8 (body (pod room (suc depth)) (little 4 0 bytes) (little 4 4 bytes) (spot_at place depth) (drop 8 bytes)))
