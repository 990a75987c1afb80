-- What a tour of bytes has still to tell, by where it stands. Assumes nothing.
use Rattle.std.specs.Prelude.{◌≡◌, ℕ, zero, suc, ◌+◌, ◌<◌, ◌≤◌, Bool, true, false, List, [], ◌∷◌, ◌++◌, length, drop}
use Rattle.pods.specs.declared.holding.Holds.{Holds}
use Rattle.pods.specs.declared.holding.Holds.TheVariants.{Fields, Properties}
use Rattle.pods.specs.Trees.{Tree, Forest, totals, deep, deepest}
use Rattle.pods.specs.Outcomes.{Outcome, gave, refused}
use Rattle.pods.specs.Pods.{items, pod, spot_at}
use Rattle.format.specs.Layout.{Laid, AllLaid}
use Rattle.tours.specs.declared.open.Frame.{Frame}
use Rattle.tours.specs.Told.{Thing, end, tells, tells_all}

abbrev pub tree_told : Outcome Tree → List Thing
tree_told (gave t used) = tells t 0
tree_told (refused e) = []

abbrev pub forest_told : Holds → ℕ → Outcome Forest → List Thing
forest_told h at (gave f used) = tells_all h f at
forest_told h at (refused e) = []

-- what open containers still tell from place p on
abbrev pub frames_told : List ℕ → ℕ → List Frame → List Thing
frames_told bytes p [] = []
frames_told bytes p (f ∷ fs) =
    forest_told f.holds p (items f.holds (pod 32 1) (spot_at 0 1) f.remaining f.remaining p (drop p bytes))
    ++ (end ∷ frames_told bytes (p + f.remaining) fs)

-- at place 0 nothing has been told
abbrev pub place_told : List ℕ → ℕ → List Frame → List Thing
place_told bytes zero fs = tree_told (pod 32 1 0 bytes)
place_told bytes (suc p) fs = frames_told bytes (suc p) fs

-- a property that has been told already is left out
abbrev pub unkeyed : Bool → List Thing → List Thing
unkeyed true ts = drop 1 ts
unkeyed false ts = ts

abbrev pub to_tell : List ℕ → ℕ → List Frame → Bool → List Thing
to_tell bytes p fs keyed = unkeyed keyed (place_told bytes p fs)

-- what open containers hold from place p on is laid out there
abbrev pub FramesLaid : List ℕ → ℕ → List Frame → Type 0
FramesLaid bytes p [] = Unit {0}
FramesLaid bytes p (f ∷ fs) =
    ((forest : Forest) × (f.remaining ≡ totals f.holds forest) × AllLaid bytes f.holds forest p × (deepest forest + suc (length fs) ≤ 32))
    × FramesLaid bytes (p + f.remaining) fs

-- a property is told just before its pod
abbrev pub KeyedRight : Bool → List Frame → Type 0
KeyedRight false fs = Unit {0}
KeyedRight true [] = ⊥
KeyedRight true (f ∷ fs) = (f.holds ≡ Properties) × (0 < f.remaining)

abbrev pub Standing : List ℕ → ℕ → List Frame → Bool → Type 0
Standing bytes zero fs keyed = (fs ≡ []) × (keyed ≡ false) × ((t : Tree) × Laid bytes t 0 × (deep t ≤ 32))
Standing bytes (suc p) fs keyed = (suc p ≤ length bytes) × FramesLaid bytes (suc p) fs × KeyedRight keyed fs

-- a pod is due: the first of all, or one in a container with bytes left, whose property has been told
abbrev pub Due : Holds → ℕ → List Frame → Bool → Type 0
Due h p [] keyed = (p ≡ 0) × (h ≡ Fields)
Due h p (f ∷ fs) keyed = (0 < p) × (f.holds ≡ h) × (0 < f.remaining) × (h ≡ Properties → keyed ≡ true)
