-- The open containers, the innermost first: what each holds, and how many of its bytes are left. Assumes nothing.
use Rattle.std.specs.Prelude.{ℕ, zero, suc, ◌-◌, Bool, false, not, cond, List, [], ◌∷◌, length, Some, None, Option, nat_lt, slice_index_or}
use Rattle.pods.specs.declared.holding.Holds.{Holds}
use Rattle.pods.specs.declared.holding.Holds.TheVariants.{Fields, Properties}
use Rattle.tours.specs.declared.open.Frame.{Frame}

abbrev pub blank : Frame
blank = record { holds = Fields; remaining = 0 }

-- the first n frames, the last of them first
abbrev pub stack : List Frame → ℕ → List Frame
stack fs zero = []
stack fs (suc n) = slice_index_or fs n blank ∷ stack fs n

abbrev pub innermost : List Frame → Option Frame
innermost [] = None
innermost (f ∷ outer) = Some f

abbrev pub outward : List Frame → List Frame
outward [] = []
outward (f ∷ outer) = outer

-- what the innermost open container holds
abbrev pub holding : List Frame → Holds
holding [] = Fields
holding (f ∷ outer) = f.holds

-- n bytes fewer are left, and not below 0
abbrev pub spent : ℕ → Frame → Frame
spent n f = record { holds = f.holds; remaining = f.remaining - n }

-- the innermost charged for n bytes
abbrev pub charged : ℕ → List Frame → List Frame
charged n [] = []
charged n (f ∷ outer) = spent n f ∷ outer

-- one more container, unless 32 are open
abbrev pub pushed : Frame → List Frame → List Frame
pushed f fs = cond (nat_lt (length fs) 32) (f ∷ fs) fs

-- whether key and flags are still to be told before a pod
abbrev pub is_due : Bool → Holds → Bool
is_due keyed Fields = false
is_due keyed Properties = not keyed
