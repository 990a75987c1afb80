-- What a teller of bytes has still to tell. Assumes nothing.
use Rattle.std.specs.Prelude.{◌≡◌, List, ◌++◌, Ok, Err, Result}
use Rattle.refusals.specs.declared.Refusal.{Refusal}
use Rattle.pods.specs.Outcomes.{Outcome, gave, refused}
use Rattle.tours.specs.declared.byte_tour.ByteTeller.{ByteTeller}
use Rattle.tours.specs.Told.{Thing}
use Rattle.tours.specs.Starts.{elements_left}
use Rattle.tours.specs.ByteTold as place

-- the values of the pod before, and then what comes from where it stands on
abbrev pub to_tell : ByteTeller → List Thing
to_tell s = elements_left s.values ++ place.to_tell s.bytes.now s.at s.open s.keyed

-- a teller of bytes has all to tell that they tell, and refused bytes are refused
abbrev pub TellsAll : Outcome (List Thing) → Result ByteTeller Refusal → Type 0
TellsAll (gave ts used) (Ok s) = to_tell s ≡ ts
TellsAll (gave ts used) (Err e) = ⊥
TellsAll (refused e) (Ok s) = ⊥
TellsAll (refused e) (Err e') = e' ≡ e
