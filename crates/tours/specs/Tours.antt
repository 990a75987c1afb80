-- What a tour answers, and what its visitor then holds. Assumes nothing.
use Rattle.std.specs.Prelude.{◌≡◌, ℕ, List, Ok, Err, Result}
use Rattle.pods.specs.Outcomes.{Outcome, gave, refused}
use Rattle.tours.specs.declared.stop.Stop.{Stop}
use Rattle.tours.specs.declared.stop.Stop.TheVariants.{Bytes, Visitor}
use Rattle.tours.specs.Told.{Thing}
use Rattle.tours.specs.Lead.{Rule, Led, told_all, stopped, lead}

abbrev pub Tour : Type 0 → Type 0
Tour H = Result ℕ Stop × H

abbrev pub ended : {H : Type 0} → Led H → Tour H
ended (told_all h n) = (Ok n, h)
ended (stopped h k) = (Err (Visitor k), h)

-- the rule led over all that is told; refused bytes tell nothing and give their refusal
abbrev pub tour : {H : Type 0} → Rule H → H → Outcome (List Thing) → Tour H
tour rule h (gave ts used) = ended (lead rule h ts)
tour rule h (refused e) = (Err (Bytes e), h)

abbrev pub Toured : {H : Type 0} → Tour H → Result ℕ Stop → H → Type 0
Toured t r new = (r ≡ t.0) × (new ≡ t.1)
