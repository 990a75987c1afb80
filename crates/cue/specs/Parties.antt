-- The parties of the code by their numbers. Assumes nothing.
use Rattle.std.specs.Prelude.{◌≡◌, ℕ, false, Result, MatchResult}
use Rattle.refusals.specs.declared.Why.{Why}
use Rattle.refusals.specs.declared.Why.TheVariants.{NoParty}
use Rattle.histories.specs.Parties.{known, rigging, stage_management}
use Rattle.cue.specs.declared.parties.Party.{Party}
use Rattle.cue.specs.declared.parties.Party.TheVariants.{Rigging, StageManagement}

abbrev pub party_number : Party → ℕ
party_number Rigging = rigging
party_number StageManagement = stage_management

-- the party of a number, or the refusal of a number that is no party's
abbrev pub IsParty : ℕ → Result Party Why → Type 0
IsParty n r = MatchResult r (λ p. n ≡ party_number p) (λ e. (known n ≡ false) × (e ≡ NoParty))
