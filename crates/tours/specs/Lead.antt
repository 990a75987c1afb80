-- A visitor's rule, and where it leads. Assumes nothing.
use Rattle.std.specs.Prelude.{◌≡◌, ℕ, ◌+◌, ◌-◌, ◌^◌, min, List, [], ◌∷◌, Ok, Err, Result}
use Rattle.tours.specs.Told.{Thing}

-- what a rule answers: what is then held, or a number of its own
pub data Answer (H : Type 0) : Type 0 where
  holds : H → Answer H
  refuses : ℕ → Answer H

abbrev pub Rule : Type 0 → Type 0
Rule H = H → Thing → Answer H

-- a visit did what the rule says, and a refusal changed nothing
abbrev pub Kept : {H : Type 0} → Answer H → Result Unit ℕ → H → H → Type 0
Kept (holds h) (Ok _) old new = new ≡ h
Kept (holds h) (Err _) old new = ⊥
Kept (refuses n) (Ok _) old new = ⊥
Kept (refuses n) (Err m) old new = (m ≡ n) × (new ≡ old)

-- how telling ends: what is then held, with the number of things told, or with the number of the refusal
pub data Led (H : Type 0) : Type 0 where
  told_all : H → (count : ℕ) → Led H
  stopped : H → (number : ℕ) → Led H

abbrev pub onward : {H : Type 0} → H → Answer H → (H → Led H) → Led H
onward old (holds h) go = go h
onward old (refuses k) go = stopped old k

-- one more, up to the largest number of 64 bits
abbrev pub counted : ℕ → ℕ
counted n = min (n + 1) (2 ^ 64 - 1)

-- a rule led over things, up to its first refusal; `n` were told before
abbrev pub lead_from : {H : Type 0} → Rule H → ℕ → H → List Thing → Led H
lead_from rule n h [] = told_all h n
lead_from rule n h (t ∷ ts) = onward h (rule h t) (λ h'. lead_from rule (counted n) h' ts)

abbrev pub lead : {H : Type 0} → Rule H → H → List Thing → Led H
lead rule h ts = lead_from rule 0 h ts

-- the answer, and what the visitor then holds, are these
abbrev pub Ends : {H : Type 0} → Led H → Result ℕ ℕ → H → Type 0
Ends (told_all h n) (Ok m) new = (m ≡ n) × (new ≡ h)
Ends (told_all h n) (Err _) new = ⊥
Ends (stopped h k) (Ok _) new = ⊥
Ends (stopped h k) (Err m) new = (m ≡ k) × (new ≡ h)
