-- What reading comes to: what was read and the bytes used, or a refusal. Assumes nothing.
use Rattle.std.specs.Prelude.{ℕ, ◌+◌, Bool, cond, Ok, Err, Result}
use Rattle.refusals.specs.declared.Why.{Why}
use Rattle.refusals.specs.declared.Spot.{Spot}
use Rattle.refusals.specs.declared.Refusal.{Refusal}

pub data Outcome (A : Type 0) : Type 0 where
  gave : A → (used : ℕ) → Outcome A
  refused : Refusal → Outcome A

abbrev pub refuse : {A : Type 0} → Why → Spot → Outcome A
refuse why spot = refused record { why = why; spot = spot }

-- a refusal where the test comes out true, else what follows
abbrev pub refuse_if : {A : Type 0} → Bool → Why → Spot → Outcome A → Outcome A
refuse_if b why spot o = cond b (refuse why spot) o

-- a refusal where the test comes out false, else what follows
abbrev pub refuse_unless : {A : Type 0} → Bool → Why → Spot → Outcome A → Outcome A
refuse_unless b why spot o = cond b o (refuse why spot)

-- the same with something made of what was read, and with more bytes before it
abbrev pub mapped : {A B : Type 0} → (A → B) → Outcome A → Outcome B
mapped f (gave x used) = gave (f x) used
mapped f (refused e) = refused e

abbrev pub after : {A : Type 0} → ℕ → Outcome A → Outcome A
after n (gave x used) = gave x (used + n)
after n (refused e) = refused e

-- only the bytes used, and an answer of the code that gives them
abbrev pub sized : {A : Type 0} → Outcome A → Outcome (Unit {0})
sized o = mapped (λ _. tt) o

abbrev pub taken : Result ℕ Refusal → Outcome (Unit {0})
taken (Ok used) = gave tt used
taken (Err e) = refused e
