-- A visitor that is led over told things takes them all, or all before the first that it refuses. Assumes nothing.
use Rattle.std.proofs.Common.{◌≡◌, ℕ, ◌+◌, ◌-◌, ◌^◌, ◌≤◌, ◌⊎◌, List, [], ◌∷◌, length, Ok, Result, sym, refl, ap, ◌∙◌, subst, inl, inr, arith}
use Rattle.refusals.specs.declared.Why.{Why}
use Rattle.tours.specs.Told.{Thing}
use Rattle.tours.specs.Lead.{Answer, holds, refuses, Rule, onward, counted, lead_from, lead}
use Rattle.histories.specs.Plain.{toured}
use Rattle.histories.specs.Histories.{Takes, Stops, Ends}

module _ {S : Type 0} (rule : Rule S) where
  abbrev From : ℕ → S → List Thing → Result ℕ Why × S → Type 0
  From n s told a = (Takes rule s told a.1 × (a.0 ≡ Ok (n + length told))) ⊎ Stops rule s told a

  one_more : (x : Thing) (xs : List Thing) (n : ℕ) (s t : S) (a : Result ℕ Why × S) → rule s x ≡ holds t → From (n + 1) t xs a → From n s (x ∷ xs) a
  one_more x xs n s t a e (inl f) = inl ((t, e, f.0), f.1 ∙ ap Ok (omega arith))
  one_more x xs n s t a e (inr f) =
      inr (record {
        before = x ∷ f.before;
        refused = f.refused;
        later = f.later;
        number = f.number;
        split = ap (λ l. x ∷ l) f.split;
        takes = (t, e, f.takes);
        refuses_it = f.refuses_it;
        says = f.says;
      })

  one_told : (x : Thing) (xs : List Thing) (n : ℕ) (s : S) (q : Answer S) → rule s x ≡ q → counted n ≡ n + 1
      → ((t : S) → From (n + 1) t xs (toured (lead_from rule (n + 1) t xs)))
      → From n s (x ∷ xs) (toured (onward s q (λ t. lead_from rule (counted n) t xs)))
  one_told x xs n s (holds t) e c ih = subst (λ m. From n s (x ∷ xs) (toured (lead_from rule m t xs))) (sym c) (one_more x xs n s t (toured (lead_from rule (n + 1) t xs)) e (ih t))
  one_told x xs n s (refuses m) e c ih =
      inr (record { before = []; refused = x; later = xs; number = m; split = refl; takes = refl; refuses_it = e; says = refl })

  led : (told : List Thing) (n : ℕ) (s : S) → n + length told ≤ 2 ^ 64 - 1 → From n s told (toured (lead_from rule n s told))
  led [] n s few = inl (refl, ap Ok (omega arith))
  led (x ∷ xs) n s few = one_told x xs n s (rule s x) refl (omega arith) (λ t. led xs (n + 1) t (omega arith))

  from_start : (s : S) (told : List Thing) (a : Result ℕ Why × S) → From 0 s told a → Ends rule s told a
  from_start s told a (inl f) = inl (f.0, f.1 ∙ ap Ok (omega arith))
  from_start s told a (inr f) = inr f

  -- no more things than can be counted
  pub lead_ends : (s : S) (told : List Thing) → length told ≤ 2 ^ 64 - 1 → Ends rule s told (toured (lead rule s told))
  lead_ends s told few = from_start s told (toured (lead rule s told)) (led told 0 s (omega arith))
