-- Telling what an iterator gives. Assumes nothing.
use Rattle.std.proofs.Common.{◌≡◌, ℕ, List, [], ◌∷◌, Some, None, Ok, Err, Option, subst, sym, refl, ◌∙◌}
use Rattle.std.specs.Iterator.{AlwaysYields}
use Rattle.tours.specs.declared.told.Told.{Told}
use Rattle.tours.specs.Told.{Thing, thing}
use Rattle.tours.specs.Lead.{Answer, holds, refuses, Rule, Led, told_all, stopped, onward, counted, lead_from, Ends}

-- what a rule answers leads on or back as the visit did
module _ {H : Type 0} (rule : Rule H) (n m : ℕ) (old new : H) where
  led_on : (a : Answer H) (ts : List Thing) → Ends (onward old a (λ h. told_all h (counted n))) (Ok m) new → onward old a (λ h. lead_from rule (counted n) h ts) ≡ lead_from rule m new ts
  led_on (holds h) ts e = rw (e.0, e.1)
  led_on (refuses k) ts e = absurd e

  led_back : (a : Answer H) (go : H → Led H) → Ends (onward old a (λ h. told_all h (counted n))) (Err m) new → onward old a go ≡ stopped new m
  led_back (holds h) go e = absurd e
  led_back (refuses k) go e = cc

module _ {S H : Type 0} (steps : S → Option Told → S → Type 0) (rule : Rule H) (all : Led H) where
  -- what an iterator has still to give leads there
  abbrev pub LeadsTo : ℕ → H → S → Type 0
  LeadsTo n h s = (rest : List Thing) × AlwaysYields steps thing s rest × (lead_from rule n h rest ≡ all)

  module _ (n : ℕ) (h : H) (s : S) (leads : LeadsTo n h s) (s' : S) where
    pub leads_on : (t : Told) (m : ℕ) (h' : H) → steps s (Some t) s' → Ends (lead_from rule n h (thing t ∷ [])) (Ok m) h' → LeadsTo m h' s'
    leads_on t m h' step told = by leads.0 leads.1 leads.2
      where
        by : (rest : List Thing) → AlwaysYields steps thing s rest → lead_from rule n h rest ≡ all → LeadsTo m h' s'
        by [] y e = absurd (y t s' step)
        by (x ∷ xs) y e =
            let next = y.1 t s' step in
            let k = subst (λ x. Ends (lead_from rule n h (x ∷ [])) (Ok m) h') next.0 told in
            (xs, next.1, sym (led_on rule n m h h' (rule h x) xs k) ∙ e)

    pub leads_back : (t : Told) (m : ℕ) (h' : H) → steps s (Some t) s' → Ends (lead_from rule n h (thing t ∷ [])) (Err m) h' → Ends all (Err m) h'
    leads_back t m h' step told = by leads.0 leads.1 leads.2
      where
        by : (rest : List Thing) → AlwaysYields steps thing s rest → lead_from rule n h rest ≡ all → Ends all (Err m) h'
        by [] y e = absurd (y t s' step)
        by (x ∷ xs) y e =
            let next = y.1 t s' step in
            let k = subst (λ x. Ends (lead_from rule n h (x ∷ [])) (Err m) h') next.0 told in
            subst (λ l. Ends l (Err m) h') (sym (led_back rule n m h h' (rule h x) (λ h. lead_from rule (counted n) h xs) k) ∙ e) (refl, refl)

    pub leads_end : steps s None s' → Ends all (Ok n) h
    leads_end step = by leads.0 leads.1 leads.2
      where
        by : (rest : List Thing) → AlwaysYields steps thing s rest → lead_from rule n h rest ≡ all → Ends all (Ok n) h
        by [] y e = subst (λ l. Ends l (Ok n) h) e (refl, refl)
        by (x ∷ xs) y e = absurd (y.0 s' step)
