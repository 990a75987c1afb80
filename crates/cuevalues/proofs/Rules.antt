-- The rule is met by what is laid. Assumes nothing.
use Rattle.std.proofs.Common.{◌≡◌, ℕ, ◌+◌, ◌≤◌, Bool, leb, List, length, take, Ok, Err, sym, ap, ◌∙◌, subst, arith, length-append}
use Rattle.std.proofs.lemmas.List.{take-append-le, take_all}
use Rattle.std.proofs.lemmas.Bool.{le-leb, lt-leb, cond-true, cond-false}
use Rattle.tours.specs.Told.{Thing}
use Rattle.tours.specs.Lead.{Answer, Kept}
use Rattle.cuevalues.specs.declared.page.Full.{Full}
use Rattle.cuevalues.specs.Pages.{Laid}
use Rattle.cuevalues.specs.Values.{Written, thing_text, joins, leaves, writes}

-- what fits is held
pub kept : (old : List ℕ) (j : Bool) (l : ℕ) (t : Thing) (new : List ℕ) (j' : Bool) (l' : ℕ) → Laid old (thing_text j l t) (Ok tt) new → length new ≤ 262144 → j' ≡ joins j t → l' ≡ leaves l t
    → Kept (writes record { text = old; joined = j; left = l } t) (Ok tt) record { text = old; joined = j; left = l } record { text = new; joined = j'; left = l' }
kept old j l t new j' l' laid few ej el =
    let s : length new ≡ length old + length (thing_text j l t) = ap length laid ∙ length-append old (thing_text j l t) in
    let fits : length old + length (thing_text j l t) ≤ 262144 = omega (arith, s, few) in
    let P : Answer Written → Type 0 = λ a. Kept a (Ok tt) record { text = old; joined = j; left = l } record { text = new; joined = j'; left = l' } in
    subst P (sym (cond-true (leb (length old + length (thing_text j l t)) 262144) _ _ (le-leb _ _ fits)))
    (λ i. record { text = laid i; joined = ej i; left = el i })

-- what does not fit is refused with 1, and what was held is held
pub full : (old : List ℕ) (j : Bool) (l : ℕ) (t : Thing) (f : Full) (mid new : List ℕ) (j' : Bool) (l' n : ℕ) → Laid old (thing_text j l t) (Err f) mid → new ≡ take (length old) mid → j' ≡ j → l' ≡ l → n ≡ 1
    → Kept (writes record { text = old; joined = j; left = l } t) (Err n) record { text = old; joined = j; left = l } record { text = new; joined = j'; left = l' }
full old j l t f mid new j' l' n laid cut ej el is =
    let P : Answer Written → Type 0 = λ a. Kept a (Err n) record { text = old; joined = j; left = l } record { text = new; joined = j'; left = l' } in
    let same : new ≡ old = cut ∙ ap (take (length old)) laid.1.1 ∙ take-append-le (length old) old laid.1.0 (omega arith) ∙ take_all (length old) old (omega arith) in
    subst P (sym (cond-false (leb (length old + length (thing_text j l t)) 262144) _ _ (lt-leb _ _ laid.0)))
    (is, λ i. record { text = same i; joined = ej i; left = el i })
