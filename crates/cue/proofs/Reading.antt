-- What a choice says of its values. Assumes nothing.
use Rattle.std.proofs.Common.{◌≡◌, ℕ, zero, suc, ◌+◌, ◌≤◌, Bool, false, ◌||◌, ◌⊎◌, List, Some, sym, refl, ap, ◌∙◌, inl, inr, arith, ◌==◌, add-zero}
use Rattle.std.proofs.Math.Bool.{or_assoc, or_comm}
use Rattle.std.specs.List.{list_any, range_with_len}
use Rattle.pods.specs.declared.rows.Row.{Row}
use Rattle.pods.specs.declared.choices.ChoiceType.{ChoiceType}
use Rattle.pods.specs.declared.choices.ChoiceType.TheVariants.{Range, Step}
use Rattle.pods.specs.Choices.{choice_type_of, needed}
use Rattle.cue.specs.Rows.{Sound}
use Rattle.histories.specs.Choosing.{among}

-- a search that counts up finds the last number last
found_last : (test : ℕ → Bool) (a n : ℕ) → list_any test (range_with_len a (suc n)) ≡ list_any test (range_with_len a n) || test (a + n)
found_last test a zero = or_comm (test a) false ∙ ap test (sym (add-zero a))
found_last test a (suc n) =
    ap (λ b. test a || b) (found_last test (a + 1) n) ∙ sym (or_assoc (test a) (list_any test (range_with_len (a + 1) n)) (test (a + 1 + n)))
    ∙ ap (λ m. (test a || list_any test (range_with_len (a + 1) n)) || test m) (let e : a + 1 + n ≡ a + suc n = omega arith in e)

-- the alternatives of a choice
pub among_found : (n w : ℕ) (word : ℕ → ℕ) → list_any (λ i. word i == w) (range_with_len 1 n) ≡ among n word w
among_found zero w word = refl
among_found (suc n) w word =
    found_last (λ i. word i == w) 1 n ∙ or_comm (list_any (λ i. word i == w) (range_with_len 1 n)) (word (1 + n) == w)
    ∙ ap (λ b. (word (1 + n) == w) || b) (among_found n w word) ∙ ap (λ m. (word m == w) || among n word w) (let e : 1 + n ≡ suc n = omega arith in e)

-- a choice with limits has them
pub limits : (bytes : List ℕ) (r : Row) (c : ChoiceType) → Sound bytes r → r.kind ≡ 19 → Some c ≡ choice_type_of r.side → (c ≡ Range) ⊎ (c ≡ Step) → 3 ≤ r.count
limits bytes r c sound is type (inl range) = omega (arith, sound.enough is c (sym type), ap needed range)
limits bytes r c sound is type (inr step) = omega (arith, sound.enough is c (sym type), ap needed step)
