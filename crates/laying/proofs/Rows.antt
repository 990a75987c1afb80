-- Rows of which one has another word. Assumes nothing.
use Rattle.std.proofs.Common.{◌≡◌, ℕ, List, length, set, sym, ap, ◌∙◌, ⊎_elim}
use Rattle.std.proofs.lemmas.List.{get_or-set_same, get_or-set_other, set-get_or, set_past}
use Rattle.std.proofs.lemmas.Bool.{cases_eq, cases_lt, eq-eqb, ne_eqb}
use Rattle.pods.specs.declared.rows.Row.{Row}
use Rattle.format.specs.Places.{blank, row_at}
use Rattle.laying.specs.Elements.{reworded, with_word}

-- an array's row does not change
pub reworded_array : (r : Row) (w : ℕ) → r.kind ≡ 13 → reworded r w ≡ r
reworded_array r w e = rw (eq-eqb r.kind 13 e)

pub with_word_array : (rows : List Row) (i w : ℕ) → (row_at rows i).kind ≡ 13 → with_word rows i w ≡ rows
with_word_array rows i w e = ap (set rows i) (reworded_array (row_at rows i) w e) ∙ set-get_or rows i blank

-- another's word does
pub reworded_word : (r : Row) (w : ℕ) → (r.kind ≡ 13 → ⊥) → (reworded r w).word ≡ w
reworded_word r w other = rw (ne_eqb r.kind 13 other)

-- what does not look at words stays
pub with_word_same : {A : Type 0} (f : Row → A) → ((r : Row) (w : ℕ) → f (reworded r w) ≡ f r) → (rows : List Row) (i w i' : ℕ) → f (row_at (with_word rows i w) i') ≡ f (row_at rows i')
with_word_same f blind rows i w i' =
    ⊎_elim
    (λ same. ⊎_elim
    (λ lt. ap (λ x. f (row_at (with_word rows i w) x)) same ∙ ap f (get_or-set_same rows i (reworded (row_at rows i) w) blank lt) ∙ blind (row_at rows i) w
    ∙ ap (λ x. f (row_at rows x)) (sym same))
    (λ past_it. ap (λ rs. f (row_at rs i')) (set_past rows i (reworded (row_at rows i) w) past_it))
    (cases_lt i (length rows)))
    (λ other. ap f (get_or-set_other rows i i' (reworded (row_at rows i) w) blank other))
    (cases_eq i' i)
