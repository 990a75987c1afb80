-- Rows without their words, which a set does not change. Assumes nothing.
use Rattle.std.proofs.Common.{◌≡◌, ℕ, ◌<◌, Bool, true, false, eqb, ◌≢◌, ◌⊎◌, List, length, sym, refl, ap, ◌∙◌, inl, inr, length-set, get_or-set_other, get_or-set_same, eqb-true}
use borrow.Author.Tests.{eqb-false}
use Rattle.pods.specs.declared.rows.Row.{Row}
use Rattle.format.specs.Places.{row_at, blank}
use Rattle.laying.specs.Elements.{reworded, with_word}

abbrev pub unworded : Row → Row
unworded r =
    record { place = r.place; total = r.total; kind = r.kind; child = r.child; parent = r.parent; key = r.key; flags = r.flags; locked = r.locked; count = r.count; side = r.side; bits = r.bits; word = 0 }

pub same_or : (j i : ℕ) → (j ≡ i) ⊎ (j ≢ i)
same_or j i = go (eqb j i) refl
  where
    go : (b : Bool) → eqb j i ≡ b → (j ≡ i) ⊎ (j ≢ i)
    go true e = inl (eqb-true j i e)
    go false e = inr (eqb-false j i e)

pub length_with : (rows : List Row) (i w : ℕ) → length (with_word rows i w) ≡ length rows
length_with rows i w = length-set rows i (reworded (row_at rows i) w)

pub with_other : (rows : List Row) (i w j : ℕ) → j ≢ i → row_at (with_word rows i w) j ≡ row_at rows j
with_other rows i w j ne = get_or-set_other rows i j (reworded (row_at rows i) w) blank ne

pub with_same : (rows : List Row) (i w : ℕ) → i < length rows → row_at (with_word rows i w) i ≡ reworded (row_at rows i) w
with_same rows i w lt = get_or-set_same rows i (reworded (row_at rows i) w) blank lt

-- a set keeps every row but for its word
pub form_with : (rows : List Row) (i w : ℕ) → i < length rows → (j : ℕ) → unworded (row_at (with_word rows i w) j) ≡ unworded (row_at rows j)
form_with rows i w lt j = by (same_or j i)
  where
    by : (j ≡ i) ⊎ (j ≢ i) → unworded (row_at (with_word rows i w) j) ≡ unworded (row_at rows j)
    by (inl e) =
        ap (λ n. unworded (row_at (with_word rows i w) n)) e ∙ ap unworded (with_same rows i w lt) ∙ ap (λ n. unworded (row_at rows n)) (sym e)
    by (inr ne) = ap unworded (with_other rows i w j ne)
