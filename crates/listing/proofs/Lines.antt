-- Lines so far, and one line more. Assumes nothing.
use Rattle.std.proofs.Common.{◌≡◌, ℕ, ◌+◌, ◌<◌, List, [], ◌∷◌, ◌++◌, length, get_or, take, sym, ap, ◌∙◌, append_assoc, append-nil, arith}
use Rattle.std.proofs.lemmas.List.{length-take-le, take_more}
use Rattle.refusals.specs.declared.Refusal.{Refusal}
use Rattle.refusals.specs.Refusals.{refusal_text}
use Rattle.pods.specs.declared.rows.Row.{Row}
use Rattle.listing.specs.Listing.{refused_line, row_line, row_lines}

-- a row at the end is a line at the end
line_last : (i : ℕ) (rs : List Row) (r : Row) → row_lines i (rs ++ r ∷ []) ≡ row_lines i rs ++ row_line (i + length rs) r
line_last i [] r = append-nil (row_line i r) ∙ ap (λ k. row_line k r) (omega arith)
line_last i (x ∷ rs) r =
    ap (λ l. row_line i x ++ l) (line_last (i + 1) rs r)
    ∙ sym (append_assoc (row_line i x) (row_lines (i + 1) rs) (row_line (i + 1 + length rs) r))
    ∙ ap (λ k. (row_line i x ++ row_lines (i + 1) rs) ++ row_line k r) (omega arith)

pub line_more : (rs : List Row) (i : ℕ) (d : Row) (line : List ℕ) → i < length rs → line ≡ row_line i (get_or rs i d) → row_lines 0 (take (i + 1) rs) ≡ row_lines 0 (take i rs) ++ line
line_more rs i d line inside here =
    let counted : 0 + length (take i rs) ≡ i = omega (arith, length-take-le i rs (omega arith)) in
    ap (row_lines 0) (take_more rs i d inside) ∙ line_last 0 (take i rs) (get_or rs i d)
    ∙ ap (λ l. row_lines 0 (take i rs) ++ l) (ap (λ k. row_line k (get_or rs i d)) counted ∙ sym here)

-- the text of a refusal, and the end of the line
pub refused_written : (e : Refusal) → refusal_text e ++ 10 ∷ [] ≡ refused_line e
refused_written e = simp append_assoc
