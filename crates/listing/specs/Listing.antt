-- The lines that are printed of a cue. Assumes nothing.
use Rattle.std.specs.Prelude.{ℕ, ◌+◌, cond, List, [], ◌∷◌, ◌++◌, length, codes, decimal, nat_lt}
use Rattle.refusals.specs.declared.Refusal.{Refusal}
use Rattle.refusals.specs.declared.Why.TheVariants.{TooManyRows}
use Rattle.refusals.specs.Refusals.{number}
use Rattle.pods.specs.declared.rows.Row.{Row}
use Rattle.pods.specs.Outcomes.{Outcome, gave, refused}
use Rattle.pods.specs.Pods.{spot_at}
use Rattle.pods.specs.Survey.{rows_in, says}
use Rattle.pods.specs.Trees.{Tree}

-- a space and a number
abbrev pub spaced : ℕ → List ℕ → List ℕ
spaced n rest = 32 ∷ (decimal n ++ rest)

-- the end of a line
abbrev pub newline : List ℕ
newline = 10 ∷ []

-- row, place, kind, total, key, word
abbrev pub row_line : ℕ → Row → List ℕ
row_line i r =
    decimal i ++ spaced r.place (spaced r.kind (spaced r.total (spaced r.key (spaced r.word newline))))

abbrev pub row_lines : ℕ → List Row → List ℕ
row_lines i [] = []
row_lines i (r ∷ rs) = row_line i r ++ row_lines (i + 1) rs

abbrev pub end_line : ℕ → List ℕ
end_line used = codes "end" ++ spaced used newline

-- number, place and depth
abbrev pub refused_line : Refusal → List ℕ
refused_line e = codes "refused" ++ spaced (number e.why) (spaced e.spot.place (spaced e.spot.depth newline))

-- a line for each row, at most 512, and then the bytes used; or the refusal alone
abbrev pub listed : Outcome Tree → List ℕ
listed (refused e) = refused_line e
listed (gave t used) =
    cond (nat_lt 512 (length (rows_in t))) (refused_line record { why = TooManyRows; spot = spot_at 0 1 })
    (row_lines 0 (rows_in t) ++ end_line used)

abbrev pub listing_of : List ℕ → List ℕ
listing_of bytes = listed (says bytes)
