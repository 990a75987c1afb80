-- Words for the steps in which a text is read by Table 3-7. Assumes nothing.
use Rattle.std.specs.Prelude.{◌≡◌, ℕ, zero, suc, ◌+◌, ◌*◌, ◌≤◌, Bool, true, false, cond, ◌&&◌, List, [], ◌∷◌, ◌++◌, length, replicate, Some, None, MatchOption, Option, ◌==◌, nat_lt}
use Rattle.std.specs.Borrow.{Bor}
use Rattle.utf8.specs.Table37.{Span, span, tail, table, find, formed}

-- how many bytes follow, or 4 where no line was found
abbrev pub classed : Option (List Span) → ℕ
classed None = 4
classed (Some further) = length further

-- the class of a first byte
abbrev pub class_of : ℕ → ℕ
class_of b = classed (find table b)

-- how many bytes follow, where a line was found
abbrev pub counted : Option (List Span) → Option ℕ
counted None = None
counted (Some further) = Some (length further)

-- how many bytes follow a first byte
abbrev pub followers_of : ℕ → Option ℕ
followers_of b = counted (find table b)

-- the spans of n bytes, of which the first has its own
abbrev pub spans : (n low high : ℕ) → List Span
spans zero low high = []
spans (suc n) low high = span low high ∷ replicate n tail

-- what is due after a first byte of a class: only the second byte's span varies
abbrev pub due_after : (class low high : ℕ) → Option (List Span)
due_after class low high = cond (nat_lt class 4) (Some (spans class low high)) None

-- each entry of a list is the class of its place, counted from b
abbrev pub right_from : ℕ → List ℕ → Bool
right_from b [] = true
right_from b (class ∷ classes) = class == class_of b && right_from (suc b) classes

-- the bytes of a text that are due stand in front of `rest`
abbrev pub Leaves : (due : List Span) (text rest : List ℕ) → Type 0
Leaves due text rest = (others : List Span) → formed text (due ++ others) ≡ formed rest others

-- the bytes that are due do not stand in front of a text
abbrev pub Lacks : (due : List Span) (text : List ℕ) → Type 0
Lacks due text = (others : List Span) → formed text (due ++ others) ≡ false

-- what is left of a text after the bytes that are due, or nothing where they do not stand in front
abbrev pub Takes : (due : List Span) (text : List ℕ) → Option (Bor (List ℕ)) → Type 0
Takes due text left = MatchOption left (Lacks due text) (λ rest. (length rest.now ≤ length text) × Leaves due text rest.now)

-- the highest bit of each of n bytes
abbrev pub highs : ℕ → ℕ
highs zero = 0
highs (suc n) = highs n * 256 + 128
