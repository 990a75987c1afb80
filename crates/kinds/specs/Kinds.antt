-- The ten kinds whose bodies have a fixed size: type number, size and word. Assumes nothing.
use Rattle.std.specs.Prelude.{◌≡◌, ℕ, cond, List, Some, None as no_kind, Option, Result, MatchResult, ◌==◌}
use Rattle.refusals.specs.declared.Why.{Why}
use Rattle.refusals.specs.declared.Why.TheVariants.{UnknownType}
use Rattle.kinds.specs.declared.kind.Kind.{Kind}
use Rattle.kinds.specs.declared.kind.Kind.TheVariants.{None, Bool, Id, Int, Long, Float, Double, Rectangle, Fraction, Fd}
use Rattle.words.specs.Words.{little}

-- the number that stands for the kind in a header
abbrev pub type_of : Kind → ℕ
type_of None = 1
type_of Bool = 2
type_of Id = 3
type_of Int = 4
type_of Long = 5
type_of Float = 6
type_of Double = 7
type_of Rectangle = 10
type_of Fraction = 11
type_of Fd = 18

-- the bytes of a body, without what fills them up
abbrev pub size_of : Kind → ℕ
size_of None = 0
size_of Bool = 4
size_of Id = 4
size_of Int = 4
size_of Long = 8
size_of Float = 4
size_of Double = 8
size_of Rectangle = 8
size_of Fraction = 8
size_of Fd = 8

-- the kind that a type number stands for
unfoldable pub kind_of : ℕ → Option Kind
kind_of t =
    cond (t == 1) (Some None)
    (cond (t == 2) (Some Bool)
    (cond (t == 3) (Some Id)
    (cond (t == 4) (Some Int)
    (cond (t == 5) (Some Long)
    (cond (t == 6) (Some Float)
    (cond (t == 7) (Some Double)
    (cond (t == 10) (Some Rectangle)
    (cond (t == 11) (Some Fraction)
    (cond (t == 18) (Some Fd) no_kind)))))))))

-- the kind that a type number stands for, or the refusal of a type that is none of the ten
abbrev pub IsKindOf : ℕ → Result Kind Why → Type 0
IsKindOf t r = MatchResult r (λ k. Some k ≡ kind_of t) (λ e. (no_kind ≡ kind_of t) × (e ≡ UnknownType))

-- a number as a kind says it: a Bool is 0 or 1
abbrev pub said : Kind → ℕ → ℕ
said None w = w
said Bool w = cond (w == 0) 0 1
said Id w = w
said Int w = w
said Long w = w
said Float w = w
said Double w = w
said Rectangle w = w
said Fraction w = w
said Fd w = w

-- the word of a body: its bytes as one little-endian number, so of a pair the first number stands below the second
abbrev pub word_of : Kind → List ℕ → ℕ
word_of k body = said k (little (size_of k) 0 body)
