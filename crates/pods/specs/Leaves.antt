-- The bodies of pods that hold no pods. `len` is the length that the header declares, `rest` the bytes after the
-- header, and a refusal is of the pod at `spot`. Assumes nothing.
use Rattle.std.specs.Prelude.{ℕ, zero, suc, ◌+◌, ◌-◌, ◌*◌, ◌/◌, cond, List, [], ◌∷◌, length, take, drop, Some, None, Option, ◌==◌, nat_lt, slice_index}
use Rattle.refusals.specs.declared.Spot.{Spot}
use Rattle.refusals.specs.declared.Why.TheVariants.{Missing, UnknownType, ChildSize, NoClosingZero, NotUtf8, TooShort, NoChildSize, PointerLength, ChoiceType as OtherChoice, TooFewValues}
use Rattle.words.specs.Words.{little, padded}
use Rattle.utf8.specs.Table37.{well_formed}
use Rattle.kinds.specs.declared.kind.Kind.{Kind}
use Rattle.kinds.specs.Kinds.{kind_of, size_of, word_of}
use Rattle.pods.specs.declared.choices.ChoiceType.{ChoiceType}
use Rattle.pods.specs.Choices.{choice_type_of, needed, used_of, flags_kept}
use Rattle.pods.specs.Trees.{Leaf, fixed, text, raw, array, choice, pointer}
use Rattle.pods.specs.Outcomes.{Outcome, gave, refuse, refuse_if, refuse_unless}

-- a leaf whose body takes this many bytes, all of which have to be there
abbrev pub taking : Leaf → (size : ℕ) → Spot → List ℕ → Outcome Leaf
taking l size spot rest = refuse_if (nat_lt (length rest) size) Missing spot (gave l size)

-- the words of n values of a kind, each `gap` bytes after the one before
abbrev pub values : Kind → (gap n : ℕ) → List ℕ → List ℕ
values k gap zero bytes = []
values k gap (suc n) bytes = word_of k bytes ∷ values k gap n (drop gap bytes)

-- a kind of fixed size, whatever length is declared
abbrev pub fixed_body : Kind → Spot → List ℕ → Outcome Leaf
fixed_body k spot rest = taking (fixed k (word_of k rest)) (padded (size_of k)) spot rest

-- a text ends with a zero, which is counted in its length
abbrev pub text_body : (len : ℕ) → Spot → List ℕ → Outcome Leaf
text_body len spot rest =
    refuse_if (len == 0) TooShort spot
    (refuse_if (nat_lt (length rest) len) Missing spot
    (refuse_unless (slice_index rest (len - 1) == 0) NoClosingZero spot
    (refuse_unless (well_formed (take (len - 1) rest)) NotUtf8 spot
    (taking (text (take (len - 1) rest)) (padded len) spot rest))))

abbrev pub raw_body : (len : ℕ) → Spot → List ℕ → Outcome Leaf
raw_body len spot rest = taking (raw (take len rest)) (padded len) spot rest

-- how many values of s bytes an array has, whose length counts eight bytes before them
abbrev pub array_count : (len s : ℕ) → ℕ
array_count len s = (len - 8) / s

abbrev pub array_of : Option Kind → (len size : ℕ) → Spot → List ℕ → Outcome Leaf
array_of None len size spot rest = refuse UnknownType spot
array_of (Some k) len size spot rest =
    refuse_unless (size == size_of k) ChildSize spot
    (cond (size_of k == 0) (taking (array k []) 8 spot rest)
    (refuse_if (nat_lt len 8) TooShort spot
    (taking (array k (values k (size_of k) (array_count len (size_of k)) (drop 8 rest))) (padded (array_count len (size_of k) * size_of k) + 8) spot rest)))

-- the child's size and type, and then its values
abbrev pub array_body : (len : ℕ) → Spot → List ℕ → Outcome Leaf
array_body len spot rest =
    refuse_if (nat_lt (length rest) 8) Missing spot
    (array_of (kind_of (little 4 4 rest)) len (little 4 0 rest) spot rest)

-- how many values a choice has, whose length counts sixteen bytes before them
abbrev pub choice_count : (len size : ℕ) → ℕ
choice_count len size = (len - 16) / size

abbrev pub choice_using : Option ChoiceType → Kind → (flags n : ℕ) → Spot → List ℕ → Outcome Leaf
choice_using None k flags n spot rest = refuse OtherChoice spot
choice_using (Some c) k flags n spot rest =
    refuse_if (nat_lt n (needed c)) TooFewValues spot
    (gave (choice c (flags_kept c flags) k (values k (size_of k) (used_of c n) (drop 16 rest))) (padded (n * size_of k) + 16))

-- values are counted by the child size that is declared, and lie one after the other in the size of their kind
abbrev pub choice_of : Option Kind → (len number flags size : ℕ) → Spot → List ℕ → Outcome Leaf
choice_of None len number flags size spot rest = refuse UnknownType spot
choice_of (Some k) len number flags size spot rest =
    refuse_if (size_of k == 0) UnknownType spot
    (refuse_if (nat_lt (length rest) (padded (choice_count len size * size_of k) + 16)) Missing spot
    (choice_using (choice_type_of number) k flags (choice_count len size) spot rest))

-- choice type, flags, and the child's size and type; then its values, of which the first is the default
abbrev pub choice_body : (len : ℕ) → Spot → List ℕ → Outcome Leaf
choice_body len spot rest =
    refuse_if (nat_lt (length rest) 16) Missing spot
    (refuse_if (nat_lt len 16) TooShort spot
    (refuse_if (little 4 8 rest == 0) NoChildSize spot
    (choice_of (kind_of (little 4 12 rest)) len (little 4 0 rest) (little 4 4 rest) (little 4 8 rest) spot rest)))

-- the pointer's type, four spare bytes, and a pointer of eight bytes or one of four with four spare bytes after it
abbrev pub pointer_body : (len : ℕ) → Spot → List ℕ → Outcome Leaf
pointer_body len spot rest =
    refuse_if (nat_lt (length rest) 8) Missing spot
    (refuse_if (nat_lt len 8) TooShort spot
    (cond (len == 16) (taking (pointer (little 4 0 rest) (little 8 8 rest)) 16 spot rest)
    (cond (len == 12) (taking (pointer (little 4 0 rest) (little 4 8 rest)) 16 spot rest) (refuse PointerLength spot))))

abbrev pub fixed_of : Option Kind → Spot → List ℕ → Outcome Leaf
fixed_of None spot rest = refuse UnknownType spot
fixed_of (Some k) spot rest = fixed_body k spot rest

-- a body by its type number: text, raw bytes, array, pointer, choice, or one of the ten kinds
unfoldable pub leaf_body : (len type : ℕ) → Spot → List ℕ → Outcome Leaf
leaf_body len type spot rest =
    cond (type == 8) (text_body len spot rest)
    (cond (type == 9) (raw_body len spot rest)
    (cond (type == 13) (array_body len spot rest)
    (cond (type == 17) (pointer_body len spot rest)
    (cond (type == 19) (choice_body len spot rest) (fixed_of (kind_of type) spot rest)))))
