-- A tree with a value set: its size, its rows and its values. Assumes nothing.
use Rattle.std.proofs.Common.{◌≡◌, ℕ, zero, suc, ◌+◌, ◌-◌, ◌<◌, ◌≤◌, max, List, [], ◌∷◌, get_or, set, sym, refl, ap, ◌∙◌, subst, ⊎_elim, not-suc-le-zero, arith, length-set}
use Rattle.std.proofs.lemmas.List.{get_or-set_same, get_or_append_left, get_or-append_right, set-append_left, set-append_right}
use Rattle.std.proofs.lemmas.Bool.{cases_lt, lt-ltb, le-ltb}
use Rattle.kinds.specs.declared.kind.Kind.{Kind}
use Rattle.pods.specs.declared.holding.Holds.{Holds}
use Rattle.pods.specs.declared.holding.Holds.TheVariants.{Fields, Properties}
use Rattle.pods.specs.declared.rows.Row.{Row}
use Rattle.pods.specs.Trees.{Tree, Forest, Leaf, fixed, text, raw, array, choice, pointer, leaf, struct, object, none, more, past, total, totals, count, counts, deep, deepest}
use Rattle.pods.specs.Rows.{Above, leaf_type, leaf_row, locked_of, rows, rows_of}
use Rattle.pods.proofs.Counted.{rows_count}
use Rattle.format.specs.Places.{row_at}
use Rattle.format.proofs.Chains.{under}
use Rattle.laying.specs.Elements.{Settable, reworded, with_word}
use Rattle.laying.specs.Values.{leaf_values, values_in, values_of, with_value, set_leaf, set_in, set_of}
use Rattle.laying.proofs.Pods.{values_count, first_rows, more_rows, row_first, row_more}
use Rattle.laying.proofs.Elements.{plain}
use Rattle.laying.proofs.Slots.{Slot, leaf_slot, struct_valued, object_valued}

-- ---- the tree is as large, as deep, and of as many pods

pub set_of_first : (key flags : ℕ) (t : Tree) (f : Forest) (i e w : ℕ) → i < count t → set_of (more key flags t f) i e w ≡ more key flags (set_in t i e w) f
set_of_first key flags t f i e w less = rw (lt-ltb i (count t) less)

pub set_of_more : (key flags : ℕ) (t : Tree) (f : Forest) (i e w : ℕ) → count t ≤ i → set_of (more key flags t f) i e w ≡ more key flags t (set_of f (i - count t) e w)
set_of_more key flags t f i e w past_it = rw (le-ltb i (count t) past_it)

mutual
  pub total_set : (t : Tree) (i e w : ℕ) → total (set_in t i e w) ≡ total t
  total_set (leaf l size) i e w = refl
  total_set (struct f) zero e w = refl
  total_set (struct f) (suc i) e w = ap (λ n. n + 8) (totals_set Fields f i e w)
  total_set (object type id f) zero e w = refl
  total_set (object type id f) (suc i) e w = ap (λ n. n + 16) (totals_set Properties f i e w)

  pub totals_set : (h : Holds) (f : Forest) (i e w : ℕ) → totals h (set_of f i e w) ≡ totals h f
  totals_set h none i e w = refl
  totals_set h (more key flags t f) i e w =
      ⊎_elim
      (λ less. ap (totals h) (set_of_first key flags t f i e w less) ∙ ap (λ n. past h n + totals h f) (total_set t i e w))
      (λ past_it. ap (totals h) (set_of_more key flags t f i e w past_it) ∙ ap (λ n. past h (total t) + n) (totals_set h f (i - count t) e w))
      (cases_lt i (count t))

mutual
  pub count_set : (t : Tree) (i e w : ℕ) → count (set_in t i e w) ≡ count t
  count_set (leaf l size) i e w = refl
  count_set (struct f) zero e w = refl
  count_set (struct f) (suc i) e w = ap (λ n. n + 1) (counts_set f i e w)
  count_set (object type id f) zero e w = refl
  count_set (object type id f) (suc i) e w = ap (λ n. n + 1) (counts_set f i e w)

  pub counts_set : (f : Forest) (i e w : ℕ) → counts (set_of f i e w) ≡ counts f
  counts_set none i e w = refl
  counts_set (more key flags t f) i e w =
      ⊎_elim
      (λ less. ap counts (set_of_first key flags t f i e w less) ∙ ap (λ n. n + counts f) (count_set t i e w))
      (λ past_it. ap counts (set_of_more key flags t f i e w past_it) ∙ ap (λ n. count t + n) (counts_set f (i - count t) e w))
      (cases_lt i (count t))

mutual
  pub deep_set : (t : Tree) (i e w : ℕ) → deep (set_in t i e w) ≡ deep t
  deep_set (leaf l size) i e w = refl
  deep_set (struct f) zero e w = refl
  deep_set (struct f) (suc i) e w = ap suc (deepest_set f i e w)
  deep_set (object type id f) zero e w = refl
  deep_set (object type id f) (suc i) e w = ap suc (deepest_set f i e w)

  pub deepest_set : (f : Forest) (i e w : ℕ) → deepest (set_of f i e w) ≡ deepest f
  deepest_set none i e w = refl
  deepest_set (more key flags t f) i e w =
      ⊎_elim
      (λ less. ap deepest (set_of_first key flags t f i e w less) ∙ ap (λ n. max n (deepest f)) (deep_set t i e w))
      (λ past_it. ap deepest (set_of_more key flags t f i e w past_it) ∙ ap (λ n. max (deep t) n) (deepest_set f (i - count t) e w))
      (cases_lt i (count t))

-- ---- its rows

pub type_set : (l : Leaf) (e w : ℕ) → leaf_type (set_leaf l e w) ≡ leaf_type l
type_set (fixed kind old) e w = refl
type_set (text part) e w = refl
type_set (raw part) e w = refl
type_set (array kind ws) e w = refl
type_set (choice c flags kind ws) e w = refl
type_set (pointer type old) e w = refl

module _ (e : ℕ) (k : Kind) (w : ℕ) where
  leaf_row_lem : (a : Above) (n : ℕ) (l : Leaf) → Slot l e k → leaf_row a (set_leaf l e w) n ≡ reworded (leaf_row a l n) w
  leaf_row_lem a n (fixed kind old) s = rw (plain kind).2
  leaf_row_lem a n (text part) s = absurd s
  leaf_row_lem a n (raw part) s = absurd s
  leaf_row_lem a n (array kind ws) s = rw (length-set ws e w)
  leaf_row_lem a n (choice c flags kind ws) s =
      let first : get_or (set ws e w) 0 0 ≡ w = ap (λ i. get_or (set ws e w) i 0) (sym s.2) ∙ get_or-set_same ws e w 0 s.1 in
      rw (length-set ws e w, first)
  leaf_row_lem a n (pointer type old) s = absurd s

  mutual
    pub rows_set : (t : Tree) (a : Above) (i : ℕ) → i < count t → Settable (row_at (rows t a) i) e k → rows (set_in t i e w) a ≡ with_word (rows t a) i w
    rows_set (leaf l size) a zero lt s = ap (λ r. r ∷ []) (leaf_row_lem a (size + 8) l (leaf_slot a (size + 8) k l e s))
    rows_set (leaf l size) a (suc i) lt s = absurd (omega arith)
    rows_set (struct f) a zero lt s = absurd (struct_valued k s.kind_is)
    rows_set (struct f) a (suc i) lt s =
        rw (totals_set Fields f i e w, rows_of_set Fields f (a.place + 8) (a.index + 1) (a.index + 1) (locked_of a) i (omega arith) s)
    rows_set (object type id f) a zero lt s = absurd (object_valued k s.kind_is)
    rows_set (object type id f) a (suc i) lt s =
        rw (totals_set Properties f i e w, rows_of_set Properties f (a.place + 16) (a.index + 1) (a.index + 1) (locked_of a) i (omega arith) s)

    pub rows_of_set : (h : Holds) (f : Forest) (at index parent locked i : ℕ) → i < counts f → Settable (row_at (rows_of h f at index parent locked) i) e k → rows_of h (set_of f i e w) at index parent locked ≡ with_word (rows_of h f at index parent locked) i w
    rows_of_set h none at index parent locked i lt s = absurd (not-suc-le-zero lt)
    rows_of_set h (more key flags t f) at index parent locked i lt s =
        let a : Above = under h key flags at index parent locked in
        let first : List Row = first_rows h key flags t f at index parent locked in
        let others : List Row = more_rows h key flags t f at index parent locked in
        let few = rows_count t a in
        ⊎_elim
        (λ less.
        let same = row_first h key flags t f at index parent locked i less in
        ap (λ g. rows_of h g at index parent locked) (set_of_first key flags t f i e w less)
        ∙ rw (total_set t i e w, count_set t i e w, rows_set t a i less (subst (λ r. Settable r e k) same s), same)
        (sym (set-append_left first others i (reworded (row_at first i) w) (omega arith))))
        (λ past_it.
        let same = row_more h key flags t f at index parent locked i past_it in
        ap (λ g. rows_of h g at index parent locked) (set_of_more key flags t f i e w past_it)
        ∙ rw (rows_of_set h f (at + past h (total t)) (index + count t) parent locked (i - count t) (omega arith) (subst (λ r. Settable r e k) same s), same)
        (sym (set-append_right first others (count t) i (reworded (row_at others (i - count t)) w) few past_it)))
        (cases_lt i (count t))

  -- ---- its values

  leaf_values_lem : (l : Leaf) → Slot l e k → leaf_values (set_leaf l e w) ≡ set (leaf_values l) e w
  leaf_values_lem (fixed kind old) s = rw s.1
  leaf_values_lem (text part) s = absurd s
  leaf_values_lem (raw part) s = absurd s
  leaf_values_lem (array kind ws) s = refl
  leaf_values_lem (choice c flags kind ws) s = refl
  leaf_values_lem (pointer type old) s = absurd s

  mutual
    pub values_set : (t : Tree) (a : Above) (i : ℕ) → i < count t → Settable (row_at (rows t a) i) e k → values_in (set_in t i e w) ≡ with_value (values_in t) i e w
    values_set (leaf l size) a zero lt s = ap (λ vs. vs ∷ []) (leaf_values_lem l (leaf_slot a (size + 8) k l e s))
    values_set (leaf l size) a (suc i) lt s = absurd (omega arith)
    values_set (struct f) a zero lt s = absurd (struct_valued k s.kind_is)
    values_set (struct f) a (suc i) lt s =
        rw (values_of_set Fields f (a.place + 8) (a.index + 1) (a.index + 1) (locked_of a) i (omega arith) s)
    values_set (object type id f) a zero lt s = absurd (object_valued k s.kind_is)
    values_set (object type id f) a (suc i) lt s =
        rw (values_of_set Properties f (a.place + 16) (a.index + 1) (a.index + 1) (locked_of a) i (omega arith) s)

    pub values_of_set : (h : Holds) (f : Forest) (at index parent locked i : ℕ) → i < counts f → Settable (row_at (rows_of h f at index parent locked) i) e k → values_of (set_of f i e w) ≡ with_value (values_of f) i e w
    values_of_set h none at index parent locked i lt s = absurd (not-suc-le-zero lt)
    values_of_set h (more key flags t f) at index parent locked i lt s =
        let few = values_count t in
        ⊎_elim
        (λ less.
        let same = row_first h key flags t f at index parent locked i less in
        ap values_of (set_of_first key flags t f i e w less)
        ∙ rw (values_set t (under h key flags at index parent locked) i less (subst (λ r. Settable r e k) same s), get_or_append_left (values_in t) (values_of f) [] i (omega arith))
        (sym (set-append_left (values_in t) (values_of f) i (set (get_or (values_in t) i []) e w) (omega arith))))
        (λ past_it.
        let same = row_more h key flags t f at index parent locked i past_it in
        ap values_of (set_of_more key flags t f i e w past_it)
        ∙ rw (values_of_set h f (at + past h (total t)) (index + count t) parent locked (i - count t) (omega arith) (subst (λ r. Settable r e k) same s), get_or-append_right (values_in t) (values_of f) (count t) i [] few past_it)
        (sym (set-append_right (values_in t) (values_of f) (count t) i (set (get_or (values_of f) (i - count t) []) e w) few past_it)))
        (cases_lt i (count t))
