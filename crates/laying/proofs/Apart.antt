-- Elements stand in the bytes that are used, each apart from the others. Assumes nothing.
use Rattle.std.proofs.Common.{◌≡◌, ℕ, zero, suc, ◌+◌, ◌-◌, ◌<◌, ◌≤◌, List, Some, sym, ap, ◌∙◌, subst, inl, inr, ⊎_elim, not-suc-le-zero, arith}
use Rattle.std.proofs.lemmas.Bool.{cases_lt, cases_order}
use Rattle.kinds.specs.declared.kind.Kind.{Kind}
use Rattle.kinds.specs.Kinds.{kind_of, size_of}
use Rattle.pods.specs.declared.holding.Holds.{Holds}
use Rattle.pods.specs.declared.holding.Holds.TheVariants.{Fields, Properties}
use Rattle.pods.specs.declared.rows.Row.{Row}
use Rattle.pods.specs.Trees.{Tree, Forest, leaf, struct, object, none, more, past, total, count, counts}
use Rattle.pods.specs.Rows.{Above, locked_of, rows, rows_of, top}
use Rattle.pods.proofs.Counted.{rows_count}
use Rattle.format.specs.Layout.{Laid, AllLaid}
use Rattle.format.specs.Places.{row_at}
use Rattle.format.proofs.Ahead.{past_both}
use Rattle.format.proofs.Chains.{under, root_place}
use Rattle.laying.specs.Elements.{element_size, element_place, settable_kind}
use Rattle.laying.specs.Laws.{row_in, Clear, ElementsApart}
use Rattle.laying.proofs.Pods.{PodAt, row_first, row_more, pod_at, pod_in}
use Rattle.laying.proofs.Elements.{element_from, element_to, root_ends}
use Rattle.laying.proofs.Slots.{root_sized}
use Rattle.laying.proofs.Accepted.{accepted, pod_of_lem}

-- the row of a pod between two places, and its elements
pub row_low : {bytes : List ℕ} {rs : List Row} {vs : List (List ℕ)} {low high i : ℕ} → PodAt bytes rs vs low high i → low ≤ (row_at rs i).place
row_low q =
    let e = ap (λ r. r.place) q.row_is ∙ root_place q.pod q.above in omega (arith, q.from)

pub row_high : {bytes : List ℕ} {rs : List Row} {vs : List (List ℕ)} {low high i : ℕ} → PodAt bytes rs vs low high i → element_place (row_at rs i) (row_at rs i).count ≤ high
row_high {bytes} {high = high} q =
    subst (λ r. element_place r r.count ≤ high) (sym q.row_is) (omega (arith, root_ends bytes q.pod q.above q.laid, q.to))

pub row_sized : {bytes : List ℕ} {rs : List Row} {vs : List (List ℕ)} {low high i : ℕ} (k : Kind) → PodAt bytes rs vs low high i → settable_kind (row_at rs i) ≡ Some k → element_size (row_at rs i) ≡ size_of k
row_sized k q h = ap element_size q.row_is ∙ root_sized q.pod q.above k (ap settable_kind (sym q.row_is) ∙ h)

-- ---- rows, one behind the other

-- the elements of an earlier row end before a later row's place
abbrev Behind : Row → Row → Type 0
Behind r r' = element_place r r.count ≤ r'.place

module _ (bytes : List ℕ) where
  mutual
    unfolding kind_of

    behind : (t : Tree) (a : Above) (i i' : ℕ) → i < i' → i' < count t → Laid bytes t a.place → Behind (row_at (rows t a) i) (row_at (rows t a) i')
    behind (leaf l size) a i i' less lt laid = absurd (omega arith)
    behind (struct f) a i zero less lt laid = absurd (not-suc-le-zero less)
    behind (struct f) a zero (suc i') less lt laid =
        let low = row_low (pod_in bytes Fields f (a.place + 8) (a.index + 1) (a.index + 1) (locked_of a) i' (omega arith) laid.2) in omega arith
    behind (struct f) a (suc i) (suc i') less lt laid =
        behind_in Fields f (a.place + 8) (a.index + 1) (a.index + 1) (locked_of a) i i' (omega arith) (omega arith) laid.2
    behind (object type id f) a i zero less lt laid = absurd (not-suc-le-zero less)
    behind (object type id f) a zero (suc i') less lt laid =
        let low = row_low (pod_in bytes Properties f (a.place + 16) (a.index + 1) (a.index + 1) (locked_of a) i' (omega arith) laid.4) in omega arith
    behind (object type id f) a (suc i) (suc i') less lt laid =
        behind_in Properties f (a.place + 16) (a.index + 1) (a.index + 1) (locked_of a) i i' (omega arith) (omega arith) laid.4

    behind_in : (h : Holds) (f : Forest) (at index parent locked i i' : ℕ) → i < i' → i' < counts f → AllLaid bytes h f at → Behind (row_at (rows_of h f at index parent locked) i) (row_at (rows_of h f at index parent locked) i')
    behind_in h none at index parent locked i i' less lt laid = absurd (not-suc-le-zero lt)
    behind_in h (more key flags t f) at index parent locked i i' less lt laid =
        ⊎_elim
        (λ x. ⊎_elim
        (λ x'. rw (row_first h key flags t f at index parent locked i x, row_first h key flags t f at index parent locked i' x')
        (behind t (under h key flags at index parent locked) i i' less x' laid.1))
        (λ x'. rw (row_first h key flags t f at index parent locked i x, row_more h key flags t f at index parent locked i' x')
        (let e = past_both h at (total t) in
        let high = row_high (pod_at bytes t (under h key flags at index parent locked) i x laid.1) in
        let low = row_low (pod_in bytes h f (at + past h (total t)) (index + count t) parent locked (i' - count t) (omega arith) laid.2) in
        omega arith))
        (cases_lt i' (count t)))
        (λ x. rw (row_more h key flags t f at index parent locked i x, row_more h key flags t f at index parent locked i' (omega arith))
        (behind_in h f (at + past h (total t)) (index + count t) parent locked (i - count t) (i' - count t) (omega arith) (omega arith) laid.2))
        (cases_lt i (count t))

-- two elements of rows that stand so
clear_behind : (r r' : Row) (e e' : ℕ) → e < r.count → Behind r r' → element_place r e + element_size r ≤ element_place r' e'
clear_behind r r' e e' lt b = omega (arith, element_to r e r.count lt, element_from r' e')

pub elements_apart : ElementsApart
elements_apart bytes t used says_so =
    let a = accepted bytes t used says_so in
    record {
      within = λ i e lt less.
          (let high = row_high (pod_of_lem bytes t used a i lt) in omega (arith, element_to (row_in t i) e (row_in t i).count less, a.whole));
      sized = λ i k lt h. row_sized k (pod_of_lem bytes t used a i lt) h;
      apart = λ i e i' e' lt less lt' less' other.
          ⊎_elim (λ same. in_row i e e' i' same (λ x. other (same, x)))
          (⊎_elim
          (λ before. inl (clear_behind (row_in t i) (row_in t i') e e' less (behind bytes t top i i' before (omega (arith, rows_count t top)) a.laid)))
          (λ after. inr (clear_behind (row_in t i') (row_in t i) e' e less' (behind bytes t top i' i after (omega (arith, rows_count t top)) a.laid))))
          (cases_order i i');
    }
  where
    in_row : (i e e' i' : ℕ) → i ≡ i' → (e ≡ e' → ⊥) → Clear (element_place (row_in t i) e) (element_size (row_in t i)) (element_place (row_in t i') e') (element_size (row_in t i'))
    in_row i e e' i' same other =
        subst (λ x. Clear (element_place (row_in t i) e) (element_size (row_in t i)) (element_place (row_in t x) e') (element_size (row_in t x))) same
        (⊎_elim (λ x. absurd (other x)) (⊎_elim (λ before. inl (element_to (row_in t i) e e' before)) (λ after. inr (element_to (row_in t i) e' e after))) (cases_order e e'))
