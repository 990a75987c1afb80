-- Each row of a tree is that of a pod which is laid out at the row's place. Assumes nothing.
use Rattle.std.proofs.Common.{◌≡◌, ℕ, zero, suc, ◌+◌, ◌-◌, ◌<◌, ◌≤◌, List, [], ◌++◌, length, get_or, refl, ◌∙◌, ⊎_elim, not-suc-le-zero, arith, length-append}
use Rattle.std.proofs.lemmas.List.{get_or_append_left, get_or-append_right}
use Rattle.std.proofs.lemmas.Bool.{cases_lt}
use Rattle.pods.specs.declared.holding.Holds.{Holds}
use Rattle.pods.specs.declared.holding.Holds.TheVariants.{Fields, Properties}
use Rattle.pods.specs.declared.rows.Row.{Row}
use Rattle.pods.specs.Trees.{Tree, Forest, leaf, struct, object, none, more, past, total, totals, count, counts}
use Rattle.pods.specs.Rows.{Above, locked_of, rows, rows_of}
use Rattle.pods.proofs.Counted.{rows_count}
use Rattle.format.specs.Layout.{Laid, AllLaid}
use Rattle.format.specs.Places.{blank, row_at}
use Rattle.format.proofs.Ahead.{past_both, past_from}
use Rattle.format.proofs.Chains.{under, root}
use Rattle.laying.specs.Values.{own_values, values_in, values_of}

mutual
  pub values_count : (t : Tree) → length (values_in t) ≡ count t
  values_count (leaf l size) = refl
  values_count (struct f) = let e = values_of_count f in omega arith
  values_count (object type id f) = let e = values_of_count f in omega arith

  pub values_of_count : (f : Forest) → length (values_of f) ≡ counts f
  values_of_count none = refl
  values_of_count (more key flags t f) =
      let e = values_count t in
      let e' = values_of_count f in
      omega (arith, length-append (values_in t) (values_of f))

-- row i of these, and what values it has: a pod between two places
pub record PodAt (bytes : List ℕ) (rs : List Row) (vs : List (List ℕ)) (low high i : ℕ) : Type 0 where
  pub pod : Tree
  pub above : Above
  pub laid : Laid bytes pod above.place
  pub row_is : row_at rs i ≡ root pod above
  pub values_are : get_or vs i [] ≡ own_values pod
  pub from : low ≤ above.place
  pub to : above.place + total pod ≤ high

-- the same among more rows
wider : {bytes : List ℕ} {rs rs' : List Row} {vs vs' : List (List ℕ)} {low high i low' high' i' : ℕ} → PodAt bytes rs vs low high i → row_at rs' i' ≡ row_at rs i → get_or vs' i' [] ≡ get_or vs i [] → low' ≤ low → high ≤ high' → PodAt bytes rs' vs' low' high' i'
wider q same_row same-values lower higher =
    record {
      pod = q.pod;
      above = q.above;
      laid = q.laid;
      row_is = same_row ∙ q.row_is;
      values_are = same-values ∙ q.values_are;
      from = omega (arith, q.from);
      to = omega (arith, q.to);
    }

-- of the pods of a container, the first and those behind it
module _ (h : Holds) (key flags : ℕ) (t : Tree) (f : Forest) (at index parent locked : ℕ) where
  abbrev pub first_rows : List Row
  first_rows = rows t (under h key flags at index parent locked)

  abbrev pub more_rows : List Row
  more_rows = rows_of h f (at + past h (total t)) (index + count t) parent locked

  pub row_first : (i : ℕ) → i < count t → row_at (first_rows ++ more_rows) i ≡ row_at first_rows i
  row_first i less = get_or_append_left first_rows more_rows blank i (omega (arith, rows_count t (under h key flags at index parent locked)))

  pub row_more : (i : ℕ) → count t ≤ i → row_at (first_rows ++ more_rows) i ≡ row_at more_rows (i - count t)
  row_more i past_it = get_or-append_right first_rows more_rows (count t) i blank (rows_count t (under h key flags at index parent locked)) past_it

module _ (bytes : List ℕ) where
  mutual
    pub pod_at : (t : Tree) (a : Above) (i : ℕ) → i < count t → Laid bytes t a.place → PodAt bytes (rows t a) (values_in t) a.place (a.place + total t) i
    pod_at (leaf l size) a zero lt laid =
        record { pod = leaf l size; above = a; laid = laid; row_is = refl; values_are = refl; from = omega arith; to = omega arith }
    pod_at (leaf l size) a (suc i) lt laid = absurd (omega arith)
    pod_at (struct f) a zero lt laid =
        record { pod = struct f; above = a; laid = laid; row_is = refl; values_are = refl; from = omega arith; to = omega arith }
    pod_at (struct f) a (suc i) lt laid =
        wider (pod_in Fields f (a.place + 8) (a.index + 1) (a.index + 1) (locked_of a) i (omega arith) laid.2) refl refl (omega arith) (omega arith)
    pod_at (object type id f) a zero lt laid =
        record { pod = object type id f; above = a; laid = laid; row_is = refl; values_are = refl; from = omega arith; to = omega arith }
    pod_at (object type id f) a (suc i) lt laid =
        wider (pod_in Properties f (a.place + 16) (a.index + 1) (a.index + 1) (locked_of a) i (omega arith) laid.4) refl refl (omega arith) (omega arith)

    pub pod_in : (h : Holds) (f : Forest) (at index parent locked i : ℕ) → i < counts f → AllLaid bytes h f at → PodAt bytes (rows_of h f at index parent locked) (values_of f) at (at + totals h f) i
    pod_in h none at index parent locked i lt laid = absurd (not-suc-le-zero lt)
    pod_in h (more key flags t f) at index parent locked i lt laid =
        let e = past_both h at (total t) in
        let few = values_count t in
        ⊎_elim
        (λ less. wider (pod_at t (under h key flags at index parent locked) i less laid.1)
        (row_first h key flags t f at index parent locked i less) (get_or_append_left (values_in t) (values_of f) [] i (omega arith)) (past_from h at) (omega arith))
        (λ past_it. wider (pod_in h f (at + past h (total t)) (index + count t) parent locked (i - count t) (omega arith) laid.2)
        (row_more h key flags t f at index parent locked i past_it) (get_or-append_right (values_in t) (values_of f) (count t) i [] few past_it) (omega arith) (omega arith))
        (cases_lt i (count t))
