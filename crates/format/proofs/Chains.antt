-- The pods of a container stand one after the other. Assumes nothing.
use Rattle.std.proofs.Common.{◌≡◌, ℕ, zero, suc, ◌+◌, ◌-◌, ◌*◌, ◌^◌, ◌<◌, ◌≤◌, Bool, true, false, cond, eqb, ◌⊎◌, List, [], ◌∷◌, ◌++◌, sym, refl, ap, ◌∙◌, subst, inl, inr, not-suc-le-zero, arith}
use Rattle.std.proofs.lemmas.List.{append-nil, get_or_append_left, get_or-append_right}
use Rattle.std.proofs.lemmas.Bool.{eq-eqb, ne_eqb, cases_lt}
use Rattle.kinds.specs.declared.kind.Kind.{Kind}
use Rattle.kinds.specs.declared.kind.Kind.TheVariants.{None, Bool as BoolKind, Id, Int, Long, Float, Double, Rectangle, Fraction, Fd}
use Rattle.kinds.specs.Kinds.{type_of}
use Rattle.pods.specs.declared.rows.Row.{Row}
use Rattle.pods.specs.declared.holding.Holds.{Holds}
use Rattle.pods.specs.declared.holding.Holds.TheVariants.{Fields, Properties}
use Rattle.pods.specs.Trees.{Tree, Forest, Leaf, fixed, text, raw, array, choice, pointer, leaf, struct, object, none, more, past, total, totals, count, counts}
use Rattle.pods.specs.Rows.{Above, leaf_type, locked_of, leaf_row, open_row, rows, rows_of, top}
use Rattle.pods.specs.Survey.{rows_in}
use Rattle.pods.proofs.Counted.{rows_count}
use Rattle.format.specs.Places.{blank, row_at, children, Chained, Chain, PodsChained}

children_append : (q : ℕ) (xs ys : List Row) → children q (xs ++ ys) ≡ children q xs ++ children q ys
children_append q [] ys = refl
children_append q (r ∷ xs) ys = go (eqb r.parent q) (children_append q xs ys)
  where
    go : (b : Bool) → children q (xs ++ ys) ≡ children q xs ++ children q ys → cond b (r ∷ children q (xs ++ ys)) (children q (xs ++ ys)) ≡ cond b (r ∷ children q xs) (children q xs) ++ children q ys
    go true e = ap (λ l. r ∷ l) e
    go false e = e

-- what stands above a pod of a container
abbrev pub under : Holds → (key flags at index parent locked : ℕ) → Above
under h key flags at index parent locked = record { place = past h at; index = index; parent = parent; key = key; flags = flags; held = locked }

-- rows whose numbers are `index` and on have no children of another number than their own, but for their parent
abbrev Outside : (q index n : ℕ) → Type 0
Outside q index n = (q ≤ index) ⊎ (index + n < q)

mutual
  no_children : (t : Tree) (a : Above) (q : ℕ) → (a.parent ≡ q → ⊥) → Outside q a.index (count t) → children q (rows t a) ≡ []
  no_children (leaf l size) a q n o = rw (ne_eqb a.parent q n)
  no_children (struct f) a q n o =
      rw (ne_eqb a.parent q n)
      (no_children_of Fields f (a.place + 8) (a.index + 1) (a.index + 1) (locked_of a) q (λ e. inner o e) (shifted o))
    where
      inner : Outside q a.index (counts f + 1) → a.index + 1 ≡ q → ⊥
      inner (inl h) e = omega arith
      inner (inr h) e = omega arith

      shifted : Outside q a.index (counts f + 1) → Outside q (a.index + 1) (counts f)
      shifted (inl h) = inl (omega arith)
      shifted (inr h) = inr (omega arith)
  no_children (object type id f) a q n o =
      rw (ne_eqb a.parent q n)
      (no_children_of Properties f (a.place + 16) (a.index + 1) (a.index + 1) (locked_of a) q (λ e. inner o e) (shifted o))
    where
      inner : Outside q a.index (counts f + 1) → a.index + 1 ≡ q → ⊥
      inner (inl h) e = omega arith
      inner (inr h) e = omega arith

      shifted : Outside q a.index (counts f + 1) → Outside q (a.index + 1) (counts f)
      shifted (inl h) = inl (omega arith)
      shifted (inr h) = inr (omega arith)

  no_children_of : (h : Holds) (f : Forest) (at index parent locked q : ℕ) → (parent ≡ q → ⊥) → Outside q index (counts f) → children q (rows_of h f at index parent locked) ≡ []
  no_children_of h none at index parent locked q n o = refl
  no_children_of h (more key flags t f) at index parent locked q n o =
      children_append q (rows t (under h key flags at index parent locked)) (rows_of h f (at + past h (total t)) (index + count t) parent locked)
      ∙ rw (no_children t (under h key flags at index parent locked) q n (first o), no_children_of h f (at + past h (total t)) (index + count t) parent locked q n (others o))
    where
      first : Outside q index (count t + counts f) → Outside q index (count t)
      first (inl h) = inl h
      first (inr h) = inr (omega arith)

      others : Outside q index (count t + counts f) → Outside q (index + count t) (counts f)
      others (inl h) = inl (omega arith)
      others (inr h) = inr (omega arith)

-- the row of a pod itself
abbrev pub root : Tree → Above → Row
root (leaf l size) a = leaf_row a l (size + 8)
root (struct f) a = open_row a (total (struct f)) 14 0
root (object type id f) a = open_row a (total (object type id f)) 15 (type + id * 2 ^ 32)

abbrev roots : Holds → Forest → (at index parent locked : ℕ) → List Row
roots h none at index parent locked = []
roots h (more key flags t f) at index parent locked =
    root t (under h key flags at index parent locked) ∷ roots h f (at + past h (total t)) (index + count t) parent locked

pub root_place : (t : Tree) (a : Above) → (root t a).place ≡ a.place
root_place (leaf l size) a = refl
root_place (struct f) a = refl
root_place (object type id f) a = refl

pub root_total : (t : Tree) (a : Above) → (root t a).total ≡ total t
root_total (leaf l size) a = refl
root_total (struct f) a = refl
root_total (object type id f) a = refl

-- of the parent's number there is just that row
only_root : (t : Tree) (a : Above) → a.parent ≤ a.index → children a.parent (rows t a) ≡ root t a ∷ []
only_root (leaf l size) a h = rw (eq-eqb a.parent a.parent refl)
only_root (struct f) a h =
    rw (eq-eqb a.parent a.parent refl, no_children_of Fields f (a.place + 8) (a.index + 1) (a.index + 1) (locked_of a) a.parent (λ e. omega arith) (inl (omega arith)))
only_root (object type id f) a h =
    rw (eq-eqb a.parent a.parent refl, no_children_of Properties f (a.place + 16) (a.index + 1) (a.index + 1) (locked_of a) a.parent (λ e. omega arith) (inl (omega arith)))

only_roots : (h : Holds) (f : Forest) (at index parent locked : ℕ) → parent ≤ index → children parent (rows_of h f at index parent locked) ≡ roots h f at index parent locked
only_roots h none at index parent locked le = refl
only_roots h (more key flags t f) at index parent locked le =
    children_append parent (rows t (under h key flags at index parent locked)) (rows_of h f (at + past h (total t)) (index + count t) parent locked)
    ∙ rw (only_root t (under h key flags at index parent locked) le, only_roots h f (at + past h (total t)) (index + count t) parent locked (omega arith))

past_add : (h : Holds) (at m : ℕ) → past h at + m ≡ at + past h m
past_add Fields at m = refl
past_add Properties at m = omega arith

roots_chained : (h : Holds) (f : Forest) (at index parent locked : ℕ) → Chained h at (at + totals h f) (roots h f at index parent locked)
roots_chained h none at index parent locked = omega arith
roots_chained h (more key flags t f) at index parent locked =
    let a : Above = under h key flags at index parent locked in
    let end : past h at + (root t a).total ≡ at + past h (total t) = ap (λ m. past h at + m) (root_total t a) ∙ past_add h at (total t) in (
      root_place t a,
      subst (λ n. Chained h n (at + (past h (total t) + totals h f)) (roots h f (at + past h (total t)) (index + count t) parent locked)) (sym end)
          (subst (λ n. Chained h (at + past h (total t)) n (roots h f (at + past h (total t)) (index + count t) parent locked)) (omega arith)
          (roots_chained h f (at + past h (total t)) (index + count t) parent locked)),
    )

-- a leaf is no container
kind_type : (k : Kind) → (type_of k ≡ 14 → ⊥) × (type_of k ≡ 15 → ⊥)
kind_type None = (λ e. omega arith, λ e. omega arith)
kind_type BoolKind = (λ e. omega arith, λ e. omega arith)
kind_type Id = (λ e. omega arith, λ e. omega arith)
kind_type Int = (λ e. omega arith, λ e. omega arith)
kind_type Long = (λ e. omega arith, λ e. omega arith)
kind_type Float = (λ e. omega arith, λ e. omega arith)
kind_type Double = (λ e. omega arith, λ e. omega arith)
kind_type Rectangle = (λ e. omega arith, λ e. omega arith)
kind_type Fraction = (λ e. omega arith, λ e. omega arith)
kind_type Fd = (λ e. omega arith, λ e. omega arith)

leaf_type_lem : (l : Leaf) → (leaf_type l ≡ 14 → ⊥) × (leaf_type l ≡ 15 → ⊥)
leaf_type_lem (fixed k w) = kind_type k
leaf_type_lem (text bytes) = (λ e. omega arith, λ e. omega arith)
leaf_type_lem (raw bytes) = (λ e. omega arith, λ e. omega arith)
leaf_type_lem (array k words) = (λ e. omega arith, λ e. omega arith)
leaf_type_lem (choice c flags k words) = (λ e. omega arith, λ e. omega arith)
leaf_type_lem (pointer type word) = (λ e. omega arith, λ e. omega arith)

-- the row of a struct or object, and what it holds
struct_chain : (f : Forest) (a : Above) → a.parent ≤ a.index → Chain (root (struct f) a) (children (suc a.index) (rows (struct f) a))
struct_chain f a h =
    record {
      struct = λ _. subst (λ cs. Chained Fields (a.place + 8) (a.place + (totals Fields f + 8)) cs) (sym held)
          (subst (λ n. Chained Fields (a.place + 8) n (roots Fields f (a.place + 8) (a.index + 1) (a.index + 1) (locked_of a))) (omega arith) (roots_chained Fields f (a.place + 8) (a.index + 1) (a.index + 1) (locked_of a)));
      object = λ e. absurd (omega arith);
    }
  where
    held : children (suc a.index) (rows (struct f) a) ≡ roots Fields f (a.place + 8) (a.index + 1) (a.index + 1) (locked_of a)
    held =
        rw (ne_eqb a.parent (suc a.index) (λ e. omega arith))
        (ap (λ q. children q (rows_of Fields f (a.place + 8) (a.index + 1) (a.index + 1) (locked_of a))) (omega arith)
        ∙ only_roots Fields f (a.place + 8) (a.index + 1) (a.index + 1) (locked_of a) (omega arith))

object_chain : (type id : ℕ) (f : Forest) (a : Above) → a.parent ≤ a.index → Chain (root (object type id f) a) (children (suc a.index) (rows (object type id f) a))
object_chain type id f a h =
    record {
      struct = λ e. absurd (omega arith);
      object = λ _. subst (λ cs. Chained Properties (a.place + 16) (a.place + (totals Properties f + 16)) cs) (sym held)
          (subst (λ n. Chained Properties (a.place + 16) n (roots Properties f (a.place + 16) (a.index + 1) (a.index + 1) (locked_of a))) (omega arith) (roots_chained Properties f (a.place + 16) (a.index + 1) (a.index + 1) (locked_of a)));
    }
  where
    held : children (suc a.index) (rows (object type id f) a) ≡ roots Properties f (a.place + 16) (a.index + 1) (a.index + 1) (locked_of a)
    held =
        rw (ne_eqb a.parent (suc a.index) (λ e. omega arith))
        (ap (λ q. children q (rows_of Properties f (a.place + 16) (a.index + 1) (a.index + 1) (locked_of a))) (omega arith)
        ∙ only_roots Properties f (a.place + 16) (a.index + 1) (a.index + 1) (locked_of a) (omega arith))

-- row j of those from `index` on
abbrev ChainAt : (rs : List Row) (index j : ℕ) → Type 0
ChainAt rs index j = Chain (row_at rs j) (children (suc (index + j)) rs)

-- a first row that is no child does not matter
skip : (r : Row) (rs : List Row) (index j : ℕ) → (r.parent ≡ suc (index + suc j) → ⊥) → ChainAt rs (index + 1) j → ChainAt (r ∷ rs) index (suc j)
skip r rs index j n c =
    subst (λ cs. Chain (row_at rs j) cs) (sym (rw (ne_eqb r.parent (suc (index + suc j)) n) (ap (λ q. children q rs) (omega arith)))) c

-- the rows of a pod, and those of what follows it in its container
module _ (h : Holds) (key flags : ℕ) (t : Tree) (f : Forest) (at index parent locked : ℕ) (le : parent ≤ index) where
  abbrev above : Above
  above = under h key flags at index parent locked

  abbrev pod_rows : List Row
  pod_rows = rows t above

  abbrev more_rows : List Row
  more_rows = rows_of h f (at + past h (total t)) (index + count t) parent locked

  in_pod : (j : ℕ) → j < count t → ChainAt pod_rows index j → ChainAt (pod_rows ++ more_rows) index j
  in_pod j less c =
      let none = no_children_of h f (at + past h (total t)) (index + count t) parent locked (suc (index + j)) (λ e. omega arith) (inl (omega arith)) in
      subst (λ r. Chain r (children (suc (index + j)) (pod_rows ++ more_rows))) (sym (get_or_append_left pod_rows more_rows blank j (omega (arith, rows_count t above))))
      (subst (λ cs. Chain (row_at pod_rows j) cs)
      (sym (children_append (suc (index + j)) pod_rows more_rows ∙ ap (λ cs. children (suc (index + j)) pod_rows ++ cs) none ∙ append-nil (children (suc (index + j)) pod_rows))) c)

  in_more : (j : ℕ) → count t ≤ j → ChainAt more_rows (index + count t) (j - count t) → ChainAt (pod_rows ++ more_rows) index j
  in_more j past_it c =
      let none = no_children t above (suc (index + j)) (λ e. omega arith) (inr (omega arith)) in
      subst (λ r. Chain r (children (suc (index + j)) (pod_rows ++ more_rows))) (sym (get_or-append_right pod_rows more_rows (count t) j blank (rows_count t above) past_it))
      (subst (λ cs. Chain (row_at more_rows (j - count t)) cs)
      (sym (children_append (suc (index + j)) pod_rows more_rows ∙ ap (λ cs. cs ++ children (suc (index + j)) more_rows) none))
      (subst (λ q. Chain (row_at more_rows (j - count t)) (children q more_rows)) (omega arith) c))

  in_either : (j : ℕ) → (j < count t → ChainAt pod_rows index j) → (count t ≤ j → ChainAt more_rows (index + count t) (j - count t)) → ChainAt (pod_rows ++ more_rows) index j
  in_either j first others = by (cases_lt j (count t))
    where
      by : (j < count t) ⊎ (count t ≤ j) → ChainAt (pod_rows ++ more_rows) index j
      by (inl less) = in_pod j less (first less)
      by (inr past_it) = in_more j past_it (others past_it)

mutual
  chained : (t : Tree) (a : Above) (j : ℕ) → a.parent ≤ a.index → j < count t → ChainAt (rows t a) a.index j
  chained (leaf l size) a zero h lt =
      record { struct = λ e. absurd ((leaf_type_lem l).0 e); object = λ e. absurd ((leaf_type_lem l).1 e) }
  chained (leaf l size) a (suc j) h lt = absurd (omega arith)
  chained (struct f) a zero h lt =
      subst (λ q. Chain (root (struct f) a) (children q (rows (struct f) a))) (omega arith) (struct_chain f a h)
  chained (struct f) a (suc j) h lt =
      skip (root (struct f) a) (rows_of Fields f (a.place + 8) (a.index + 1) (a.index + 1) (locked_of a)) a.index j (λ e. omega arith)
      (chained_of Fields f (a.place + 8) (a.index + 1) (a.index + 1) (locked_of a) j (omega arith) (omega arith))
  chained (object type id f) a zero h lt =
      subst (λ q. Chain (root (object type id f) a) (children q (rows (object type id f) a))) (omega arith) (object_chain type id f a h)
  chained (object type id f) a (suc j) h lt =
      skip (root (object type id f) a) (rows_of Properties f (a.place + 16) (a.index + 1) (a.index + 1) (locked_of a)) a.index j (λ e. omega arith)
      (chained_of Properties f (a.place + 16) (a.index + 1) (a.index + 1) (locked_of a) j (omega arith) (omega arith))

  chained_of : (h : Holds) (f : Forest) (at index parent locked j : ℕ) → parent ≤ index → j < counts f → ChainAt (rows_of h f at index parent locked) index j
  chained_of h none at index parent locked j le lt = absurd (not-suc-le-zero lt)
  chained_of h (more key flags t f) at index parent locked j le lt =
      in_either h key flags t f at index parent locked le j (λ less. chained t (under h key flags at index parent locked) j le less)
      (λ past_it. chained_of h f (at + past h (total t)) (index + count t) parent locked (j - count t) (omega arith) (omega arith))

pub pods_chained : PodsChained
pods_chained bytes t used e i h =
    subst (λ q. Chain (row_at (rows_in t) i) (children (suc q) (rows_in t))) (omega arith) (chained t top i (omega arith) (omega (arith, rows_count t top)))
