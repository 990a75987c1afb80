-- Telling a tree to a table adds the tree's rows. Assumes nothing.
use Rattle.std.proofs.Common.{◌≡◌, ℕ, zero, suc, ◌+◌, ◌-◌, ◌*◌, ◌^◌, ◌<◌, ◌≤◌, min, cond, eqb, ltb, ◌⊎◌, List, [], ◌∷◌, ◌++◌, map, length, get_or, drop, set, sym, refl, ap, ◌∙◌, subst, inl, inr, append_assoc, append-nil, add-zero, zero-add, arith, lit≤, length-append, length-drop, drop-drop}
use native.Mathlib.Nat.{min-eq_left}
use lib.ListN.{get_or-append}
use lib.Seq.{set_at, append_snoc, get_or_at}
use Rattle.std.proofs.lemmas.List.{length_push}
use Rattle.std.proofs.lemmas.Bool.{lt-ltb, le-ltb, ne_eqb, cases_lt, cond-false, ltb-false}
use Rattle.pods.specs.declared.holding.Holds.{Holds}
use Rattle.pods.specs.declared.holding.Holds.TheVariants.{Fields, Properties}
use Rattle.pods.specs.declared.rows.Row.{Row}
use Rattle.pods.specs.Trees.{Tree, Forest, Leaf, fixed, text, raw, array, choice, pointer, leaf, struct, object, none, more, past, total, count, counts}
use Rattle.pods.specs.Rows.{Above, top, locked_of, leaf_row, open_row, rows, rows_of}
use Rattle.pods.specs.Outcomes.{Outcome, gave, refused}
use Rattle.pods.specs.Pods.{pod as pod_read}
use Rattle.pods.specs.Survey.{rows_in, says}
use Rattle.pods.proofs.Counted.{rows_count}
use Rattle.pods.proofs.Sizes.{Given, given_if}
use Rattle.format.specs.Layout.{Named, Laid, AllLaid}
use Rattle.format.proofs.Trees.{PodLaid, pod_laid}
use Rattle.tours.specs.Told.{Content, struct_open, object_open, Thing, pod, element, end, content_of, elements_of, named, tells, tells_all}
use Rattle.tours.specs.Lead.{counted, holds, refuses, Rule, stopped, onward, lead_from, lead}
use Rattle.tours.specs.Table.{Table, no_row, holder, content_row, entered, fills}
use Rattle.tours.specs.Filled.{Short, Unnamed, Plain, PlainAll, closed, RowsFilled, RowsOverfill}

-- ---- leading any rule

-- how many things were told, where n were told before
abbrev tally : ℕ → List Thing → ℕ
tally n [] = n
tally n (t ∷ ts) = tally (counted n) ts

tally_append : (n : ℕ) (ts us : List Thing) → tally n (ts ++ us) ≡ tally (tally n ts) us
tally_append n [] us = refl
tally_append n (t ∷ ts) us = tally_append (counted n) ts us

tally_is : (n : ℕ) (ts : List Thing) → n ≤ 2 ^ 64 - 1 → tally n ts ≡ min (n + length ts) (2 ^ 64 - 1)
tally_is n [] h = omega arith
tally_is n (t ∷ ts) h = tally_is (counted n) ts (omega arith) ∙ omega arith

module _ {H : Type 0} (rule : Rule H) where
  -- over these things the rule goes from one to the other
  record Leads (s : H) (ts : List Thing) (s' : H) : Type 0 where
    on : (n : ℕ) (rest : List Thing) → lead_from rule n s (ts ++ rest) ≡ lead_from rule (tally n ts) s' rest

  -- in these things the rule refuses with k
  record Stops (s : H) (ts : List Thing) (k : ℕ) : Type 0 where
    on : (n : ℕ) (rest : List Thing) → (held : H) × (lead_from rule n s (ts ++ rest) ≡ stopped held k)

module _ {H : Type 0} {rule : Rule H} where
  leads_none : {s : H} → Leads rule s [] s
  leads_none {s} = record { on = λ n rest. refl }

  leads_one : {s : H} {t : Thing} {s' : H} → rule s t ≡ holds s' → Leads rule s (t ∷ []) s'
  leads_one {s} e = record { on = λ n rest. ap (λ a. onward s a (λ h. lead_from rule (counted n) h rest)) e }

  leads_then : {s : H} {ts : List Thing} {s' : H} {us : List Thing} {s'' : H} → Leads rule s ts s' → Leads rule s' us s'' → Leads rule s (ts ++ us) s''
  leads_then {s} {ts} {s'} {us} {s''} l m =
      record {
        on = λ n rest. ap (lead_from rule n s) (append_assoc ts us rest) ∙ l.on n (us ++ rest) ∙ m.on (tally n ts) rest
            ∙ ap (λ k. lead_from rule k s'' rest) (sym (tally_append n ts us));
      }

  leads_to : {s : H} {ts : List Thing} {s' s'' : H} → Leads rule s ts s' → s' ≡ s'' → Leads rule s ts s''
  leads_to {s} {ts} l e = subst (λ x. Leads rule s ts x) e l

  stops_one : {s : H} {t : Thing} {k : ℕ} → rule s t ≡ refuses k → Stops rule s (t ∷ []) k
  stops_one {s} e = record { on = λ n rest. (s, ap (λ a. onward s a (λ h. lead_from rule (counted n) h rest)) e) }

  stops_in : {s : H} {ts : List Thing} {k : ℕ} (us : List Thing) → Stops rule s ts k → Stops rule s (ts ++ us) k
  stops_in {s} {ts} us stop =
      record { on = λ n rest. let m = stop.on n (us ++ rest) in (m.0, ap (lead_from rule n s) (append_assoc ts us rest) ∙ m.1) }

  stops_then : {s : H} {ts : List Thing} {s' : H} {us : List Thing} {k : ℕ} → Leads rule s ts s' → Stops rule s' us k → Stops rule s (ts ++ us) k
  stops_then {s} {ts} {s'} {us} l stop =
      record {
        on = λ n rest. let m = stop.on (tally n ts) rest in
            (m.0, ap (lead_from rule n s) (append_assoc ts us rest) ∙ l.on n (us ++ rest) ∙ m.1);
      }

-- ---- a table's rows

-- a table whose next pod is told where `a` says
abbrev before : List Row → Above → Table
before rs a = record { rows = rs; len = a.index; within = a.parent; key = a.key; flags = a.flags }

-- `new`, n rows, are added to those that are done
abbrev added : (done new free : List Row) (n index parent : ℕ) → Table
added done new free n index parent = record { rows = (done ++ new) ++ drop n free; len = index + n; within = parent; key = 0; flags = 0 }

-- the row of an open container, by its number and one more
abbrev row_open : List Row → ℕ → Row
row_open rs within = cond (eqb within 0) no_row (get_or rs (within - 1) no_row)

open_kept : (done new : List Row) (within : ℕ) → within ≤ length done → row_open (done ++ new) within ≡ row_open done within
open_kept done new zero h = refl
open_kept done new (suc w) h =
    rw (ne_eqb (suc w) 0 (λ z. omega arith)) (get_or-append done new no_row (suc w - 1) (omega arith))

open_last : (done : List Row) (r : Row) (index : ℕ) → length done ≡ index → row_open (done ++ r ∷ []) (index + 1) ≡ r
open_last done r index e = rw (ne_eqb (index + 1) 0 (λ z. omega arith)) (get_or_at done r [] no_row (index + 1 - 1) (omega arith))

-- the rows that are done are those before `index`, and the innermost open container is one of them
record Stands (done : List Row) (index parent held : ℕ) : Type 0 where
  counted : length done ≡ index
  within : parent ≤ index
  locks : (row_open done parent).locked ≡ held

stands_more : (done new : List Row) (index parent held n : ℕ) → Stands done index parent held → length new ≡ n → Stands (done ++ new) (index + n) parent held
stands_more done new index parent held n s e =
    record {
      counted = omega (arith, length-append done new, s.counted);
      within = omega (arith, s.within);
      locks = ap (λ r. r.locked) (open_kept done new parent (omega (arith, s.counted, s.within))) ∙ s.locks;
    }

stands_open : (done : List Row) (r : Row) (index parent held : ℕ) → Stands done index parent held → Stands (done ++ r ∷ []) (index + 1) (index + 1) r.locked
stands_open done r index parent held s =
    record {
      counted = omega (arith, length_push done r, s.counted);
      within = omega arith;
      locks = ap (λ x. x.locked) (open_last done r index s.counted);
    }

-- how many rows fit behind those before `index`
abbrev left : List Row → ℕ → ℕ
left free index = min (length free) (4294967295 - index)

left_more : (free : List Row) (index n m : ℕ) → n + m ≤ left free index → m ≤ left (drop n free) (index + n)
left_more free index n m h = omega (arith, length-drop n free)

left_less : (free : List Row) (index n m : ℕ) → n ≤ left free index → left free index < n + m → left (drop n free) (index + n) < m
left_less free index n m h k = omega (arith, length-drop n free)

-- what is added in two steps is added in one
added_twice : (done new next free : List Row) (n m k index parent : ℕ) → n + m ≡ k → added (done ++ new) next (drop n free) m (index + n) parent ≡ added done (new ++ next) free k index parent
added_twice done new next free n m k index parent e =
    ap (λ rs. record { rows = rs; len = index + n + m; within = parent; key = 0; flags = 0 }) by_rows
    ∙ ap (λ len. record { rows = (done ++ (new ++ next)) ++ drop k free; len = len; within = parent; key = 0; flags = 0 }) by_len
  where
    by_rows : ((done ++ new) ++ next) ++ drop m (drop n free) ≡ (done ++ (new ++ next)) ++ drop k free
    by_rows = rw (append_assoc done new next, drop-drop m n free, e)

    by_len : index + n + m ≡ index + k
    by_len = omega arith

-- ---- told things, one by one

leads_elements : (k : ℕ) (ws : List ℕ) (s : Table) → Leads fills s (map (element k) ws) s
leads_elements k [] s = leads_none
leads_elements k (w ∷ ws) s = leads_then (leads_one {t = element k w} refl) (leads_elements k ws s)

leaf_elements : (l : Leaf) (s : Table) → Leads fills s (elements_of l) s
leaf_elements (fixed k w) s = leads_none
leaf_elements (text bytes) s = leads_none
leaf_elements (raw bytes) s = leads_none
leaf_elements (array k ws) s = leads_elements _ ws s
leaf_elements (choice c flags k ws) s = leads_elements _ ws s
leaf_elements (pointer t w) s = leads_none

leaf_entered : (l : Leaf) (row outer : ℕ) → entered row outer (content_of l) ≡ outer
leaf_entered (fixed k w) row outer = refl
leaf_entered (text bytes) row outer = refl
leaf_entered (raw bytes) row outer = refl
leaf_entered (array k ws) row outer = refl
leaf_entered (choice c flags k ws) row outer = refl
leaf_entered (pointer t w) row outer = refl

-- a property is kept, and a field has none
leads_named : (h : Holds) (rs : List Row) (a : Above) → Unnamed h a.key a.flags
    → Leads fills (record { rows = rs; len = a.index; within = a.parent; key = 0; flags = 0 }) (named h a.key a.flags) (before rs a)
leads_named Fields rs a u = rw (u.0, u.1) leads_none
leads_named Properties rs a u = leads_one refl

-- a row written behind those that are done
set_free : (done free : List Row) (r : Row) (index : ℕ) → length done ≡ index → 0 < length free → set (done ++ free) index r ≡ (done ++ r ∷ []) ++ drop 1 free
set_free done [] r index e h = absurd (omega arith)
set_free done (x ∷ free) r index e h = set_at done x free r index e ∙ sym (append_snoc done r free)

module _ (done free : List Row) (a : Above) (s : Stands done a.index a.parent a.held) where
  -- a pod makes the row r, and the innermost open container is then `parent`
  leads_pod : (total : ℕ) (c : Content) (r : Row) (parent : ℕ) → 1 ≤ left free a.index
      → content_row (before (done ++ free) a) a.place total c ≡ r → entered a.index a.parent c ≡ parent
      → Leads fills (before (done ++ free) a) (pod a.place total c ∷ []) (added done (r ∷ []) free 1 a.index parent)
  leads_pod total c r parent fits e e' =
      leads_one (rw (lt-ltb a.index (min (length (done ++ free)) 4294967295) (omega (arith, length-append done free, s.counted)), e, e', set_free done free r a.index s.counted (omega arith)))

  stops_pod : (total : ℕ) (c : Content) → left free a.index < 1 → Stops fills (before (done ++ free) a) (pod a.place total c ∷ []) 1
  stops_pod total c full =
      stops_one (rw (le-ltb a.index (min (length (done ++ free)) 4294967295) (omega (arith, length-append done free, s.counted))))

  held_is : (holder (before (done ++ free) a)).locked ≡ a.held
  held_is = ap (λ r. r.locked) (open_kept done free a.parent (omega (arith, s.counted, s.within))) ∙ s.locks

  leaf_row_lem : (l : Leaf) (total : ℕ) → Short l → content_row (before (done ++ free) a) a.place total (content_of l) ≡ leaf_row a l total
  leaf_row_lem (fixed k w) total s = rw held_is
  leaf_row_lem (text bytes) total s = rw (held_is, min-eq_left s)
  leaf_row_lem (raw bytes) total s = rw (held_is, min-eq_left s)
  leaf_row_lem (array k ws) total s = rw held_is
  leaf_row_lem (choice c flags k ws) total s = rw held_is
  leaf_row_lem (pointer t w) total s = rw held_is

  -- an end goes back to the parent of the row of what is open
  leads_end : (r : Row) (new : List Row) (n : ℕ)
      → Leads fills (added (done ++ r ∷ []) new (drop 1 free) n (a.index + 1) (a.index + 1)) (end ∷ []) (added (done ++ r ∷ []) new (drop 1 free) n (a.index + 1) r.parent)
  leads_end r new n =
      leads_one (cond-false (eqb (a.index + 1) 0) _ _ (ne_eqb (a.index + 1) 0 (λ z. omega arith))
      ∙ ap (λ x. holds (added (done ++ r ∷ []) new (drop 1 free) n (a.index + 1) x.parent)) back)
    where
      back : row_open (((done ++ r ∷ []) ++ new) ++ drop n (drop 1 free)) (a.index + 1) ≡ r
      back =
          open_kept ((done ++ r ∷ []) ++ new) (drop n (drop 1 free)) (a.index + 1) (omega (arith, length-append (done ++ r ∷ []) new, length_push done r, s.counted))
          ∙ open_kept (done ++ r ∷ []) new (a.index + 1) (omega (arith, length_push done r, s.counted)) ∙ open_last done r a.index s.counted

  -- what a container holds stands between its pod and its end
  leads_open : (total : ℕ) (c : Content) (r : Row) (ts : List Thing) (new : List Row) (n : ℕ) → 1 ≤ left free a.index
      → content_row (before (done ++ free) a) a.place total c ≡ r → entered a.index a.parent c ≡ a.index + 1 → r.parent ≡ a.parent
      → Leads fills (added done (r ∷ []) free 1 a.index (a.index + 1)) ts (added (done ++ r ∷ []) new (drop 1 free) n (a.index + 1) (a.index + 1))
      → Leads fills (before (done ++ free) a) (pod a.place total c ∷ (ts ++ end ∷ [])) (added done (r ∷ new) free (n + 1) a.index a.parent)
  leads_open total c r ts new n fits e e' up inner =
      leads_to (leads_then (leads_pod total c r (a.index + 1) fits e e') (leads_then inner (leads_end r new n)))
      (ap (added (done ++ r ∷ []) new (drop 1 free) n (a.index + 1)) up ∙ added_twice done (r ∷ []) new free 1 n (n + 1) a.index a.parent (omega arith))

-- ---- trees

-- what stands above a pod of a container
abbrev under : Holds → (key flags at index parent locked : ℕ) → Above
under h key flags at index parent locked = record { place = past h at; index = index; parent = parent; key = key; flags = flags; held = locked }

mutual
  fills_tree : (t : Tree) (a : Above) (done free : List Row) → Plain t → Stands done a.index a.parent a.held → count t ≤ left free a.index
      → Leads fills (before (done ++ free) a) (tells t a.place) (added done (rows t a) free (count t) a.index a.parent)
  fills_tree (leaf l size) a done free p s fits =
      leads_then (leads_pod done free a s (size + 8) (content_of l) _ a.parent fits (leaf_row_lem done free a s l (size + 8) p) (leaf_entered l a.index a.parent)) (leaf_elements l _)
  fills_tree (struct f) a done free p s fits =
      let r : Row = open_row a (total (struct f)) 14 0 in
      leads_open done free a s (total (struct f)) struct_open r _ _ (counts f) (omega arith) (rw (held_is done free a s)) refl refl
      (fills_all Fields f (a.place + 8) (a.index + 1) (a.index + 1) (locked_of a) (done ++ r ∷ []) (drop 1 free) p (stands_open done r a.index a.parent a.held s)
      (left_more free a.index 1 (counts f) (omega arith)))
  fills_tree (object type id f) a done free p s fits =
      let r : Row = open_row a (total (object type id f)) 15 (type + id * 2 ^ 32) in
      leads_open done free a s (total (object type id f)) (object_open type id) r _ _ (counts f) (omega arith) (rw (held_is done free a s)) refl refl
      (fills_all Properties f (a.place + 16) (a.index + 1) (a.index + 1) (locked_of a) (done ++ r ∷ []) (drop 1 free) p (stands_open done r a.index a.parent a.held s)
      (left_more free a.index 1 (counts f) (omega arith)))

  fills_all : (h : Holds) (f : Forest) (at index parent locked : ℕ) (done free : List Row) → PlainAll h f → Stands done index parent locked → counts f ≤ left free index
      → Leads fills (record { rows = done ++ free; len = index; within = parent; key = 0; flags = 0 }) (tells_all h f at) (added done (rows_of h f at index parent locked) free (counts f) index parent)
  fills_all h none at index parent locked done free p s fits =
      leads_to leads_none (rw (append-nil done, add-zero index))
  fills_all h (more key flags t f) at index parent locked done free p s fits =
      let a : Above = under h key flags at index parent locked in
      leads_then (leads_named h (done ++ free) a p.0)
      (leads_to (leads_then (fills_tree t a done free p.1 s (omega arith))
      (fills_all h f (at + past h (total t)) (index + count t) parent locked (done ++ rows t a) (drop (count t) free) p.2 (stands_more done (rows t a) index parent locked (count t) s (rows_count t a))
      (left_more free index (count t) (counts f) fits)))
      (added_twice done (rows t a) _ free (count t) (counts f) (count t + counts f) index parent refl))

-- ---- too little room

module _ (done free : List Row) (a : Above) (s : Stands done a.index a.parent a.held) where
  -- there is no room for a container's own row, or for what it holds
  stops_open : (total : ℕ) (c : Content) (r : Row) (ts : List Thing)
      → content_row (before (done ++ free) a) a.place total c ≡ r → entered a.index a.parent c ≡ a.index + 1
      → (1 ≤ left free a.index → Stops fills (added done (r ∷ []) free 1 a.index (a.index + 1)) ts 1)
      → Stops fills (before (done ++ free) a) (pod a.place total c ∷ (ts ++ end ∷ [])) 1
  stops_open total c r ts e e' inner = by (cases_lt (left free a.index) 1)
    where
      by : (left free a.index < 1) ⊎ (1 ≤ left free a.index) → Stops fills (before (done ++ free) a) (pod a.place total c ∷ (ts ++ end ∷ [])) 1
      by (inl none_left) = stops_in (ts ++ end ∷ []) (stops_pod done free a s total c none_left)
      by (inr one) = stops_then (leads_pod done free a s total c r (a.index + 1) one e e') (stops_in (end ∷ []) (inner one))

mutual
  stops_tree : (t : Tree) (a : Above) (done free : List Row) → Plain t → Stands done a.index a.parent a.held → left free a.index < count t
      → Stops fills (before (done ++ free) a) (tells t a.place) 1
  stops_tree (leaf l size) a done free p s full = stops_in (elements_of l) (stops_pod done free a s (size + 8) (content_of l) full)
  stops_tree (struct f) a done free p s full =
      let r : Row = open_row a (total (struct f)) 14 0 in
      stops_open done free a s (total (struct f)) struct_open r _ (rw (held_is done free a s)) refl
      (λ one. stops_all Fields f (a.place + 8) (a.index + 1) (a.index + 1) (locked_of a) (done ++ r ∷ []) (drop 1 free) p (stands_open done r a.index a.parent a.held s)
      (left_less free a.index 1 (counts f) one (omega arith)))
  stops_tree (object type id f) a done free p s full =
      let r : Row = open_row a (total (object type id f)) 15 (type + id * 2 ^ 32) in
      stops_open done free a s (total (object type id f)) (object_open type id) r _ (rw (held_is done free a s)) refl
      (λ one. stops_all Properties f (a.place + 16) (a.index + 1) (a.index + 1) (locked_of a) (done ++ r ∷ []) (drop 1 free) p (stands_open done r a.index a.parent a.held s)
      (left_less free a.index 1 (counts f) one (omega arith)))

  stops_all : (h : Holds) (f : Forest) (at index parent locked : ℕ) (done free : List Row) → PlainAll h f → Stands done index parent locked → left free index < counts f
      → Stops fills (record { rows = done ++ free; len = index; within = parent; key = 0; flags = 0 }) (tells_all h f at) 1
  stops_all h none at index parent locked done free p s full = absurd (omega arith)
  stops_all h (more key flags t f) at index parent locked done free p s full =
      stops_then (leads_named h (done ++ free) a p.0) (by (cases_lt (left free index) (count t)) (stops_tree t a done free p.1 s)
      (λ fits. stops_all h f (at + past h (total t)) (index + count t) parent locked (done ++ rows t a) (drop (count t) free) p.2 (stands_more done (rows t a) index parent locked (count t) s (rows_count t a))
      (left_less free index (count t) (counts f) fits full)))
    where
      a : Above
      a = under h key flags at index parent locked

      by : (left free index < count t) ⊎ (count t ≤ left free index) → (left free index < count t → Stops fills (before (done ++ free) a) (tells t (past h at)) 1)
          → (count t ≤ left free index → Stops fills (added done (rows t a) free (count t) index parent) (tells_all h f (at + past h (total t))) 1)
          → Stops fills (before (done ++ free) a) (tells t (past h at) ++ tells_all h f (at + past h (total t))) 1
      by (inl less) first others = stops_in (tells_all h f (at + past h (total t))) (first less)
      by (inr fits) first others = stops_then (fills_tree t a done free p.1 s fits) (others fits)

-- ---- a table from its start on

at_top : Stands [] 0 0 0
at_top = record { counted = refl; within = omega arith; locks = refl }

pub rows_filled : RowsFilled
rows_filled t p table fits =
    ap (lead fills (closed table 0)) (sym (append-nil (tells t 0))) ∙ l.on 0 []
    ∙ rw (tally_is 0 (tells t 0) (lit≤ tt), zero-add (length (tells t 0)), rows_count t top, zero-add (count t))
  where
    l : Leads fills (closed table 0) (tells t 0) (added [] (rows_in t) table (count t) 0 0)
    l = fills_tree t top [] table p at_top (omega (arith, rows_count t top))

pub rows_overfill : RowsOverfill
rows_overfill t p table full =
    let m = (stops_tree t top [] table p at_top (omega (arith, rows_count t top))).on 0 [] in
    (m.0, ap (lead fills (closed table 0)) (sym (append-nil (tells t 0))) ∙ m.1)

-- ---- what is read from bytes is plain

laid_unnamed : (bytes : List ℕ) (h : Holds) (at key flags : ℕ) → Named bytes h at key flags → Unnamed h key flags
laid_unnamed bytes Fields at key flags n = n
laid_unnamed bytes Properties at key flags n = tt

laid_short : (bytes : List ℕ) (l : Leaf) (size p : ℕ) → length bytes ≤ 65536 → Laid bytes (leaf l size) p → Short l
laid_short bytes (fixed k w) size p few d = tt
laid_short bytes (text part) size p few d = omega (arith, d.0.there, d.1.len_is, d.1.size_is)
laid_short bytes (raw part) size p few d = omega (arith, d.0.there, d.1.len_is, d.1.size_is)
laid_short bytes (array k ws) size p few d = tt
laid_short bytes (choice c flags k ws) size p few d = tt
laid_short bytes (pointer t w) size p few d = tt

mutual
  laid_plain : (bytes : List ℕ) (t : Tree) (p : ℕ) → length bytes ≤ 65536 → Laid bytes t p → Plain t
  laid_plain bytes (leaf l size) p few d = laid_short bytes l size p few d
  laid_plain bytes (struct f) p few d = laid_plain_all bytes Fields f (p + 8) few d.2
  laid_plain bytes (object type id f) p few d = laid_plain_all bytes Properties f (p + 16) few d.4

  laid_plain_all : (bytes : List ℕ) (h : Holds) (f : Forest) (at : ℕ) → length bytes ≤ 65536 → AllLaid bytes h f at → PlainAll h f
  laid_plain_all bytes h none at few d = tt
  laid_plain_all bytes h (more key flags t f) at few d =
      (laid_unnamed bytes h at key flags d.0, laid_plain bytes t (past h at) few d.1, laid_plain_all bytes h f (at + past h (total t)) few d.2)

pub said_plain : (bytes : List ℕ) → Given (λ t _. Plain t) (says bytes)
said_plain bytes = given_if (λ t _. Plain t) (ltb 65536 (length bytes)) _ _ _ (λ z. by (ltb-false 65536 (length bytes) z) (pod_read 32 1 0 bytes) (pod_laid bytes 32 1 0))
  where
    by : length bytes ≤ 65536 → (o : Outcome Tree) → Given (PodLaid bytes 32 0) o → Given (λ t _. Plain t) o
    by few (gave t used) d = laid_plain bytes t 0 few d.0
    by few (refused e) d = tt
