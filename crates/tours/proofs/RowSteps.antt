-- The next thing that rows tell. Assumes nothing.
use Rattle.std.proofs.Common.{◌≡◌, ℕ, ◌-◌, ◌<◌, ◌≤◌, Bool, true, false, List, [], ◌∷◌, ◌++◌, length, get_or, take, drop, sym, refl, ap, arith}
use Rattle.std.proofs.lemmas.List.{take_rest, nil_from_length}
use Rattle.std.proofs.lemmas.Bool.{ne_eqb}
use Rattle.pods.specs.declared.holding.Holds.{Holds}
use Rattle.pods.specs.declared.holding.Holds.TheVariants.{Fields, Properties}
use Rattle.pods.specs.declared.rows.Row.{Row}
use Rattle.tours.specs.declared.open.Frame.{Frame}
use Rattle.tours.specs.declared.row_tour.RowTeller.{RowTeller}
use Rattle.tours.specs.Told.{Thing, pod, property, named}
use Rattle.tours.specs.Starts.{elements_left}
use Rattle.tours.specs.Stack.{holding, is_due}
use Rattle.tours.specs.RowsTold.{row_content, row_elements, ends, unended, behind, rows_tell}
use Rattle.tours.specs.RowsLeft.{unnamed, rows_left, Pending, to_tell}

pending_ends : (fs : List Frame) → Pending fs → ends fs ≡ []
pending_ends [] h = refl
pending_ends (f ∷ outer) h = rw (ne_eqb f.remaining 0 h)

pending_all : (fs : List Frame) → Pending fs → unended fs ≡ fs
pending_all [] h = refl
pending_all (f ∷ outer) h = rw (ne_eqb f.remaining 0 h)

told_once : (h : Holds) → is_due true h ≡ false
told_once Fields = refl
told_once Properties = refl

-- before anything was told, all that rows tell is left
due_named : (h : Holds) (r : Row) → unnamed false h r ≡ named h r.key r.flags
due_named Fields r = refl
due_named Properties r = refl

rows_left_lem : (bytes : List ℕ) (fs : List Frame) (rs : List Row) → rows_left bytes false fs rs ≡ rows_tell bytes fs rs
rows_left_lem bytes fs [] = refl
rows_left_lem bytes fs (r ∷ rs) = rw (due_named (holding (unended fs)) r)

pub all_left : (bytes : List ℕ) (ts : List Thing) (fs : List Frame) (rs : List Row) → ts ≡ [] → fs ≡ [] → ts ++ rows_left bytes false fs rs ≡ rows_tell bytes [] rs
all_left bytes ts fs rs z n = rw (z, n) (rows_left_lem bytes [] rs)

-- the first of some rows, and the others
pub first_of : (d : Row) (rs : List Row) → 1 ≤ length rs → rs ≡ get_or rs 0 d ∷ take (length rs - 1) (drop 1 rs)
first_of d [] h = absurd (omega arith)
first_of d (r ∷ rs) h = ap (λ xs. r ∷ xs) (sym (take_rest (r ∷ rs) 1))

-- no value is left, and no container ends
module _ (s : RowTeller) (none : elements_left s.values ≡ []) (pending : Pending s.open) where
  pub next_none : length s.rows.now < 1 → to_tell s ≡ []
  next_none h = let e = nil_from_length s.rows.now (omega arith) in rw (none, e) (pending_ends s.open pending)

  module _ (r : Row) (rs : List Row) (is : s.rows.now ≡ r ∷ rs) (h : Holds) (held : h ≡ holding s.open) where
    first_row : (keyed : Bool) → rows_left s.bytes.now keyed s.open s.rows.now
        ≡ (unnamed keyed h r ++ (pod r.place r.total (row_content s.bytes.now r) ∷ row_elements s.bytes.now r)) ++ rows_tell s.bytes.now (behind r s.open) rs
    first_row keyed = rw (is, pending_ends s.open pending, pending_all s.open pending, held)

    -- its key and flags
    pub next_key : true ≡ is_due s.keyed h
        → to_tell s ≡ property r.key r.flags ∷ to_tell record { bytes = s.bytes; rows = s.rows; «open» = s.open; keyed = true; values = s.values }
    next_key due = rw (none, first_row s.keyed, first_row true, ← due, told_once h)

    -- its pod, and then its values and the rows after it
    pub next_pod : false ≡ is_due s.keyed h
        → to_tell s ≡ pod r.place r.total (row_content s.bytes.now r) ∷ (row_elements s.bytes.now r ++ rows_left s.bytes.now false (behind r s.open) rs)
    next_pod due = rw (none, first_row s.keyed, rows_left_lem s.bytes.now (behind r s.open) rs, ← due)
