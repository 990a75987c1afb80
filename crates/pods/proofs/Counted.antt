-- There are as many rows as pods. Assumes nothing.
use Rattle.std.proofs.Common.{◌≡◌, ℕ, ◌+◌, length, refl, ap, arith, length-append}
use Rattle.pods.specs.declared.holding.Holds.{Holds}
use Rattle.pods.specs.declared.holding.Holds.TheVariants.{Fields, Properties}
use Rattle.pods.specs.Trees.{Tree, Forest, leaf, struct, object, none, more, past, total, count, counts}
use Rattle.pods.specs.Rows.{Above, locked_of, rows, rows_of}
use Rattle.pods.specs.Outcomes.{Outcome, gave, refused, mapped}
use Rattle.pods.specs.Survey.{rows_in}

mutual
  pub rows_count : (t : Tree) (a : Above) → length (rows t a) ≡ count t
  rows_count (leaf l size) a = refl
  rows_count (struct f) a = let e = rows_of_count Fields f (a.place + 8) (a.index + 1) (a.index + 1) (locked_of a) in omega arith
  rows_count (object type id f) a = let e = rows_of_count Properties f (a.place + 16) (a.index + 1) (a.index + 1) (locked_of a) in omega arith

  pub rows_of_count : (h : Holds) (f : Forest) (at index parent locked : ℕ) → length (rows_of h f at index parent locked) ≡ counts f
  rows_of_count h none at index parent locked = refl
  rows_of_count h (more key flags t f) at index parent locked =
      let a : Above = record { place = past h at; index = index; parent = parent; key = key; flags = flags; held = locked } in
      let e = rows_count t a in
      let e' = rows_of_count h f (at + past h (total t)) (index + count t) parent locked in
      omega (arith, length-append (rows t a) (rows_of h f (at + past h (total t)) (index + count t) parent locked))

pub counted : (o : Outcome Tree) → mapped (λ t. length (rows_in t)) o ≡ mapped count o
counted (gave t used) = ap (λ n. gave n used) (rows_count t _)
counted (refused e) = refl
