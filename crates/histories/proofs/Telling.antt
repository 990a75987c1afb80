-- A cue tells no more things than it has bytes. Assumes nothing.
use Rattle.std.proofs.Common.{◌≡◌, ℕ, ◌+◌, ◌-◌, ◌*◌, ◌^◌, ◌≤◌, List, [], ◌∷◌, ◌++◌, length, refl, inl, inr, mul-le-mul_left, mul-one, arith, length-append}
use Rattle.std.proofs.lemmas.List.{length-map}
use Rattle.kinds.specs.Kinds.{size_of, type_of}
use Rattle.pods.specs.declared.choices.ChoiceType.{ChoiceType}
use Rattle.pods.specs.declared.choices.ChoiceType.TheVariants.{None, Range, Step, Enum, Flags}
use Rattle.pods.specs.declared.holding.Holds.{Holds}
use Rattle.pods.specs.declared.holding.Holds.TheVariants.{Fields, Properties}
use Rattle.pods.specs.Choices.{needed, used_of}
use Rattle.pods.specs.Outcomes.{Outcome, gave, refused}
use Rattle.pods.specs.Survey.{says}
use Rattle.pods.specs.Trees.{Tree, Forest, Leaf, fixed, text, raw, array, choice, pointer, leaf, struct, object, none, more, past, total, totals}
use Rattle.format.specs.Layout.{Laid, AllLaid, ArrayCounted, BodyLaid}
use Rattle.tours.specs.Told.{element, end, elements_of, named, tells, tells_all}
use Rattle.laying.proofs.Accepted.{accepted}
use Rattle.histories.specs.Cues.{things_said, told_of}

at_most : (n s : ℕ) → (s ≡ 0 → ⊥) → n ≤ n * s
at_most n s some = let m = mul-le-mul_left n (let one : 1 ≤ s = omega arith in one) in omega (arith, mul-one n, m)

used_few : (c : ChoiceType) (n : ℕ) → needed c ≤ n → used_of c n ≤ n
used_few None n h = h
used_few Range n h = h
used_few Step n h = h
used_few Enum n h = omega arith
used_few Flags n h = omega arith

array_few : (n s len : ℕ) → ArrayCounted s len n → n ≤ n * s
array_few n s len (inl no-values) = omega (arith, no-values.1)
array_few n s len (inr some) = at_most n s some.0

-- values take bytes
elements_few : (bytes : List ℕ) (b len size : ℕ) (l : Leaf) → BodyLaid bytes b len l size → length (elements_of l) ≤ size
elements_few bytes b len size (fixed k w) h = omega arith
elements_few bytes b len size (text part) h = omega arith
elements_few bytes b len size (raw part) h = omega arith
elements_few bytes b len size (array k ws) h =
    omega (arith, length-map ws (element (type_of k)), array_few (length ws) (size_of k) len h.counted, h.size_is)
elements_few bytes b len size (choice c flags k ws) h =
    omega (arith, length-map ws (element (type_of k)), h.used, used_few c h.n h.enough, at_most h.n (size_of k) h.kind_some, h.size_is)
elements_few bytes b len size (pointer type w) h = omega arith

-- key and flags take eight bytes
named_few : (h : Holds) (key flags n m : ℕ) → n ≤ m → length (named h key flags) + n ≤ past h m
named_few Fields key flags n m l = omega arith
named_few Properties key flags n m l = omega arith

mutual
  tells_few : (bytes : List ℕ) (t : Tree) (p : ℕ) → Laid bytes t p → length (tells t p) ≤ total t
  tells_few bytes (leaf l size) p h = let few = elements_few bytes _ _ size l h.1 in omega arith
  tells_few bytes (struct f) p h =
      let few = all_few bytes Fields f (p + 8) h.2 in omega (arith, length-append (tells_all Fields f (p + 8)) (end ∷ []))
  tells_few bytes (object type id f) p h =
      let few = all_few bytes Properties f (p + 16) h.4 in omega (arith, length-append (tells_all Properties f (p + 16)) (end ∷ []))

  all_few : (bytes : List ℕ) (h : Holds) (f : Forest) (at : ℕ) → AllLaid bytes h f at → length (tells_all h f at) ≤ totals h f
  all_few bytes h none at l = omega arith
  all_few bytes h (more key flags t f) at l =
      let one = tells_few bytes t (past h at) l.1 in
      let rest = all_few bytes h f (at + past h (total t)) l.2 in
      let front = named_few h key flags (length (tells t (past h at))) (total t) one in
      omega (arith, length-append (named h key flags) (tells t (past h at) ++ tells_all h f (at + past h (total t))), length-append (tells t (past h at)) (tells_all h f (at + past h (total t))))

pub few_told : (bytes : List ℕ) → length (told_of bytes) ≤ 2 ^ 64 - 1
unfolding told_of
few_told bytes = by (says bytes) refl
  where
    by : (o : Outcome Tree) → says bytes ≡ o → length (things_said o) ≤ 2 ^ 64 - 1
    by (gave t used) e = let a = accepted bytes t used e in omega (arith, tells_few bytes t 0 a.laid, a.whole, a.within, a.short)
    by (refused x) e = omega arith
