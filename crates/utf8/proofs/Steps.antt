-- A sequence, byte by byte. Assumes nothing.
use Rattle.std.proofs.Common.{◌≡◌, ℕ, suc, ◌+◌, ◌-◌, ◌<◌, ◌≤◌, Bool, true, false, ◌&&◌, List, [], ◌∷◌, ◌++◌, length, replicate, Some, None, Option, sym, refl, ap, ◌∙◌, append-nil, arith, MatchOption}
use Rattle.std.specs.Borrow.{Bor}
use Rattle.std.specs.Bool.{then_some}
use Rattle.std.proofs.lemmas.List.{nil_from_length}
use Rattle.std.proofs.lemmas.Bool.{lt-ltb}
use Rattle.std.proofs.lemmas.Bool.Decides.{nat_tests}
use Rattle.utf8.specs.Reading.{Lacks, Takes, class_of, classed, counted, followers_of, spans, due_after}
use Rattle.utf8.specs.Table37.{Span, span, tail, within, table, find, begun, formed, well_formed}

-- the byte that is due at the front of a text
pub missing : (text : List ℕ) (s : Span) → length text ≡ 0 → Lacks (s ∷ []) text
unfolding formed
missing text s h others = ap (λ bs. formed bs (s ∷ others)) (nil_from_length text h)

pub takes_one : (text : List ℕ) (s : Span) (b : ℕ) (rest : Bor (List ℕ)) (has : Bool) (left : Option (Bor (List ℕ))) → text ≡ b ∷ rest.now → has ≡ within s b → left ≡ then_some has rest → Takes (s ∷ []) text left
unfolding formed
takes_one text s b rest has left whole same is = rw (is, whole, same) (by (within s b) refl)
  where
    by : (y : Bool) → within s b ≡ y → Takes (s ∷ []) (b ∷ rest.now) (then_some y rest)
    by true e = (omega arith, λ others. ap (λ y. y && formed rest.now others) e)
    by false e = λ others. ap (λ y. y && formed rest.now others) e

-- the tails that are due once i of them were read
module _ (text : List ℕ) (count i : ℕ) (others : List Span) where
  pub next_due : i < count → formed text (replicate (count - i) tail ++ others) ≡ formed text (tail ∷ (replicate (count - (i + 1)) tail ++ others))
  next_due h = let e : count - i ≡ suc (count - (i + 1)) = omega arith in ap (λ (n : ℕ). formed text (replicate n tail ++ others)) e

-- where a line was found, its class says how many bytes follow
class_counted : (line : Option (List Span)) (n : ℕ) → counted line ≡ Some n → n ≡ classed line
class_counted None n e = cc
class_counted (Some further) n e = cc

-- a lead byte, by how many bytes follow
module _ (b : ℕ) (bs : List ℕ) where
  pub leads_alone : followers_of b ≡ Some 0 → well_formed (b ∷ bs) ≡ well_formed bs
  unfolding formed
  leads_alone z = let e : find table b ≡ Some [] = grind (arith, nat_tests) in ap (λ o. begun o (λ further. formed bs further)) e

  pub leads_more : (n l h : ℕ) → followers_of b ≡ Some n → find table b ≡ due_after (class_of b) l h → 1 ≤ n → well_formed (b ∷ bs) ≡ formed bs (span l h ∷ (replicate (n - 1) tail ++ []))
  unfolding formed
  leads_more n l h z e k =
      let class : n ≡ class_of b = class_counted (find table b) n z in
      let few : n < 4 = grind (arith, nat_tests) in
      let one_more : n ≡ suc (n - 1) = omega arith in
      rw (e, ← class, lt-ltb n 4 few) (ap (λ m. formed bs (spans m l h)) one_more) ∙ ap (λ due. formed bs (span l h ∷ due)) (sym (append-nil (replicate (n - 1) tail)))

  pub leads_not : followers_of b ≡ None → well_formed (b ∷ bs) ≡ false
  unfolding formed
  leads_not z = let e : find table b ≡ None = grind (arith, nat_tests) in ap (λ o. begun o (λ further. formed bs further)) e

pub weaker : {A : Type 0} (o : Option A) {P P' : Type 0} {Q Q' : A → Type 0} → MatchOption o P Q → (P → P') → ((x : A) → Q x → Q' x) → MatchOption o P' Q'
weaker None c f g = f c
weaker (Some x) c f g = g x c
