-- Going through what a container holds, one by one. Assumes nothing.
use Rattle.std.proofs.Common.{◌≡◌, ℕ, zero, suc, ◌+◌, ◌-◌, ◌*◌, ◌<◌, ◌≤◌, Bool, true, false, ltb, List, length, take, drop, sym, refl, ap, ◌∙◌, not-suc-le-zero, add-zero, add_assoc, arith, length-drop}
use native.Mathlib.Nat.{sub-add-eq}
use Rattle.std.proofs.lemmas.List.{drop-drop, take_rest}
use Rattle.std.proofs.lemmas.Bool.{le-ltb, lt-ltb}
use Rattle.refusals.specs.declared.Refusal.{Refusal}
use Rattle.refusals.specs.declared.Spot.{Spot}
use Rattle.refusals.specs.declared.Why.TheVariants.{Missing, PastContainer}
use Rattle.words.specs.Words.{little}
use Rattle.pods.specs.declared.holding.Holds.{Holds}
use Rattle.pods.specs.declared.holding.Holds.TheVariants.{Fields, Properties}
use Rattle.pods.specs.Trees.{Tree, Forest, count, counts}
use Rattle.pods.specs.Outcomes.{Outcome, gave, refused, refuse, refuse_if, mapped, after}
use Rattle.pods.specs.Pods.{Reader, Item, item, ahead, item_read, joined, fitted, items, pod}
use Rattle.pods.proofs.Sizes.{Given, AllSized, ItemSized, item_sized, pod_sized}

-- the rows of an item
abbrev pub item_count : Item → ℕ
item_count i = count i.pod

-- what the rest answers, with the rows and bytes before it
abbrev pub plus : (rows used : ℕ) → Outcome ℕ → Outcome ℕ
plus r u (gave rows used) = gave (r + rows) (u + used)
plus r u (refused e) = refused e

-- the answer of an item and what follows it
abbrev next : Spot → (left : ℕ) → Outcome ℕ → (ℕ → Outcome ℕ) → Outcome ℕ
next spot left (gave r u) others = refuse_if (ltb left u) PastContainer spot (plus r u (others u))
next spot left (refused e) others = refused e

plus_plus : (r u r' u' : ℕ) (o : Outcome ℕ) → plus r u (plus r' u' o) ≡ plus (r + r') (u + u') o
plus_plus r u r' u' (gave x y) = simp add_assoc
plus_plus r u r' u' (refused e) = refl

joined_plus : (i : Item) (u : ℕ) (o : Outcome Forest) → mapped counts (joined i u o) ≡ plus (item_count i) u (mapped counts o)
joined_plus i u (gave f used) = refl
joined_plus i u (refused e) = refl

fitted_next : (spot : Spot) (left : ℕ) (o : Outcome Item) (others : ℕ → Outcome Forest) → mapped counts (fitted spot left o others) ≡ next spot left (mapped item_count o) (λ u. mapped counts (others u))
fitted_next spot left (gave i used) others = go (ltb left used)
  where
    go : (b : Bool) → mapped counts (refuse_if b PastContainer spot (joined i used (others used))) ≡ refuse_if b PastContainer spot (plus (item_count i) used (mapped counts (others used)))
    go true = refl
    go false = joined_plus i used (others used)
fitted_next spot left (refused e) others = refl

fitted_same : (h : Holds) (spot : Spot) (left n : ℕ) (o : Outcome Item) (f g : ℕ → Outcome Forest) → Given (ItemSized h n) o → ((u : ℕ) → 8 ≤ u → f u ≡ g u) → fitted spot left o f ≡ fitted spot left o g
fitted_same h spot left n (gave i used) f g s k = ap (λ o. refuse_if (ltb left used) PastContainer spot (joined i used o)) (k used s.2)
fitted_same h spot left n (refused e) f g s k = refl

item_given : (h : Holds) (n : ℕ) (o : Outcome Item) (r u : ℕ) → Given (ItemSized h n) o → mapped item_count o ≡ gave r u → (u ≤ n) × (8 * r ≤ u) × (8 ≤ u)
item_given h n (gave i used) r u s e =
    let er : item_count i ≡ r = cc in
    let eu : used ≡ u = cc in
    (omega (arith, s.0), omega (arith, s.1), omega (arith, s.2))
item_given h n (refused x) r u s e = let z : ◌≡◌ {A = ℕ} 0 1 = cc in absurd (omega arith)

module _ (h : Holds) (read : Reader) (sized : AllSized read) (spot : Spot) where
  -- more turns than bytes change nothing
  turns_same : (m n left at : ℕ) (bs : List ℕ) → left ≤ m → left ≤ n → items h read spot m left at bs ≡ items h read spot n left at bs
  unfolding items
  turns_same zero zero left at bs p q = refl
  turns_same zero (suc n) zero at bs p q = refl
  turns_same zero (suc n) (suc l) at bs p q = absurd (not-suc-le-zero p)
  turns_same (suc m) zero zero at bs p q = refl
  turns_same (suc m) zero (suc l) at bs p q = absurd (not-suc-le-zero q)
  turns_same (suc m) (suc n) zero at bs p q = refl
  turns_same (suc m) (suc n) (suc l) at bs p q =
      fitted_same h spot (suc l) (length bs) (item_read h read spot at bs)
      (λ used. items h read spot m (suc l - used) (at + used) (drop used bs))
      (λ used. items h read spot n (suc l - used) (at + used) (drop used bs)) (item_sized read sized spot h at bs)
      (λ u e. turns_same m n (suc l - u) (at + u) (drop u bs) (omega arith) (omega arith))

  -- what is left of a container
  abbrev pub Left : (left at : ℕ) → List ℕ → Outcome Forest
  Left left at bs = items h read spot left left at bs

  left_none : (at : ℕ) (bs : List ℕ) → mapped counts (Left 0 at bs) ≡ gave 0 0
  unfolding items
  left_none at bs = refl

  left_first : (left at : ℕ) (bs : List ℕ) → 0 < left → Left left at bs ≡ fitted spot left (item_read h read spot at bs) (λ u. items h read spot (left - 1) (left - u) (at + u) (drop u bs))
  unfolding items
  left_first zero at bs p = absurd (not-suc-le-zero p)
  left_first (suc l) at bs p =
      ap (λ m. fitted spot (suc l) (item_read h read spot at bs) (λ u. items h read spot m (suc l - u) (at + u) (drop u bs))) (omega arith)

  left_next : (left at : ℕ) (bs : List ℕ) → 0 < left → mapped counts (Left left at bs) ≡ next spot left (mapped item_count (item_read h read spot at bs)) (λ u. mapped counts (items h read spot (left - 1) (left - u) (at + u) (drop u bs)))
  left_next left at bs p =
      ap (mapped counts) (left_first left at bs p)
      ∙ fitted_next spot left (item_read h read spot at bs) (λ u. items h read spot (left - 1) (left - u) (at + u) (drop u bs))

  left_refused : (left at : ℕ) (bs : List ℕ) (e : Refusal) → 0 < left → mapped item_count (item_read h read spot at bs) ≡ refused e → mapped counts (Left left at bs) ≡ refused e
  left_refused left at bs e p is = rw (left_next left at bs p, is)

  left_past : (left at : ℕ) (bs : List ℕ) (r u : ℕ) → 0 < left → mapped item_count (item_read h read spot at bs) ≡ gave r u → left < u → mapped counts (Left left at bs) ≡ refuse PastContainer spot
  left_past left at bs r u p is k = rw (left_next left at bs p, is, lt-ltb left u k)

  left_more : (left at : ℕ) (bs : List ℕ) (r u : ℕ) → 0 < left → mapped item_count (item_read h read spot at bs) ≡ gave r u → u ≤ left → mapped counts (Left left at bs) ≡ plus r u (mapped counts (Left (left - u) (at + u) (drop u bs)))
  left_more left at bs r u p is k =
      let s = item_given h (length bs) (item_read h read spot at bs) r u (item_sized read sized spot h at bs) is in
      rw (left_next left at bs p, is, le-ltb left u k, turns_same (left - 1) (left - u) (left - u) (at + u) (drop u bs) (omega arith) (omega arith))

  -- ---- an item by its key and flags and its pod

  keyed_refused : (at : ℕ) (bs : List ℕ) (e : Refusal) → refused e ≡ ahead h spot bs → mapped item_count (item_read h read spot at bs) ≡ refused e
  keyed_refused at bs e is = by h is
    where
      tested : (b : Bool) (o : Outcome Item) → refused e ≡ refuse_if {A = Unit {0}} b Missing spot (gave tt 8) → mapped item_count (refuse_if b Missing spot o) ≡ refused e
      tested true o q = cc
      tested false o q = let z : ◌≡◌ {A = ℕ} 0 1 = cc in absurd (omega arith)

      by : (h' : Holds) → refused e ≡ ahead h' spot bs → mapped item_count (item_read h' read spot at bs) ≡ refused e
      by Fields q = let z : ◌≡◌ {A = ℕ} 0 1 = cc in absurd (omega arith)
      by Properties q = tested (ltb (length bs) 8) _ q

  keyed_then : (at k : ℕ) (bs : List ℕ) (o : Outcome ℕ) → gave tt k ≡ ahead h spot bs → mapped count (read (at + k) (drop k bs)) ≡ o → mapped item_count (item_read h read spot at bs) ≡ after k o
  keyed_then at k bs o is q = by h is
    where
      field : (x : Outcome Tree) → mapped count x ≡ o → mapped item_count (mapped (item 0 0) x) ≡ after 0 o
      field (gave t used) e = ap (gave (count t)) (sym (add-zero used)) ∙ ap (after 0) e
      field (refused x) e = ap (after 0) e

      property : (x : Outcome Tree) (key flags : ℕ) → mapped count x ≡ o → mapped item_count (after 8 (mapped (item key flags) x)) ≡ after 8 o
      property (gave t used) key flags e = ap (after 8) e
      property (refused x) key flags e = ap (after 8) e

      tested : (b : Bool) → b ≡ ltb (length bs) 8 → gave tt k ≡ refuse_if {A = Unit {0}} b Missing spot (gave tt 8) → mapped item_count (refuse_if b Missing spot (after 8 (mapped (item (little 4 0 bs) (little 4 4 bs)) (read (at + 8) (drop 8 bs))))) ≡ after k o
      tested true z p = let z : ◌≡◌ {A = ℕ} 0 1 = cc in absurd (omega arith)
      tested false z p =
          let eight : k ≡ 8 = cc in
          property (read (at + 8) (drop 8 bs)) (little 4 0 bs) (little 4 4 bs) (ap (λ n. mapped count (read (at + n) (drop n bs))) (sym eight) ∙ q)
          ∙ ap (λ n. after n o) (sym eight)

      by : (h' : Holds) → gave tt k ≡ ahead h' spot bs → mapped item_count (item_read h' read spot at bs) ≡ after k o
      by Fields p =
          let none : k ≡ 0 = cc in
          field (read at bs) (ap (λ n. mapped count (read n bs)) (sym (add-zero at)) ∙ ap (λ n. mapped count (read (at + n) (drop n bs))) (sym none) ∙ q)
          ∙ ap (λ n. after n o) (sym none)
      by Properties p = tested (ltb (length bs) 8) refl p

-- ---- a loop over what a container of `len` bytes holds, of which the first stands at `from`

module _ (holds : Holds) (room : ℕ) (spot : Spot) (len from : ℕ) (bs : List ℕ) where
  abbrev read : Reader
  read = pod room (33 - room)

  abbrev sizes : AllSized read
  sizes = pod_sized room (33 - room)

  abbrev Whole : Outcome ℕ
  Whole = mapped counts (Left holds read sizes spot len from bs)

  -- what is known after `used` bytes with their rows
  abbrev pub Going : (rows used : ℕ) → Type 0
  Going rows used = Whole ≡ plus rows used (mapped counts (Left holds read sizes spot (len - used) (from + used) (drop used bs)))

  -- what the code reads after `used` bytes: key and flags, then the pod after them
  abbrev Keyed : (used : ℕ) → Outcome (Unit {0}) → Type 0
  Keyed used o = o ≡ ahead holds spot (take (length bs - used) (drop used bs))

  abbrev Read : (start : ℕ) → Outcome ℕ → Type 0
  Read start o = o ≡ mapped count (read (from + start) (take (length bs - start) (drop start bs)))

  pub item_at : ℕ → Outcome ℕ
  item_at used = mapped item_count (item_read holds read spot (from + used) (drop used bs))

  pub no_key : (used : ℕ) (e : Refusal) → Keyed used (refused e) → item_at used ≡ refused e
  unfolding item_at
  no_key used e is = keyed_refused holds read sizes spot (from + used) (drop used bs) e (is ∙ ap (ahead holds spot) (take_rest bs used))

  pub its_pod : (used k : ℕ) (o : Outcome ℕ) → Keyed used (gave tt k) → Read (used + k) o → item_at used ≡ after k o
  unfolding item_at
  its_pod used k o is q =
      keyed_then holds read sizes spot (from + used) k (drop used bs) o (is ∙ ap (ahead holds spot) (take_rest bs used))
      (ap (mapped count) (ap (λ n. read n (drop k (drop used bs))) (add_assoc from used k) ∙ ap (read (from + (used + k))) (drop-drop k used bs ∙ sym (take_rest bs (used + k)))) ∙ sym q)

  pub goes_on : (rows used r u end : ℕ) → Going rows used → used < len → item_at used ≡ gave r u → u ≤ len - used → end ≡ used + u → Going (rows + r) end
  unfolding item_at
  goes_on rows used r u end g h e k is =
      rw is
      (g ∙ ap (plus rows used) (left_more holds read sizes spot (len - used) (from + used) (drop used bs) r u (omega arith) e k)
      ∙ plus_plus rows used r u (mapped counts (Left holds read sizes spot (len - used - u) (from + used + u) (drop u (drop used bs))))
      ∙ simp (drop-drop, add_assoc, sub-add-eq))

  pub refuses_at : (rows used : ℕ) (e : Refusal) → Going rows used → used < len → item_at used ≡ refused e → refused e ≡ Whole
  unfolding item_at
  refuses_at rows used e g h is =
      sym (g ∙ ap (plus rows used) (left_refused holds read sizes spot (len - used) (from + used) (drop used bs) e (omega arith) is))

  pub exceeds_at : (rows used r u : ℕ) → Going rows used → used < len → item_at used ≡ gave r u → len - used < u → refuse PastContainer spot ≡ Whole
  unfolding item_at
  exceeds_at rows used r u g h e k =
      sym (g ∙ ap (plus rows used) (left_past holds read sizes spot (len - used) (from + used) (drop used bs) r u (omega arith) e k))

  pub ends : (rows used : ℕ) → Going rows used → used ≡ len → gave rows used ≡ Whole
  ends rows used g e =
      let z : len - used ≡ 0 = omega arith in
      sym (g ∙ ap (λ n. plus rows used (mapped counts (Left holds read sizes spot n (from + used) (drop used bs)))) z
      ∙ ap (plus rows used) (left_none holds read sizes spot (from + used) (drop used bs)) ∙ simp add-zero)

  -- the rows and bytes of the next are bounded by what is left
  pub bounded : (used r u : ℕ) → item_at used ≡ gave r u → (u ≤ length bs - used) × (8 * r ≤ u) × (8 ≤ u)
  unfolding item_at
  bounded used r u e =
      rw (← length-drop used bs)
      (item_given holds (length (drop used bs)) (item_read holds read spot (from + used) (drop used bs)) r u (item_sized read sizes spot holds (from + used) (drop used bs)) e)
