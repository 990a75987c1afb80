-- How many bytes a pod uses: eight at least for each of its rows, no more than there are, and its total.
-- Assumes nothing.
use Rattle.std.proofs.Common.{◌≡◌, ℕ, zero, suc, ◌+◌, ◌-◌, ◌*◌, ◌≤◌, Bool, true, false, cond, eqb, ltb, List, length, get_or, take, drop, Some, None, Option, refl, arith, length-drop}
use Rattle.std.proofs.lemmas.Bool.{ltb-false}
use Rattle.refusals.specs.declared.Why.{Why}
use Rattle.refusals.specs.declared.Spot.{Spot}
use Rattle.words.specs.Words.{little, padded}
use Rattle.utf8.specs.Table37.{well_formed}
use Rattle.kinds.specs.declared.kind.Kind.{Kind}
use Rattle.kinds.specs.Kinds.{kind_of, size_of}
use Rattle.pods.specs.declared.choices.ChoiceType.{ChoiceType}
use Rattle.pods.specs.declared.holding.Holds.{Holds}
use Rattle.pods.specs.declared.holding.Holds.TheVariants.{Fields, Properties}
use Rattle.pods.specs.Choices.{choice_type_of, needed}
use Rattle.pods.specs.Trees.{Tree, Forest, Leaf, struct, object, past, total, totals, count, counts}
use Rattle.pods.specs.Outcomes.{Outcome, gave, refused, refuse_if, refuse_unless, mapped, after}
use Rattle.pods.specs.Leaves.{taking, text_body, array_of, array_body, choice_using, choice_of, choice_count, choice_body, pointer_body, fixed_of, leaf_body}
use Rattle.pods.specs.Pods.{Reader, Item, item, item_read, joined, fitted, items, leaf_tree, body, pod}

-- what holds of all that an outcome gives
abbrev pub Given : {A : Type 0} → (A → ℕ → Type 0) → Outcome A → Type 0
Given P (gave x used) = P x used
Given P (refused e) = Unit {0}

module _ {A : Type 0} (P : A → ℕ → Type 0) where
  pub given_if : (b : Bool) (why : Why) (spot : Spot) (o : Outcome A) → (b ≡ false → Given P o) → Given P (refuse_if b why spot o)
  given_if true why spot o h = tt
  given_if false why spot o h = h refl

  pub given_unless : (b : Bool) (why : Why) (spot : Spot) (o : Outcome A) → (b ≡ true → Given P o) → Given P (refuse_unless b why spot o)
  given_unless true why spot o h = h refl
  given_unless false why spot o h = tt

  pub given_either : (b : Bool) (o o' : Outcome A) → Given P o → Given P o' → Given P (cond b o o')
  given_either true o o' h k = h
  given_either false o o' h k = k

-- ---- leaves: the body is there

module _ (rest : List ℕ) (spot : Spot) where
  abbrev Fits : Leaf → ℕ → Type 0
  Fits l used = used ≤ length rest

  taking_fits : (l : Leaf) (size : ℕ) → Given Fits (taking l size spot rest)
  taking_fits l size = given_if Fits (ltb (length rest) size) _ spot (gave l size) (λ e. ltb-false (length rest) size e)

  text_fits : (len : ℕ) → Given Fits (text_body len spot rest)
  text_fits len =
      given_if Fits (eqb len 0) _ spot _ (λ _. given_if Fits (ltb (length rest) len) _ spot _
      (λ _. given_unless Fits (eqb (get_or rest (len - 1) 0) 0) _ spot _
      (λ _. given_unless Fits (well_formed (take (len - 1) rest)) _ spot _ (λ _. taking_fits _ _))))

  array_of_fits : (o : Option Kind) (len size : ℕ) → Given Fits (array_of o len size spot rest)
  array_of_fits None len size = tt
  array_of_fits (Some k) len size =
      given_unless Fits (eqb size (size_of k)) _ spot _
      (λ _. given_either Fits (eqb (size_of k) 0) _ _ (taking_fits _ _) (given_if Fits (ltb len 8) _ spot _ (λ _. taking_fits _ _)))

  array_fits : (len : ℕ) → Given Fits (array_body len spot rest)
  array_fits len = given_if Fits (ltb (length rest) 8) _ spot _ (λ _. array_of_fits (kind_of (little 4 4 rest)) len (little 4 0 rest))

  choice_using_fits : (o : Option ChoiceType) (k : Kind) (flags n : ℕ) → padded (n * size_of k) + 16 ≤ length rest → Given Fits (choice_using o k flags n spot rest)
  choice_using_fits None k flags n h = tt
  choice_using_fits (Some c) k flags n h = given_if Fits (ltb n (needed c)) _ spot _ (λ _. h)

  choice_of_fits : (o : Option Kind) (len number flags size : ℕ) → Given Fits (choice_of o len number flags size spot rest)
  choice_of_fits None len number flags size = tt
  choice_of_fits (Some k) len number flags size =
      given_if Fits (eqb (size_of k) 0) _ spot _
      (λ _. given_if Fits (ltb (length rest) (padded (choice_count len size * size_of k) + 16)) _ spot _
      (λ e. choice_using_fits (choice_type_of number) k flags (choice_count len size) (ltb-false _ _ e)))

  choice_fits : (len : ℕ) → Given Fits (choice_body len spot rest)
  choice_fits len =
      given_if Fits (ltb (length rest) 16) _ spot _ (λ _. given_if Fits (ltb len 16) _ spot _
      (λ _. given_if Fits (eqb (little 4 8 rest) 0) _ spot _
      (λ _. choice_of_fits (kind_of (little 4 12 rest)) len (little 4 0 rest) (little 4 4 rest) (little 4 8 rest))))

  pointer_fits : (len : ℕ) → Given Fits (pointer_body len spot rest)
  pointer_fits len =
      given_if Fits (ltb (length rest) 8) _ spot _ (λ _. given_if Fits (ltb len 8) _ spot _
      (λ _. given_either Fits (eqb len 16) _ _ (taking_fits _ _) (given_either Fits (eqb len 12) _ _ (taking_fits _ _) tt)))

  fixed_of_fits : (o : Option Kind) → Given Fits (fixed_of o spot rest)
  fixed_of_fits None = tt
  fixed_of_fits (Some k) = taking_fits _ _

  pub leaf_fits : (len type : ℕ) → Given Fits (leaf_body len type spot rest)
  unfolding leaf_body
  leaf_fits len type =
      given_either Fits (eqb type 8) _ _ (text_fits len)
      (given_either Fits (eqb type 9) _ _ (taking_fits _ _)
      (given_either Fits (eqb type 13) _ _ (array_fits len)
      (given_either Fits (eqb type 17) _ _ (pointer_fits len)
      (given_either Fits (eqb type 19) _ _ (choice_fits len) (fixed_of_fits (kind_of type))))))

-- ---- pods, where n bytes are there

abbrev pub Sized : ℕ → Tree → ℕ → Type 0
Sized n t used = (used ≤ n) × (8 * count t ≤ used) × (8 ≤ used) × (total t ≡ used)

abbrev pub BodySized : ℕ → Tree → ℕ → Type 0
BodySized n t used = (used ≤ n) × (8 * count t ≤ used + 8) × (total t ≡ used + 8)

abbrev pub ItemSized : Holds → ℕ → Item → ℕ → Type 0
ItemSized h n i used = (used ≤ n) × (8 * count i.pod ≤ used) × (8 ≤ used) × (past h (total i.pod) ≡ used)

abbrev pub ItemsSized : Holds → ℕ → Forest → ℕ → Type 0
ItemsSized h n f used = (used ≤ n) × (8 * counts f ≤ used) × (totals h f ≡ used)

abbrev pub AllSized : Reader → Type 0
AllSized read = (at : ℕ) (bs : List ℕ) → Given (Sized (length bs)) (read at bs)

joined_sized : (h : Holds) (i : Item) (u : ℕ) (bs : List ℕ) (o : Outcome Forest) → ItemSized h (length bs) i u → Given (ItemsSized h (length (drop u bs))) o → Given (ItemsSized h (length bs)) (joined i u o)
joined_sized h i u bs (gave f used) s t =
    (omega (arith, s.0, t.0, length-drop u bs), omega (arith, s.1, t.1), omega (arith, s.3, t.2))
joined_sized h i u bs (refused e) s t = tt

fitted_sized : (h : Holds) (spot : Spot) (left : ℕ) (bs : List ℕ) (o : Outcome Item) (others : ℕ → Outcome Forest) → Given (ItemSized h (length bs)) o → ((u : ℕ) → Given (ItemsSized h (length (drop u bs))) (others u)) → Given (ItemsSized h (length bs)) (fitted spot left o others)
fitted_sized h spot left bs (gave i used) others s k =
    given_if (ItemsSized h (length bs)) (ltb left used) _ spot _ (λ _. joined_sized h i used bs (others used) s (k used))
fitted_sized h spot left bs (refused e) others s k = tt

module _ (read : Reader) (sized : AllSized read) (spot : Spot) where
  field_sized : (n : ℕ) (o : Outcome Tree) → Given (Sized n) o → Given (ItemSized Fields n) (mapped (item 0 0) o)
  field_sized n (gave t used) s = s
  field_sized n (refused e) s = tt

  property_sized : (key flags : ℕ) (bs : List ℕ) (o : Outcome Tree) → 8 ≤ length bs → Given (Sized (length (drop 8 bs))) o → Given (ItemSized Properties (length bs)) (after 8 (mapped (item key flags) o))
  property_sized key flags bs (gave t used) h s =
      (omega (arith, s.0, length-drop 8 bs), omega (arith, s.1), omega (arith, s.2), omega (arith, s.3))
  property_sized key flags bs (refused e) h s = tt

  pub item_sized : (h : Holds) (at : ℕ) (bs : List ℕ) → Given (ItemSized h (length bs)) (item_read h read spot at bs)
  item_sized Fields at bs = field_sized (length bs) (read at bs) (sized at bs)
  item_sized Properties at bs =
      given_if (ItemSized Properties (length bs)) (ltb (length bs) 8) _ spot _
      (λ e. property_sized (little 4 0 bs) (little 4 4 bs) bs (read (at + 8) (drop 8 bs)) (ltb-false (length bs) 8 e) (sized (at + 8) (drop 8 bs)))

  pub items_sized : (h : Holds) (turns left at : ℕ) (bs : List ℕ) → Given (ItemsSized h (length bs)) (items h read spot turns left at bs)
  unfolding items
  items_sized h zero left at bs = (omega arith, omega arith, refl)
  items_sized h (suc turns) zero at bs = (omega arith, omega arith, refl)
  items_sized h (suc turns) (suc l) at bs =
      fitted_sized h spot (suc l) bs (item_read h read spot at bs)
      (λ used. items h read spot turns (suc l - used) (at + used) (drop used bs)) (item_sized h at bs)
      (λ u. items_sized h turns (suc l - u) (at + u) (drop u bs))

  struct_sized : (n : ℕ) (o : Outcome Forest) → Given (ItemsSized Fields n) o → Given (BodySized n) (mapped struct o)
  struct_sized n (gave f used) s = (s.0, omega (arith, s.1), omega (arith, s.2))
  struct_sized n (refused e) s = tt

  object_sized : (type id : ℕ) (bs : List ℕ) (o : Outcome Forest) → 8 ≤ length bs → Given (ItemsSized Properties (length (drop 8 bs))) o → Given (BodySized (length bs)) (after 8 (mapped (object type id) o))
  object_sized type id bs (gave f used) h s =
      (omega (arith, s.0, length-drop 8 bs), omega (arith, s.1), omega (arith, s.2))
  object_sized type id bs (refused e) h s = tt

  leaf_sized : (n : ℕ) (o : Outcome Leaf) → Given (λ _ used. used ≤ n) o → Given (BodySized n) (leaf_tree o)
  leaf_sized n (gave l used) s = (s, omega arith, refl)
  leaf_sized n (refused e) s = tt

  pub body_sized : (len type : ℕ) (rest : List ℕ) → Given (BodySized (length rest)) (body read len type spot rest)
  body_sized len type rest =
      given_either (BodySized (length rest)) (eqb type 14) _ _ (struct_sized (length rest) _ (items_sized Fields len len (spot.place + 8) rest))
      (given_either (BodySized (length rest)) (eqb type 15) _ _
      (given_if (BodySized (length rest)) (ltb (length rest) 8) _ spot _ (λ e. given_if (BodySized (length rest)) (ltb len 8) _ spot _
      (λ _. object_sized (little 4 0 rest) (little 4 4 rest) rest _ (ltb-false (length rest) 8 e)
      (items_sized Properties (len - 8) (len - 8) (spot.place + 16) (drop 8 rest)))))
      (leaf_sized (length rest) _ (leaf_fits rest spot len type)))

after_sized : (bs : List ℕ) (o : Outcome Tree) → 8 ≤ length bs → Given (BodySized (length (drop 8 bs))) o → Given (Sized (length bs)) (after 8 o)
after_sized bs (gave t used) h s =
    (omega (arith, s.0, length-drop 8 bs), omega (arith, s.1), omega arith, omega (arith, s.2))
after_sized bs (refused e) h s = tt

pub pod_sized : (room depth : ℕ) → AllSized (pod room depth)
unfolding pod
pod_sized zero depth place bs = tt
pod_sized (suc room) depth place bs =
    given_if (Sized (length bs)) (ltb (length bs) 8) _ _ _
    (λ e. after_sized bs _ (ltb-false (length bs) 8 e)
    (body_sized (pod room (suc depth)) (pod_sized room (suc depth)) _ (little 4 0 bs) (little 4 4 bs) (drop 8 bs)))
