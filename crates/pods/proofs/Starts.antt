-- A pod by its header, and bounds of what is counted. Assumes nothing.
use Rattle.std.proofs.Common.{◌≡◌, ℕ, suc, ◌+◌, ◌-◌, ◌*◌, ◌<◌, ◌≤◌, List, length, IfOk, Ok, Err, Result, refl, sym, ap, ◌∙◌, add_assoc, arith}
use Rattle.std.proofs.lemmas.Bool.{lt-ltb, le-ltb, eq-eqb, ne_eqb}
use Rattle.refusals.specs.declared.Refusal.{Refusal}
use Rattle.refusals.specs.declared.Spot.{Spot}
use Rattle.refusals.specs.declared.Why.TheVariants.{Missing, TooShort, TooDeep, UnknownType}
use Rattle.words.specs.Words.{Halves}
use Rattle.pods.specs.declared.holding.Holds.{Holds}
use Rattle.pods.specs.declared.holding.Holds.TheVariants.{Fields, Properties}
use Rattle.pods.specs.declared.reading.Surveyed.{Surveyed}
use Rattle.pods.specs.Trees.{Tree, Forest, Leaf, struct, object, count, counts}
use Rattle.pods.specs.Outcomes.{Outcome, gave, refused, refuse, mapped, after, sized}
use Rattle.pods.specs.Leaves.{leaf_body}
use Rattle.pods.specs.declared.types.PodType.{PodType}
use Rattle.pods.specs.declared.types.PodType.TheVariants.{Struct, Object}
use Rattle.pods.specs.Types.{type_number}
use Rattle.pods.specs.Pods.{Reader, spot_at, items, object_body, leaf_tree, body, pod}
use Rattle.pods.specs.Survey.{answered}
use Rattle.pods.proofs.Numbers.{only_struct, only_object, no_leaf}
use Rattle.pods.proofs.Sizes.{Given, Sized, ItemsSized, leaf_fits, items_sized, pod_sized}

pub too_deep : (room depth place : ℕ) (bs : List ℕ) → room ≡ 0 → pod room depth place bs ≡ refuse TooDeep (spot_at place depth)
unfolding pod
too_deep room depth place bs e = rw e

-- more bytes in front
after_after : {A : Type 0} (m n : ℕ) (o : Outcome A) → after m (after n o) ≡ after (n + m) o
after_after m n (gave x used) = ap (gave x) (add_assoc used n m)
after_after m n (refused e) = refl

mapped_after : {A B : Type 0} (f : A → B) (n : ℕ) (o : Outcome A) → mapped f (after n o) ≡ after n (mapped f o)
mapped_after f n (gave x used) = refl
mapped_after f n (refused e) = refl

-- a container's rows are those of what it holds, and its own
abbrev pub opened : Outcome ℕ → Outcome ℕ
opened (gave r u) = gave (r + 1) u
opened (refused e) = refused e

struct_opened : (o : Outcome Forest) → mapped count (mapped struct o) ≡ opened (mapped counts o)
struct_opened (gave f used) = refl
struct_opened (refused e) = refl

object_opened : (type id : ℕ) (o : Outcome Forest) → mapped count (mapped (object type id) o) ≡ opened (mapped counts o)
object_opened type id (gave f used) = refl
object_opened type id (refused e) = refl

-- a leaf is one row
abbrev pub alone : Outcome (Unit {0}) → Outcome ℕ
alone (gave x u) = gave 1 u
alone (refused e) = refused e

leaf_alone : (o : Outcome Leaf) → mapped count (leaf_tree o) ≡ alone (sized o)
leaf_alone (gave l used) = refl
leaf_alone (refused e) = refl

module _ (inner room depth deeper place : ℕ) (bs : List ℕ) (e : room ≡ suc inner) where
  pub no_header : length bs < 8 → pod room depth place bs ≡ refuse Missing (spot_at place depth)
  unfolding pod
  no_header h = rw (e, lt-ltb (length bs) 8 h)

  module _ (d : deeper ≡ suc depth) (len kind : ℕ) (rest : List ℕ) (h : Halves bs len kind rest) where
    abbrev spot : Spot
    spot = spot_at place depth

    abbrev read : Reader
    read = pod inner deeper

    by_header : pod room depth place bs ≡ after 8 (body read len kind spot rest)
    unfolding pod
    by_header = rw (e, d, le-ltb (length bs) 8 h.whole, h.first_is, h.second_is, h.rest_is)

    pub is_struct : kind ≡ 14 → mapped count (pod room depth place bs) ≡ after 8 (opened (mapped counts (items Fields read spot len len (place + 8) rest)))
    is_struct k =
        ap (mapped count) by_header ∙ mapped_after count 8 _
        ∙ ap (after 8) (rw (eq-eqb kind 14 k) (struct_opened (items Fields read spot len len (place + 8) rest)))

    by_leaf : (kind ≡ 14 → ⊥) → (kind ≡ 15 → ⊥) → mapped count (pod room depth place bs) ≡ after 8 (alone (sized (leaf_body len kind spot rest)))
    by_leaf n m =
        ap (mapped count) by_header ∙ mapped_after count 8 _
        ∙ ap (after 8) (rw (ne_eqb kind 14 n, ne_eqb kind 15 m) (leaf_alone (leaf_body len kind spot rest)))

    pub is_leaf : (t : PodType) → type_number t ≡ kind → (t ≡ Struct → ⊥) → (t ≡ Object → ⊥) → mapped count (pod room depth place bs) ≡ after 8 (alone (sized (leaf_body len (type_number t) spot rest)))
    is_leaf t is n m =
        by_leaf (λ e. n (only_struct t (is ∙ e))) (λ e. m (only_object t (is ∙ e)))
        ∙ ap (λ k. after 8 (alone (sized (leaf_body len k spot rest)))) (sym is)

    pub is_unknown : ((t : PodType) → type_number t ≡ kind → ⊥) → mapped count (pod room depth place bs) ≡ refuse UnknownType spot
    is_unknown none =
        by_leaf (λ e. none Struct (sym e)) (λ e. none Object (sym e))
        ∙ ap (λ o. after 8 (alone (sized o))) (no_leaf kind len spot rest none)

    object_by : kind ≡ 15 → mapped count (pod room depth place bs) ≡ after 8 (mapped count (object_body read len spot rest))
    object_by k = ap (mapped count) by_header ∙ mapped_after count 8 _ ∙ ap (after 8) (rw k)

    pub no_type : kind ≡ 15 → length rest < 8 → mapped count (pod room depth place bs) ≡ refuse Missing spot
    no_type k less = object_by k ∙ rw (lt-ltb (length rest) 8 less)

    module _ (type id : ℕ) (properties : List ℕ) (named : Halves rest type id properties) where
      pub short_object : kind ≡ 15 → len < 8 → mapped count (pod room depth place bs) ≡ refuse TooShort spot
      short_object k less = object_by k ∙ rw (le-ltb (length rest) 8 named.whole, lt-ltb len 8 less)

      pub is_object : kind ≡ 15 → 8 ≤ len → mapped count (pod room depth place bs) ≡ after 16 (opened (mapped counts (items Properties read spot (len - 8) (len - 8) (place + 16) properties)))
      is_object k long =
          let all : Outcome Forest = items Properties read spot (len - 8) (len - 8) (place + 16) properties in
          object_by k
          ∙ ap (after 8) (rw (le-ltb (length rest) 8 named.whole, le-ltb len 8 long, ← named.first_is, ← named.second_is, ← named.rest_is)
          (mapped_after count 8 (mapped (object type id) all) ∙ ap (after 8) (object_opened type id all)))
          ∙ after_after 8 8 (opened (mapped counts all))

given_pod : (n : ℕ) (o : Outcome Tree) (r u : ℕ) → Given (Sized n) o → gave r u ≡ mapped count o → (u ≤ n) × (8 * r ≤ u) × (8 ≤ u)
given_pod n (gave t used) r u s e =
    let er : count t ≡ r = cc in
    let eu : used ≡ u = cc in
    (omega (arith, s.0), omega (arith, s.1), omega (arith, s.2))
given_pod n (refused x) r u s e = let z : ◌≡◌ {A = ℕ} 0 1 = cc in absurd (omega arith)

given_items : (h : Holds) (n : ℕ) (o : Outcome Forest) (r u : ℕ) → Given (ItemsSized h n) o → gave r u ≡ mapped counts o → (u ≤ n) × (8 * r ≤ u)
given_items h n (gave f used) r u s e =
    let er : counts f ≡ r = cc in
    let eu : used ≡ u = cc in
    (omega (arith, s.0), omega (arith, s.1))
given_items h n (refused x) r u s e = let z : ◌≡◌ {A = ℕ} 0 1 = cc in absurd (omega arith)

given_leaf : (n : ℕ) (o : Outcome Leaf) (u : ℕ) → Given (λ _ used. used ≤ n) o → gave tt u ≡ sized o → u ≤ n
given_leaf n (gave l used) u s e = let eu : used ≡ u = cc in omega (arith, s)
given_leaf n (refused x) u s e = let z : ◌≡◌ {A = ℕ} 0 1 = cc in absurd (omega arith)

pub bounded_leaf : (len type : ℕ) (spot : Spot) (rest : List ℕ) (u : ℕ) → gave tt u ≡ sized (leaf_body len type spot rest) → u ≤ length rest
bounded_leaf len type spot rest u e = given_leaf (length rest) (leaf_body len type spot rest) u (leaf_fits rest spot len type) e

pub bounded_pod : (room depth place : ℕ) (bs : List ℕ) (r u : ℕ) → gave r u ≡ mapped count (pod room depth place bs) → (u ≤ length bs) × (8 * r ≤ u) × (8 ≤ u)
bounded_pod room depth place bs r u e = given_pod (length bs) (pod room depth place bs) r u (pod_sized room depth place bs) e

pub bounded_items : (h : Holds) (room depth : ℕ) (spot : Spot) (turns left at : ℕ) (bs : List ℕ) (r u : ℕ) → gave r u ≡ mapped counts (items h (pod room depth) spot turns left at bs) → (u ≤ length bs) × (8 * r ≤ u)
bounded_items h room depth spot turns left at bs r u e =
    given_items h (length bs) (items h (pod room depth) spot turns left at bs) r u (items_sized (pod room depth) (pod_sized room depth) spot h turns left at bs) e

pub within : (n : ℕ) (r : Result Surveyed Refusal) (o : Outcome Tree) → Given (Sized n) o → answered r ≡ mapped count o → IfOk r (λ s. (s.used ≤ n) × (8 * s.rows ≤ s.used))
within n (Ok s) o z e = let b = given_pod n o s.rows s.used z e in (b.0, b.1)
within n (Err x) o z e = tt
