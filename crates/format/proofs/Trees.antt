-- What is read is laid out so, and what is laid out is read so: pods that hold pods. Assumes nothing.
use Rattle.std.proofs.Common.{◌≡◌, ℕ, zero, suc, ◌+◌, ◌-◌, ◌<◌, ◌≤◌, Bool, true, false, cond, eqb, ltb, List, length, drop, sym, refl, ap, ◌∙◌, subst, not-suc-le-zero, arith, length-drop}
use Rattle.std.proofs.lemmas.List.{drop-drop}
use Rattle.std.proofs.lemmas.Bool.{eqb-true, ltb-false, le-ltb}
use Rattle.refusals.specs.declared.Spot.{Spot}
use Rattle.refusals.specs.declared.Why.TheVariants.{Missing, TooShort}
use Rattle.words.specs.Words.{little}
use Rattle.words.proofs.Places.{little_drop, little_front}
use Rattle.kinds.specs.declared.kind.Kind.{Kind}
use Rattle.kinds.specs.declared.kind.Kind.TheVariants.{None, Bool as BoolKind, Id, Int, Long, Float, Double, Rectangle, Fraction, Fd}
use Rattle.kinds.specs.Kinds.{type_of}
use Rattle.pods.specs.declared.holding.Holds.{Holds}
use Rattle.pods.specs.declared.holding.Holds.TheVariants.{Fields, Properties}
use Rattle.pods.specs.Trees.{Tree, Forest, Leaf, fixed, text, raw, array, choice, pointer, leaf, struct, object, none, more, past, total, totals, deep, deepest}
use Rattle.pods.specs.Rows.{leaf_type}
use Rattle.pods.specs.Outcomes.{Outcome, gave, refused, refuse_if, mapped, after}
use Rattle.pods.specs.Leaves.{leaf_body}
use Rattle.pods.specs.Pods.{Reader, Item, item, spot_at, item_read, joined, fitted, items, object_body, leaf_tree, body, pod}
use Rattle.pods.proofs.Sizes.{Given, given_if, ItemSized, ItemsSized, AllSized, item_sized, items_sized, pod_sized, leaf_fits}
use Rattle.format.specs.Layout.{Header, BodyLaid, Named, Laid, AllLaid}
use Rattle.format.proofs.Sound.{Says, leaf_says}
use Rattle.format.proofs.Complete.{leaf_read}

pub given_both : {A : Type 0} (P Q : A → ℕ → Type 0) (o : Outcome A) → Given P o → Given Q o → Given (λ x u. P x u × Q x u) o
given_both P Q (gave x u) p q = (p, q)
given_both P Q (refused e) p q = tt

-- a part of a part of the bytes
pub eight_on : (bytes : List ℕ) (p : ℕ) → drop 8 (drop p bytes) ≡ drop (p + 8) bytes
eight_on bytes p = drop-drop 8 p bytes

sixteen_on : (bytes : List ℕ) (p : ℕ) → drop 8 (drop 8 (drop p bytes)) ≡ drop (p + 16) bytes
sixteen_on bytes p = drop-drop 8 8 (drop p bytes) ∙ drop-drop 16 p bytes

-- ---- what is read is laid out so

module _ (bytes : List ℕ) where
  -- a pod at a place, with at most `room` depths
  abbrev pub PodLaid : (room p : ℕ) → Tree → ℕ → Type 0
  PodLaid room p t used = Laid bytes t p × (deep t ≤ room)

  abbrev ItemLaid : Holds → (room at : ℕ) → Item → ℕ → Type 0
  ItemLaid h room at i used = Named bytes h at i.key i.flags × Laid bytes i.pod (past h at) × (deep i.pod ≤ room)

  abbrev AllIn : Holds → (room at left : ℕ) → Forest → ℕ → Type 0
  AllIn h room at left f used = AllLaid bytes h f at × (deepest f ≤ room) × (used ≡ left)

  module _ (h : Holds) (room : ℕ) (spot : Spot) where
    joined_laid : (at left n u : ℕ) (i : Item) (o : Outcome Forest) → u ≤ left → ItemLaid h room at i u → ItemSized h n i u → Given (AllIn h room (at + u) (left - u)) o → Given (AllIn h room at left) (joined i u o)
    joined_laid at left n u i (gave f used) le a s g = (
      (a.0, a.1, subst (λ m. AllLaid bytes h f (at + m)) (sym s.3) g.0),
      omega (arith, a.2, g.1),
      omega (arith, g.2),
    )
    joined_laid at left n u i (refused e) le a s g = tt

    fitted_laid : (at left n : ℕ) (o : Outcome Item) (others : ℕ → Outcome Forest) → Given (ItemLaid h room at) o → Given (ItemSized h n) o → ((u : ℕ) → 8 ≤ u → u ≤ left → Given (AllIn h room (at + u) (left - u)) (others u)) → Given (AllIn h room at left) (fitted spot left o others)
    fitted_laid at left n (gave i u) others a s g =
        given_if (AllIn h room at left) (ltb left u) _ spot _
        (λ e. (let le = ltb-false left u e in joined_laid at left n u i (others u) le a s (g u s.2 le)))
    fitted_laid at left n (refused e) others a s g = tt

  module _ (room : ℕ) (read : Reader) (sized : AllSized read) (sound : (at : ℕ) → Given (PodLaid room at) (read at (drop at bytes))) (spot : Spot) where
    field_laid : (at : ℕ) (o : Outcome Tree) → Given (PodLaid room at) o → Given (ItemLaid Fields room at) (mapped (item 0 0) o)
    field_laid at (gave t u) g = ((refl, refl), g.0, g.1)
    field_laid at (refused e) g = tt

    property_laid : (at : ℕ) (o : Outcome Tree) → Given (PodLaid room (at + 8)) o → Given (ItemLaid Properties room at) (after 8 (mapped (item (little 4 0 (drop at bytes)) (little 4 4 (drop at bytes))) o))
    property_laid at (gave t u) g = ((sym (little_front 4 at bytes), sym (little_drop 4 at 4 bytes)), g.0, g.1)
    property_laid at (refused e) g = tt

    item_laid : (h : Holds) (at : ℕ) → Given (ItemLaid h room at) (item_read h read spot at (drop at bytes))
    item_laid Fields at = field_laid at (read at (drop at bytes)) (sound at)
    item_laid Properties at =
        given_if (ItemLaid Properties room at) (ltb (length (drop at bytes)) 8) _ spot _
        (λ _. property_laid at (read (at + 8) (drop 8 (drop at bytes)))
        (subst (λ bs. Given (PodLaid room (at + 8)) (read (at + 8) bs)) (sym (eight_on bytes at)) (sound (at + 8))))

    items_laid : (h : Holds) (turns left at : ℕ) → left ≤ turns → Given (AllIn h room at left) (items h read spot turns left at (drop at bytes))
    unfolding items
    items_laid h zero left at le = (tt, omega arith, omega arith)
    items_laid h (suc turns) zero at le = (tt, omega arith, refl)
    items_laid h (suc turns) (suc l) at le =
        fitted_laid h room spot at (suc l) (length (drop at bytes)) (item_read h read spot at (drop at bytes))
        (λ u. items h read spot turns (suc l - u) (at + u) (drop u (drop at bytes))) (item_laid h at) (item_sized read sized spot h at (drop at bytes))
        (λ u eight fits. subst (λ bs. Given (AllIn h room (at + u) (suc l - u)) (items h read spot turns (suc l - u) (at + u) bs)) (sym (drop-drop u at bytes))
        (items_laid h turns (suc l - u) (at + u) (omega arith)))

  module _ (room d p : ℕ) (read : Reader) (sized : AllSized read) (sound : (at : ℕ) → Given (PodLaid room at) (read at (drop at bytes))) (there : 8 ≤ length (drop p bytes)) where
    abbrev len : ℕ
    len = little 4 0 (drop p bytes)

    abbrev type : ℕ
    type = little 4 4 (drop p bytes)

    abbrev rest : List ℕ
    rest = drop 8 (drop p bytes)

    header : (t size : ℕ) → type ≡ t → size ≤ length rest → Header bytes p t size
    header t size e fits =
        record { there = omega (arith, length-drop 8 (drop p bytes), length-drop p bytes); type_is = sym (little_drop 4 p 4 bytes) ∙ e }

    struct_laid : type ≡ 14 → (o : Outcome Forest) → Given (AllIn Fields room (p + 8) len) o → Given (ItemsSized Fields (length rest)) o → Given (PodLaid (suc room) p) (after 8 (mapped struct o))
    struct_laid e (gave f u) g s =
        ((header 14 (totals Fields f) e (omega (arith, s.0, s.2)), sym (little_front 4 p bytes) ∙ sym g.2 ∙ sym s.2, g.0), omega (arith, g.1))
    struct_laid e (refused x) g s = tt

    object_laid : type ≡ 15 → 8 ≤ len → 8 ≤ length rest → (o : Outcome Forest) → Given (AllIn Properties room (p + 16) (len - 8)) o → Given (ItemsSized Properties (length (drop 8 rest))) o → Given (PodLaid (suc room) p) (after 8 (after 8 (mapped (object (little 4 0 rest) (little 4 4 rest)) o)))
    object_laid e long named (gave f u) g s = (
      (
        header 15 (totals Properties f + 8) e (omega (arith, s.0, s.2, length-drop 8 rest)),
        sym (little_front 4 p bytes) ∙ omega (arith, g.2, s.2),
        sym (little_front 4 (p + 8) bytes) ∙ ap (little 4 0) (sym (eight_on bytes p)),
        sym (little_drop 4 (p + 8) 4 bytes ∙ ap (λ n. little 4 n bytes) (omega arith)) ∙ ap (little 4 4) (sym (eight_on bytes p)),
        g.0,
      ),
      omega (arith, g.1),
    )
    object_laid e long named (refused x) g s = tt

    leaf_laid : (o : Outcome Leaf) → Given (Says bytes (p + 8) len (spot_at p d) type) o → Given (λ _ u. u ≤ length rest) o → Given (PodLaid (suc room) p) (after 8 (leaf_tree o))
    leaf_laid (gave l u) g s =
        ((header (leaf_type l) u g.0 s, subst (λ n. BodyLaid bytes (p + 8) n l u) (little_front 4 p bytes) g.1), omega arith)
    leaf_laid (refused x) g s = tt

    body_laid : Given (PodLaid (suc room) p) (after 8 (body read len type (spot_at p d) rest))
    body_laid = by (eqb type 14) (eqb type 15) refl refl
      where
        by : (b b' : Bool) → eqb type 14 ≡ b → eqb type 15 ≡ b' → Given (PodLaid (suc room) p) (after 8 (cond b (mapped struct (items Fields read (spot_at p d) len len (p + 8) rest)) (cond b' (object_body read len (spot_at p d) rest) (leaf_tree (leaf_body len type (spot_at p d) rest)))))
        by true b' e e' =
            struct_laid (eqb-true type 14 e) (items Fields read (spot_at p d) len len (p + 8) rest)
            (subst (λ bs. Given (AllIn Fields room (p + 8) len) (items Fields read (spot_at p d) len len (p + 8) bs)) (sym (eight_on bytes p))
            (items_laid room read sized sound (spot_at p d) Fields len len (p + 8) (omega arith)))
            (items_sized read sized (spot_at p d) Fields len len (p + 8) rest)
        by false true e e' = opened (ltb (length rest) 8) (ltb len 8) refl refl
          where
            opened : (b b' : Bool) → ltb (length rest) 8 ≡ b → ltb len 8 ≡ b' → Given (PodLaid (suc room) p) (after 8 (refuse_if b Missing (spot_at p d) (refuse_if b' TooShort (spot_at p d) (after 8 (mapped (object (little 4 0 rest) (little 4 4 rest)) (items Properties read (spot_at p d) (len - 8) (len - 8) (p + 16) (drop 8 rest)))))))
            opened true b' z z' = tt
            opened false true z z' = tt
            opened false false z z' =
                object_laid (eqb-true type 15 e') (ltb-false len 8 z') (ltb-false (length rest) 8 z) (items Properties read (spot_at p d) (len - 8) (len - 8) (p + 16) (drop 8 rest))
                (subst (λ bs. Given (AllIn Properties room (p + 16) (len - 8)) (items Properties read (spot_at p d) (len - 8) (len - 8) (p + 16) bs)) (sym (sixteen_on bytes p))
                (items_laid room read sized sound (spot_at p d) Properties (len - 8) (len - 8) (p + 16) (omega arith)))
                (items_sized read sized (spot_at p d) Properties (len - 8) (len - 8) (p + 16) (drop 8 rest))
        by false false e e' =
            leaf_laid (leaf_body len type (spot_at p d) rest)
            (subst (λ bs. Given (Says bytes (p + 8) len (spot_at p d) type) (leaf_body len type (spot_at p d) bs)) (sym (eight_on bytes p)) (leaf_says bytes (p + 8) len (spot_at p d) type))
            (leaf_fits rest (spot_at p d) len type)

  pub pod_laid : (room d p : ℕ) → Given (PodLaid room p) (pod room d p (drop p bytes))
  unfolding pod
  pod_laid zero d p = tt
  pod_laid (suc room) d p =
      given_if (PodLaid (suc room) p) (ltb (length (drop p bytes)) 8) _ _ _
      (λ e. body_laid room d p (pod room (suc d)) (pod_sized room (suc d)) (λ at. pod_laid room (suc d) at) (ltb-false _ 8 e))

-- ---- what is laid out is read so

pub total_eight : (t : Tree) → 8 ≤ total t
total_eight (leaf l size) = omega arith
total_eight (struct f) = omega arith
total_eight (object type id f) = omega arith

past_eight : (h : Holds) (t : Tree) → 8 ≤ past h (total t)
past_eight Fields t = total_eight t
past_eight Properties t = omega arith

-- it is all there
pub laid_there : (bytes : List ℕ) (t : Tree) (p : ℕ) → Laid bytes t p → p + total t ≤ length bytes
laid_there bytes (leaf l size) p h = omega (arith, h.0.there)
laid_there bytes (struct f) p h = omega (arith, h.0.there)
laid_there bytes (object type id f) p h = omega (arith, h.0.there)

items_none : (h : Holds) (read : Reader) (spot : Spot) (turns left at : ℕ) (bs : List ℕ) → left ≡ 0 → items h read spot turns left at bs ≡ gave none 0
unfolding items
items_none h read spot zero left at bs e = refl
items_none h read spot (suc turns) zero at bs e = refl
items_none h read spot (suc turns) (suc l) at bs e = absurd (omega arith)

items_first : (h : Holds) (read : Reader) (spot : Spot) (turns left at : ℕ) (bs : List ℕ) → 0 < left → left ≤ turns → items h read spot turns left at bs ≡ fitted spot left (item_read h read spot at bs) (λ u. items h read spot (turns - 1) (left - u) (at + u) (drop u bs))
unfolding items
items_first h read spot turns zero at bs pos le = absurd (not-suc-le-zero pos)
items_first h read spot zero (suc l) at bs pos le = absurd (not-suc-le-zero le)
items_first h read spot (suc turns) (suc l) at bs pos le =
    ap (λ m. fitted spot (suc l) (item_read h read spot at bs) (λ u. items h read spot m (suc l - u) (at + u) (drop u bs))) (omega arith)

-- the type of a leaf is no container's
no_kind : (k : Kind) (read : Reader) (len : ℕ) (spot : Spot) (rest : List ℕ) → body read len (type_of k) spot rest ≡ leaf_tree (leaf_body len (type_of k) spot rest)
no_kind None read len spot rest = refl
no_kind BoolKind read len spot rest = refl
no_kind Id read len spot rest = refl
no_kind Int read len spot rest = refl
no_kind Long read len spot rest = refl
no_kind Float read len spot rest = refl
no_kind Double read len spot rest = refl
no_kind Rectangle read len spot rest = refl
no_kind Fraction read len spot rest = refl
no_kind Fd read len spot rest = refl

no_container : (l : Leaf) (read : Reader) (len : ℕ) (spot : Spot) (rest : List ℕ) → body read len (leaf_type l) spot rest ≡ leaf_tree (leaf_body len (leaf_type l) spot rest)
no_container (fixed k w) read len spot rest = no_kind k read len spot rest
no_container (text part) read len spot rest = refl
no_container (raw part) read len spot rest = refl
no_container (array k words) read len spot rest = refl
no_container (choice c flags k words) read len spot rest = refl
no_container (pointer type word) read len spot rest = refl

module _ (bytes : List ℕ) where
  -- a field or property whose pod is read
  item_read_lem : (h : Holds) (read : Reader) (spot : Spot) (at key flags : ℕ) (t : Tree) → Named bytes h at key flags → past h at + total t ≤ length bytes → read (past h at) (drop (past h at) bytes) ≡ gave t (total t) → item_read h read spot at (drop at bytes) ≡ gave (item key flags t) (past h (total t))
  item_read_lem Fields read spot at key flags t n there e = rw (e, n.0, n.1)
  item_read_lem Properties read spot at key flags t n there e =
      rw (le-ltb (length (drop at bytes)) 8 (omega (arith, length-drop at bytes, total_eight t)), eight_on bytes at, e, little_front 4 at bytes, little_drop 4 at 4 bytes, n.0, n.1)

  module _ (room d p : ℕ) (there : 8 ≤ length (drop p bytes)) where
    by_type : (t : ℕ) → little 4 (p + 4) bytes ≡ t → pod (suc room) d p (drop p bytes) ≡ after 8 (body (pod room (suc d)) (little 4 p bytes) t (spot_at p d) (drop (p + 8) bytes))
    unfolding pod
    by_type t e = rw (le-ltb (length (drop p bytes)) 8 there, little_front 4 p bytes, little_drop 4 p 4 bytes, e, eight_on bytes p)

  sixteen : (p : ℕ) → drop 8 (drop (p + 8) bytes) ≡ drop (p + 16) bytes
  sixteen p = drop-drop 8 (p + 8) bytes ∙ ap (λ n. drop n bytes) (omega arith)

  mutual
    pub pod_read_lem : (t : Tree) (room d p : ℕ) → Laid bytes t p → deep t ≤ room → pod room d p (drop p bytes) ≡ gave t (total t)
    pod_read_lem (leaf l size) zero d p h le = absurd (not-suc-le-zero le)
    pod_read_lem (leaf l size) (suc room) d p h le =
        by_type room d p (omega (arith, h.0.there, length-drop p bytes)) (leaf_type l) h.0.type_is
        ∙ ap (after 8) (no_container l (pod room (suc d)) (little 4 p bytes) (spot_at p d) (drop (p + 8) bytes) ∙ ap leaf_tree (leaf_read bytes (p + 8) (little 4 p bytes) (spot_at p d) size (omega (arith, h.0.there, length-drop (p + 8) bytes)) l h.1))
    pod_read_lem (struct f) zero d p h le = absurd (not-suc-le-zero le)
    pod_read_lem (struct f) (suc room) d p h le =
        by_type room d p (omega (arith, h.0.there, length-drop p bytes)) 14 h.0.type_is
        ∙ ap (λ o. after 8 (mapped struct o)) (items_read Fields f room (suc d) (spot_at p d) (little 4 p bytes) (little 4 p bytes) (p + 8) h.1 (omega arith) h.2 (omega (arith, le)))
    pod_read_lem (object type id f) zero d p h le = absurd (not-suc-le-zero le)
    pod_read_lem (object type id f) (suc room) d p h le =
        let len : ℕ = little 4 p bytes in
        let all = items_read Properties f room (suc d) (spot_at p d) (len - 8) (len - 8) (p + 16) (omega (arith, h.1)) (omega arith) h.4 (omega (arith, le)) in
        let more_is : totals Properties f + 8 + 8 ≡ totals Properties f + 16 = omega arith in
        let id_is : little 4 4 (drop (p + 8) bytes) ≡ id = little_drop 4 (p + 8) 4 bytes ∙ ap (λ n. little 4 n bytes) (omega arith) ∙ h.3 in
        by_type room d p (omega (arith, h.0.there, length-drop p bytes)) 15 h.0.type_is
        ∙ rw (le-ltb (length (drop (p + 8) bytes)) 8 (omega (arith, h.0.there, length-drop (p + 8) bytes)), le-ltb len 8 (omega (arith, h.1)), little_front 4 (p + 8) bytes, h.2, id_is, sixteen p, all, more_is)

    pub items_read : (h : Holds) (f : Forest) (room d : ℕ) (spot : Spot) (turns left at : ℕ) → left ≡ totals h f → left ≤ turns → AllLaid bytes h f at → deepest f ≤ room → items h (pod room d) spot turns left at (drop at bytes) ≡ gave f (totals h f)
    items_read h none room d spot turns left at e le a deep_le = items_none h (pod room d) spot turns left at (drop at bytes) e
    items_read h (more key flags t f) room d spot turns left at e le a deep_le =
        let used : ℕ = past h (total t) in
        let eight = past_eight h t in
        let one = pod_read_lem t room d (past h at) a.1 (omega (arith, deep_le)) in
        let others = items_read h f room d spot (turns - 1) (left - used) (at + used) (omega arith) (omega arith) a.2 (omega (arith, deep_le)) in
        items_first h (pod room d) spot turns left at (drop at bytes) (omega arith) le
        ∙ ap (λ o. fitted spot left o (λ u. items h (pod room d) spot (turns - 1) (left - u) (at + u) (drop u (drop at bytes)))) (item_read_lem h (pod room d) spot at key flags t a.0 (laid_there bytes t (past h at) a.1) one)
        ∙ rw (le-ltb left used (omega arith), drop-drop used at bytes, others)
