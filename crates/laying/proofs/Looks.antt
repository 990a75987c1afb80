-- Looks answer what the tree says, in words that fit. Assumes nothing.
use Rattle.std.proofs.Common.{◌≡◌, ℕ, ◌+◌, ◌*◌, ◌^◌, ◌<◌, List, [], ◌∷◌, length, get_or, Some, sym, ap, ◌∙◌, subst, arith}
use Rattle.kinds.specs.declared.kind.Kind.{Kind}
use Rattle.kinds.specs.Kinds.{size_of}
use Rattle.pods.specs.Trees.{Tree, Leaf, fixed, text, raw, array, choice, pointer, leaf, struct, object}
use Rattle.pods.specs.Rows.{Above, leaf_count}
use Rattle.format.specs.Layout.{Values, BodyLaid, Laid}
use Rattle.format.proofs.Chains.{root}
use Rattle.laying.specs.Elements.{look, settable_kind, IsWord}
use Rattle.laying.specs.Values.{leaf_values, own_values}
use Rattle.laying.specs.Laws.{Bytes, LooksStand}
use Rattle.laying.proofs.Elements.{root_look}
use Rattle.laying.proofs.Slots.{Valued, leaf_valued, struct_valued, object_valued}
use Rattle.laying.proofs.Accepted.{accepted, pod_of_lem}
use Rattle.laying.proofs.Forms.{word_at_lem, word_wide, leaf_narrow, root_narrow}

module _ (bytes : List ℕ) (small : Bytes bytes) where
  -- a value that lies with others from place b on
  value_word_lem : (k : Kind) (b e : ℕ) (ws : List ℕ) → e < length ws → Values bytes k b ws → IsWord k (get_or ws e 0)
  value_word_lem k b e ws lt v = subst (IsWord k) (sym (v e lt)) (word_at_lem bytes small k (b + e * size_of k))

  leaf_word_lem : (b len size : ℕ) (l : Leaf) (e : ℕ) (k : Kind) → e < leaf_count l → Valued l k → BodyLaid bytes b len l size → IsWord k (get_or (leaf_values l) e 0)
  leaf_word_lem b len size (fixed kind w) e k lt v h =
      let first : e ≡ 0 = omega arith in
      subst (λ x. IsWord x (get_or (w ∷ []) e 0)) v (subst (λ x. IsWord kind (get_or (w ∷ []) x 0)) (sym first) (subst (IsWord kind) (sym h.word_is) (word_at_lem bytes small kind b)))
  leaf_word_lem b len size (text part) e k lt v h = absurd v
  leaf_word_lem b len size (raw part) e k lt v h = absurd v
  leaf_word_lem b len size (array kind ws) e k lt v h = subst (λ x. IsWord x (get_or ws e 0)) v (value_word_lem kind (b + 8) e ws lt h.values)
  leaf_word_lem b len size (choice c flags kind ws) e k lt v h = subst (λ x. IsWord x (get_or ws e 0)) v (value_word_lem kind (b + 16) e ws lt h.values)
  leaf_word_lem b len size (pointer type w) e k lt v h = absurd v

  root_word : (t : Tree) (a : Above) (e : ℕ) (k : Kind) → e < (root t a).count → settable_kind (root t a) ≡ Some k → Laid bytes t a.place → IsWord k (get_or (own_values t) e 0)
  root_word (leaf l size) a e k lt s h = leaf_word_lem (a.place + 8) _ size l e k lt (leaf_valued a (size + 8) k l s) h.1
  root_word (struct f) a e k lt s h = absurd (struct_valued k s)
  root_word (object type id f) a e k lt s h = absurd (object_valued k s)

  -- the one word of a pod
  one_wide : (w e : ℕ) → e < 1 → w < 2 ^ 64 → get_or (w ∷ []) e 0 < 2 ^ 64
  one_wide w e lt h = let first : e ≡ 0 = omega arith in subst (λ x. get_or (w ∷ []) x 0 < 2 ^ 64) (sym first) h

  leaf_wide : (a : Above) (b len size : ℕ) (l : Leaf) (e : ℕ) → e < leaf_count l → BodyLaid bytes b len l size → get_or (leaf_values l) e 0 < 2 ^ 64
  leaf_wide a b len size (fixed k w) e lt h = one_wide w e lt (leaf_narrow bytes small a b len size (fixed k w) h).2
  leaf_wide a b len size (text part) e lt h = let s = small (b + e) in omega (arith, h.stands e lt)
  leaf_wide a b len size (raw part) e lt h = let s = small (b + e) in omega (arith, h.stands e lt)
  leaf_wide a b len size (array k ws) e lt h = word_wide k (get_or ws e 0) (value_word_lem k (b + 8) e ws lt h.values).0
  leaf_wide a b len size (choice c flags k ws) e lt h = word_wide k (get_or ws e 0) (value_word_lem k (b + 16) e ws lt h.values).0
  leaf_wide a b len size (pointer type w) e lt h = one_wide w e lt (leaf_narrow bytes small a b len size (pointer type w) h).2

  root_wide : (t : Tree) (a : Above) (e : ℕ) → e < (root t a).count → Laid bytes t a.place → get_or (own_values t) e 0 < 2 ^ 64
  root_wide (leaf l size) a e lt h = leaf_wide a (a.place + 8) _ size l e lt h.1
  root_wide (struct f) a e lt h = one_wide 0 e lt (omega arith)
  root_wide (object type id f) a e lt h = one_wide (type + id * 2 ^ 32) e lt (root_narrow bytes small (object type id f) a h).2

pub looks_stand : LooksStand
looks_stand bytes t used says_so i e lt less =
    let q = pod_of_lem bytes t used (accepted bytes t used says_so) i lt in
    let less' : e < (root q.pod q.above).count = subst (λ r. e < r.count) q.row_is less in
    let value : get_or (own_values q.pod) e 0 ≡ get_or (get_or _ i []) e 0 = ap (λ vs. get_or vs e 0) (sym q.values_are) in
    record {
      answer = ap (λ r. look bytes r e) q.row_is ∙ root_look bytes q.pod q.above e less' q.laid ∙ value;
      wide = λ small. subst (λ w. w < 2 ^ 64) value (root_wide bytes small q.pod q.above e less' q.laid);
      word = λ small k s. subst (IsWord k) value (root_word bytes small q.pod q.above e k less' (ap settable_kind (sym q.row_is) ∙ s) q.laid);
    }
