-- Where a value's word is laid in bytes, the tree with that word is laid out in them. Assumes nothing.
use Rattle.std.proofs.Common.{◌≡◌, ℕ, zero, suc, ◌+◌, ◌-◌, ◌*◌, ◌/◌, ◌<◌, ◌≤◌, ◌⊎◌, List, length, get_or, set, sym, refl, ap, ◌∙◌, subst, inl, inr, ⊎_elim, arith, length-set}
use Rattle.std.proofs.lemmas.List.{get_or-set_same, get_or-set_other}
use Rattle.std.proofs.lemmas.Bool.{cases_lt, cases_order}
use Rattle.words.specs.Words.{little, padded}
use Rattle.words.proofs.Places.{little_same}
use Rattle.kinds.specs.declared.kind.Kind.{Kind}
use Rattle.kinds.specs.Kinds.{size_of, said}
use Rattle.pods.specs.declared.choices.ChoiceType.{ChoiceType}
use Rattle.pods.specs.declared.holding.Holds.{Holds}
use Rattle.pods.specs.declared.holding.Holds.TheVariants.{Fields, Properties}
use Rattle.pods.specs.declared.rows.Row.{Row}
use Rattle.pods.specs.Choices.{flags_kept}
use Rattle.pods.specs.Trees.{Tree, Forest, Leaf, fixed, text, raw, array, choice, pointer, leaf, struct, object, none, more, past, total, totals, count, counts}
use Rattle.pods.specs.Rows.{Above, leaf_type, locked_of, rows, rows_of}
use Rattle.format.specs.Layout.{word_at, Values, FixedLaid, ArrayCounted, ArrayLaid, ChoiceLaid, BodyLaid, Header, declared, Named, Laid, AllLaid}
use Rattle.format.specs.Places.{row_at}
use Rattle.format.proofs.Ahead.{value_end, past_both, past_from, named_same, laid_same, all_same}
use Rattle.format.proofs.Chains.{under}
use Rattle.laying.specs.Elements.{element_place, Settable}
use Rattle.laying.specs.Values.{set_leaf, set_in, set_of}
use Rattle.laying.proofs.Pods.{PodAt, row_first, row_more, pod_at, pod_in}
use Rattle.laying.proofs.Elements.{element_from, element_to, leaf_size, leaf_ahead, place_is}
use Rattle.laying.proofs.Apart.{row_low, row_high, row_sized}
use Rattle.laying.proofs.Slots.{Slot, leaf_slot, struct_valued, object_valued}
use Rattle.laying.proofs.Settings.{set_of_first, set_of_more, total_set, totals_set, type_set}

-- where an element that can be set stands among the rows of pods between two places
pub record Bounds (low high at size : ℕ) : Type 0 where
  pub from : low + 8 ≤ at
  pub to : at + size ≤ high

pub bounds : {bytes : List ℕ} {rs : List Row} {vs : List (List ℕ)} {low high i : ℕ} (e : ℕ) (k : Kind) → PodAt bytes rs vs low high i → Settable (row_at rs i) e k → Bounds low high (element_place (row_at rs i) e) (size_of k)
bounds {rs = rs} {i = i} e k q s =
    let r : Row = row_at rs i in
    record {
      from = omega (arith, row_low q, element_from r e);
      to = omega (arith, row_high q, element_to r e r.count s.there, row_sized k q s.kind_is);
    }

-- bytes that differ just where the word w of kind k was laid at a place
module _ (bytes bytes' : List ℕ) (long : length bytes' ≡ length bytes) (at : ℕ) (k : Kind) (w : ℕ)
    (outside : (x : ℕ) → (at ≤ x → x < at + size_of k → ⊥) → get_or bytes' x 0 ≡ get_or bytes x 0) (there : word_at k at bytes' ≡ w) where
  -- ---- what stands clear of it

  abbrev Beside : (low high : ℕ) → Type 0
  Beside low high = (high ≤ at) ⊎ (at + size_of k ≤ low)

  same_in : (low high : ℕ) → Beside low high → (x : ℕ) → low ≤ x → x < high → get_or bytes' x 0 ≡ get_or bytes x 0
  same_in low high (inl h) x from to = outside x (λ a b. omega arith)
  same_in low high (inr h) x from to = outside x (λ a b. omega arith)

  word_beside : (m p : ℕ) → Beside p (p + m) → little m p bytes' ≡ little m p bytes
  word_beside m p b = little_same m p bytes bytes' (same_in p (p + m) b)

  named_beside : (h : Holds) (p key flags : ℕ) → past h p ≤ length bytes → Beside p (past h p) → Named bytes h p key flags → Named bytes' h p key flags
  named_beside h p key flags le b n =
      named_same bytes bytes' p (past h p) (same_in p (past h p) b) (omega (arith, long)) h p key flags (omega arith) (omega arith) n

  tree_beside : (t : Tree) (p : ℕ) → p + total t ≤ length bytes → Beside p (p + total t) → Laid bytes t p → Laid bytes' t p
  tree_beside t p le b h =
      laid_same bytes bytes' p (p + total t) (same_in p (p + total t) b) (omega (arith, long)) t p (omega arith) (omega arith) h

  forest_beside : (h : Holds) (f : Forest) (p : ℕ) → p + totals h f ≤ length bytes → Beside p (p + totals h f) → AllLaid bytes h f p → AllLaid bytes' h f p
  forest_beside h f p le b a =
      all_same bytes bytes' p (p + totals h f) (same_in p (p + totals h f) b) (omega (arith, long)) h f p (omega arith) (omega arith) a

  -- ---- bodies

  -- values of which one was laid
  values_relaid : (b e : ℕ) (ws : List ℕ) → e < length ws → b + e * size_of k ≡ at → Values bytes k b ws → Values bytes' k b (set ws e w)
  values_relaid b e ws less place v i l =
      let l' : i < length ws = omega (arith, length-set ws e w) in
      ⊎_elim
      (λ same.
      ap (λ x. get_or (set ws e w) x 0) same ∙ get_or-set_same ws e w 0 less ∙ sym there
      ∙ ap (λ x. word_at k x bytes') (sym place ∙ ap (λ x. b + x * size_of k) (sym same)))
      (λ other. get_or-set_other ws e i w 0 (λ same. ⊎_elim (λ x. omega arith) (λ x. omega arith) other) ∙ v i l'
      ∙ ap (said k) (sym (word_beside (size_of k) (b + i * size_of k) (⊎_elim
      (λ before. inl (omega (arith, value_end i e (size_of k) before)))
      (λ after. inr (omega (arith, value_end e i (size_of k) after))) other))))
      (cases_order i e)

  module _ (b len size e : ℕ) where
    fixed_relaid : (old : ℕ) → b ≡ at → FixedLaid bytes b k old size → FixedLaid bytes' b k w size
    fixed_relaid old place h = record { word_is = sym there ∙ ap (λ x. word_at k x bytes') (sym place); size_is = h.size_is }

    array_relaid : (ws : List ℕ) → e < length ws → b + 8 + e * size_of k ≡ at → ArrayLaid bytes b len k ws size → ArrayLaid bytes' b len k (set ws e w) size
    array_relaid ws less place h =
        let same = sym (length-set ws e w) in
        record {
          child_size = word_beside 4 b (inl (omega arith)) ∙ h.child_size;
          child_type = word_beside 4 (b + 4) (inl (omega arith)) ∙ h.child_type;
          counted = subst (ArrayCounted (size_of k) len) same h.counted;
          values = values_relaid (b + 8) e ws less place h.values;
          size_is = h.size_is ∙ ap (λ n. padded (n * size_of k) + 8) same;
        }

    choice_relaid : (c : ChoiceType) (flags : ℕ) (ws : List ℕ) → e < length ws → b + 16 + e * size_of k ≡ at → ChoiceLaid bytes b len c flags k ws size → ChoiceLaid bytes' b len c flags k (set ws e w) size
    choice_relaid c flags ws less place h =
        let child = word_beside 4 (b + 8) (inl (omega arith)) in
        record {
          n = h.n;
          type_is = word_beside 4 b (inl (omega arith)) ∙ h.type_is;
          flags_are = h.flags_are ∙ ap (flags_kept c) (sym (word_beside 4 (b + 4) (inl (omega arith))));
          child_some = λ z. h.child_some (sym child ∙ z);
          child_type = word_beside 4 (b + 12) (inl (omega arith)) ∙ h.child_type;
          kind_some = h.kind_some;
          long = h.long;
          counted = h.counted ∙ ap (λ m. (len - 16) / m) (sym child);
          enough = h.enough;
          used = length-set ws e w ∙ h.used;
          values = values_relaid (b + 16) e ws less place h.values;
          size_is = h.size_is;
        }

    body_relaid : (l : Leaf) → Slot l e k → b + leaf_ahead l + e * leaf_size l ≡ at → BodyLaid bytes b len l size → BodyLaid bytes' b len (set_leaf l e w) size
    body_relaid (fixed kind old) s place h =
        let first : e * size_of kind ≡ 0 * size_of kind = ap (λ x. x * size_of kind) s.1 in
        subst (λ x. FixedLaid bytes b x old size → FixedLaid bytes' b x w size) (sym s.0) (fixed_relaid old (omega arith)) h
    body_relaid (text part) s place h = absurd s
    body_relaid (raw part) s place h = absurd s
    body_relaid (array kind ws) s place h =
        subst (λ x. b + 8 + e * size_of x ≡ at → ArrayLaid bytes b len x ws size → ArrayLaid bytes' b len x (set ws e w) size) (sym s.0) (array_relaid ws s.1) place h
    body_relaid (choice c flags kind ws) s place h =
        subst (λ x. b + 16 + e * size_of x ≡ at → ChoiceLaid bytes b len c flags x ws size → ChoiceLaid bytes' b len c flags x (set ws e w) size) (sym s.0) (choice_relaid c flags ws s.1) place h
    body_relaid (pointer type word) s place h = absurd s

  -- ---- pods

  header_relaid : (p type size size' : ℕ) → p + 8 ≤ at → size' ≡ size → Header bytes p type size → Header bytes' p type size'
  header_relaid p type size size' le same h =
      record { there = omega (arith, h.there, long); type_is = word_beside 4 (p + 4) (inl (omega arith)) ∙ h.type_is }

  mutual
    pub relaid : (t : Tree) (a : Above) (i e : ℕ) → i < count t → Settable (row_at (rows t a) i) e k → element_place (row_at (rows t a) i) e ≡ at → Laid bytes t a.place → Laid bytes' (set_in t i e w) a.place
    relaid (leaf l size) a zero e lt s place h =
        let p : ℕ = a.place in
        let at_is : p + 8 + leaf_ahead l + e * leaf_size l ≡ at = sym (place_is a (size + 8) l e) ∙ place in (
          subst (λ n. Header bytes' p n size) (sym (type_set l e w)) (header_relaid p (leaf_type l) size size (omega arith) refl h.0),
          subst (λ n. BodyLaid bytes' (p + 8) n (set_leaf l e w) size) (sym (word_beside 4 p (inl (omega arith))))
              (body_relaid (p + 8) (declared bytes p) size e l (leaf_slot a (size + 8) k l e s) at_is h.1),
        )
    relaid (leaf l size) a (suc i) e lt s place h = absurd (omega arith)
    relaid (struct f) a zero e lt s place h = absurd (struct_valued k s.kind_is)
    relaid (struct f) a (suc i) e lt s place h =
        let p : ℕ = a.place in
        let same = totals_set Fields f i e w in
        let far = (bounds e k (pod_in bytes Fields f (p + 8) (a.index + 1) (a.index + 1) (locked_of a) i (omega arith) h.2) s).from in (
          header_relaid p 14 (totals Fields f) _ (omega arith) same h.0,
          word_beside 4 p (inl (omega arith)) ∙ h.1 ∙ sym same,
          all_relaid Fields f (p + 8) (a.index + 1) (a.index + 1) (locked_of a) i e (omega arith) s place (omega (arith, h.0.there)) h.2,
        )
    relaid (object type id f) a zero e lt s place h = absurd (object_valued k s.kind_is)
    relaid (object type id f) a (suc i) e lt s place h =
        let p : ℕ = a.place in
        let same = totals_set Properties f i e w in
        let far = (bounds e k (pod_in bytes Properties f (p + 16) (a.index + 1) (a.index + 1) (locked_of a) i (omega arith) h.4) s).from in (
          header_relaid p 15 (totals Properties f + 8) _ (omega arith) (ap (λ n. n + 8) same) h.0,
          word_beside 4 p (inl (omega arith)) ∙ h.1 ∙ ap (λ n. n + 8) (sym same),
          word_beside 4 (p + 8) (inl (omega arith)) ∙ h.2,
          word_beside 4 (p + 12) (inl (omega arith)) ∙ h.3,
          all_relaid Properties f (p + 16) (a.index + 1) (a.index + 1) (locked_of a) i e (omega arith) s place (omega (arith, h.0.there)) h.4,
        )

    pub all_relaid : (h : Holds) (f : Forest) (p index parent locked i e : ℕ) → i < counts f → Settable (row_at (rows_of h f p index parent locked) i) e k → element_place (row_at (rows_of h f p index parent locked) i) e ≡ at
        → p + totals h f ≤ length bytes → AllLaid bytes h f p → AllLaid bytes' h (set_of f i e w) p
    all_relaid h none p index parent locked i e lt s place le a = tt
    all_relaid h (more key flags t f) p index parent locked i e lt s place le a =
        let after = past_from h p in
        let both = past_both h p (total t) in
        ⊎_elim
        (λ less.
        let same = row_first h key flags t f p index parent locked i less in
        let s' = subst (λ r. Settable r e k) same s in
        let place' : element_place (row_at (rows t (under h key flags p index parent locked)) i) e ≡ at = ap (λ r. element_place r e) (sym same) ∙ place in
        let b = bounds e k (pod_at bytes t (under h key flags p index parent locked) i less a.1) s' in
        let from = b.from in
        let to = b.to in
        subst (λ g. AllLaid bytes' h g p) (sym (set_of_first key flags t f i e w less)) (
          named_beside h p key flags (omega arith) (inl (omega arith)) a.0,
          relaid t (under h key flags p index parent locked) i e less s' place' a.1,
          subst (λ n. AllLaid bytes' h f (p + past h n)) (sym (total_set t i e w))
              (forest_beside h f (p + past h (total t)) (omega arith) (inr (omega arith)) a.2),
        ))
        (λ past_it.
        let same = row_more h key flags t f p index parent locked i past_it in
        let s' = subst (λ r. Settable r e k) same s in
        let place' : element_place (row_at (rows_of h f (p + past h (total t)) (index + count t) parent locked) (i - count t)) e ≡ at = ap (λ r. element_place r e) (sym same) ∙ place in
        let from = (bounds e k (pod_in bytes h f (p + past h (total t)) (index + count t) parent locked (i - count t) (omega arith) a.2) s').from in
        subst (λ g. AllLaid bytes' h g p) (sym (set_of_more key flags t f i e w past_it)) (
          named_beside h p key flags (omega arith) (inl (omega arith)) a.0,
          tree_beside t (past h p) (omega arith) (inl (omega arith)) a.1,
          all_relaid h f (p + past h (total t)) (index + count t) parent locked (i - count t) e (omega arith) s' place' (omega arith) a.2,
        ))
        (cases_lt i (count t))
