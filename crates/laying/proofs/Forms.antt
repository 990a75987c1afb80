-- What the rows of an accepted cue are like. Assumes nothing.
use Rattle.std.proofs.Common.{◌≡◌, ℕ, zero, suc, ◌+◌, ◌-◌, ◌*◌, ◌^◌, ◌<◌, ◌≤◌, eqb, ◌⊎◌, List, length, get_or, sym, refl, subst, inl, inr, ⊎_elim, not-suc-le-zero, arith}
use Rattle.std.proofs.lemmas.Bool.{cases_lt, cond_both}
use Rattle.words.specs.Words.{little}
use Rattle.words.proofs.Places.{little_below}
use Rattle.kinds.specs.declared.kind.Kind.{Kind}
use Rattle.kinds.specs.declared.kind.Kind.TheVariants.{None, Bool as BoolKind, Id, Int, Long, Float, Double, Rectangle, Fraction, Fd}
use Rattle.kinds.specs.Kinds.{size_of, said}
use Rattle.pods.specs.declared.choices.ChoiceType.{ChoiceType}
use Rattle.pods.specs.declared.choices.ChoiceType.TheVariants.{None as NoChoice, Range, Step, Enum, Flags}
use Rattle.pods.specs.declared.holding.Holds.{Holds}
use Rattle.pods.specs.declared.holding.Holds.TheVariants.{Fields, Properties}
use Rattle.pods.specs.declared.rows.Row.{Row}
use Rattle.pods.specs.Choices.{choice_number, needed, used_of, flags_kept}
use Rattle.pods.specs.Trees.{Tree, Forest, Leaf, fixed, text, raw, array, choice, pointer, leaf, struct, object, none, more, past, total, count, counts}
use Rattle.pods.specs.Rows.{Above, leaf_row, locked_of, rows, rows_of, top}
use Rattle.pods.proofs.Counted.{rows_count}
use Rattle.format.specs.Layout.{word_at, Named, ArrayCounted, BodyLaid, Laid, AllLaid}
use Rattle.format.specs.Places.{row_at}
use Rattle.format.proofs.Chains.{under, root, root_place, root_total}
use Rattle.laying.specs.Elements.{element_place, IsWord}
use Rattle.laying.specs.Laws.{Bytes, Form, RowsFit}
use Rattle.laying.specs.Laws as law
use Rattle.laying.proofs.Pods.{row_first, row_more}
use Rattle.laying.proofs.Elements.{root_ends}
use Rattle.laying.proofs.Accepted.{accepted, pod_of_lem}

-- ---- words

-- what is said of a number is a word of the kind
word_from : (k : Kind) (n : ℕ) → n < 256 ^ size_of k → IsWord k (said k n)
word_from None n h = (h, refl)
word_from BoolKind n h = cond_both (eqb n 0) 0 1 (IsWord BoolKind) (λ _. (omega arith, refl)) (λ _. (omega arith, refl))
word_from Id n h = (h, refl)
word_from Int n h = (h, refl)
word_from Long n h = (h, refl)
word_from Float n h = (h, refl)
word_from Double n h = (h, refl)
word_from Rectangle n h = (h, refl)
word_from Fraction n h = (h, refl)
word_from Fd n h = (h, refl)

pub word_at_lem : (bytes : List ℕ) → Bytes bytes → (k : Kind) (p : ℕ) → IsWord k (word_at k p bytes)
word_at_lem bytes small k p = word_from k (little (size_of k) p bytes) (little_below (size_of k) p bytes small)

-- 64 bits are enough for any
pub word_wide : (k : Kind) (w : ℕ) → w < 256 ^ size_of k → w < 2 ^ 64
word_wide None w h = omega arith
word_wide BoolKind w h = omega arith
word_wide Id w h = omega arith
word_wide Int w h = omega arith
word_wide Long w h = omega arith
word_wide Float w h = omega arith
word_wide Double w h = omega arith
word_wide Rectangle w h = omega arith
word_wide Fraction w h = omega arith
word_wide Fd w h = omega arith

-- ---- one row by its pod

bare : {s len n : ℕ} → ArrayCounted s len n → s ≡ 0 → n ≡ 0
bare (inl (z, e)) h = e
bare (inr c) h = absurd (c.0 h)

-- at least as many values are used as are needed
used_needed : (c : ChoiceType) (n : ℕ) → needed c ≤ n → needed c ≤ used_of c n
used_needed NoChoice n h = omega arith
used_needed Range n h = omega arith
used_needed Step n h = omega arith
used_needed Enum n h = h
used_needed Flags n h = h

needed_some : (c : ChoiceType) → 0 < needed c
needed_some NoChoice = omega arith
needed_some Range = omega arith
needed_some Step = omega arith
needed_some Enum = omega arith
needed_some Flags = omega arith

choice_small : (c : ChoiceType) → choice_number c < 2 ^ 32
choice_small NoChoice = omega arith
choice_small Range = omega arith
choice_small Step = omega arith
choice_small Enum = omega arith
choice_small Flags = omega arith

flags_small : (c : ChoiceType) (f : ℕ) → f < 2 ^ 32 → flags_kept c f < 2 ^ 32
flags_small NoChoice f h = omega arith
flags_small Range f h = h
flags_small Step f h = h
flags_small Enum f h = h
flags_small Flags f h = h

-- fields that a row has from its pod
abbrev pub Narrow : Row → Type 0
Narrow r = (r.side < 2 ^ 32) × (r.bits < 2 ^ 32) × (r.word < 2 ^ 64)

-- and from what is around it
record Around (index parent key flags locked : ℕ) : Type 0 where
  parent_is : parent ≤ index
  key_is : key < 2 ^ 32
  flags_are : flags < 2 ^ 32
  locked_is : locked ≤ 1

abbrev Inside : ℕ → Row → Type 0
Inside i r = Around i r.parent r.key r.flags r.locked

module _ (bytes : List ℕ) (small : Bytes bytes) where
  half_small : (p : ℕ) → little 4 p bytes < 2 ^ 32
  half_small p = little_below 4 p bytes small

  -- a choice has at least one value, its default
  module _ (b len : ℕ) (c : ChoiceType) (flags : ℕ) (k : Kind) (ws : List ℕ) (size : ℕ) (h : BodyLaid bytes b len (choice c flags k ws) size) where
    pub choice_some : needed c ≤ length ws
    choice_some = omega (arith, used_needed c h.n h.enough, h.used)

    default_word : IsWord k (get_or ws 0 0)
    default_word =
        subst (IsWord k) (sym (h.values 0 (omega (arith, choice_some, needed_some c)))) (word_at_lem bytes small k (b + 16 + 0 * size_of k))

  leaf_form : (a : Above) (b len size : ℕ) (l : Leaf) → BodyLaid bytes b len l size → Form (leaf_row a l (size + 8))
  leaf_form a b len size (fixed k w) h = law.fixed k refl refl refl (subst (IsWord k) (sym h.word_is) (word_at_lem bytes small k b))
  leaf_form a b len size (text part) h = law.text refl refl refl
  leaf_form a b len size (raw part) h = law.raw refl refl refl
  leaf_form a b len size (array k ws) h = law.array k refl refl (bare h.counted) refl
  leaf_form a b len size (choice c flags k ws) h =
      law.choice c k refl refl h.kind_some refl (choice_some b len c flags k ws size h) (default_word b len c flags k ws size h)
  leaf_form a b len size (pointer type w) h = law.pointer refl refl refl

  root_form : (t : Tree) (a : Above) → Laid bytes t a.place → Form (root t a)
  root_form (leaf l size) a h = leaf_form a (a.place + 8) _ size l h.1
  root_form (struct f) a h = law.struct refl refl refl refl
  root_form (object type id f) a h = law.object refl refl refl

  pub leaf_narrow : (a : Above) (b len size : ℕ) (l : Leaf) → BodyLaid bytes b len l size → Narrow (leaf_row a l (size + 8))
  leaf_narrow a b len size (fixed k w) h =
      (omega arith, omega arith, word_wide k w (subst (IsWord k) (sym h.word_is) (word_at_lem bytes small k b)).0)
  leaf_narrow a b len size (text part) h = (omega arith, omega arith, omega arith)
  leaf_narrow a b len size (raw part) h = (omega arith, omega arith, omega arith)
  leaf_narrow a b len size (array k ws) h = (omega arith, omega arith, omega arith)
  leaf_narrow a b len size (choice c flags k ws) h = (
    choice_small c,
    subst (λ n. n < 2 ^ 32) (sym h.flags_are) (flags_small c (little 4 (b + 4) bytes) (half_small (b + 4))),
    word_wide k (get_or ws 0 0) (default_word b len c flags k ws size h).0,
  )
  leaf_narrow a b len size (pointer type w) h = (subst (λ n. n < 2 ^ 32) h.type_is (half_small b), omega arith, by h.word_is)
    where
      by : ((len ≡ 16) × (w ≡ little 8 (b + 8) bytes)) ⊎ ((len ≡ 12) × (w ≡ little 4 (b + 8) bytes)) → w < 2 ^ 64
      by (inl (e, is)) = subst (λ n. n < 2 ^ 64) (sym is) (little_below 8 (b + 8) bytes small)
      by (inr (e, is)) = let less = half_small (b + 8) in omega arith

  pub root_narrow : (t : Tree) (a : Above) → Laid bytes t a.place → Narrow (root t a)
  root_narrow (leaf l size) a h = leaf_narrow a (a.place + 8) _ size l h.1
  root_narrow (struct f) a h = (omega arith, omega arith, omega arith)
  root_narrow (object type id f) a h =
      let low = half_small (a.place + 8) in
      let high = half_small (a.place + 12) in
      (omega arith, omega arith, omega (arith, h.2, h.3))

  -- ---- fields that come from around the pod

  named : (h : Holds) (at key flags : ℕ) → Named bytes h at key flags → (key < 2 ^ 32) × (flags < 2 ^ 32)
  named Fields at key flags n = (omega (arith, n.0), omega (arith, n.1))
  named Properties at key flags n = (subst (λ x. x < 2 ^ 32) n.0 (half_small at), subst (λ x. x < 2 ^ 32) n.1 (half_small (at + 4)))

  -- of the pod itself
  own : (a : Above) → Around a.index a.parent a.key a.flags a.held → Around a.index a.parent a.key a.flags (locked_of a)
  own a h = record { parent_is = h.parent_is; key_is = h.key_is; flags_are = h.flags_are; locked_is = omega (arith, h.locked_is) }

  mutual
    inside : (t : Tree) (a : Above) (i : ℕ) → i < count t → Around a.index a.parent a.key a.flags a.held → Laid bytes t a.place → Inside (a.index + i) (row_at (rows t a) i)
    inside (leaf l size) a zero lt h laid = subst (λ n. Around n a.parent a.key a.flags (locked_of a)) (omega arith) (own a h)
    inside (leaf l size) a (suc i) lt h laid = absurd (omega arith)
    inside (struct f) a zero lt h laid = subst (λ n. Around n a.parent a.key a.flags (locked_of a)) (omega arith) (own a h)
    inside (struct f) a (suc i) lt h laid =
        subst (λ n. Inside n (row_at (rows (struct f) a) (suc i))) (omega arith)
        (inside_in Fields f (a.place + 8) (a.index + 1) (a.index + 1) (locked_of a) i (omega arith) (omega arith) (own a h).locked_is laid.2)
    inside (object type id f) a zero lt h laid = subst (λ n. Around n a.parent a.key a.flags (locked_of a)) (omega arith) (own a h)
    inside (object type id f) a (suc i) lt h laid =
        subst (λ n. Inside n (row_at (rows (object type id f) a) (suc i))) (omega arith)
        (inside_in Properties f (a.place + 16) (a.index + 1) (a.index + 1) (locked_of a) i (omega arith) (omega arith) (own a h).locked_is laid.4)

    inside_in : (h : Holds) (f : Forest) (at index parent locked i : ℕ) → i < counts f → parent ≤ index → locked ≤ 1 → AllLaid bytes h f at → Inside (index + i) (row_at (rows_of h f at index parent locked) i)
    inside_in h none at index parent locked i lt le one laid = absurd (not-suc-le-zero lt)
    inside_in h (more key flags t f) at index parent locked i lt le one laid =
        let n = named h at key flags laid.0 in
        ⊎_elim
        (λ less. rw (row_first h key flags t f at index parent locked i less)
        (inside t (under h key flags at index parent locked) i less (record { parent_is = le; key_is = n.0; flags_are = n.1; locked_is = one }) laid.1))
        (λ past_it. rw (row_more h key flags t f at index parent locked i past_it)
        (subst (λ m. Inside m (row_at (rows_of h f (at + past h (total t)) (index + count t) parent locked) (i - count t))) (omega arith)
        (inside_in h f (at + past h (total t)) (index + count t) parent locked (i - count t) (omega arith) (omega arith) one laid.2)))
        (cases_lt i (count t))

pub rows_fit : RowsFit
rows_fit bytes small t used e =
    let a = accepted bytes t used e in
    record {
      short = a.short;
      within = a.within;
      few = omega (arith, a.few, rows_count t top);
      row = λ i lt.
          (let q = pod_of_lem bytes t used a i lt in
          let place = root_place q.pod q.above in
          let total_is = root_total q.pod q.above in
          let n = subst (Narrow) (sym q.row_is) (root_narrow bytes small q.pod q.above q.laid) in
          let r = inside bytes small t top i (omega (arith, rows_count t top)) (record { parent_is = omega arith; key_is = omega arith; flags_are = omega arith; locked_is = omega arith }) a.laid in
          record {
            form = subst Form (sym q.row_is) (root_form bytes small q.pod q.above q.laid);
            there = subst (λ r. r.place + r.total ≤ used) (sym q.row_is) (omega (arith, q.to));
            elements = subst (λ r. element_place r r.count ≤ r.place + r.total) (sym q.row_is) (omega (arith, root_ends bytes q.pod q.above q.laid));
            parent = omega (arith, r.parent_is);
            locked = r.locked_is;
            key = r.key_is;
            flags = r.flags_are;
            side = n.0;
            bits = n.1;
            word = n.2;
          });
    }
