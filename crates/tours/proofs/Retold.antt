-- The rows of a tree tell what the tree tells. Assumes nothing.
use Rattle.std.proofs.Common.{◌≡◌, ℕ, ◌+◌, ◌-◌, ◌*◌, ◌/◌, ◌^◌, ◌<◌, ◌≤◌, min, false, eqb, ltb, ◌⊎◌, List, [], ◌∷◌, ◌++◌, map, length, get_or, None as no_kind, sym, refl, ap, ◌∙◌, subst, inl, inr, mul-le-mul_right, add_comm, arith, length-drop}
use Rattle.std.proofs.lemmas.List.{append-nil, append_assoc, nil_from_length}
use Rattle.std.proofs.lemmas.Bool.{eq-eqb, ne_eqb, lt-ltb, cases_eq}
use Rattle.std.proofs.lemmas.Nat.{le-div, shr_high, mod_low}
use Rattle.words.proofs.Places.{little_below}
use Rattle.kinds.specs.declared.kind.Kind.{Kind}
use Rattle.kinds.specs.Kinds.{type_of, size_of, kind_of}
use Rattle.kinds.proofs.Types.{kind_of_type}
use Rattle.pods.specs.declared.holding.Holds.{Holds}
use Rattle.pods.specs.declared.holding.Holds.TheVariants.{Fields, Properties}
use Rattle.pods.specs.declared.rows.Row.{Row}
use Rattle.pods.specs.Trees.{Tree, Forest, Leaf, fixed, text, raw, array, choice, pointer, leaf, struct, object, none, more, past, total, totals, count, deep, deepest}
use Rattle.pods.specs.Rows.{Above, top, locked_of, leaf_row, open_row, rows, rows_of}
use Rattle.pods.specs.Pods.{pod, spot_at}
use Rattle.pods.specs.Survey.{says, rows_in}
use Rattle.pods.proofs.Sizes.{given_if}
use Rattle.format.specs.Layout.{Stand, Values, BodyLaid, ArrayCounted, Laid, AllLaid}
use Rattle.format.proofs.Values.{only_values, only_there}
use Rattle.format.proofs.Ahead.{used_le}
use Rattle.format.proofs.Trees.{PodLaid, pod_laid, total_eight}
use Rattle.format.proofs.Reading.{given_at}
use Rattle.tours.specs.declared.open.Frame.{Frame}
use Rattle.tours.specs.Told.{Thing, text_of, raw_of, element, end, content_of, elements_of, named, tells, tells_all}
use Rattle.tours.specs.Stack.{holding, charged, pushed}
use Rattle.tours.specs.RowsTold.{part, row_content, values_there, row_elements, behind, row_tells, rows_tell}
use Rattle.tours.specs.Alike.{RowsTellAlike}

-- ---- leaves

-- a number that stands for no kind is no kind's type
other_type : (k : Kind) (n : ℕ) → kind_of n ≡ no_kind → eqb (type_of k) n ≡ false
other_type k n e =
    ne_eqb (type_of k) n
    (λ same.
    let some = kind_of_type k in
    let back = ap kind_of same in
    let z : ◌≡◌ {A = ℕ} 0 1 = cc in
    omega arith)

-- an array of None has no values
array_bare : {s len n : ℕ} → ArrayCounted s len n → s ≡ 0 → n ≡ 0
array_bare (inl (z, e)) h = e
array_bare (inr c) h = absurd (c.0 h)

module _ (bytes : List ℕ) where
  -- values that are all there are all told
  values_told : (k : Kind) (from : ℕ) (words : List ℕ) → (size_of k ≡ 0 → length words ≡ 0) → from + length words * size_of k ≤ length bytes → Values bytes k from words → values_there k (length words) from bytes ≡ words
  values_told k from words bare there v = by (cases_eq (size_of k) 0)
    where
      by : (size_of k ≡ 0) ⊎ (size_of k ≡ 0 → ⊥) → values_there k (length words) from bytes ≡ words
      by (inl z) = rw (eq-eqb (size_of k) 0 z) (sym (nil_from_length words (bare z)))
      by (inr nz) =
          let few = le-div (length words) (length bytes - from) (size_of k) (omega (arith, nz)) (omega arith) in
          let all : min (length words) ((length bytes - from) / size_of k) ≡ length words = omega (arith, few) in
          rw (ne_eqb (size_of k) 0 nz, all) (only_values bytes k (length words) from words refl v)

  module _ (a : Above) (size len : ℕ) (there : a.place + 8 + size ≤ length bytes) where
    part_told : (t : List ℕ) → length t ≤ size → Stand bytes (a.place + 8) t → part (length t) (a.place + 8) bytes ≡ t
    part_told t few s =
        only_there bytes (a.place + 8) (length t) t (omega (arith, length-drop (a.place + 8) bytes)) refl s

    content_told : (l : Leaf) → BodyLaid bytes (a.place + 8) len l size → row_content bytes (leaf_row a l (size + 8)) ≡ content_of l
    unfolding kind_of
    content_told (fixed k w) b =
        rw (other_type k 8 refl, other_type k 9 refl, other_type k 13 refl, other_type k 14 refl, other_type k 15 refl, other_type k 17 refl, other_type k 19 refl)
    content_told (text t) b = ap text_of (part_told t (omega (arith, b.len_is, b.size_is)) b.stands)
    content_told (raw t) b = ap raw_of (part_told t (omega (arith, b.len_is, b.size_is)) b.stands)
    content_told (array k ws) b = refl
    content_told (choice c flags k ws) b = refl
    content_told (pointer type w) b = refl

    elements_told : (l : Leaf) → BodyLaid bytes (a.place + 8) len l size → row_elements bytes (leaf_row a l (size + 8)) ≡ elements_of l
    unfolding kind_of
    elements_told (fixed k w) b = rw (other_type k 13 refl, other_type k 19 refl)
    elements_told (text t) b = refl
    elements_told (raw t) b = refl
    elements_told (array k ws) b =
        rw (kind_of_type k)
        (ap (map (element (type_of k)))
        (values_told k (a.place + 16) ws (array_bare b.counted) (omega (arith, b.size_is)) (subst (λ q. Values bytes k q ws) (omega arith) b.values)))
    elements_told (choice c flags k ws) b =
        let few : length ws * size_of k ≤ b.n * size_of k = mul-le-mul_right (size_of k) (omega (arith, b.used, used_le c b.n b.enough)) in
        rw (kind_of_type k)
        (ap (map (element (type_of k)))
        (values_told k (a.place + 24) ws (λ z. absurd (b.kind_some z)) (omega (arith, b.size_is, few)) (subst (λ q. Values bytes k q ws) (omega arith) b.values)))
    elements_told (pointer type w) b = refl

-- a leaf opens nothing
leaf_behind : (a : Above) (l : Leaf) (n : ℕ) (fs : List Frame) → behind (leaf_row a l n) fs ≡ charged (past (holding fs) n) fs
unfolding kind_of
leaf_behind a (fixed k w) n fs = rw (other_type k 14 refl, other_type k 15 refl)
leaf_behind a (text t) n fs = refl
leaf_behind a (raw t) n fs = refl
leaf_behind a (array k ws) n fs = refl
leaf_behind a (choice c flags k ws) n fs = refl
leaf_behind a (pointer type w) n fs = refl

-- ---- what is open

-- the innermost container, if any, has at least n bytes left
abbrev Room : ℕ → List Frame → Type 0
Room n [] = Unit {0}
Room n (f ∷ outer) = n ≤ f.remaining

length_charged : (n : ℕ) (fs : List Frame) → length (charged n fs) ≡ length fs
length_charged n [] = refl
length_charged n (f ∷ outer) = refl

past_some : (h : Holds) (t : Tree) → 0 < past h (total t)
past_some Fields t = omega (arith, total_eight t)
past_some Properties t = omega arith

module _ (bytes : List ℕ) where
  -- a row where nothing ends
  row_told : (n : ℕ) (fs : List Frame) (r : Row) (rs : List Row) → 0 < n → Room n fs → rows_tell bytes fs (r ∷ rs) ≡ row_tells bytes (holding fs) r ++ rows_tell bytes (behind r fs) rs
  row_told n [] r rs some room = refl
  row_told n (f ∷ outer) r rs some room = rw (ne_eqb f.remaining 0 (λ z. omega arith))

  -- a container with no bytes left ends, whatever follows
  end_told : (h : Holds) (outer : List Frame) (rs : List Row) → rows_tell bytes (record { holds = h; remaining = 0 } ∷ outer) rs ≡ end ∷ rows_tell bytes outer rs
  end_told h outer [] = refl
  end_told h outer (r ∷ rs) = refl

  -- where a container is opened, what it holds is told, and then its end
  inside_told : (h : Holds) (size gap : ℕ) (outer : List Frame) (inside rs : List Row) (all : List Thing) → length outer < 32
      → rows_tell bytes (record { holds = h; remaining = size } ∷ outer) inside ≡ all ++ rows_tell bytes (record { holds = h; remaining = 0 } ∷ outer) rs
      → rows_tell bytes (pushed record { holds = h; remaining = size + gap - gap } outer) inside ≡ all ++ (end ∷ rows_tell bytes outer rs)
  inside_told h size gap outer inside rs all few held =
      let left : size + gap - gap ≡ size = omega arith in
      rw (left, lt-ltb (length outer) 32 few) (held ∙ ap (λ ts. all ++ ts) (end_told h outer rs))

  module _ (small : (i : ℕ) → get_or bytes i 0 < 256) where
    mutual
      -- the rows of a tree tell its property and the tree, and the container that holds it has that many bytes fewer left
      tree_told_lem : (t : Tree) (a : Above) (fs : List Frame) (rs : List Row) → Laid bytes t a.place → Room (past (holding fs) (total t)) fs → length fs + deep t ≤ 32
          → rows_tell bytes fs (rows t a ++ rs) ≡ named (holding fs) a.key a.flags ++ (tells t a.place ++ rows_tell bytes (charged (past (holding fs) (total t)) fs) rs)
      tree_told_lem (leaf l size) a fs rs laid room few =
          row_told (past (holding fs) (size + 8)) fs (leaf_row a l (size + 8)) rs (past_some (holding fs) (leaf l size)) room
          ∙ rw (leaf_behind a l (size + 8) fs, content_told bytes a size _ laid.0.there l laid.1, elements_told bytes a size _ laid.0.there l laid.1, append_assoc)
      tree_told_lem (struct f) a fs rs laid room few =
          let t = struct f in
          let n : ℕ = past (holding fs) (total t) in
          let short = length_charged n fs in
          let held = all_told Fields f (a.place + 8) (a.index + 1) (a.index + 1) (locked_of a) (charged n fs) rs laid.2 (omega (arith, few)) in
          row_told n fs (open_row a (total t) 14 0) _ (past_some (holding fs) t) room
          ∙ rw (inside_told Fields (totals Fields f) 8 (charged n fs) _ rs _ (omega (arith, few)) held) (simp append_assoc)
      tree_told_lem (object type id f) a fs rs laid room few =
          let t = object type id f in
          let n : ℕ = past (holding fs) (total t) in
          let short = length_charged n fs in
          let low : type < 2 ^ 32 = subst (λ m. m < 2 ^ 32) laid.2 (little_below 4 (a.place + 8) bytes small) in
          let held = all_told Properties f (a.place + 16) (a.index + 1) (a.index + 1) (locked_of a) (charged n fs) rs laid.4 (omega (arith, few)) in
          row_told n fs (open_row a (total t) 15 (type + id * 2 ^ 32)) _ (past_some (holding fs) t) room
          ∙ rw (inside_told Properties (totals Properties f) 16 (charged n fs) _ rs _ (omega (arith, few)) held, add_comm type (id * 2 ^ 32), mod_low id 32 type low, shr_high id 32 type low) (simp append_assoc)

      all_told : (h : Holds) (f : Forest) (at index parent locked : ℕ) (outer : List Frame) (rs : List Row) → AllLaid bytes h f at → length outer + 1 + deepest f ≤ 32
          → rows_tell bytes (record { holds = h; remaining = totals h f } ∷ outer) (rows_of h f at index parent locked ++ rs) ≡ tells_all h f at ++ rows_tell bytes (record { holds = h; remaining = 0 } ∷ outer) rs
      all_told h none at index parent locked outer rs laid few = refl
      all_told h (more key flags t f) at index parent locked outer rs laid few =
          let used : ℕ = past h (total t) in
          let left : used + totals h f - used ≡ totals h f = omega arith in
          let a : Above = record { place = past h at; index = index; parent = parent; key = key; flags = flags; held = locked } in
          let others = rows_of h f (at + used) (index + count t) parent locked in
          ap (rows_tell bytes (record { holds = h; remaining = used + totals h f } ∷ outer)) (append_assoc (rows t a) others rs)
          ∙ tree_told_lem t a (record { holds = h; remaining = used + totals h f } ∷ outer) (others ++ rs) laid.1 (omega arith) (omega (arith, few))
          ∙ rw (left, all_told h f (at + used) (index + count t) parent locked outer rs laid.2 (omega (arith, few))) (simp append_assoc)

-- laid out, a tree's rows tell what it tells
pub rows_retold : (bytes : List ℕ) → ((i : ℕ) → get_or bytes i 0 < 256) → (t : Tree) → Laid bytes t 0 → deep t ≤ 32 → rows_tell bytes [] (rows_in t) ≡ tells t 0
rows_retold bytes small t laid shallow =
    ap (rows_tell bytes []) (sym (append-nil (rows_in t))) ∙ tree_told_lem bytes small t top [] [] laid tt (omega arith) ∙ append-nil (tells t 0)

pub rows_tell_alike : RowsTellAlike
rows_tell_alike bytes small t used e =
    let l = given_at (PodLaid bytes 32 0) (says bytes) t used (given_if (PodLaid bytes 32 0) (ltb 65536 (length bytes)) _ (spot_at 0 1) (pod 32 1 0 bytes) (λ _. pod_laid bytes 32 1 0)) e in
    rows_retold bytes small t l.0 l.1
