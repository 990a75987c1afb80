-- Laying a value changes just that value. Assumes nothing.
use Rattle.std.proofs.Common.{◌≡◌, ℕ, ◌+◌, ◌<◌, ◌≤◌, List, [], length, get_or, set, sym, refl, ap, ◌∙◌, ⊎_elim, arith, length-set}
use Rattle.std.proofs.lemmas.List.{get_or-set_same, get_or-set_other}
use Rattle.std.proofs.lemmas.Bool.{cases_eq}
use Rattle.words.specs.Words.{bytes_of}
use Rattle.words.proofs.Laying.{length_bytes, length_lay, lay_outside, lay_word_lem, lay_below}
use Rattle.kinds.specs.declared.kind.Kind.{Kind}
use Rattle.kinds.specs.Kinds.{size_of, said}
use Rattle.pods.specs.Trees.{Tree, Leaf, fixed, text, raw, array, choice, pointer, leaf, struct, object, count}
use Rattle.pods.specs.Rows.{Above, leaf_count, top}
use Rattle.pods.specs.Outcomes.{gave, mapped}
use Rattle.pods.specs.Survey.{says, rows_in, survey_of}
use Rattle.pods.proofs.Counted.{rows_count}
use Rattle.format.specs.Layout.{Laid}
use Rattle.format.specs.Places.{row_at}
use Rattle.format.proofs.Chains.{root}
use Rattle.laying.specs.Elements.{element_place, look, Settable, IsWord, lay_word, reworded, with_word}
use Rattle.laying.specs.Values.{leaf_values, own_values, values_in, value_at, with_value, set_in}
use Rattle.laying.specs.Laws.{row_in, LayingKeeps}
use Rattle.laying.proofs.Pods.{values_count}
use Rattle.laying.proofs.Rows.{with_word_same}
use Rattle.laying.proofs.Accepted.{Accepted, accepted, accepts, pod_of_lem}
use Rattle.laying.proofs.Looks.{looks_stand}
use Rattle.laying.proofs.Settings.{total_set, deep_set, rows_set, values_set}
use Rattle.laying.proofs.Relaid.{bounds, relaid}

-- a pod has as many values as its row counts
leaf_count_lem : (l : Leaf) → length (leaf_values l) ≡ leaf_count l
leaf_count_lem (fixed k w) = refl
leaf_count_lem (text part) = refl
leaf_count_lem (raw part) = refl
leaf_count_lem (array k ws) = refl
leaf_count_lem (choice c flags k ws) = refl
leaf_count_lem (pointer type w) = refl

own_count : (t : Tree) (a : Above) → length (own_values t) ≡ (root t a).count
own_count (leaf l size) a = leaf_count_lem l
own_count (struct f) a = refl
own_count (object type id f) a = refl

module _ (bytes : List ℕ) (t : Tree) (used : ℕ) (says_so : says bytes ≡ gave t used) where
  known : Accepted bytes t used
  known = accepted bytes t used says_so

  pub value_count : (i : ℕ) → i < length (rows_in t) → length (get_or (values_in t) i []) ≡ (row_in t i).count
  value_count i lt =
      let q = pod_of_lem bytes t used known i lt in
      ap length q.values_are ∙ own_count q.pod q.above ∙ ap (λ r. r.count) (sym q.row_is)

  module _ (i e : ℕ) (k : Kind) (w : ℕ) (lt : i < length (rows_in t)) (s : Settable (row_in t i) e k) (word : IsWord k w) where
    abbrev new : List ℕ
    new = lay_word (row_in t i) e k w bytes

    abbrev tree : Tree
    tree = set_in t i e w

    below : i < count t
    below = omega (arith, rows_count t top)

    fits : element_place (row_in t i) e + size_of k ≤ length bytes
    fits = omega (arith, (bounds e k (pod_of_lem bytes t used known i lt) s).to, known.within)

    fits_bytes : element_place (row_in t i) e + length (bytes_of (size_of k) w) ≤ length bytes
    fits_bytes = omega (arith, fits, length_bytes (size_of k) w)

    long : length new ≡ length bytes
    long = length_lay (element_place (row_in t i) e) (bytes_of (size_of k) w) bytes fits_bytes

    new_laid : Laid new tree 0
    new_laid =
        relaid bytes new long (element_place (row_in t i) e) k w
        (λ x h. lay_outside (element_place (row_in t i) e) (bytes_of (size_of k) w) bytes fits_bytes x (λ from to. h from (omega (arith, length_bytes (size_of k) w))))
        (ap (said k) (lay_word_lem (element_place (row_in t i) e) (size_of k) w bytes fits word.0) ∙ word.1) t top i e below s refl known.laid

    new_said : says new ≡ gave tree used
    new_said =
        accepts new tree (omega (arith, long, known.short)) (omega (arith, deep_set t i e w, known.shallow)) new_laid
        ∙ ap (gave tree) (total_set t i e w ∙ known.whole)

    new_rows : rows_in tree ≡ with_word (rows_in t) i w
    new_rows = rows_set e k w t top i below s

    as_many : length (rows_in tree) ≡ length (rows_in t)
    as_many = ap length new_rows ∙ length-set (rows_in t) i (reworded (row_in t i) w)

    new_survey : survey_of new ≡ survey_of bytes
    new_survey =
        ap (mapped (λ x. length (rows_in x))) new_said ∙ ap (λ n. gave n used) as_many ∙ ap (mapped (λ x. length (rows_in x))) (sym says_so)

    -- rows count what they counted
    new_count : (i' : ℕ) → (row_in tree i').count ≡ (row_in t i').count
    new_count i' = ap (λ rs. (row_at rs i').count) new_rows ∙ with_word_same (λ r. r.count) (λ r w. refl) (rows_in t) i w i'

    new_look : (i' e' : ℕ) → i' < length (rows_in t) → e' < (row_in t i').count → look new (row_in tree i') e' ≡ value_at tree i' e'
    new_look i' e' lt' less' =
        (looks_stand new tree used new_said i' e' (omega (arith, as_many)) (omega (arith, new_count i'))).answer

    new_values : values_in tree ≡ with_value (values_in t) i e w
    new_values = values_set e k w t top i below s

    -- the values are those that were there, but for the one
    value_laid_lem : value_at tree i e ≡ w
    value_laid_lem =
        ap (λ vs. get_or (get_or vs i []) e 0) new_values
        ∙ ap (λ ws. get_or ws e 0) (get_or-set_same (values_in t) i (set (get_or (values_in t) i []) e w) [] (omega (arith, values_count t, below)))
        ∙ get_or-set_same (get_or (values_in t) i []) e w 0 (omega (arith, value_count i lt, s.there))

    value_kept : (i' e' : ℕ) → ((i' ≡ i) × (e' ≡ e) → ⊥) → value_at tree i' e' ≡ value_at t i' e'
    value_kept i' e' other =
        ap (λ vs. get_or (get_or vs i' []) e' 0) new_values
        ∙ ⊎_elim
        (λ same.
        ap (λ x. get_or (get_or (with_value (values_in t) i e w) x []) e' 0) same
        ∙ ap (λ ws. get_or ws e' 0) (get_or-set_same (values_in t) i (set (get_or (values_in t) i []) e w) [] (omega (arith, values_count t, below)))
        ∙ get_or-set_other (get_or (values_in t) i []) e e' w 0 (λ x. other (same, x)) ∙ ap (λ x. value_at t x e') (sym same))
        (λ apart. ap (λ ws. get_or ws e' 0) (get_or-set_other (values_in t) i i' (set (get_or (values_in t) i []) e w) [] apart))
        (cases_eq i' i)

    looked : look new (row_in tree i) e ≡ w
    looked = new_look i e lt s.there ∙ value_laid_lem

    others : (i' e' : ℕ) → i' < length (rows_in t) → e' < (row_in t i').count → ((i' ≡ i) × (e' ≡ e) → ⊥) → look new (row_in tree i') e' ≡ look bytes (row_in t i') e'
    others i' e' lt' less' other =
        new_look i' e' lt' less' ∙ value_kept i' e' other ∙ sym (looks_stand bytes t used says_so i' e' lt' less').answer

    limits : (i' e' : ℕ) → i' < length (rows_in t) → e' < (row_in t i').count → (row_in t i').kind ≡ 19 → 0 < e' → look new (row_in tree i') e' ≡ look bytes (row_in t i') e'
    limits i' e' lt' less' choice-is later =
        others i' e' lt' less' (λ same. (let first : e ≡ 0 = s.default (ap (λ x. (row_in t x).kind) (sym same.0) ∙ choice-is) in omega (arith, same.1)))

pub laying_keeps : LayingKeeps
laying_keeps bytes t used says_so i e k w lt s word =
    record {
      long = long bytes t used says_so i e k w lt s word;
      small = λ small. lay_below (element_place (row_in t i) e) (size_of k) w bytes (fits bytes t used says_so i e k w lt s word) small;
      said = new_said bytes t used says_so i e k w lt s word;
      surveyed = new_survey bytes t used says_so i e k w lt s word;
      rows = new_rows bytes t used says_so i e k w lt s word;
      values = new_values bytes t used says_so i e k w lt s word;
      looked = looked bytes t used says_so i e k w lt s word;
      others = others bytes t used says_so i e k w lt s word;
      limits = limits bytes t used says_so i e k w lt s word;
    }
