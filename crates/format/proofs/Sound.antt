-- What is read is laid out so. Assumes nothing.
use Rattle.std.proofs.Common.{◌≡◌, ℕ, ◌+◌, ◌-◌, ◌*◌, ◌/◌, ◌<◌, ◌≤◌, Bool, true, false, cond, eqb, ltb, List, [], length, get_or, take, drop, Some, None, Option, sym, refl, ap, ◌∙◌, subst, inl, inr, arith}
use Rattle.std.proofs.lemmas.List.{drop-drop, get_or-drop, length-take-le}
use Rattle.std.proofs.lemmas.Bool.{eqb-true, eqb-false, ltb-false}
use Rattle.refusals.specs.declared.Spot.{Spot}
use Rattle.words.specs.Words.{little, padded}
use Rattle.words.proofs.Places.{little_drop, little_front}
use Rattle.utf8.specs.Table37.{well_formed}
use Rattle.kinds.specs.declared.kind.Kind.{Kind}
use Rattle.kinds.specs.Kinds.{kind_of, size_of, type_of}
use Rattle.kinds.proofs.Types.{found, none_found, type_of_kind}
use Rattle.pods.specs.declared.choices.ChoiceType.{ChoiceType}
use Rattle.pods.specs.declared.choices.ChoiceType.TheVariants.{None as NoChoice, Range, Step, Enum, Flags}
use Rattle.pods.specs.Choices.{choice_number, choice_type_of, needed, used_of, flags_kept}
use Rattle.pods.specs.Trees.{Leaf, array}
use Rattle.pods.specs.Rows.{leaf_type}
use Rattle.pods.specs.Outcomes.{Outcome, gave}
use Rattle.pods.specs.Leaves.{taking, values, fixed_body, text_body, raw_body, array_of, array_body, choice_using, choice_of, choice_count, choice_body, pointer_body, fixed_of, leaf_body}
use Rattle.pods.proofs.Sizes.{Given, given_if, given_unless}
use Rattle.format.specs.Layout.{ArrayCounted, BodyLaid, Values}
use Rattle.format.proofs.Values.{length_values, word_front, are_values, are_there}

pub number_of_choice : (n : ℕ) (c : ChoiceType) → choice_type_of n ≡ Some c → n ≡ choice_number c
unfolding choice_type_of
number_of_choice n c e =
    found choice_number n 0 NoChoice _ c refl e (λ e. found choice_number n 1 Range _ c refl e
    (λ e. found choice_number n 2 Step _ c refl e (λ e. found choice_number n 3 Enum _ c refl e
    (λ e. found choice_number n 4 Flags _ c refl e (none_found choice_number n c)))))

-- cases on a test, and on what a search found, with the equation
pub given_cases : {A : Type 0} (P : A → ℕ → Type 0) (b : Bool) (o o' : Outcome A) → (b ≡ true → Given P o) → (b ≡ false → Given P o') → Given P (cond b o o')
given_cases P true o o' h k = h refl
given_cases P false o o' h k = k refl

-- the body from place b on
module _ (bytes : List ℕ) (b len : ℕ) (spot : Spot) where
  abbrev rest : List ℕ
  rest = drop b bytes

  -- a leaf of this type, whose body is laid out so
  abbrev pub Says : (type : ℕ) → Leaf → ℕ → Type 0
  Says type l size = (type ≡ leaf_type l) × BodyLaid bytes b len l size

  taken : (P : Leaf → ℕ → Type 0) (l : Leaf) (size : ℕ) → (size ≤ length rest → P l size) → Given P (taking l size spot rest)
  taken P l size h = given_if P (ltb (length rest) size) _ spot (gave l size) (λ e. h (ltb-false (length rest) size e))

  fixed_says : (k : Kind) → Given (Says (type_of k)) (fixed_body k spot rest)
  fixed_says k = taken (Says (type_of k)) _ _ (λ _. (refl, record { word_is = word_front k b bytes; size_is = refl }))

  text_says : Given (Says 8) (text_body len spot rest)
  text_says =
      given_if (Says 8) (eqb len 0) _ spot _ (λ some. given_if (Says 8) (ltb (length rest) len) _ spot _
      (λ enough. given_unless (Says 8) (eqb (get_or rest (len - 1) 0) 0) _ spot _
      (λ last. given_unless (Says 8) (well_formed (take (len - 1) rest)) _ spot _ (λ formed. taken (Says 8) _ _ (λ _.
      (let pos = eqb-false len 0 some in
      let le = ltb-false (length rest) len enough in
      let there : len - 1 ≤ length rest = omega arith in
      let part = length-take-le (len - 1) rest there in (
        refl,
        record {
          len_is = omega (arith, pos);
          stands = are_there bytes b (len - 1) there;
          closed = ap (λ n. get_or bytes (b + n) 0) part ∙ sym (get_or-drop b bytes (len - 1) 0) ∙ eqb-true _ 0 last;
          formed = formed;
          size_is = refl;
        },
      )))))))

  raw_says : Given (Says 9) (raw_body len spot rest)
  raw_says =
      taken (Says 9) _ _ (λ fits.
      (let there : len ≤ length rest = omega arith in (
        refl,
        record { len_is = sym (length-take-le len rest there); stands = are_there bytes b len there; size_is = refl },
      )))

  array_says : (k : Kind) (size : ℕ) → little 4 0 rest ≡ size → little 4 4 rest ≡ type_of k → Given (Says 13) (array_of (Some k) len size spot rest)
  array_says k size e type =
      given_unless (Says 13) (eqb size (size_of k)) _ spot _ (λ same.
      given_cases (Says 13) (eqb (size_of k) 0) _ _
      (λ z. taken (Says 13) _ _ (λ _. (refl, made [] 8 same (inl (eqb-true _ 0 z, refl)) (λ i h. absurd (none h)) (omega arith))))
      (λ z. given_if (Says 13) (ltb len 8) _ spot _ (λ long. taken (Says 13) _ _ (λ _.
      (let n : ℕ = (len - 8) / size_of k in
      let count = length_values k (size_of k) n (drop 8 rest) in (
        refl,
        made (values k (size_of k) n (drop 8 rest)) (padded (n * size_of k) + 8) same (inr (eqb-false _ 0 z, ltb-false len 8 long, count))
            (λ i h. ap (λ bs. get_or (values k (size_of k) n bs) i 0) (drop-drop 8 b bytes) ∙ are_values bytes k n (b + 8) i (subst (λ bs. i < length (values k (size_of k) n bs)) (drop-drop 8 b bytes) h))
            (ap (λ m. padded (m * size_of k) + 8) (sym count)),
      ))))))
    where
      none : {i : ℕ} → i < 0 → ⊥
      none h = omega arith

      made : (words : List ℕ) (used : ℕ) → eqb size (size_of k) ≡ true → ArrayCounted (size_of k) len (length words)
          → Values bytes k (b + 8) words → used ≡ padded (length words * size_of k) + 8 → BodyLaid bytes b len (array k words) used
      made words used same counted vs size_is =
          record {
            child_size = sym (little_front 4 b bytes) ∙ e ∙ eqb-true size (size_of k) same;
            child_type = sym (little_drop 4 b 4 bytes) ∙ type;
            counted = counted;
            values = vs;
            size_is = size_is;
          }

  -- what a search by number gave, with the equation
  searched : {K : Type 0} (P : Leaf → ℕ → Type 0) (o : Option K) (f : Option K → Outcome Leaf) → Given P (f None) → ((k : K) → o ≡ Some k → Given P (f (Some k))) → Given P (f o)
  searched P None f h g = h
  searched P (Some k) f h g = g k refl

  array_body_says : Given (Says 13) (array_body len spot rest)
  array_body_says =
      given_if (Says 13) (ltb (length rest) 8) _ spot _ (λ _.
      searched (Says 13) (kind_of (little 4 4 rest)) (λ o. array_of o len (little 4 0 rest) spot rest) tt
      (λ k e. array_says k (little 4 0 rest) refl (type_of_kind (little 4 4 rest) k e)))

  choice_says : (k : Kind) (number flags size : ℕ) → little 4 0 rest ≡ number → little 4 4 rest ≡ flags → little 4 8 rest ≡ size → little 4 12 rest ≡ type_of k → (size ≡ 0 → ⊥) → 16 ≤ len → (size_of k ≡ 0 → ⊥) → Given (Says 19) (choice_using (choice_type_of number) k flags (choice_count len size) spot rest)
  choice_says k number flags size e0 e4 e8 type some long kind_some =
      let n : ℕ = (len - 16) / size in
      searched (Says 19) (choice_type_of number) (λ o. choice_using o k flags n spot rest) tt
      (λ c e. given_if (Says 19) (ltb n (needed c)) _ spot _ (λ enough.
      (let count = length_values k (size_of k) (used_of c n) (drop 16 rest) in (
        refl,
        record {
          n = n;
          type_is = sym (little_front 4 b bytes) ∙ e0 ∙ number_of_choice number c e;
          flags_are = ap (flags_kept c) (sym (sym (little_drop 4 b 4 bytes) ∙ e4));
          child_some = λ z. some (sym e8 ∙ little_drop 4 b 8 bytes ∙ z);
          child_type = sym (little_drop 4 b 12 bytes) ∙ type;
          kind_some = kind_some;
          long = long;
          counted = ap (λ m. (len - 16) / m) (sym e8 ∙ little_drop 4 b 8 bytes);
          enough = ltb-false n (needed c) enough;
          used = count;
          values = λ i h. ap (λ bs. get_or (values k (size_of k) (used_of c n) bs) i 0) (drop-drop 16 b bytes) ∙ are_values bytes k (used_of c n) (b + 16) i (subst (λ bs. i < length (values k (size_of k) (used_of c n) bs)) (drop-drop 16 b bytes) h);
          size_is = refl;
        },
      ))))

  choice_body_says : Given (Says 19) (choice_body len spot rest)
  choice_body_says =
      given_if (Says 19) (ltb (length rest) 16) _ spot _ (λ _. given_if (Says 19) (ltb len 16) _ spot _
      (λ long. given_if (Says 19) (eqb (little 4 8 rest) 0) _ spot _ (λ some.
      searched (Says 19) (kind_of (little 4 12 rest)) (λ o. choice_of o len (little 4 0 rest) (little 4 4 rest) (little 4 8 rest) spot rest) tt
      (λ k e. given_if (Says 19) (eqb (size_of k) 0) _ spot _ (λ kind_some. given_if (Says 19) (ltb (length rest) _) _ spot _
      (λ _. choice_says k (little 4 0 rest) (little 4 4 rest) (little 4 8 rest) refl refl refl (type_of_kind (little 4 12 rest) k e) (eqb-false _ 0 some) (ltb-false len 16 long) (eqb-false _ 0 kind_some)))))))

  pointer_says : Given (Says 17) (pointer_body len spot rest)
  pointer_says =
      given_if (Says 17) (ltb (length rest) 8) _ spot _ (λ _. given_if (Says 17) (ltb len 8) _ spot _ (λ _.
      given_cases (Says 17) (eqb len 16) _ _
      (λ e. taken (Says 17) _ _ (λ _. (refl, record { type_is = sym (little_front 4 b bytes); word_is = inl (eqb-true len 16 e, little_drop 8 b 8 bytes); size_is = refl })))
      (λ _. given_cases (Says 17) (eqb len 12) _ _
      (λ e. taken (Says 17) _ _ (λ _. (refl, record { type_is = sym (little_front 4 b bytes); word_is = inr (eqb-true len 12 e, little_drop 4 b 8 bytes); size_is = refl }))) (λ _. tt))))

  -- at another number that is the type
  at_type : (type t : ℕ) → type ≡ t → (o : Outcome Leaf) → Given (Says t) o → Given (Says type) o
  at_type type t e o g = subst (λ x. Given (Says x) o) (sym e) g

  pub leaf_says : (type : ℕ) → Given (Says type) (leaf_body len type spot rest)
  unfolding leaf_body
  leaf_says type =
      given_cases (Says type) (eqb type 8) _ _ (λ e. at_type type 8 (eqb-true type 8 e) _ text_says)
      (λ _. given_cases (Says type) (eqb type 9) _ _ (λ e. at_type type 9 (eqb-true type 9 e) _ raw_says)
      (λ _. given_cases (Says type) (eqb type 13) _ _ (λ e. at_type type 13 (eqb-true type 13 e) _ array_body_says)
      (λ _. given_cases (Says type) (eqb type 17) _ _ (λ e. at_type type 17 (eqb-true type 17 e) _ pointer_says)
      (λ _. given_cases (Says type) (eqb type 19) _ _ (λ e. at_type type 19 (eqb-true type 19 e) _ choice_body_says)
      (λ _. searched (Says type) (kind_of type) (λ o. fixed_of o spot rest) tt
      (λ k e. at_type type (type_of k) (type_of_kind type k e) _ (fixed_says k)))))))
