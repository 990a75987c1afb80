-- The starts of pods that hold no pods. Assumes nothing.
use Rattle.std.proofs.Common.{◌≡◌, ℕ, ◌+◌, ◌<◌, ◌≤◌, ◌⊎◌, List, map, length, get_or, drop, Some, None, Ok, Err, Option, Result, sym, ap, subst, ◌∙◌, inl, inr, arith, length-drop}
use Rattle.std.proofs.lemmas.List.{drop-drop}
use Rattle.std.proofs.lemmas.Bool.{eq-eqb, ne_eqb, le-ltb}
use Rattle.std.specs.Result.{result_ok}
use Rattle.refusals.specs.declared.Why.{Why}
use Rattle.words.specs.Words.{little, Halves}
use Rattle.words.proofs.Places.{little_drop, little_front}
use Rattle.kinds.specs.declared.kind.Kind.{Kind}
use Rattle.kinds.specs.declared.kind.Kind.TheVariants.{Long, Id}
use Rattle.kinds.specs.Kinds.{IsKindOf, kind_of, size_of, type_of, word_of}
use Rattle.kinds.specs.Bodies.{body_read}
use Rattle.kinds.proofs.Types.{kind_of_type}
use Rattle.pods.specs.declared.choices.ChoiceType.{ChoiceType}
use Rattle.pods.specs.declared.choices.ChoiceType.TheVariants.{None as NoChoice, Range, Step, Enum, Flags}
use Rattle.pods.specs.Leaves.{values}
use Rattle.pods.specs.Trees.{Leaf, leaf}
use Rattle.pods.specs.Choices.{IsChoiceTypeOf, choice_number, choice_type_of, needed, used_of, flags_kept}
use Rattle.format.proofs.Complete.{choice_of_number}
use Rattle.format.specs.Layout.{word_at, ArrayCounted, ChoiceLaid, Values, BodyLaid, Laid}
use Rattle.format.proofs.Values.{word_front, only_values}
use Rattle.tours.specs.declared.begun.Begun.{Begun}
use Rattle.tours.specs.Told.{pod, element, choice_of}
use Rattle.tours.specs.Starts.{pointer_kind, values_in}

-- the body that is laid out behind a header that was read
pub body_laid : (b : Begun) (l : Leaf) (size : ℕ) → Laid b.bytes.now (leaf l size) b.at → (b.at + 8 + size ≤ length b.bytes.now) × BodyLaid b.bytes.now (b.at + 8) b.len l size
body_laid b l size h = (h.0.there, subst (λ n. BodyLaid b.bytes.now (b.at + 8) n l size) (sym b.declared) h.1)

-- the two words at place b
pub record HeadAt (bytes : List ℕ) (b first second : ℕ) (rest : List ℕ) : Type 0 where
  pub there : b + 8 ≤ length bytes
  pub first_is : first ≡ little 4 b bytes
  pub second_is : second ≡ little 4 (b + 4) bytes
  pub rest_is : rest ≡ drop (b + 8) bytes

-- the two words at the front of the bytes behind place b
pub head_in : (bytes body : List ℕ) (b first second : ℕ) (rest : List ℕ) → body ≡ drop b bytes → b ≤ length bytes → Halves body first second rest → HeadAt bytes b first second rest
head_in bytes body b first second rest e le h =
    record {
      there = omega (arith, h.whole, ap length e, length-drop b bytes);
      first_is = h.first_is ∙ ap (little 4 0) e ∙ little_front 4 b bytes;
      second_is = h.second_is ∙ ap (little 4 4) e ∙ little_drop 4 b 4 bytes;
      rest_is = h.rest_is ∙ ap (drop 8) e ∙ drop-drop 8 b bytes;
    }

-- two more words after them
pub head_after : (bytes : List ℕ) (b first second third fourth : ℕ) (rest more : List ℕ) → HeadAt bytes b first second rest → Halves rest third fourth more → HeadAt bytes (b + 8) third fourth more
head_after bytes b first second third fourth rest more h k =
    let e = h.rest_is in
    record {
      there = omega (arith, h.there, k.whole, ap length e, length-drop (b + 8) bytes);
      first_is = k.first_is ∙ ap (little 4 0) e ∙ little_front 4 (b + 8) bytes;
      second_is = k.second_is ∙ ap (little 4 4) e ∙ little_drop 4 (b + 8) 4 bytes;
      rest_is = k.rest_is ∙ ap (drop 8) e ∙ drop-drop 8 (b + 8) bytes;
    }

-- a kind that was found is the one that is laid out
kind_found : (t : ℕ) (k : Kind) (r : Result Kind Why) → t ≡ type_of k → IsKindOf t r → result_ok r ≡ Some k
kind_found t k (Ok c) e h = h ∙ ap kind_of e ∙ kind_of_type k
kind_found t k (Err x) e h = h.0 ∙ ap kind_of e ∙ kind_of_type k

pub same_kind_lem : (t : ℕ) (k child : Kind) (r : Result Kind Why) → t ≡ type_of k → IsKindOf t r → Some child ≡ result_ok r → child ≡ k
same_kind_lem t k child r e h is = let same : Some child ≡ Some k = is ∙ kind_found t k r e h in cc

pub some_kind : (t : ℕ) (k : Kind) (r : Result Kind Why) → t ≡ type_of k → IsKindOf t r → None ≡ result_ok r → ⊥
some_kind t k r e h is = let same : None ≡ Some k = is ∙ kind_found t k r e h in let z : ◌≡◌ {A = ℕ} 0 1 = cc in omega arith

-- a word that was read is the one that is laid out
pub word_read : (k : Kind) (b word : ℕ) (bytes body : List ℕ) → body ≡ drop b bytes → Some word ≡ result_ok (body_read k (λ w. w) body) → size_of k ≤ length body → word ≡ word_at k b bytes
word_read k b word bytes body is e le =
    let read : body_read k (λ w. w) body ≡ Ok (word_of k body) = rw (le-ltb (length body) (size_of k) le) in
    let there : Some word ≡ Some (word_of k body) = e ∙ ap result_ok read in
    let same : word ≡ word_of k body = cc in
    same ∙ ap (word_of k) is ∙ word_front k b bytes

pub word_there : (k : Kind) (body : List ℕ) → None ≡ result_ok (body_read k (λ w. w) body) → size_of k ≤ length body → ⊥
word_there k body e le =
    let read : body_read k (λ w. w) body ≡ Ok (word_of k body) = rw (le-ltb (length body) (size_of k) le) in
    let there : ◌≡◌ {A = Option ℕ} None (Some (word_of k body)) = e ∙ ap result_ok read in
    let z : ◌≡◌ {A = ℕ} 0 1 = cc in
    omega arith

-- the values that are still to be told are those that are laid out
pub elements_are : (bytes rest : List ℕ) (k child : Kind) (b n : ℕ) (words : List ℕ) → child ≡ k → rest ≡ drop b bytes → length words ≡ n → Values bytes k b words
    → map (element (type_of k)) words ≡ map (element (type_of child)) (values child (size_of child) n rest)
elements_are bytes rest k child b n words ek er en v =
    rw (ek, er) (ap (map (element (type_of k))) (sym (only_values bytes k n b words en v)))

pub array_count_lem : (s len n : ℕ) → ArrayCounted s len n → values_in len 8 s ≡ n
array_count_lem s len n (inl (z, e)) = rw (eq-eqb s 0 z) (sym e)
array_count_lem s len n (inr (z, long, e)) = rw (ne_eqb s 0 z) (sym e)

-- a pointer that was read is the one that is laid out
pub pointer_word : (bytes : List ℕ) (b len word got : ℕ) (kind : Kind) (rest : List ℕ) → rest ≡ drop (b + 8) bytes → b + 8 + 8 ≤ length bytes → kind ≡ pointer_kind len → Some got ≡ result_ok (body_read kind (λ w. w) rest)
    → ((len ≡ 16) × (word ≡ little 8 (b + 8) bytes)) ⊎ ((len ≡ 12) × (word ≡ little 4 (b + 8) bytes)) → got ≡ word
pointer_word bytes b len word got kind rest is there kind_is e (inl (l, w)) =
    let k : kind ≡ Long = kind_is ∙ rw (eq-eqb len 16 l) in
    word_read Long (b + 8) got bytes rest is (e ∙ ap (λ x. result_ok (body_read x (λ w. w) rest)) k) (omega (arith, ap length is, length-drop (b + 8) bytes)) ∙ sym w
pointer_word bytes b len word got kind rest is there kind_is e (inr (l, w)) =
    let k : kind ≡ Id = kind_is ∙ rw (ne_eqb len 16 (λ z. omega arith)) in
    word_read Id (b + 8) got bytes rest is (e ∙ ap (λ x. result_ok (body_read x (λ w. w) rest)) k) (omega (arith, ap length is, length-drop (b + 8) bytes)) ∙ sym w

-- what stands before the values of a choice that is laid out
pub record ChoiceHead (c : ChoiceType) (k : Kind) (flags n number declared second count : ℕ) : Type 0 where
  pub number_is : number ≡ choice_number c
  pub flags_are : flags_kept c declared ≡ flags
  pub type_is : second ≡ type_of k
  pub count_is : count ≡ n

pub choice_head : (bytes : List ℕ) (b len : ℕ) (c : ChoiceType) (flags : ℕ) (k : Kind) (words : List ℕ) (size number declared child second count : ℕ) (rest more : List ℕ) (h : ChoiceLaid bytes b len c flags k words size)
    → HeadAt bytes b number declared rest → HeadAt bytes (b + 8) child second more → count ≡ values_in len 16 child → ChoiceHead c k flags h.n number declared second count
choice_head bytes b len c flags k words size number declared child second count rest more h a d e =
    let twelve : b + 8 + 4 ≡ b + 12 = omega arith in
    record {
      number_is = a.first_is ∙ h.type_is;
      flags_are = ap (flags_kept c) a.second_is ∙ sym h.flags_are;
      type_is = d.second_is ∙ ap (λ p. little 4 p bytes) twelve ∙ h.child_type;
      count_is = e ∙ ap (values_in len 16) d.first_is ∙ rw (ne_eqb (little 4 (b + 8) bytes) 0 h.child_some) (sym h.counted);
    }

choice_found : (n : ℕ) (c : ChoiceType) (r : Result ChoiceType Why) → n ≡ choice_number c → IsChoiceTypeOf n r → result_ok r ≡ Some c
choice_found n c (Ok d) e h = h ∙ ap choice_type_of e ∙ choice_of_number c
choice_found n c (Err x) e h = h.0 ∙ ap choice_type_of e ∙ choice_of_number c

pub same_choice : (n : ℕ) (c found : ChoiceType) (r : Result ChoiceType Why) → n ≡ choice_number c → IsChoiceTypeOf n r → Some found ≡ result_ok r → found ≡ c
same_choice n c found r e h is = let same : Some found ≡ Some c = is ∙ choice_found n c r e h in cc

pub some_choice : (n : ℕ) (c : ChoiceType) (r : Result ChoiceType Why) → n ≡ choice_number c → IsChoiceTypeOf n r → None ≡ result_ok r → ⊥
some_choice n c r e h is = let same : None ≡ Some c = is ∙ choice_found n c r e h in let z : ◌≡◌ {A = ℕ} 0 1 = cc in omega arith

-- at least one value is used, and the first is the default
pub used_some : (c : ChoiceType) (n : ℕ) → needed c ≤ n → 0 < used_of c n
used_some NoChoice n h = omega arith
used_some Range n h = omega arith
used_some Step n h = omega arith
used_some Enum n h = omega arith
used_some Flags n h = omega arith

pub needed_some : (c : ChoiceType) → 0 < needed c
needed_some NoChoice = omega arith
needed_some Range = omega arith
needed_some Step = omega arith
needed_some Enum = omega arith
needed_some Flags = omega arith

pub first_value : (bytes : List ℕ) (k : Kind) (b : ℕ) (words : List ℕ) → 0 < length words → Values bytes k b words → get_or words 0 0 ≡ word_at k b bytes
first_value bytes k b words some v = v 0 some ∙ ap (λ p. word_at k p bytes) (omega arith)

pub same_choice_told : (at t t' a a' b b' f f' n n' d d' : ℕ) → t ≡ t' → a ≡ a' → b ≡ b' → f ≡ f' → n ≡ n' → d ≡ d' → pod at t (choice_of a b f n d) ≡ pod at t' (choice_of a' b' f' n' d')
same_choice_told at t t' a a' b b' f f' n n' d d' et ea eb ef en ed = cc
