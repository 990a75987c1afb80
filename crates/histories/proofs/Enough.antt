-- A choice has as many values as its type needs. Assumes nothing.
use Rattle.std.proofs.Common.{◌≡◌, ℕ, ◌<◌, ◌≤◌, true, false, List, length, Some, sym, refl, ap, ◌∙◌, subst, arith, eq-eqb}
use Rattle.kinds.specs.Kinds.{type_of}
use Rattle.pods.specs.declared.choices.ChoiceType.{ChoiceType}
use Rattle.pods.specs.declared.choices.ChoiceType.TheVariants.{None, Range, Step, Enum, Flags}
use Rattle.pods.specs.declared.rows.Row.{Row}
use Rattle.pods.specs.Choices.{choice_number, choice_type_of, needed, used_of}
use Rattle.pods.specs.Rows.{Above}
use Rattle.pods.specs.Trees.{Tree, fixed, text, raw, array, choice, pointer, leaf, struct, object}
use Rattle.format.specs.Layout.{Laid}
use Rattle.format.specs.Places.{row_at}
use Rattle.format.proofs.Chains.{root}
use Rattle.laying.proofs.Accepted.{accepted, pod_of_lem}
use Rattle.laying.proofs.Elements.{plain as plain_type}
use Rattle.histories.specs.Cues.{accepts, rows_of}
use Rattle.histories.proofs.Saying.{accepted_says, rows_said_lem}

abbrev pub Enough : Row → Type 0
Enough r = r.kind ≡ 19 → (c : ChoiceType) → choice_type_of r.side ≡ Some c → needed c ≤ r.count

used_needed : (c : ChoiceType) (n : ℕ) → needed c ≤ n → needed c ≤ used_of c n
used_needed None n h = omega arith
used_needed Range n h = omega arith
used_needed Step n h = omega arith
used_needed Enum n h = h
used_needed Flags n h = h

-- a choice type by its number
number_is : (c : ChoiceType) → choice_type_of (choice_number c) ≡ Some c
unfolding choice_type_of
number_is None = refl
number_is Range = refl
number_is Step = refl
number_is Enum = refl
number_is Flags = refl

root_enough : (bytes : List ℕ) (t : Tree) (a : Above) → Laid bytes t a.place → Enough (root t a)
root_enough bytes (leaf (fixed k w) size) a h at c e =
    let no' : true ≡ false = sym (eq-eqb (type_of k) 19 at) ∙ (plain_type k).3 in
    let z : ◌≡◌ {A = ℕ} 0 1 = cc in absurd (omega arith)
root_enough bytes (leaf (text part) size) a h at c e = absurd (omega arith)
root_enough bytes (leaf (raw part) size) a h at c e = absurd (omega arith)
root_enough bytes (leaf (array k ws) size) a h at c e = absurd (omega arith)
root_enough bytes (leaf (choice d flags k ws) size) a h at c e =
    let both : Some d ≡ Some c = sym (number_is d) ∙ e in
    let same : d ≡ c = cc in
    omega (arith, ap needed same, used_needed d h.1.n h.1.enough, h.1.used)
root_enough bytes (leaf (pointer type w) size) a h at c e = absurd (omega arith)
root_enough bytes (struct f) a h at c e = absurd (omega arith)
root_enough bytes (object type id f) a h at c e = absurd (omega arith)

pub enough : (s : List ℕ) → accepts s ≡ true → (i : ℕ) → i < length (rows_of s) → Enough (row_at (rows_of s) i)
enough s ok i lt =
    let a = accepted_says s ok in
    let rows = rows_said_lem s a.tree a.used a.is in
    let p = pod_of_lem s a.tree a.used (accepted s a.tree a.used a.is) i (omega (arith, ap length rows)) in
    subst Enough (sym (ap (λ rs. row_at rs i) rows ∙ p.row_is)) (root_enough s p.pod p.above p.laid)
