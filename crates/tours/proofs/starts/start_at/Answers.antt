use Rattle.std.proofs.Common.{◌≡◌, ℕ, List, length, take, drop, ◌-◌, ◌≤◌, Option, sym, ap, ◌∙◌, subst}
use Rattle.std.proofs.lemmas.List.{take_rest}
use Rattle.words.specs.Words.{Halves}
use Rattle.kinds.specs.Kinds.{type_of}
use Rattle.pods.specs.Types.{type_number}
use Rattle.pods.specs.Trees.{Tree, leaf, fixed}
use Rattle.format.specs.Layout.{Laid}
use Rattle.tours.specs.declared.starts.Start.{Start}
use Rattle.tours.specs.Starts.{BeginsTree}
use Rattle.tours.proofs.Beginning.{head_in}
use Rattle.tours.proofs.Types.{type_found, no_type_found}
use Rattle.tours.proofs.Only.{plain, same_type, type_in, typed_by, laid_type, only_text, only_raw, only_array, only_choice, only_pointer, only_struct, only_object, only_fixed}
use Rattle.tours.proofs.starts.start_at.Goals as goal

module _ (bytes : List ℕ) (t : Tree) (at : ℕ) (laid : Laid bytes t at) where
  -- the type of a tree that is laid out at a place, by the header there
  typed : (first second : ℕ) (rest : List ℕ) (le : at ≤ length bytes) → Halves (take (length bytes - at) (drop at bytes)) first second rest → type_in t ≡ second
  typed first second rest le h =
      let a = head_in bytes _ at first second rest (take_rest bytes at) le h in
      sym (laid_type bytes t at laid) ∙ sym a.second_is

  -- it starts as the shape does that it has
  shaped : (x : Tree) (r : Option Start) → t ≡ x → (Laid bytes x at → BeginsTree at x r) → BeginsTree at t r
  shaped x r e starts = subst (λ x. BeginsTree at x r) (sym e) (starts (subst (λ x. Laid bytes x at) e laid))

pub returns-in-Text : goal.returns-in-Text
returns-in-Text c = λ t laid.
    let is = typed c.args.bytes.now t c.args.at laid _ _ _ c.requires.within c.in_ok-head.ensures in
    let type = type_found _ c.in_ok-kind.field-0 c.try_from.result c.try_from.ensures c.in_ok-kind.ensures.value in
    let o = only_text t (is ∙ sym type ∙ ap type_number c.in-Text.is) in
    shaped c.args.bytes.now t c.args.at laid _ c.text.result o.2 (c.text.ensures o.0 o.1)

pub returns-in-Raw : goal.returns-in-Raw
returns-in-Raw c = λ t laid.
    let is = typed c.args.bytes.now t c.args.at laid _ _ _ c.requires.within c.in_ok-head.ensures in
    let type = type_found _ c.in_ok-kind.field-0 c.try_from.result c.try_from.ensures c.in_ok-kind.ensures.value in
    let o = only_raw t (is ∙ sym type ∙ ap type_number c.in-Raw.is) in
    shaped c.args.bytes.now t c.args.at laid _ c.raw.result o.2 (c.raw.ensures o.0 o.1)

pub returns-in-Array : goal.returns-in-Array
returns-in-Array c = λ t laid.
    let is = typed c.args.bytes.now t c.args.at laid _ _ _ c.requires.within c.in_ok-head.ensures in
    let type = type_found _ c.in_ok-kind.field-0 c.try_from.result c.try_from.ensures c.in_ok-kind.ensures.value in
    let o = only_array t (is ∙ sym type ∙ ap type_number c.in-Array.is) in
    shaped c.args.bytes.now t c.args.at laid _ c.array.result o.3 (c.array.ensures o.0 o.1 o.2)

pub returns-in-Struct : goal.returns-in-Struct
returns-in-Struct c = λ t laid.
    let is = typed c.args.bytes.now t c.args.at laid _ _ _ c.requires.within c.in_ok-head.ensures in
    let type = type_found _ c.in_ok-kind.field-0 c.try_from.result c.try_from.ensures c.in_ok-kind.ensures.value in
    let o = only_struct t (is ∙ sym type ∙ ap type_number c.in-Struct.is) in
    shaped c.args.bytes.now t c.args.at laid _ c.structure.result o.1 (c.structure.ensures o.0)

pub returns-in-Object : goal.returns-in-Object
returns-in-Object c = λ t laid.
    let is = typed c.args.bytes.now t c.args.at laid _ _ _ c.requires.within c.in_ok-head.ensures in
    let type = type_found _ c.in_ok-kind.field-0 c.try_from.result c.try_from.ensures c.in_ok-kind.ensures.value in
    let o = only_object t (is ∙ sym type ∙ ap type_number c.in-Object.is) in
    shaped c.args.bytes.now t c.args.at laid _ c.object.result o.3 (c.object.ensures o.0 o.1 o.2)

pub returns-in-Pointer : goal.returns-in-Pointer
returns-in-Pointer c = λ t laid.
    let is = typed c.args.bytes.now t c.args.at laid _ _ _ c.requires.within c.in_ok-head.ensures in
    let type = type_found _ c.in_ok-kind.field-0 c.try_from.result c.try_from.ensures c.in_ok-kind.ensures.value in
    let o = only_pointer t (is ∙ sym type ∙ ap type_number c.in-Pointer.is) in
    shaped c.args.bytes.now t c.args.at laid _ c.pointer.result o.3 (c.pointer.ensures o.0 o.1 o.2)

pub returns-in-Choice : goal.returns-in-Choice
returns-in-Choice c = λ t laid.
    let is = typed c.args.bytes.now t c.args.at laid _ _ _ c.requires.within c.in_ok-head.ensures in
    let type = type_found _ c.in_ok-kind.field-0 c.try_from.result c.try_from.ensures c.in_ok-kind.ensures.value in
    let o = only_choice t (is ∙ sym type ∙ ap type_number c.in-Choice.is) in
    shaped c.args.bytes.now t c.args.at laid _ c.choice.result o.5 (c.choice.ensures o.0 o.1 o.2 o.3 o.4)

pub returns-in_err-kind : goal.returns-in_err-kind
returns-in_err-kind c =
    rw c.from_residual-in_err-kind.ensures (λ t laid.
    let is = typed c.args.bytes.now t c.args.at laid _ _ _ c.requires.within c.in_ok-head.ensures in
    let p = typed_by t in
    absurd (no_type_found _ c.try_from.result c.try_from.ensures c.in_err-kind.ensures.value p.0 (p.1 ∙ is)))

pub returns-in-Fixed : goal.returns-in-Fixed
returns-in-Fixed c = λ t laid.
    let is = typed c.args.bytes.now t c.args.at laid _ _ _ c.requires.within c.in_ok-head.ensures in
    let type = type_found _ c.in_ok-kind.field-0 c.try_from.result c.try_from.ensures c.in_ok-kind.ensures.value in
    let k = c.in-Fixed.kind in
    let o = only_fixed t (type_of k) (is ∙ sym type ∙ ap type_number c.in-Fixed.is) (plain k) in
    let same = same_type o.0 k (sym (ap type_in o.3) ∙ is ∙ sym type ∙ ap type_number c.in-Fixed.is) in
    shaped c.args.bytes.now t c.args.at laid _ c.fixed.result (o.3 ∙ ap (λ k. leaf (fixed k o.1) o.2) same) (c.fixed.ensures o.1 o.2)
