-- What an accepted set passed. Assumes nothing.
use Rattle.std.proofs.Common.{◌≡◌, ℕ, ◌<◌, Bool, true, false, not, ◌&&◌, ◌||◌, eqb, ltb, List, length, Some, None as nothing, Ok, Option, Result, sym, refl, ap, ◌∙◌, subst, arith, ltb-true, eq-eqb, eqb-true}
use Rattle.refusals.specs.declared.Why.{Why}
use Rattle.refusals.specs.declared.Why.TheVariants.{NoParty, NoRow, OtherKind, NoElement, Locked, Forbidden}
use Rattle.kinds.specs.declared.kind.Kind.{Kind}
use Rattle.kinds.specs.Kinds.{kind_of, type_of}
use Rattle.kinds.proofs.Types.{kind_of_type}
use Rattle.settable.specs.declared.value.Value.{Value}
use Rattle.settable.specs.Values.{value_kind, value_word}
use Rattle.pods.specs.declared.rows.Row.{Row}
use Rattle.format.specs.Places.{row_at}
use Rattle.laying.specs.Elements.{settable_kind, Settable}
use Rattle.histories.specs.Parties.{known, may_set}
use Rattle.histories.specs.Choosing.{row_allows}
use Rattle.histories.specs.Plain.{unless, can_set, same_kind, number_checked, value_checked, set_by}

-- a check that let what follows be accepted holds
pub passed : {A : Type 0} (b : Bool) (why : Why) (next : Result A Why) (x : A) → unless b why next ≡ Ok x → (b ≡ true) × (next ≡ Ok x)
passed true why next x e = (refl, e)
passed false why next x e = let z : ◌≡◌ {A = ℕ} 0 1 = cc in absurd (omega arith)

pub same_kind_lem : (j k : Kind) → same_kind j k ≡ true → j ≡ k
same_kind_lem j k e =
    let types = eqb-true (type_of j) (type_of k) e in
    let both : Some j ≡ Some k = sym (kind_of_type j) ∙ ap kind_of types ∙ kind_of_type k in
    cc

both : (a b : Bool) → a && b ≡ true → (a ≡ true) × (b ≡ true)
both true b e = (refl, e)
both false b e = let z : ◌≡◌ {A = ℕ} 0 1 = cc in absurd (omega arith)

-- only the default of a choice
default : (k e : ℕ) → not (eqb k 19) || eqb e 0 ≡ true → k ≡ 19 → e ≡ 0
default k e h choice = eqb-true e 0 (subst (λ b. not b || eqb e 0 ≡ true) (eq-eqb k 19 choice) h)

pub can_set_lem : (r : Row) (e : ℕ) → can_set r e ≡ true → (e < r.count) × (r.kind ≡ 19 → e ≡ 0)
can_set_lem r e h =
    let q = both (ltb e r.count) (not (eqb r.kind 19) || eqb e 0) h in
    (ltb-true e r.count q.0, default r.kind e q.1)

-- what holds of an accepted set of the row
pub record Accepted (r : Row) (party e : ℕ) (v : Value) : Type 0 where
  pub word : ℕ
  pub word_is : value_word v ≡ Some word
  pub settable : Settable r e (value_kind v)
  pub may : may_set party r ≡ true

number : (o : Option ℕ) (next : ℕ → Result (Unit {0}) Why) (u : Unit {0}) → number_checked o next ≡ Ok u → (w : ℕ) × (o ≡ Some w)
number nothing next u e = let z : ◌≡◌ {A = ℕ} 0 1 = cc in absurd (omega arith)
number (Some w) next u e = (w, refl)

value_accepted : (o : Option Kind) (p e : ℕ) (v : Value) (r : Row) (word : ℕ → ℕ) (u : Unit {0}) → settable_kind r ≡ o → value_checked o p e v r word ≡ Ok u → Accepted r p e v
value_accepted nothing p e v r word u is h = let z : ◌≡◌ {A = ℕ} 0 1 = cc in absurd (omega arith)
value_accepted (Some k) p e v r word u is h =
    let kinds = passed (same_kind k (value_kind v)) OtherKind _ u h in
    let there = passed (can_set r e) NoElement _ u kinds.1 in
    let may = passed (may_set p r) Locked _ u there.1 in
    let w = number (value_word v) (λ w. unless (row_allows r k word w) Forbidden (Ok tt)) u may.1 in
    let c = can_set_lem r e there.0 in
    record {
      word = w.0;
      word_is = w.1;
      settable = record { kind_is = is ∙ ap Some (same_kind_lem k (value_kind v) kinds.0); there = c.0; default = c.1 };
      may = may.0;
    }

pub set_accepted : (rows : List Row) (word : ℕ → ℕ → ℕ) (p i e : ℕ) (v : Value) (u : Unit {0}) → set_by rows word p i e v ≡ Ok u → (i < length rows) × Accepted (row_at rows i) p e v
set_accepted rows word p i e v u h =
    let party = passed (known p) NoParty _ u h in
    let row = passed (ltb i (length rows)) NoRow _ u party.1 in
    (ltb-true i (length rows) row.0, value_accepted (settable_kind (row_at rows i)) p e v (row_at rows i) (word i) u refl row.1)
