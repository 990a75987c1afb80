-- A body in which a word was laid. Assumes nothing.
use Rattle.std.proofs.Common.{◌≡◌, ℕ, ◌^◌, ◌<◌, ◌≤◌, Bool, true, false, cond, ltb, List, length, IfOk, IfSome, Some, None as no_word, Ok, Err, Option, Result, sym, refl, ap, ◌∙◌, subst, arith, ltb-false, le-ltb}
use Rattle.refusals.specs.declared.Why.{Why}
use Rattle.refusals.specs.declared.Why.TheVariants.{Missing}
use Rattle.kinds.specs.declared.kind.Kind.{Kind}
use Rattle.kinds.specs.Bodies.{body_read}
use Rattle.kinds.specs.Kinds.{size_of, said, word_of}
use Rattle.words.specs.Words.{bytes_of, lay}
use Rattle.words.proofs.Laying.{length_bytes, length_lay, lay_word_lem}
use Rattle.settable.specs.Laying.{lay_answer, lay_body}

-- a body in which the word of a value was laid reads as the value
pub laid_reads : {A : Type 0} (k : Kind) (means : ℕ → A) (v : A) (word : Option ℕ) (body : List ℕ) (r : Result (Unit {0}) Why) (after : List ℕ)
    → IfSome word (λ w. (means w ≡ v) × (said k w ≡ w) × (w < 256 ^ size_of k))
    → r ≡ lay_answer k word body → after ≡ lay_body k word body → IfOk r (λ _. body_read k means after ≡ Ok v)
laid_reads {A} k means v no_word body r after meant answer after_is = subst (λ x. IfOk x (λ _. body_read k means after ≡ Ok v)) (sym answer) tt
laid_reads {A} k means v (Some w) body r after meant answer after_is =
    subst (λ x. IfOk x (λ _. body_read k means after ≡ Ok v)) (sym answer)
    (subst (λ x. IfOk (lay_answer k (Some w) body) (λ _. body_read k means x ≡ Ok v)) (sym after_is) (by (ltb (length body) (size_of k)) refl))
  where
    read_back : size_of k ≤ length body → body_read k means (lay 0 (bytes_of (size_of k) w) body) ≡ Ok v
    read_back enough =
        let s = size_of k in
        let new : List ℕ = lay 0 (bytes_of s w) body in
        let long : length new ≡ length body = length_lay 0 (bytes_of s w) body (omega (arith, length_bytes s w)) in
        ap (λ b. cond b (Err Missing) (Ok (means (word_of k new)))) (le-ltb (length new) s (omega (arith, long)))
        ∙ ap (λ n. Ok (means (said k n))) (lay_word_lem 0 s w body (omega arith) meant.2) ∙ ap (λ n. Ok (means n)) meant.1 ∙ ap Ok meant.0

    by : (short : Bool) → ltb (length body) (size_of k) ≡ short → IfOk (cond {A = Result (Unit {0}) Why} short (Err Missing) (Ok tt)) (λ _. body_read k means (cond short body (lay 0 (bytes_of (size_of k) w) body)) ≡ Ok v)
    by true e = tt
    by false e = read_back (ltb-false (length body) (size_of k) e)
