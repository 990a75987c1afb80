use Rattle.std.proofs.Common.{◌≡◌, Err, ◌-◌, length, sym, ap, ◌∙◌, arith, length-drop, rules}
use Rattle.std.proofs.lemmas.Result.{err_from_is_err_and}
use Rattle.std.proofs.lemmas.Bool.{ltb-true, ltb-false}
use Rattle.refusals.specs.declared.Why.TheVariants.{UnknownType}
use Rattle.pods.specs.Trees.{count}
use Rattle.pods.specs.Pods.{spot_at}
use Rattle.pods.specs.Outcomes.{mapped, after}
use Rattle.pods.specs.declared.holding.Holds.TheVariants.{Fields, Properties}
use Rattle.pods.proofs.Turns.{no_key, its_pod, goes_on, refuses_at, exceeds_at, ends, bounded}
use Rattle.pods.proofs.Starts.{opened, alone, too_deep, no_header, is_struct, no_type, short_object, is_object, is_leaf, is_unknown, bounded_leaf, bounded_items}
use Rattle.pods.proofs.reading.+container_pod.Goals as goal

pub container-returns-in_err-keyed : goal.container-returns-in_err-keyed
container-returns-in_err-keyed t c =
    let p = err_from_is_err_and c.from_residual.result c.from_residual.ensures.1 in
    rw (p.1, p.2)
    (refuses_at c.args.holds c.args.room c.args.spot c.args.len c.args.from c.args.input.now c.loop-used.rows c.loop-used.used _ c.loop-used.invariant.3 c.loop-used-test.true
    (no_key c.args.holds c.args.room c.args.spot c.args.len c.args.from c.args.input.now c.loop-used.used _ c.in_err-keyed.ensures))

pub container-returns-in_err-next : goal.container-returns-in_err-next
container-returns-in_err-next t c =
    let p = err_from_is_err_and c.from_residual-in_err-next.result c.from_residual-in_err-next.ensures.1 in
    rw (p.1, p.2)
    (refuses_at c.args.holds c.args.room c.args.spot c.args.len c.args.from c.args.input.now c.loop-used.rows c.loop-used.used _ c.loop-used.invariant.3 c.loop-used-test.true
    (its_pod c.args.holds c.args.room c.args.spot c.args.len c.args.from c.args.input.now c.loop-used.used _ _ c.in_ok-keyed.ensures c.in_err-next.ensures))

pub container-overflow_add-next : goal.container-overflow_add-next
container-overflow_add-next t c =
    let b = bounded c.args.holds c.args.room c.args.spot c.args.len c.args.from c.args.input.now c.loop-used.used _ _ (its_pod c.args.holds c.args.room c.args.spot c.args.len c.args.from c.args.input.now c.loop-used.used _ _ c.in_ok-keyed.ensures c.in_ok-next.ensures) in
    omega arith

pub container-returns-then-exceeds : goal.container-returns-then-exceeds
container-returns-then-exceeds t c =
    rw c.refuse.ensures
    (exceeds_at c.args.holds c.args.room c.args.spot c.args.len c.args.from c.args.input.now c.loop-used.rows c.loop-used.used _ _ c.loop-used.invariant.3 c.loop-used-test.true
    (its_pod c.args.holds c.args.room c.args.spot c.args.len c.args.from c.args.input.now c.loop-used.used _ _ c.in_ok-keyed.ensures c.in_ok-next.ensures) (ltb-true _ _ (sym c.exceeds.ensures ∙ c.if-exceeds.true)))

pub container-overflow_add-rows : goal.container-overflow_add-rows
container-overflow_add-rows t c =
    let b = bounded c.args.holds c.args.room c.args.spot c.args.len c.args.from c.args.input.now c.loop-used.used _ _ (its_pod c.args.holds c.args.room c.args.spot c.args.len c.args.from c.args.input.now c.loop-used.used _ _ c.in_ok-keyed.ensures c.in_ok-next.ensures) in
    omega arith

pub container-loop-used-smaller : goal.container-loop-used-smaller
container-loop-used-smaller t c =
    let b = bounded c.args.holds c.args.room c.args.spot c.args.len c.args.from c.args.input.now c.loop-used.used _ _ (its_pod c.args.holds c.args.room c.args.spot c.args.len c.args.from c.args.input.now c.loop-used.used _ _ c.in_ok-keyed.ensures c.in_ok-next.ensures) in
    omega arith

pub container-loop-used-preserved : goal.container-loop-used-preserved
container-loop-used-preserved t c =
    let fits = ltb-false _ _ (sym c.exceeds.ensures ∙ c.if-exceeds.false) in
    let read = its_pod c.args.holds c.args.room c.args.spot c.args.len c.args.from c.args.input.now c.loop-used.used _ _ c.in_ok-keyed.ensures c.in_ok-next.ensures in
    let b = bounded c.args.holds c.args.room c.args.spot c.args.len c.args.from c.args.input.now c.loop-used.used _ _ read in (
      omega arith,
      omega arith,
      omega arith,
      goes_on c.args.holds c.args.room c.args.spot c.args.len c.args.from c.args.input.now c.loop-used.rows c.loop-used.used _ _ _ c.loop-used.invariant.3 c.loop-used-test.true read fits (omega arith),
    )

pub container-returns : goal.container-returns
container-returns t c = ends c.args.holds c.args.room c.args.spot c.args.len c.args.from c.args.input.now c.loop-used.rows c.loop-used.used c.loop-used.invariant.3 (omega arith)

pub pod-returns-then-room-eq0 : goal.pod-returns-then-room-eq0
pod-returns-then-room-eq0 t c =
    rw c.refuse.ensures (sym (ap (mapped count) (too_deep c.args.room (33 - c.args.room) c.args.place c.args.input.now c.if-room-eq0.true)))

pub pod-returns-in_default : goal.pod-returns-in_default
pod-returns-in_default t c =
    rw c.refuse-in_default.ensures (sym (ap (mapped count) (no_header (c.args.room - 1) c.args.room (33 - c.args.room) (33 - (c.args.room - 1)) c.args.place c.args.input.now (omega arith) c.in_default.ensures)))

pub pod-returns-in_err-held-in-Struct : goal.pod-returns-in_err-held-in-Struct
pod-returns-in_err-held-in-Struct t c =
    let p = err_from_is_err_and c.from_residual-in_err-held-in-Struct.result c.from_residual-in_err-held-in-Struct.ensures.1 in
    rw (p.1, p.2)
    (sym (is_struct (c.args.room - 1) c.args.room (33 - c.args.room) (33 - (c.args.room - 1)) c.args.place c.args.input.now (omega arith) (omega arith) _ _ _ c.in-Some.ensures (search rules) ∙ ap (λ o. after 8 (opened o)) (sym c.in_err-held-in-Struct.ensures)))

pub pod-returns-in_ok-held-in-Struct : goal.pod-returns-in_ok-held-in-Struct
pod-returns-in_ok-held-in-Struct t c =
    sym (is_struct (c.args.room - 1) c.args.room (33 - c.args.room) (33 - (c.args.room - 1)) c.args.place c.args.input.now (omega arith) (omega arith) _ _ _ c.in-Some.ensures (search rules) ∙ ap (λ o. after 8 (opened o)) (sym c.in_ok-held-in-Struct.ensures))

pub pod-overflow_add-result : goal.pod-overflow_add-result
pod-overflow_add-result t c =
    let b = bounded_items Fields (c.args.room - 1) (33 - (c.args.room - 1)) _ _ _ _ c.in-Some.head.rest.now _ _ c.in_ok-held-in-Struct.ensures in
    omega (arith, ap length c.in-Some.ensures.rest_is, length-drop 8 c.args.input.now)

pub pod-overflow_add-result-in-Struct : goal.pod-overflow_add-result-in-Struct
pod-overflow_add-result-in-Struct t c =
    let b = bounded_items Fields (c.args.room - 1) (33 - (c.args.room - 1)) _ _ _ _ c.in-Some.head.rest.now _ _ c.in_ok-held-in-Struct.ensures in
    omega (arith, c.in-Some.ensures.whole, ap length c.in-Some.ensures.rest_is, length-drop 8 c.args.input.now)

pub pod-returns-in_default-two_words : goal.pod-returns-in_default-two_words
pod-returns-in_default-two_words t c =
    rw c.refuse-in_default-two_words.ensures (sym (no_type (c.args.room - 1) c.args.room (33 - c.args.room) (33 - (c.args.room - 1)) c.args.place c.args.input.now (omega arith) (omega arith) _ _ _ c.in-Some.ensures (search rules) c.in_default-two_words.ensures))

pub pod-returns-then-len-lt8 : goal.pod-returns-then-len-lt8
pod-returns-then-len-lt8 t c =
    rw c.refuse-then-len-lt8.ensures (sym (short_object (c.args.room - 1) c.args.room (33 - c.args.room) (33 - (c.args.room - 1)) c.args.place c.args.input.now (omega arith) (omega arith) _ _ _ c.in-Some.ensures _ _ _ c.in-Some-two_words.ensures (search rules) c.if-len-lt8.true))

pub pod-returns-in_err-held-in-Object : goal.pod-returns-in_err-held-in-Object
pod-returns-in_err-held-in-Object t c =
    let p = err_from_is_err_and c.from_residual-in_err-held-in-Object.result c.from_residual-in_err-held-in-Object.ensures.1 in
    rw (p.1, p.2)
    (sym (is_object (c.args.room - 1) c.args.room (33 - c.args.room) (33 - (c.args.room - 1)) c.args.place c.args.input.now (omega arith) (omega arith) _ _ _ c.in-Some.ensures _ _ _ c.in-Some-two_words.ensures (search rules) c.if-len-lt8.false
    ∙ ap (λ o. after 16 (opened o)) (sym c.in_err-held-in-Object.ensures)))

pub pod-returns-in_ok-held-in-Object : goal.pod-returns-in_ok-held-in-Object
pod-returns-in_ok-held-in-Object t c =
    sym (is_object (c.args.room - 1) c.args.room (33 - c.args.room) (33 - (c.args.room - 1)) c.args.place c.args.input.now (omega arith) (omega arith) _ _ _ c.in-Some.ensures _ _ _ c.in-Some-two_words.ensures (search rules) c.if-len-lt8.false
    ∙ ap (λ o. after 16 (opened o)) (sym c.in_ok-held-in-Object.ensures))

pub pod-overflow_add-result-in-Object : goal.pod-overflow_add-result-in-Object
pod-overflow_add-result-in-Object t c =
    let b = bounded_items Properties (c.args.room - 1) (33 - (c.args.room - 1)) _ _ _ _ c.in-Some-two_words.named.rest.now _ _ c.in_ok-held-in-Object.ensures in
    omega (arith, ap length c.in-Some.ensures.rest_is, length-drop 8 c.args.input.now, ap length c.in-Some-two_words.ensures.rest_is, length-drop 8 c.in-Some.head.rest.now)

pub pod-overflow_add-result-in-Object-2 : goal.pod-overflow_add-result-in-Object-2
pod-overflow_add-result-in-Object-2 t c =
    let b = bounded_items Properties (c.args.room - 1) (33 - (c.args.room - 1)) _ _ _ _ c.in-Some-two_words.named.rest.now _ _ c.in_ok-held-in-Object.ensures in
    omega (arith, c.in-Some.ensures.whole, c.in-Some-two_words.ensures.whole, ap length c.in-Some.ensures.rest_is, length-drop 8 c.args.input.now, ap length c.in-Some-two_words.ensures.rest_is, length-drop 8 c.in-Some.head.rest.now)

pub pod-returns-in_err-used-in_default-2 : goal.pod-returns-in_err-used-in_default-2
pod-returns-in_err-used-in_default-2 t c =
    let p = err_from_is_err_and c.from_residual-in_err-used-in_default-2.result c.from_residual-in_err-used-in_default-2.ensures.1 in
    rw (p.1, p.2)
    (sym (is_leaf (c.args.room - 1) c.args.room (33 - c.args.room) (33 - (c.args.room - 1)) c.args.place c.args.input.now (omega arith) (omega arith) _ _ _ c.in-Some.ensures c.in_ok-kind.kind (search rules) (search rules) (search rules) ∙ ap (λ o. after 8 (alone o)) (sym c.in_err-used-in_default-2.ensures)))

pub pod-returns-in_ok-used-in_default-2 : goal.pod-returns-in_ok-used-in_default-2
pod-returns-in_ok-used-in_default-2 t c =
    sym (is_leaf (c.args.room - 1) c.args.room (33 - c.args.room) (33 - (c.args.room - 1)) c.args.place c.args.input.now (omega arith) (omega arith) _ _ _ c.in-Some.ensures c.in_ok-kind.kind (search rules) (search rules) (search rules) ∙ ap (λ o. after 8 (alone o)) (sym c.in_ok-used-in_default-2.ensures))

pub pod-overflow_add-result-in_default-2 : goal.pod-overflow_add-result-in_default-2
pod-overflow_add-result-in_default-2 t c =
    let b = bounded_leaf _ _ _ c.in-Some.head.rest.now _ c.in_ok-used-in_default-2.ensures in
    omega (arith, c.in-Some.ensures.whole, ap length c.in-Some.ensures.rest_is, length-drop 8 c.args.input.now)

pub pod-returns-in_err-kind : goal.pod-returns-in_err-kind
pod-returns-in_err-kind t c =
    let answer : c.from_residual.result ≡ Err record { why = UnknownType; spot = spot_at c.args.place (33 - c.args.room) } = search rules in
    rw answer
    (sym (is_unknown (c.args.room - 1) c.args.room (33 - c.args.room) (33 - (c.args.room - 1)) c.args.place c.args.input.now (omega arith) (omega arith) _ _ _ c.in-Some.ensures (search rules)))
