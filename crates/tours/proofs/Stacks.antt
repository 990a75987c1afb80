-- The frames that stand. Assumes nothing.
use Rattle.std.proofs.Common.{◌≡◌, ℕ, zero, suc, ◌+◌, ◌-◌, ◌<◌, ◌≤◌, ◌≢◌, List, ◌∷◌, length, get_or, set, Some, refl, ap, add-one, arith, get_or-set_other, get_or-set_same}
use Rattle.std.proofs.lemmas.Bool.{lt-ltb}
use Rattle.tours.specs.declared.open.Frame.{Frame}
use Rattle.tours.specs.Stack.{blank, stack, innermost, outward, spent, charged, pushed}

pub stack_length : (fs : List Frame) (n : ℕ) → length (stack fs n) ≡ n
stack_length fs zero = refl
stack_length fs (suc n) = ap suc (stack_length fs n)

-- a write past the frames that stand
stack_set : (fs : List Frame) (f : Frame) (n i : ℕ) → n ≤ i → stack (set fs i f) n ≡ stack fs n
stack_set fs f zero i h = refl
stack_set fs f (suc n) i h =
    let ne : n ≢ i = omega arith in rw (get_or-set_other fs i n f blank ne, stack_set fs f n i (omega arith))

stack_top : (fs : List Frame) (n : ℕ) → 0 < n → stack fs n ≡ get_or fs (n - 1) blank ∷ stack fs (n - 1)
stack_top fs zero h = absurd (omega arith)
stack_top fs (suc n) h = let e : suc n - 1 ≡ n = omega arith in rw e

pub top_at : (fs : List Frame) (n : ℕ) → 0 < n → Some (get_or fs (n - 1) blank) ≡ innermost (stack fs n)
top_at fs n h = rw (stack_top fs n h)

pub pop_at : (fs : List Frame) (n : ℕ) → 0 < n → stack fs (n - 1) ≡ outward (stack fs n)
pop_at fs n h = rw (stack_top fs n h)

pub charge_at : (fs : List Frame) (n by : ℕ) (f : Frame) → 0 < n → n ≤ length fs → f ≡ spent by (get_or fs (n - 1) blank)
    → stack (set fs (n - 1) f) n ≡ charged by (stack fs n)
charge_at fs n by f h w e =
    let lt : n - 1 < length fs = omega arith in
    let same : get_or (set fs (n - 1) f) (n - 1) blank ≡ f = get_or-set_same fs (n - 1) f blank lt in
    rw (stack_top fs n h, stack_top (set fs (n - 1) f) n h, same, stack_set fs f (n - 1) (n - 1) (omega arith), e)

pub push_at : (fs : List Frame) (n : ℕ) (f : Frame) → n < 32 → n < length fs → stack (set fs n f) (n + 1) ≡ pushed f (stack fs n)
push_at fs n f few h = rw (add-one, get_or-set_same fs n f blank h, stack_set fs f n n (omega arith), stack_length fs n, lt-ltb n 32 few)
