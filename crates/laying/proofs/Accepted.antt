-- What is known of the bytes of an accepted cue and its tree. Assumes nothing.
use Rattle.std.proofs.Common.{◌≡◌, ℕ, ◌*◌, ◌<◌, ◌≤◌, List, length, sym, ap, ◌∙◌, subst, arith}
use Rattle.pods.specs.Trees.{Tree, total, count, deep}
use Rattle.pods.specs.Rows.{top}
use Rattle.pods.specs.Outcomes.{gave, mapped}
use Rattle.pods.specs.Pods.{pod}
use Rattle.pods.specs.Survey.{says, rows_in}
use Rattle.pods.proofs.Counted.{rows_count}
use Rattle.pods.proofs.Sizes.{Sized, pod_sized}
use Rattle.format.specs.Layout.{Laid}
use Rattle.format.proofs.Trees.{PodLaid, pod_laid, pod_read_lem}
use Rattle.format.proofs.Reading.{given_at, accepted_short, says_pod}
use Rattle.laying.specs.Values.{values_in}
use Rattle.laying.proofs.Pods.{PodAt, pod_at}

pub record Accepted (bytes : List ℕ) (t : Tree) (used : ℕ) : Type 0 where
  pub short : length bytes ≤ 65536
  pub within : used ≤ length bytes
  pub whole : total t ≡ used
  pub few : count t * 8 ≤ used
  pub shallow : deep t ≤ 32
  pub laid : Laid bytes t 0

pub accepted : (bytes : List ℕ) (t : Tree) (used : ℕ) → says bytes ≡ gave t used → Accepted bytes t used
accepted bytes t used e =
    let short = accepted_short bytes (length (rows_in t)) used (ap (mapped (λ x. length (rows_in x))) e) in
    let read : pod 32 1 0 bytes ≡ gave t used = sym (says_pod bytes short) ∙ e in
    let s = given_at (Sized (length bytes)) (pod 32 1 0 bytes) t used (pod_sized 32 1 0 bytes) read in
    let l = given_at (PodLaid bytes 32 0) (pod 32 1 0 bytes) t used (pod_laid bytes 32 1 0) read in
    record { short = short; within = s.0; whole = s.3; few = omega (arith, s.1); shallow = l.1; laid = l.0 }

-- so are all bytes in which such a tree is laid out
pub accepts : (bytes : List ℕ) (t : Tree) → length bytes ≤ 65536 → deep t ≤ 32 → Laid bytes t 0 → says bytes ≡ gave t (total t)
accepts bytes t short shallow laid = says_pod bytes short ∙ pod_read_lem bytes t 32 1 0 laid shallow

-- the pod of a row
pub pod_of_lem : (bytes : List ℕ) (t : Tree) (used : ℕ) → Accepted bytes t used → (i : ℕ) → i < length (rows_in t) → PodAt bytes (rows_in t) (values_in t) 0 used i
pod_of_lem bytes t used a i lt =
    subst (λ end. PodAt bytes (rows_in t) (values_in t) 0 end i) (omega (arith, a.whole)) (pod_at bytes t top i (omega (arith, rows_count t top)) a.laid)
