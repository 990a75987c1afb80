use Rattle.std.proofs.Common.{◌+◌, ◌-◌, ◌*◌, ◌≤◌, length}
use Rattle.pods.proofs.Turns.{Going}
use Rattle.pods.proofs.reading.+container_pod.Given as goal

-- a pod leads to a container with one depth less, and a container to pods with as many depths
abbrev pub decreases-pod : goal.decreases-pod
decreases-pod l = 2 * l.room

abbrev pub decreases-container : goal.decreases-container
decreases-container l = 2 * l.room + 1

abbrev pub invariant-container-loop-used : goal.invariant-container-loop-used
invariant-container-loop-used l =
    (l.used ≤ l.len) × (l.used ≤ length l.input) × (8 * l.rows ≤ l.used)
    × Going l.holds l.room l.spot l.len l.from l.input l.rows l.used

abbrev pub decreases-container-loop-used : goal.decreases-container-loop-used
decreases-container-loop-used l = l.len - l.used
