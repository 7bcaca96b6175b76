-- `settle` carries out one instruction after the other. The invariant: settling from where the thread stands gives what settling from the
-- beginning gives.
use Rattle.std.proofs.Common.{◌≡◌, ◌-◌, ◌≤◌, drop}
use Rattle.file_rows.specs.Rows.{thread_code}
use Rattle.spec_sc.specs.Local.{settle}
use Rattle.machine_access.proofs.settling.settle.Given as goal

abbrev pub invariant-loop-i : goal.invariant-loop-i
invariant-loop-i l = (settle 0 l.initial.rs (drop l.from (thread_code l.code l.t l.n)) ≡ settle 0 l.rs (drop l.i (thread_code l.code l.t l.n))) × (l.from ≤ l.i)

abbrev pub decreases-loop-i : goal.decreases-loop-i
decreases-loop-i l = l.n - l.i
