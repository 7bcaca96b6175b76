-- T4: a graph is consistent exactly when it is the graph of some full schedule.
use Prim.Native.Nat.{ℕ, ◌≤◌}
use mathlib.Core.Logic.{◌↔◌}
use native.Mathlib.Omega.{arith}
use lib.ListN.{length}
use Rattle.spec_file.specs.Program.{Program}
use Rattle.spec_file.specs.WellFormed.{WellFormed}
use Rattle.spec_schedules.specs.Order.{Schedule}
use Rattle.spec_schedules.specs.System.{run}
use Rattle.spec_sc.specs.State.{SC, start}
use Rattle.spec_sc.specs.Graph.{Graph}
use Rattle.spec_judge.specs.Consistent.{Makes, Consistent}
use Rattle.spec_judge.specs.Least.{MadeBy}
use Rattle.spec_judge.proofs.RoundValues.{values}
use Rattle.spec_judge.proofs.Scheduled.{consistent_scheduled}
use Rattle.spec_judge.proofs.Rounds.{run_canonical}
use Rattle.spec_judge.proofs.OnRun.{on_start, on_end, on_makes}
use Rattle.spec_judge.proofs.Ranked.{on_acyclic}

-- a schedule of at most n steps makes its graph on the values of round n
pub run_makes : (p : Program) (wf : WellFormed p) (g : Graph) (s : Schedule) (n : ℕ) → MadeBy p g s → length s ≤ n → Makes p g (values p g n)
run_makes p wf g s n m h =
    let C = run_canonical p wf g s m in
    on_makes p wf g C n (run SC (start p) s) (on_end p wf g C n s (start p) (on_start p wf g C n s m h))

-- the values of the rounds serve whenever any do
pub run_consistent : (p : Program) (wf : WellFormed p) (g : Graph) (s : Schedule) (n : ℕ) → MadeBy p g s → length s ≤ n → Consistent p g
run_consistent p wf g s n m h =
    let C = run_canonical p wf g s m in
    let M = run_makes p wf g s n m h in
    record { canonical = C; value = values p g n; makes = M; acyclic = on_acyclic p wf g C n M s (on_start p wf g C n s m h) }

pub consistent_iff : (p : Program) → WellFormed p → (g : Graph) → Consistent p g ↔ ((s : Schedule) × MadeBy p g s)
consistent_iff p wf g = (consistent_scheduled p wf g, λ k. run_consistent p wf g k.0 (length k.0) k.1 (omega arith))
