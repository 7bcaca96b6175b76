-- `sleeps_in` asks one thread after the other. The invariant: those that are left decide.
use Rattle.std.proofs.Common.{◌-◌, ◌≤◌, ◌≡◌, not, ◌||◌}
use Rattle.spec_schedules.specs.Lists.{range, all}
use Rattle.spec_sc.specs.State.{State}
use Rattle.spec_schedules.specs.Sets.{has}
use Rattle.theory_sc.specs.Sleepers.{wakes}
use Rattle.search_rules.specs.Left.{Left, Rests}
use Rattle.search_rules.proofs.sleeping.sleeps_in.Given as goal

abbrev pub invariant-loop-u : goal.invariant-loop-u
invariant-loop-u l =
    (l.u ≤ 6) × ((σ : State) → Rests l.program.code l.program.lengths l.at σ → Left l.program.code l.program.lengths l.left → all (λ k. has l.set k || not (wakes σ l.t k)) (range 0 6) ≡ all (λ k. has l.set k || not (wakes σ l.t k)) (range l.u (6 - l.u)))
