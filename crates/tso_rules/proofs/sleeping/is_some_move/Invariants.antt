-- `is_some_move` asks one thread after the other. The invariant: none before t is asleep.
use Rattle.std.proofs.Common.{ℕ, ◌<◌, ◌≤◌, ◌≡◌, true, false, ◌&&◌, List}
use Rattle.spec_schedules.specs.Sets.{has}
use Rattle.search_rules.specs.Left.{Left}
use Rattle.spec_tso.specs.State.{State, byte_for, move}
use Rattle.theory_tso.specs.Rules.{unwoken}
use Rattle.tso_rules.specs.Shown.{Shown, ReadyAt}
use Rattle.tso_rules.proofs.sleeping.is_some_move.Given as goal

abbrev pub invariant-loop-t : goal.invariant-loop-t
invariant-loop-t l =
    (l.t ≤ 6) × ((code : List ℕ) (σ : State) → Left code l.lengths l.left → Shown code l.lengths l.at l.slots l.heads l.tails σ
    → ((t : ℕ) → t < 6 → has l.overdue t ≡ true → ReadyAt σ move t) → (d : ℕ) → d < l.t → (has l.overdue d && unwoken σ (byte_for move d)) ≡ false)
