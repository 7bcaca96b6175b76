-- `is_some_access` asks one thread after the other. The invariant: none before t is asleep.
use Rattle.std.proofs.Common.{ℕ, ◌<◌, ◌≤◌, ◌≡◌, true, false, ◌&&◌}
use Rattle.spec_schedules.specs.Sets.{has}
use Rattle.search_rules.specs.Left.{Left}
use Rattle.spec_tso.specs.State.{State, byte_for, access}
use Rattle.theory_tso.specs.Rules.{unwoken}
use Rattle.tso_rules.specs.Shown.{Shown, ReadyAt}
use Rattle.tso_rules.proofs.sleeping.is_some_access.Given as goal

abbrev pub invariant-loop-t : goal.invariant-loop-t
invariant-loop-t l =
    (l.t ≤ 6) × ((σ : State) → Left l.program.code l.program.lengths l.left → Shown l.program.code l.program.lengths l.at l.slots l.heads l.tails σ
    → ((t : ℕ) → t < 6 → has l.late t ≡ true → ReadyAt σ access t) → (d : ℕ) → d < l.t → (has l.late d && unwoken σ (byte_for access d)) ≡ false)
