-- `is_woken` asks one thread after the other. The invariant: none before u could wake it.
use Rattle.std.proofs.Common.{ℕ, ◌<◌, ◌≤◌, ◌≡◌, false, not, ◌&&◌, List, eqb}
use mathlib.Core.Option.{some}
use Rattle.search_rules.specs.Left.{Left}
use Rattle.spec_tso.specs.State.{State, thread_of}
use Rattle.theory_tso.specs.Rules.{wakes}
use Rattle.tso_rules.specs.Shown.{Shown}
use Rattle.tso_rules.proofs.sleeping.is_woken.Given as goal

abbrev pub invariant-loop-u : goal.invariant-loop-u
invariant-loop-u l =
    (l.u ≤ 6) × ((code : List ℕ) (σ : State) → Left code l.lengths l.left → Shown code l.lengths l.at l.slots l.heads l.tails σ → l.a.location < 8
    → (d : ℕ) → d < l.u → (not (eqb d l.a.thread) && wakes (some l.a.writer) l.a.location (thread_of σ d)) ≡ false)
