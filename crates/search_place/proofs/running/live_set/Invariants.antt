-- `live_set` asks one thread after the other. The invariant: the set of those before t.
use Rattle.std.proofs.Common.{ℕ, ◌^◌, ◌<◌, ◌≤◌, ◌≡◌, List}
use Rattle.spec_sc.specs.State.{State, enabled}
use Rattle.machine.specs.Held.{Holds}
use Rattle.machine.specs.declared.state.Machine.{Machine}
use Rattle.theory_sc.specs.Sets.{set_of}
use Rattle.search_place.proofs.running.live_set.Given as goal

abbrev pub invariant-loop-t : goal.invariant-loop-t
invariant-loop-t l =
    (l.t ≤ 6) × (l.live < 2 ^ l.t) × ((code : List ℕ) (m : Machine) (σ : State) → m.threads ≡ l.threads → Holds code l.lengths m σ → l.live ≡ set_of (enabled σ) l.t)
