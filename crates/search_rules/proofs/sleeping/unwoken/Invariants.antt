-- `unwoken` asks one thread after the other. The invariant: the set of those before t.
use Rattle.std.proofs.Common.{◌^◌, ◌<◌, ◌≡◌}
use Rattle.spec_sc.specs.State.{State}
use Rattle.theory_sc.specs.Sets.{set_of}
use Rattle.theory_sc.specs.Sleepers.{sleeps_in}
use Rattle.search_rules.specs.Left.{Left, Rests}
use Rattle.search_rules.proofs.sleeping.unwoken.Given as goal

abbrev pub invariant-loop-t : goal.invariant-loop-t
invariant-loop-t l = (l.next < 2 ^ l.t) × ((σ : State) → Rests l.program.code l.program.lengths l.at σ → Left l.program.code l.program.lengths l.left → l.next ≡ set_of (sleeps_in σ l.set) l.t)
