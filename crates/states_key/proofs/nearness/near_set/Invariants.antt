-- `near_set` asks one thread after the other. The invariant: the set of those before u.
use Rattle.std.proofs.Common.{ℕ, ◌^◌, ◌<◌, ◌≡◌}
use Rattle.spec_file.specs.Program.{Program}
use Rattle.search_place.specs.ClassGroups.{Lined}
use Rattle.theory_sc.specs.Sets.{set_of}
use Rattle.theory_sc_key.specs.Ways.{near_by_word}
use Rattle.states_key.specs.Stands.{carried}
use Rattle.states_key.proofs.nearness.near_set.Given as goal

abbrev pub invariant-loop-u : goal.invariant-loop-u
invariant-loop-u l =
    (l.set < 2 ^ l.u) × ((groups : ℕ) (p : Program) → Lined l.class groups p → l.set ≡ set_of (near_by_word p (carried l.x) l.x.ways l.t) l.u)
