-- `near_word` joins the sets from the last thread on. The invariant: the digits of those passed.
use Rattle.std.proofs.Common.{ℕ, ◌-◌, ◌^◌, ◌<◌, ◌≡◌}
use Rattle.spec_file.specs.Program.{Program}
use Rattle.search_place.specs.ClassGroups.{Lined}
use Rattle.theory_sc.specs.Sets.{set_of}
use Rattle.theory_sc_key.specs.Ways.{near_by_word}
use Rattle.states_key.specs.Stands.{carried}
use Rattle.states_key.proofs.SixBits.{six_from}
use Rattle.states_key.proofs.nearness.near_word.Given as goal

abbrev pub invariant-loop-t : goal.invariant-loop-t
invariant-loop-t l =
    (l.word < 64 ^ (6 - l.t)) × ((groups : ℕ) (p : Program) → Lined l.class groups p → l.word ≡ six_from (λ u. set_of (near_by_word p (carried l.x) l.x.ways u) 6) l.t)
