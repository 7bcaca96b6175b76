-- WHO IS NEAR WHOM. R2 gives up a step of t while a smaller thread of its `02` line has t's reads and neither has written. Whether two threads can ever
-- come to that, the values in registers and memory do not tell. What they leave open is one bit for each two threads: t is near u where t alone, going
-- on with memory as it is, would have u's reads before it writes.
use Rattle.std.specs.Prelude.{ℕ, zero, suc, Bool, not, ◌&&◌, List, map, eqb, get_or}
use Rattle.spec_file.specs.Program.{Program}
use Rattle.spec_file.specs.WellFormed.{accesses}
use Rattle.spec_schedules.specs.Lists.{range, any, all}
use Rattle.spec_model.specs.Exchange.{together}
use Rattle.spec_sc.specs.Local.{pending, place_of, puts}
use Rattle.spec_sc.specs.State.{Thread, Cell, State, fresh_cell, thread_of, advanced}
use Rattle.spec_sc.specs.Actions.{given}
use Rattle.theory_search.specs.Standing.{silent}
use Rattle.theory_sc.specs.Rules.{same_history}
use Rattle.theory_sc.specs.Sets.{set_of}

-- what a thread finds in memory at its next access
abbrev pub found : List Cell → Thread → Cell
found cs h = get_or cs (place_of h.local) (fresh_cell 0)

-- whether it has an access to do and would write nothing by it
unfoldable pub looks : List Cell → Thread → Bool
looks cs h = pending h.local && not (given (puts h.local (found cs h).value))

-- the thread behind one access, and behind so many, to memory as it is
abbrev pub onward : List Cell → Thread → Thread
onward cs h = advanced h (found cs h)

unfoldable pub gone_on : List Cell → ℕ → Thread → Thread
gone_on cs zero h = h
gone_on cs (suc n) h = onward cs (gone_on cs n h)

-- whether h has k's reads behind n accesses, none of which writes
unfoldable pub comes_to : List Cell → Thread → Thread → ℕ → Bool
comes_to cs h k n = all (λ i. looks cs (gone_on cs i h)) (range 0 n) && same_history (gone_on cs n h).history k.history

-- whether t is near u
unfoldable pub near : Program → State → ℕ → ℕ → Bool
near p σ t u =
    not (eqb t u) && (together p.groups t u && (silent σ t && (silent σ u
    && any (comes_to σ.cells (thread_of σ t) (thread_of σ u)) (range 0 (suc (accesses (thread_of σ t).local.rest))))))

-- for each thread the set of those that it is near, a bit for each
abbrev pub near_sets : Program → State → List ℕ
near_sets p σ = map (λ t. set_of (near p σ t) 6) (range 0 6)
