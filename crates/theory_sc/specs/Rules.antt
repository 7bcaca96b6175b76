-- What the search's rules look at. `v` is the prefix taken so far, `σ` the state behind it and t the thread to step next. Each rule gives
-- up only what has a smaller alike schedule.
use Rattle.std.specs.Prelude.{ℕ, Bool, ◌&&◌, List, eqb}
use Rattle.spec_file.specs.Program.{Program}
use Rattle.spec_schedules.specs.Order.{Schedule}
use Rattle.theory_search.specs.Late as Late
use Rattle.theory_search.specs.LateSet as LateSet
use Rattle.spec_sc.specs.State.{History, State, thread_of}
use Rattle.spec_sc.specs.Actions.{Action, who, conflict}
use Rattle.spec_sc.specs.Same.{same_read}
use Rattle.spec_file.specs.Lists.{same_list}
use Rattle.spec_sc.specs.Sequential.{sc}
use Rattle.spec_model.specs.Exchange.{together}
-- local states compared, and whether a thread has written nothing
use Rattle.theory_search.specs.Standing.{same_local, silent}

-- R1, the step comes late: it could have been taken earlier, before the step of a greater thread. The steps are given latest first.
abbrev pub late : List Action → Action → Bool
late = Late.late who conflict

-- the steps of a prefix, latest first
abbrev pub taken : Program → Schedule → List Action
taken = LateSet.taken sc

-- two histories have as many accesses done, and the same reads
unfoldable pub same_history : History → History → Bool
same_history h k = eqb h.done k.done && same_list same_read h.reads k.reads

-- R2, u is t's twin: of t's `02` line, where t stands, with t's reads, and neither has written. Then t need not step before u.
unfoldable pub twin : Program → State → ℕ → ℕ → Bool
twin p σ t u =
    together p.groups u t
    && (same_local (thread_of σ u).local (thread_of σ t).local
    && (same_history (thread_of σ u).history (thread_of σ t).history && (silent σ u && silent σ t)))
