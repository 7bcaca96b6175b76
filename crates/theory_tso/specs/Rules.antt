-- What the rules of the search look at under total store order. `v` is the prefix taken so far, `σ` the state behind it and b the byte to
-- step next. R1 is the model's. Each rule gives up only what has a smaller alike schedule.
use Rattle.std.specs.Prelude.{ℕ, Bool, true, false, not, ◌&&◌, ◌||◌, List, eqb}
use Rattle.std.proofs.Math.Option.{Option, none, some}
use Rattle.spec_file.specs.Program.{Program}
use Rattle.spec_schedules.specs.Lists.{range, any, all}
use Rattle.spec_schedules.specs.Order.{Schedule}
use Rattle.spec_model.specs.Exchange.{together}
use Rattle.theory_search.specs.Late as Late
use Rattle.theory_search.specs.LateSet as LateSet
use Rattle.spec_sc.specs.Local.{takes}
use Rattle.spec_sc.specs.State.{Event}
use Rattle.theory_search.specs.Ahead.{could_meet}
use Rattle.spec_file.specs.Lists.{same_list}
use Rattle.theory_search.specs.Standing.{same_local, silent}
use Rattle.spec_tso.specs.Queue.{Entry}
use Rattle.spec_tso.specs.State.{Thread, State, Kind, access, move, without_queues, thread_of, locked, place, kind_of, owner, enabled}
use Rattle.spec_tso.specs.Actions.{Action, action, who, dependent}
use Rattle.spec_tso.specs.TotalStoreOrder.{tso}

-- R1, the step comes late. The steps are given latest first.
abbrev pub late : List Action → Action → Bool
late = Late.late who dependent

-- the steps of a prefix, latest first
abbrev pub taken : Program → Schedule → List Action
taken = LateSet.taken tso

-- an own source counts by its number: (u, j), read by u, is as (t, j), read by t
unfoldable pub renamed : ℕ → ℕ → ℕ → ℕ
renamed u t x = elim (eqb x u) [ true ↦ t | false ↦ x ]

unfoldable pub same_source : ℕ → ℕ → ℕ × Event → ℕ × Event → Bool
same_source u t r s = eqb r.0 s.0 && (eqb (renamed u t r.1.0) s.1.0 && eqb r.1.1 s.1.1)

unfoldable pub same_entry : Entry → Entry → Bool
same_entry e f = eqb e.number f.number && (eqb e.location f.location && eqb e.value f.value)

-- thread u, which is h, stands as thread t, which is k: the same local state, as many accesses done, the same reads, the same pending
-- stores
unfoldable pub stands_as : ℕ → ℕ → Thread → Thread → Bool
stands_as u t h k =
    same_local h.local k.local
    && (eqb h.history.done k.history.done
    && (same_list (same_source u t) h.history.reads k.history.reads && same_list same_entry h.queue k.queue))

-- R2, u is t's twin: of t's `02` line, it stands as t, and nothing of either is in memory. Then no byte of t need go before that of u.
unfoldable pub twin : Program → State → ℕ → ℕ → Bool
twin p σ t u =
    together p.groups u t
    && (stands_as u t (thread_of σ u) (thread_of σ t) && (silent (without_queues σ) u && silent (without_queues σ) t))

-- what could make such a step of this thread wait: nothing for a store; puts for a load (false); puts and reads for the others (true)
unfoldable pub fears : Kind → Thread → Option Bool
fears move h = some true
fears access h = elim (locked h.local) [ true ↦ some true | false ↦ elim (takes h.local) [ true ↦ some false | false ↦ none ] ]

-- whether what is left to this thread, in its queue and in its code, could do such a thing at l
unfoldable pub wakes : Option Bool → ℕ → Thread → Bool
wakes none l h = false
wakes (some w) l h = any (λ (e : Entry). eqb e.location l) h.queue || could_meet l w h.local

-- nothing left to any other thread could make the step c wait
unfoldable pub unwoken : State → ℕ → Bool
unwoken σ c =
    let awakes = wakes (fears (kind_of c) (thread_of σ (owner c))) (place σ (kind_of c) (owner c)) in
    all (λ u. eqb u (owner c) || not (awakes (thread_of σ u))) (range 0 6)

-- R3, the byte c is asleep for good: it may step, its step is late, and nothing left to the others could make it wait
unfoldable pub asleep : Program → Schedule → State → ℕ → Bool
asleep p v σ c = enabled σ c && (late (taken p v) (action σ c) && unwoken σ c)
