-- R2 FAR, under total store order, for moves alone. Walking back from thread t's move over the steps that it could have gone before, there
-- is a place where t had a smaller twin u, and where a byte greater than that of u's move was taken. Then the move could have been taken
-- there, and by u instead of t.
use Rattle.std.specs.Prelude.{ℕ, ◌+◌, Bool, false, ◌&&◌, List, reverse, ltb}
use Rattle.spec_file.specs.Program.{Program}
use Rattle.spec_schedules.specs.Lists.{range, any}
use Rattle.spec_schedules.specs.Order.{Schedule}
use Rattle.spec_schedules.specs.Orders.{trace}
use Rattle.theory_search.specs.Back.{back}
use Rattle.spec_tso.specs.State.{State, Kind, access, move, kind_of, owner, start, TSO}
use Rattle.spec_tso.specs.Actions.{Action, action, dependent}
use Rattle.theory_tso.specs.Rules.{twin}

-- where a step is taken: the state before it, and its byte; and what it does
abbrev pub Place : Type 0
Place = State × ℕ

abbrev pub placed : State → ℕ → Place
placed σ b = (σ, b)

abbrev pub byte_at : Place → ℕ
byte_at q = q.1

abbrev pub action_at : Place → Action
action_at q = action q.0 q.1

abbrev pub dependent_at : Place → Place → Bool
dependent_at q r = dependent (action_at q) (action_at r)

-- where the steps of a prefix are taken, latest first
abbrev pub taken_at : Program → Schedule → List Place
taken_at p v = reverse (trace TSO placed (start p) v)

-- in σ, where the byte b is taken, t has a smaller twin u whose move is smaller than b
unfoldable pub twin_moves : Program → State → ℕ → ℕ → Bool
twin_moves p σ b t = any (λ u. twin p σ t u && ltb (u + 16) b) (range 0 t)

-- whether a step of t of this kind begins to come far at a place: a move alone can
unfoldable pub starts_by : Program → Place → Kind → ℕ → Bool
starts_by p q access t = false
starts_by p q move t = twin_moves p q.0 q.1 t

unfoldable pub starts : Program → Place → ℕ → Bool
starts p q c = starts_by p q (kind_of c) (owner c)

-- R2 far: the step b from σ, behind v, goes back to such a place
unfoldable pub far : Program → Schedule → State → ℕ → Bool
far p v σ b = back byte_at dependent_at (starts p) (taken_at p v) (σ, b)
