-- What refuses a schedule in the model is what its replay says: 20 at a byte that may not step, 21 where it is not full.
use Prim.Native.Nat.{ℕ, suc}
use mathlib.Core.Path.{◌≡◌, refl}
use mathlib.Core.Bool.{Bool, true, false}
use mathlib.Core.Option.{Option, none, some}
use mathlib.Core.List.{[], ◌∷◌}
use Rattle.spec_file.specs.Program.{Program}
use Rattle.spec_schedules.specs.Order.{Schedule}
use Rattle.spec_schedules.specs.System.{ended}
use Rattle.spec_model.specs.Answers.{refuses_from}
use Rattle.spec_sc.specs.State.{State, SC, start, enabled, step}
use Rattle.spec_sc.specs.Replay.{Replayed, whole, refused, replay_from, replay}

unfoldable pub refusal_of : Replayed → Option (ℕ × ℕ)
refusal_of (whole σ) = none
refusal_of (refused n k) = some (n, k)

refuses_from_lem : (s : Schedule) (k : ℕ) (σ : State) → refuses_from SC k σ s ≡ refusal_of (replay_from k σ s)
unfolding refuses_from refusal_of replay_from
refuses_from_lem [] k σ = go (ended SC σ) refl
  where
    go : (b : Bool) → ended SC σ ≡ b → refuses_from SC k σ [] ≡ refusal_of (replay_from k σ [])
    go true e = rw (e, refuses_from, replay_from)
    go false e = rw (e, refuses_from, replay_from)
refuses_from_lem (t ∷ s) k σ = go (enabled σ t) refl (refuses_from_lem s (suc k) (step σ t))
  where
    go : (b : Bool) → enabled σ t ≡ b → refuses_from SC (suc k) (step σ t) s ≡ refusal_of (replay_from (suc k) (step σ t) s) →
        refuses_from SC k σ (t ∷ s) ≡ refusal_of (replay_from k σ (t ∷ s))
    go true e ih = rw (e, refuses_from, replay_from) ih
    go false e ih = rw (e, refuses_from, replay_from)

pub refuses_replayed : (p : Program) (s : Schedule) → refuses_from SC 0 (start p) s ≡ refusal_of (replay p s)
unfolding replay
refuses_replayed p s = refuses_from_lem s 0 (start p)
