-- The steps of a run in another order: any order of them in which no two conflicting ones, and no two of one thread, change places is full
-- and ends in the same state. The least such order is found by taking the least thread whose next step waits for none.
use Prim.Native.Nat.{ℕ}
use mathlib.Core.Path.{◌≡◌, refl, sym, ◌∙◌}
use mathlib.Core.Logic.{◌≢◌, inl, inr, Ne-symm}
use mathlib.Core.Bool.{Bool, true, false, true≢false}
use mathlib.Core.List.{List, ◌∷◌}
use mathlib.Core.Option.{some}
use borrow.Author.Tests.{eqb-false}
use lib.Dec.{eqb}
use Rattle.spec_schedules.specs.Order.{Schedule}
use Rattle.spec_schedules.specs.System.{run, FullFrom}
use Rattle.spec_schedules.specs.Orders.{next_of, clear, take_out, OrderOf}
use Rattle.spec_schedules.proofs.Front.{Commute}
use Rattle.spec_schedules.proofs.Orders
use Rattle.spec_sc.specs.State.{State, cell_of, place, step, enabled, SC}
use Rattle.spec_sc.specs.Actions.{Action, writes, action, who, conflict}
use Rattle.spec_sc.proofs.ActionTerms.{actions}
use Rattle.spec_sc.proofs.Steps.{thread_other, place_other, enabled_other}
use Rattle.spec_sc.proofs.Lawful.{lawful, names_ascend}
use Rattle.spec_sc.proofs.Swap.{Independent, independent_sym, still_cells, action_after, swap}

-- what a step does after one that writes nothing
writes_still : (σ : State) (a b : ℕ) → b ≢ a → writes σ a ≡ false → writes (step σ a) b ≡ writes σ b
unfolding writes cell_of
writes_still σ a b ne w = rw (place_other σ a b ne, thread_other σ a b ne, still_cells σ a w)

-- two steps in a row of different threads that do not conflict are independent
pub apart : (σ : State) (a t : ℕ) → t ≢ a → conflict (action σ a) (action (step σ a) t) ≡ false → Independent σ a t
unfolding conflict action
apart σ a t ne m = go (eqb (place σ a) (place (step σ a) t)) refl (writes σ a) refl
  where
    go : (b : Bool) → eqb (place σ a) (place (step σ a) t) ≡ b → (c : Bool) → writes σ a ≡ c → Independent σ a t
    go false e c q = inl (λ i. eqb-false (place σ a) (place (step σ a) t) e (i ∙ sym (place_other σ a t ne)))
    go true e true q = absurd (true≢false (rw (e, q, conflict) at m))
    go true e false q =
        let k : writes (step σ a) t ≡ false = rw (e, q, conflict) at m in
        inr (q, sym (writes_still σ a t ne q) ∙ k)

-- a step's action is its thread's
pub action_who : (σ : State) (t : ℕ) → who (action σ t) ≡ t
unfolding who action
action_who σ t = refl

-- independent steps can be turned round
pub commute : (σ : State) (a t : ℕ) → a ≢ t → Independent σ a t → enabled σ a ≡ true → enabled (step σ a) t ≡ true → Commute SC σ a t
commute σ a t ne i m n = (sym (enabled_other σ a t (Ne-symm ne)) ∙ n, enabled_other σ t a ne ∙ m, swap σ a t ne i)

-- steps that do not conflict can be turned round, and both do what they did
pub steps_commute : (σ : State) (a t : ℕ) → a ≢ t → enabled σ a ≡ true → enabled (step σ a) t ≡ true → conflict (action σ a) (action (step σ a) t) ≡ false →
    Commute SC σ a t × (action (step σ a) t ≡ action σ t) × (action (step σ t) a ≡ action σ a)
steps_commute σ a t ne m n c =
    let i = apart σ a t (Ne-symm ne) c in (
      commute σ a t ne i m n,
      action_after σ a t (Ne-symm ne) i,
      action_after σ t a ne (independent_sym σ a t i),
    )

-- the actions ds, taken in the order s, keep their dependences
abbrev pub Reorders : List Action → Schedule → Type 0
Reorders ds s = OrderOf who conflict SC.names ds s

-- the first step of t, if nothing before it conflicts with it, can be taken first
pub pulled : (w : Schedule) (σ : State) (t : ℕ) (d : Action) → FullFrom SC σ w → next_of who conflict (actions σ w) t ≡ some d → clear who conflict (actions σ w) t d ≡ true →
    (r : Schedule) × FullFrom SC σ (t ∷ r) × (run SC σ (t ∷ r) ≡ run SC σ w) × (actions (step σ t) r ≡ take_out who conflict (actions σ w) t) × (action σ t ≡ d)
pulled = Orders.pulled SC lawful names_ascend who conflict action action_who steps_commute

pub reorders_full : (v w : Schedule) (σ : State) → FullFrom SC σ w → Reorders (actions σ w) v → FullFrom SC σ v × (run SC σ v ≡ run SC σ w)
reorders_full = Orders.order_full SC lawful names_ascend who conflict action action_who steps_commute
