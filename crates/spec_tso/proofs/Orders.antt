-- T1, THE SWAP LAW, of any two bytes: steps in a row of which the later need not stay behind the earlier can be exchanged. So the first step of a
-- byte, if it depends on nothing before it, can be taken first.
use Prim.Native.Nat.{ℕ}
use mathlib.Core.Path.{◌≡◌, refl, sym, ap, subst, ◌∙◌}
use mathlib.Core.Logic.{◌≢◌}
use mathlib.Core.Bool.{true, false}
use mathlib.Core.List.{List, ◌∷◌}
use mathlib.Core.Option.{some}
use native.Mathlib.Decide.{ℕ_discrete}
use lib.ListN.{length}
use Rattle.spec_schedules.specs.Order.{Schedule}
use Rattle.spec_schedules.specs.System.{run, FullFrom}
use Rattle.spec_schedules.specs.Orders.{next_of, clear, take_out, OrderOf}
use Rattle.spec_schedules.proofs.Front.{Commute}
use Rattle.spec_schedules.proofs.Orders
use Rattle.spec_tso.specs.State.{State, thread_of, step_of, able, kind_of, owner, step, enabled, TSO, Kind, access, move}
use Rattle.spec_tso.specs.Actions.{Action, action_of, action, who, dependent}
use Rattle.spec_tso.proofs.ActionTerms.{actions}
use Rattle.spec_tso.proofs.Bytes.{byte_of}
use Rattle.spec_tso.proofs.Steps.{enabled_able, enabled_of}
use Rattle.spec_tso.proofs.Lawful.{lawful, names_ascend}
use Rattle.spec_tso.proofs.Swap.{does, Swaps, able_other, does_other, swap_two}
use Rattle.spec_tso.proofs.OwnSwap.{swap_access, swap_move}

-- an action notes its byte
pub action_who : (σ : State) (b : ℕ) → who (action σ b) ≡ b
unfolding who action action_of
action_who σ b = refl

-- what the law asks of two steps in a row
abbrev Asks : State → ℕ → Kind → ℕ → ℕ → Kind → ℕ → Type 0
Asks σ a k t b j u = (able k (thread_of σ t) (length σ.cells) ≡ true) × (able j (thread_of (step_of σ k t) u) (length (step_of σ k t).cells) ≡ true) × (dependent (does σ a k t) (does (step_of σ k t) b j u) ≡ false)

-- of one thread, the one an access and the other a move
swap_one : (σ : State) (a b t : ℕ) (k j : Kind) → k ≢ j → Asks σ a k t b j t → Swaps σ a k t b j t
swap_one σ a b t access access ne q = absurd (ne refl)
swap_one σ a b t access move ne q = swap_access σ a b t q.0 q.1 q.2
swap_one σ a b t move access ne q = swap_move σ a b t q.0 q.1 q.2
swap_one σ a b t move move ne q = absurd (ne refl)

swap_any : (σ : State) (a : ℕ) (k : Kind) (t : ℕ) (b : ℕ) (j : Kind) (u : ℕ) → (k ≡ j → t ≡ u → ⊥) → Asks σ a k t b j u → Swaps σ a k t b j u
swap_any σ a k t b j u ne q = go (ℕ_discrete t u)
  where
    go : Dec (t ≡ u) → Swaps σ a k t b j u
    go (yes e) = subst (Swaps σ a k t b j) e (swap_one σ a b t k j (λ i. ne i e) (subst (Asks σ a k t b j) (sym e) q))
    go (no d) = swap_two σ a k t b j u d q.0 (sym (able_other σ k t j u d) ∙ q.1)
        (ap (dependent (does σ a k t)) (sym (does_other σ k t j u d b)) ∙ q.2)

-- T1: STEPS THAT ARE NOT DEPENDENT CAN BE TURNED ROUND, and both do what they did
pub swap : (σ : State) (a b : ℕ) → a ≢ b → enabled σ a ≡ true → enabled (step σ a) b ≡ true → dependent (action σ a) (action (step σ a) b) ≡ false →
    Commute TSO σ a b × (action (step σ a) b ≡ action σ b) × (action (step σ b) a ≡ action σ a)
unfolding step action
swap σ a b ne m n d =
    let r = swap_any σ a (kind_of a) (owner a) b (kind_of b) (owner b) (λ k o. ne (byte_of a b k o)) (enabled_able σ a m, enabled_able (step σ a) b n, d) in
    ((enabled_of σ (step σ a) b n r.second_first, enabled_of (step σ b) σ a m r.first_second, r.same_state), r.second_does, r.first_does)

-- the actions ds, taken in the order s, keep their dependences
abbrev pub Reorders : List Action → Schedule → Type 0
Reorders ds s = OrderOf who dependent TSO.names ds s

-- the first step of b, if it depends on nothing before it, can be taken first
pub pulled : (w : Schedule) (σ : State) (b : ℕ) (d : Action) → FullFrom TSO σ w → next_of who dependent (actions σ w) b ≡ some d → clear who dependent (actions σ w) b d ≡ true →
    (r : Schedule) × FullFrom TSO σ (b ∷ r) × (run TSO σ (b ∷ r) ≡ run TSO σ w) × (actions (step σ b) r ≡ take_out who dependent (actions σ w) b) × (action σ b ≡ d)
pulled = Orders.pulled TSO lawful names_ascend who dependent action action_who swap
