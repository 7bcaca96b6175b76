-- The least order of a run's own steps is the least schedule.
use mathlib.Core.Path.{◌≡◌, sym}
use mathlib.Core.Logic.{◌≢◌}
use mathlib.Core.Bool.{Bool, true, false}
use mathlib.Core.List.{[]}
use Prim.Native.Nat.{ℕ}
use native.Mathlib.Nat.{le_of_eq}
use lib.Dec.{ltb}
use lib.ListN.{length}
use Rattle.spec_file.specs.Lists.{Ascends}
use Rattle.spec_schedules.specs.Order.{Schedule}
use Rattle.spec_schedules.specs.System.{System, Lawful, run, FullFrom}
use Rattle.spec_schedules.specs.Orders.{trace, ready, Remaining, OrderOf}
use Rattle.theory_search.specs.Orders.{least_order}
use Rattle.spec_schedules.proofs.Order.{AtMost}
use Rattle.spec_schedules.proofs.Front.{Commute}
use Rattle.spec_schedules.proofs.Greedy.{greedy_least}
use Rattle.spec_schedules.proofs.Remaining.{remaining}
use Rattle.spec_schedules.proofs.Orders.{order_full, own_order, length_trace, trace_named}

-- at a step system whose steps are noted: independent steps can be turned round, and both actions stay what they are
module _ (M : System) (L : Lawful M) (asc : Ascends ltb M.names) {D : Type 0} (who : D → ℕ) (dependent : D → D → Bool) (act : M.State → ℕ → D)
    (by : (σ : M.State) (t : ℕ) → who (act σ t) ≡ t)
    (swap : (σ : M.State) (a t : ℕ) → a ≢ t → M.enabled σ a ≡ true → M.enabled (M.step σ a) t ≡ true → dependent (act σ a) (act (M.step σ a) t) ≡ false →
    Commute M σ a t × (act (M.step σ a) t ≡ act σ t) × (act (M.step σ t) a ≡ act σ a)) where
  -- THE LEAST ORDER of a full schedule's actions is a full schedule with the same end, and not above any other order of them
  pub order_least : (σ : M.State) (w : Schedule) → FullFrom M σ w →
      FullFrom M σ (least_order who dependent M.names (trace M act σ w)) × (run M σ (least_order who dependent M.names (trace M act σ w)) ≡ run M σ w) ×
      ((r : Schedule) → OrderOf who dependent M.names (trace M act σ w) r → AtMost (least_order who dependent M.names (trace M act σ w)) r)
  unfolding least_order
  order_least σ w f =
      let best = greedy_least (Remaining who dependent M.names) (ready who dependent) (λ ds. ds ≡ []) _ (remaining who dependent M.names asc)
      (length (trace M act σ w)) (trace M act σ w) w (le_of_eq (sym ((length_trace M L asc who dependent act by swap) w σ))) ((trace_named M L asc who dependent act by swap) w σ f) ((own_order M L asc who dependent act by swap) w σ) in
      let o = (order_full M L asc who dependent act by swap) (least_order who dependent M.names (trace M act σ w)) w σ f best.0 in
      (o.0, o.1, best.2)
