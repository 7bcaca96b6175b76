-- The walk from the start: its first prefix is empty, and what it finds are the listed schedules behind the bound.
use Prim.Native.Nat.{ℕ, ◌/◌, ◌*◌, ◌≤◌}
use mathlib.Core.Path.{◌≡◌, refl, sym, ap, subst, ◌∙◌}
use mathlib.Core.Bool.{Bool}
use mathlib.Core.List.{List, [], flat_map}
use mathlib.Core.Option.{Option}
use native.Mathlib.Omega.{arith}
use lib.ListN.{length, take}
use Rattle.spec_file.proofs.Over.{over_nil}
use Rattle.spec_file.specs.Program.{Program}
use Rattle.spec_schedules.specs.Order.{Schedule}
use Rattle.spec_schedules.specs.Found.{after}
use Rattle.spec_model.specs.Laws.{Admitted}
use Rattle.spec_model.specs.Search.{sought}
use Rattle.spec_tso.specs.TotalStoreOrder.{tso}
use Rattle.theory_tso.specs.Search.{found_behind, found, given_up}
use Rattle.theory_tso.proofs.Search.{found_exactly}
use Rattle.listing_cursor.specs.Bounds.{bound_at}
use Rattle.spec_calls.specs.Rows.{rows_of}
use Rattle.listing_cursor.specs.ListRows.{Shown}
use Rattle.tso_walk.specs.Rows.{Adds}

-- from the start all is found that is listed behind the bound
behind_none : (p : Program) (failures : Bool) (o : Option Schedule) → Admitted tso p → found_behind given_up failures p 0 o [] ≡ after o (sought tso failures p)
unfolding found
behind_none p failures o a = found_exactly p a failures o

pub rooms : (n : ℕ) → (n / 50) * 50 ≤ n
rooms n = omega arith

pub walk_whole : (p : Program) (failures tight : Bool) (bound held out : List ℕ) (r : ℕ) → Admitted tso p → (n : ℕ) → 0 ≡ n
    → Adds p (length held / 50) (found_behind given_up failures p n (bound_at tight bound n) []) held 0 out r
    → Shown tso p (take (length held / 50) (after (bound_at tight bound 0) (sought tso failures p))) held out r
unfolding rows_of flat_map
walk_whole p failures tight bound held out r w n e a =
    subst (λ (l : List Schedule). Shown tso p (take (length held / 50) l) held out r)
    (ap (λ (k : ℕ). found_behind given_up failures p k (bound_at tight bound k) []) (sym e) ∙ behind_none p failures (bound_at tight bound 0) w)
    (a.shown [] held (rooms (length held)) (omega arith) (record { counted = refl; text = sym (over_nil held) }))
