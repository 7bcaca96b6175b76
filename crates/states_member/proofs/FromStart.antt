-- From the start all that is found is the list: its members by number, and how many of it are smaller than a schedule.
use Prim.Native.Nat.{ℕ}
use mathlib.Core.Path.{◌≡◌, sym, ap, ◌∙◌}
use mathlib.Core.Bool.{false}
use mathlib.Core.Option.{none}
use mathlib.Core.List.{List, []}
use lib.ListN.{length}
use Rattle.spec_file.specs.Program.{Program}
use Rattle.spec_file.specs.WellFormed.{WellFormed}
use Rattle.spec_schedules.specs.Order.{Schedule}
use Rattle.spec_schedules.specs.Calls.{member}
use Rattle.spec_schedules.proofs.After.{after_none}
use Rattle.spec_schedules.proofs.Calls.{head_drop}
use Rattle.spec_model.specs.Alike.{list_of}
use Rattle.spec_model.specs.Search.{sought}
use Rattle.spec_members.specs.Rank.{smaller}
use Rattle.spec_sc.specs.Sequential.{sc}
use Rattle.theory_sc.specs.Search.{found_behind, found}
use Rattle.theory_sc.proofs.Search.{found_exactly}
use Rattle.theory_states.specs.Kth.{kth}
use Rattle.theory_states.specs.Ranked.{rank}

module _ (p : Program) (w : WellFormed p) (steps : ℕ) (e : 0 ≡ steps) where
  all_listed : found_behind false p steps none [] ≡ list_of sc p
  unfolding found sought
  all_listed = ap (λ (k : ℕ). found_behind false p k none []) (sym e) ∙ found_exactly p w false none ∙ after_none (sought sc false p)

  pub start_kth : (k : ℕ) → kth k (found_behind false p steps none []) ≡ member (list_of sc p) k
  start_kth k = ap (λ (l : List Schedule). kth k l) all_listed ∙ head_drop (list_of sc p) k

  pub start_rank : (s : Schedule) → rank s (found_behind false p steps none []) ≡ length (smaller sc p s)
  unfolding smaller
  start_rank s = ap (rank s) all_listed
