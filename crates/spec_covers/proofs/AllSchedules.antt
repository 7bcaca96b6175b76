-- The answer says the same of all full schedules, listed or not: the schedule answered is the least of all full schedules of the second with
-- an outcome that the first lacks.
use mathlib.Core.Path.{◌≡◌, refl, subst}
use mathlib.Core.Bool.{true}
use Rattle.spec_file.specs.Program.{Program}
use Rattle.spec_file.specs.WellFormed.{WellFormed}
use Rattle.spec_schedules.specs.Order.{Schedule, less}
use Rattle.spec_sc.specs.Graph.{Full}
use Rattle.spec_sc.specs.Sequential.{sc}
use Rattle.spec_model.proofs.TheList.{list_exact, listed_below}
use Rattle.spec_sc.proofs.Laws.{sc_laws}
use Rattle.spec_covers.specs.Covers.{outcome_of, Attains, FirstLacking}
use Rattle.spec_covers.proofs.Listed.{listed_outcome}

module _ (p q : Program) (w : WellFormed q) (s : Schedule) (f : FirstLacking p q s) where
  -- ALL FULL SCHEDULES: every smaller one of the second has an outcome of the first
  pub first_of_all : (r : Schedule) → Full q r → less r s ≡ true → Attains p (outcome_of q r)
  first_of_all r full h =
      let m = listed_outcome q w r full in
      let l = (list_exact sc sc_laws q m.0).0 m.1 in
      subst (Attains p) m.3 (f.first m.0 l (listed_below sc sc_laws q (w, refl) m.0 r s l full m.2 h))
