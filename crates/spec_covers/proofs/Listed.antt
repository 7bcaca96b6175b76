-- Alike full schedules have one outcome (T5), so that the outcomes of the listed ones are all there are.
use mathlib.Core.Path.{◌≡◌, refl, ap₂}
use mathlib.Core.Bool.{Bool}
use mathlib.Core.List.{List, Memᴰ}
use Prim.Native.Nat.{ℕ}
use Rattle.spec_file.specs.Program.{Program}
use Rattle.spec_file.specs.WellFormed.{WellFormed}
use Rattle.spec_schedules.specs.Order.{Schedule}
use Rattle.spec_sc.specs.Graph.{Full}
use Rattle.spec_model.proofs.Outcome.{same_outcome_lem}
use Rattle.spec_model.proofs.TheList.{one_each, list_exact}
use Rattle.spec_sc.specs.Sequential.{sc}
use Rattle.spec_sc.proofs.Laws.{sc_laws}
use Rattle.spec_model.specs.Alike.{Alike, list_of}
use Rattle.spec_covers.specs.declared.outcome.Outcome.{Outcome}
use Rattle.spec_covers.specs.Covers.{outcome_of}

abbrev outcome : List ℕ → Bool → Outcome
outcome m f = record { memory = m; fails = f }

module _ (p : Program) (w : WellFormed p) where
  -- ALIKE ONES HAVE ONE OUTCOME
  pub alike_outcome : (r s : Schedule) → Full p r → Full p s → Alike sc p r s → outcome_of p r ≡ outcome_of p s
  unfolding outcome_of
  alike_outcome r s fr fs l = let e = same_outcome_lem sc sc_laws p (w, refl) r s fr fs l in ap₂ outcome e.1 e.0

  -- EACH FULL SCHEDULE HAS A LISTED ONE WITH ITS OUTCOME
  pub listed_outcome : (s : Schedule) → Full p s → (r : Schedule) × Memᴰ r (list_of sc p) × Alike sc p r s × (outcome_of p r ≡ outcome_of p s)
  listed_outcome s f =
      let c = one_each sc sc_laws p (w, refl) s f in
      (c.0, c.1, c.2, alike_outcome c.0 s ((list_exact sc sc_laws p c.0).0 c.1).0 f c.2)
