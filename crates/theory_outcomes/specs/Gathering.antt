-- OUTCOMES GATHERED BY A WALK, in any memory model: a test that outcomes pass while they are not known is replaced by one that fewer pass.
use Rattle.std.specs.Prelude.{◌≡◌, ◌⊎◌, Bool, true, false, length}
use Rattle.spec_file.specs.Program.{Program}
use Rattle.spec_schedules.specs.Order.{Schedule}
use Rattle.spec_model.specs.Model.{Model, end_of, Full}
use Rattle.spec_covers.specs.declared.outcome.Outcome.{Outcome}
use Rattle.theory_outcomes.specs.Outcomes.{outcome_at}

-- the outcome of some full schedule of p
abbrev pub Attained : (M : Model) → Program → Outcome → Type 0
Attained M p o = (s : Schedule) × Full M p s × (outcome_at M (end_of M p s) ≡ o)

-- what the walk did: of outcomes with eight values fewer pass, those that pass no more are outcomes of p, and nothing is left that passes
pub record Gains (M : Model) (p : Program) (test behind : Outcome → Bool) (Left : (Outcome → Bool) → Type 0) : Type 0 where
  pub fewer : (o : Outcome) → length o.memory ≡ 8 → behind o ≡ true → test o ≡ true
  pub sound : (o : Outcome) → length o.memory ≡ 8 → behind o ≡ false → (test o ≡ false) ⊎ Attained M p o
  pub nothing : Left behind
