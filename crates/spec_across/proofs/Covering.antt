-- Covering across models: every program under a model covers itself there, covering is transitive through three models, and under sequential
-- consistency twice it is the covering of two programs.
use mathlib.Core.Path.{◌≡◌, refl}
use mathlib.Core.Logic.{◌↔◌}
use Rattle.spec_file.specs.Program.{Program}
use Rattle.spec_schedules.specs.Order.{Schedule}
use Rattle.spec_model.specs.Model.{Model}
use Rattle.spec_sc.specs.Sequential.{sc}
use Rattle.spec_covers.specs.declared.outcome.Outcome.{Outcome}
use Rattle.spec_covers.specs.Covers.{outcome_of, Attains, Covers, FirstLacking}
use Rattle.spec_across.specs.Under.{outcome_under, AttainsUnder, CoversUnder, FirstLackingUnder}

-- EVERY PROGRAM COVERS ITSELF under one model
pub under_itself : (M : Model) (p : Program) → CoversUnder M p M p
under_itself M p o a = a

-- COVERING IS TRANSITIVE through three models
pub under_transitive : (L M N : Model) (p q r : Program) → CoversUnder L p M q → CoversUnder M q N r → CoversUnder L p N r
under_transitive L M N p q r a b o c = a o (b o c)

-- an outcome under sequential consistency is the outcome
pub outcome_sc : (p : Program) (s : Schedule) → outcome_under sc p s ≡ outcome_of p s
unfolding outcome_under outcome_of
outcome_sc p s = refl

pub attains_sc : (p : Program) (o : Outcome) → AttainsUnder sc p o ↔ Attains p o
unfolding outcome_under outcome_of
attains_sc p o = ((λ a. a), λ a. a)

-- UNDER SEQUENTIAL CONSISTENCY TWICE it is covering
pub covers_sc : (p q : Program) → CoversUnder sc p sc q ↔ Covers p q
covers_sc p q = ((λ c o a. (attains_sc p o).0 (c o ((attains_sc q o).1 a))), λ c o a. (attains_sc p o).1 (c o ((attains_sc q o).0 a)))

-- and so is the first schedule that is lacked
pub first_lacking_sc : (p q : Program) (s : Schedule) → FirstLackingUnder sc p sc q s ↔ FirstLacking p q s
unfolding outcome_under outcome_of
first_lacking_sc p q s = (
  (λ f. record { listed = f.listed; lacks = f.lacks; first = f.first }),
  λ f. record { listed = f.listed; lacks = f.lacks; first = f.first },
)
