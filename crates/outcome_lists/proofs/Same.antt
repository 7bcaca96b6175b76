-- The test whether a schedule has an outcome, as the code makes it: the values compared pair by pair, then the flags.
use mathlib.Core.Path.{◌≡◌, refl, ap, ap₂, ◌∙◌}
use mathlib.Core.Bool.{Bool, true, false, not, ◌&&◌, cond, beq}
use lib.Dec.{eqb}
use lib.Pointwise.{pointwise}
use Rattle.spec_file.specs.Program.{Program}
use Rattle.spec_schedules.specs.Order.{Schedule}
use Rattle.spec_model.specs.Model.{Model}
use Rattle.spec_covers.specs.declared.outcome.Outcome.{Outcome}
use Rattle.spec_across.specs.Under.{outcome_under}
use Rattle.table.proofs.Compared.{pointwise_same}
use Rattle.spec_across.specs.Same.{same_outcome, comes_to}

flags : (a b : Bool) → beq a b ≡ cond a b (not b)
flags true true = refl
flags true false = refl
flags false true = refl
flags false false = refl

-- x is the outcome of s: its values were compared with those of o
pub pairs_come : (M : Model) (p : Program) (o x : Outcome) (s : Schedule) (e : Bool) → x ≡ outcome_under M p s → e ≡ pointwise eqb x.memory o.memory
    → (e && beq x.fails o.fails) ≡ comes_to M p o s
unfolding same_outcome comes_to
pairs_come M p o x s e i q = ap₂ ◌&&◌ (q ∙ pointwise_same eqb x.memory o.memory) (flags x.fails o.fails) ∙ ap (λ (y : Outcome). same_outcome y o) i
