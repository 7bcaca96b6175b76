-- Robust programs: whatever a full schedule does under total store order, its graph is consistent by document 01's definition, so that some
-- full schedule of sequential consistency has it too. A schedule whose graph is not consistent is called relaxed.
use Rattle.std.specs.Prelude.{◌≡◌, true}
use Rattle.spec_file.specs.Program.{Program}
use Rattle.spec_schedules.specs.Order.{Schedule, less}
use Rattle.spec_model.specs.Model.{Model, Full, graph}
use Rattle.spec_model.specs.Alike.{Listed}
use Rattle.spec_judge.specs.Consistent.{Consistent}
use Rattle.spec_tso.specs.TotalStoreOrder.{tso}

-- the graph of s under total store order is consistent
abbrev pub Sequential : Program → Schedule → Type 0
Sequential p s = Consistent p (graph tso p s)

abbrev pub Robust : Program → Type 0
Robust p = (s : Schedule) → Full tso p s → Sequential p s

-- s is the first listed schedule of total store order that is relaxed
pub record FirstRelaxed (p : Program) (s : Schedule) : Type 0 where
  pub listed : Listed tso p s
  pub relaxed : Sequential p s → ⊥
  pub first : (r : Schedule) → Listed tso p r → less r s ≡ true → Sequential p r

-- g is the graph of some full schedule of p under M
abbrev pub HasGraph : (M : Model) → Program → M.Graph → Type 0
HasGraph M p g = (s : Schedule) × Full M p s × (graph M p s ≡ g)
