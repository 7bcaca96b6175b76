-- Two files on which every call about lists, graphs and classes answers the same, and leaves the same in its output.
use Rattle.std.specs.Prelude.{◌≡◌, ℕ, List}
use Rattle.std.proofs.Math.Option.{Option}
use Rattle.spec_schedules.specs.Order.{Schedule}
use Rattle.spec_model.specs.Model.{Model}
use Rattle.spec_model.specs.OnFile.{start_file, continue_file, count_file, violation_file}
use Rattle.spec_model.specs.GraphCall.{graph_file}
use Rattle.spec_model.specs.ClassSize.{class_file}
use Rattle.spec_calls.specs.RowsCall.{rows_file, rows_output}

pub record SameCalls (M : Model) (f g : List ℕ) : Type 0 where
  pub starts : (out : List ℕ) → start_file M f out ≡ start_file M g out
  pub continues : (s : Schedule) (out : List ℕ) → continue_file M f s out ≡ continue_file M g s out
  pub counts : count_file M f ≡ count_file M g
  pub violations : (out : List ℕ) → violation_file M f out ≡ violation_file M g out
  pub rows : (o : Option Schedule) (out : List ℕ) → rows_file M f o out ≡ rows_file M g o out
  pub rows_left : (o : Option Schedule) (out : List ℕ) → rows_output M f o out ≡ rows_output M g o out
  -- with an output of so many bytes
  pub graphs : (s : Schedule) (room : ℕ) → graph_file M f s room ≡ graph_file M g s room
  pub classes : (s : Schedule) → class_file M f s ≡ class_file M g s
