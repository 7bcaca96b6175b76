-- What the class call and the count call say together, under sequential consistency: the sizes of the classes over the whole list sum to
-- what count says of the same file with its `02` lines taken out, and those of the classes that fail to its second number. No number is
-- lost: both fit 64 bits.
use Rattle.std.specs.Prelude.{ℕ, ◌^◌, ◌<◌, ◌≡◌, List}
use Rattle.spec_file.specs.Program.{Program}
use Rattle.spec_file.specs.Ungrouped.{without_alike}
use Rattle.spec_schedules.specs.Lists.{filter}
use Rattle.spec_model.specs.ClassSize.{total, class_size}
use Rattle.spec_sc.specs.Sequential.{sc}
use Rattle.spec_model.specs.Alike.{list_of}
use Rattle.spec_model.specs.Model.{failing}
use Rattle.spec_model.specs.OnFile.{counted, count_file}

-- what the class call and the count call say together of a file that is read as p
pub record ClassSums (file : List ℕ) (p : Program) : Type 0 where
  pub sums : count_file sc (without_alike file) ≡ counted (record {
    listed = total (class_size sc p) (list_of sc p);
    failed = total (class_size sc p) (filter (failing sc p) (list_of sc p));
  })
  pub fits : total (class_size sc p) (list_of sc p) < 2 ^ 63
