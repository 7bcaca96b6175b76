-- Document 01's store and load pair under total store order, from the file's bytes: four are listed and none fails.
use Rattle.std.specs.Prelude.{◌≡◌, refl}
use Rattle.spec_model.specs.Answers.{count_of}
use Rattle.spec_model.specs.OnFile.{unless, admit, counted, count_on, count_file}
use Rattle.spec_file.specs.WellFormed.{all_accesses}
use Rattle.spec_sc.specs.Text.{text_of}
use Rattle.spec_tso.specs.TotalStoreOrder.{tso}
use Rattle.spec_tso.proofs.ModelExamples.{listed}
use Rattle.spec_cases.specs.Rows.{buffering}
use Rattle.spec_cases.specs.Table.{computed}

pub pair_has_four : count_file tso (text_of buffering.file) ≡ counted (record { listed = 4; failed = 0 })
unfolding computed listed unless admit count_on count_of all_accesses
pair_has_four = refl
