-- What the calls that give many listed schedules at a time say of a program file: as many rows as the output has room for stand in front of
-- it; or the file is refused, or its program turned away, and no byte changes.
use Rattle.std.specs.Prelude.{ℕ, ◌/◌, List, length, take, Result, Ok, Err}
use Rattle.std.proofs.Math.Option.{Option}
use Rattle.spec_file.specs.declared.refusal.Refusal.{Refusal}
use Rattle.spec_file.specs.Over.{over}
use Rattle.spec_file.specs.Program.{Program}
use Rattle.spec_file.specs.Decode.{Decoded, accepted, refused, decode}
use Rattle.spec_schedules.specs.Order.{Schedule}
use Rattle.spec_schedules.specs.Found.{after}
use Rattle.spec_model.specs.Model.{Model}
use Rattle.spec_model.specs.Alike.{list_of}
use Rattle.spec_model.specs.OnFile.{admit}
use Rattle.spec_calls.specs.Rows.{row_size}
use Rattle.spec_calls.specs.ListRows.{rows_of}

module _ (M : Model) where
  -- the listed schedules that stand in such an output, behind the bound or from the first one on
  unfoldable pub fitting : Program → Option Schedule → List ℕ → List Schedule
  fitting p o out = take (length out / row_size M.need) (after o (list_of M p))

  -- the number of rows written, or the refusal
  unfoldable pub rows_on : Decoded → Option Schedule → List ℕ → Result ℕ Refusal
  rows_on (accepted p) o out = Ok (length (fitting p o out))
  rows_on (refused n k) o out = Err (record { number = n; place = k })

  -- the output behind the call
  unfoldable pub left_on : Decoded → Option Schedule → List ℕ → List ℕ
  left_on (accepted p) o out = over (rows_of M p (fitting p o out)) out
  left_on (refused n k) o out = out

  -- the calls themselves, on the file's bytes
  abbrev pub rows_file : List ℕ → Option Schedule → List ℕ → Result ℕ Refusal
  rows_file file o out = rows_on (admit M (decode file)) o out

  abbrev pub rows_output : List ℕ → Option Schedule → List ℕ → List ℕ
  rows_output file o out = left_on (admit M (decode file)) o out
