-- The four calls on a program file. A file that is refused refuses the call with its number and place before all else; a program that the
-- model turns away does so next; no byte of an output changes then. On any other program the call answers as on its program.
use Rattle.std.specs.Prelude.{ℕ, List}
use Rattle.std.proofs.Math.Option.{Option, none, some}
use Rattle.spec_file.specs.Program.{Program}
use Rattle.spec_file.specs.Decode.{Decoded, accepted, decode}
use Rattle.spec_file.specs.Decode as File
use Rattle.spec_schedules.specs.Order.{Schedule}
use Rattle.spec_schedules.specs.Calls.{refused, Result, result}
use Rattle.spec_model.specs.Model.{Model}
use Rattle.spec_model.specs.Answers.{start_of, continue_of, Counts, count_of, Violation, refused_by, violation_content, violation_of}

-- what count says
pub data Count : Type 0 where
  counted : Counts → Count
  refused_count : ℕ → ℕ → Count

-- a program, by what turns it away
unfoldable pub unless : Program → Option (ℕ × ℕ) → Decoded
unless p none = accepted p
unless p (some r) = File.refused r.0 r.1

module _ (M : Model) where
  -- the program that the model lists, or the refusal
  unfoldable pub admit : Decoded → Decoded
  admit (accepted p) = unless p (M.away p)
  admit (File.refused n k) = File.refused n k

  unfoldable pub start_on : Decoded → List ℕ → Result
  start_on (accepted p) out = start_of M p out
  start_on (File.refused n k) out = result (refused n k) out

  unfoldable pub continue_on : Decoded → Schedule → List ℕ → Result
  continue_on (accepted p) s out = continue_of M p s out
  continue_on (File.refused n k) s out = result (refused n k) out

  unfoldable pub count_on : Decoded → Count
  count_on (accepted p) = counted (count_of M p)
  count_on (File.refused n k) = refused_count n k

  unfoldable pub violation_on : Decoded → List ℕ → Violation × List ℕ
  violation_on (accepted p) out = violation_of M p out
  violation_on (File.refused n k) out = (refused_by n k, violation_content (refused_by n k) out)

  -- the calls themselves, on the file's bytes
  abbrev pub start_file : List ℕ → List ℕ → Result
  start_file file out = start_on (admit (decode file)) out

  abbrev pub continue_file : List ℕ → Schedule → List ℕ → Result
  continue_file file s out = continue_on (admit (decode file)) s out

  abbrev pub count_file : List ℕ → Count
  count_file file = count_on (admit (decode file))

  abbrev pub violation_file : List ℕ → List ℕ → Violation × List ℕ
  violation_file file out = violation_on (admit (decode file)) out
