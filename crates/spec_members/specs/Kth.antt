-- THE MEMBER NUMBER k of the list, from 0, in any memory model. Refusals in order: the program's, what the model turns away, then 22 for an
-- output shorter than the model needs. Otherwise the member, which then stands in front of the output, or no more, exactly where the list
-- has not so many. Only a member changes the output.
use Rattle.std.specs.Prelude.{ℕ, List}
use Rattle.spec_file.specs.Program.{Program}
use Rattle.spec_file.specs.Decode.{Decoded, accepted, decode}
use Rattle.spec_file.specs.Decode as File
use Rattle.spec_schedules.specs.Calls.{refused, answer_to, short, Result, result, member}
use Rattle.spec_model.specs.Model.{Model}
use Rattle.spec_model.specs.Alike.{list_of}
use Rattle.spec_model.specs.OnFile.{admit}

module _ (M : Model) where
  unfoldable pub kth_of : Program → ℕ → List ℕ → Result
  kth_of p k out = result (answer_to (short M.need out) (member (list_of M p) k)) out

  unfoldable pub kth_on : Decoded → ℕ → List ℕ → Result
  kth_on (accepted p) k out = kth_of p k out
  kth_on (File.refused n j) k out = result (refused n j) out

  -- the call itself, on the file's bytes
  abbrev pub kth_file : List ℕ → ℕ → List ℕ → Result
  kth_file file k out = kth_on (admit M (decode file)) k out
