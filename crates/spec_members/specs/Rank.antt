-- HOW MANY LISTED SCHEDULES ARE SMALLER than a full one, which need not be listed, in any memory model, modulo 2^64. Refusals in order: the
-- program's, what the model turns away, then 20 and 21 of the schedule, as of continue. No output is lent.
use Rattle.std.specs.Prelude.{ℕ, ◌^◌, ◌%◌, List, length}
use Rattle.std.proofs.Math.Option.{Option, none, some}
use Rattle.spec_file.specs.Program.{Program}
use Rattle.spec_file.specs.Decode.{Decoded, accepted, decode}
use Rattle.spec_file.specs.Decode as File
use Rattle.spec_schedules.specs.Lists.{filter}
use Rattle.spec_schedules.specs.Order.{Schedule, less}
use Rattle.spec_model.specs.Model.{Model}
use Rattle.spec_model.specs.Alike.{list_of}
use Rattle.spec_model.specs.Answers.{refuses_from}
use Rattle.spec_model.specs.OnFile.{admit}

pub data Ranked : Type 0 where
  -- so many are smaller
  ranked : ℕ → Ranked
  -- number and place
  refused_rank : ℕ → ℕ → Ranked

module _ (M : Model) where
  -- the listed schedules that are smaller
  unfoldable pub smaller : Program → Schedule → List Schedule
  smaller p s = filter (λ w. less w s) (list_of M p)

  -- by what refuses the schedule
  unfoldable pub rank_by : Program → Schedule → Option (ℕ × ℕ) → Ranked
  rank_by p s none = ranked (length (smaller p s) % 2 ^ 64)
  rank_by p s (some r) = refused_rank r.0 r.1

  unfoldable pub rank_of : Program → Schedule → Ranked
  rank_of p s = rank_by p s (refuses_from M.system 0 (M.start p) s)

  unfoldable pub rank_on : Decoded → Schedule → Ranked
  rank_on (accepted p) s = rank_of p s
  rank_on (File.refused n k) s = refused_rank n k

  -- the call itself, on the file's bytes
  abbrev pub rank_file : List ℕ → Schedule → Ranked
  rank_file file s = rank_on (admit M (decode file)) s
