-- What the call over one program file answers. Refusals in order: the program's, 41, then 22 for an output shorter than 48 bytes, also where
-- the answer would be robust. Otherwise robust, or the first listed schedule of total store order that is relaxed, which then stands in front
-- of the output. Nothing else changes the output. Each file and room has exactly one answer (`robustness_exists`, `robustness_unique`).
use Rattle.std.specs.Prelude.{ℕ, ◌<◌, ◌≤◌, ◌≡◌, List}
use Rattle.spec_file.specs.Over.{over}
use Rattle.spec_file.specs.Program.{Program}
use Rattle.spec_file.specs.Decode.{accepted, refused, decode}
use Rattle.spec_schedules.specs.Order.{Schedule}
use Rattle.spec_model.specs.OnFile.{admit}
use Rattle.spec_tso.specs.TotalStoreOrder.{tso}
use Rattle.spec_across.specs.Robust.{Robust, FirstRelaxed}

pub data Answer : Type 0 where
  robust : Answer
  -- not robust, with that schedule
  relaxed : Schedule → Answer
  -- number and place
  refusing : ℕ → ℕ → Answer

-- the answer to a program file, with an output of so many bytes
pub data Robustness (file : List ℕ) (room : ℕ) : Answer → Type 0 where
  -- the program's refusal comes first, and 41 right behind it
  by_file : (n k : ℕ) → admit tso (decode file) ≡ refused n k → Robustness file room (refusing n k)
  -- then 22
  by_output : (p : Program) → admit tso (decode file) ≡ accepted p → room < 48 → Robustness file room (refusing 22 0)
  -- the program is robust
  holding : (p : Program) → admit tso (decode file) ≡ accepted p → 48 ≤ room → Robust p → Robustness file room robust
  -- it is not: this is the first listed schedule that is relaxed
  breaking : (p : Program) (s : Schedule) → admit tso (decode file) ≡ accepted p → 48 ≤ room → FirstRelaxed p s
      → Robustness file room (relaxed s)

-- the later content of the output
unfoldable pub output_after : Answer → List ℕ → List ℕ
output_after robust out = out
output_after (relaxed s) out = over s out
output_after (refusing n k) out = out
