-- What the call over two program files answers, in document 02's words. Refusals in order: the first file's, then the second's, then 22 for
-- an output shorter than 24 bytes, also where the answer would be covered; 22 belongs to neither file. Otherwise covered, or the first
-- listed schedule of the second with an outcome that the first lacks, which then stands in front of the output. Nothing else changes the
-- output. Each two files and room have exactly one answer (`comparison_exists`, `comparison_unique`).
use Rattle.std.specs.Prelude.{ℕ, ◌<◌, ◌≤◌, ◌≡◌, List}
use Rattle.spec_file.specs.Over.{over}
use Rattle.spec_file.specs.Program.{Program}
use Rattle.spec_file.specs.Decode.{accepted, refused, decode}
use Rattle.spec_schedules.specs.Order.{Schedule}
use Rattle.spec_covers.specs.Covers.{Covers, FirstLacking}

pub data Answer : Type 0 where
  covered : Answer
  -- not covered, with that schedule
  lacking : Schedule → Answer
  -- number and place, of the first file, of the second, and of the output
  first_refused : ℕ → ℕ → Answer
  second_refused : ℕ → ℕ → Answer
  output_refused : ℕ → ℕ → Answer

-- both files are accepted programs
pub record Accepted (first second : List ℕ) (p q : Program) : Type 0 where
  pub one : decode first ≡ accepted p
  pub other : decode second ≡ accepted q

-- the answer to two program files, with an output of so many bytes
pub data Comparison (first second : List ℕ) (room : ℕ) : Answer → Type 0 where
  -- the first file's refusal comes first
  by_first : (n k : ℕ) → decode first ≡ refused n k → Comparison first second room (first_refused n k)
  -- the second file's refusal comes behind the first file's
  by_second : (p : Program) (n k : ℕ) → decode first ≡ accepted p → decode second ≡ refused n k
      → Comparison first second room (second_refused n k)
  -- 22 comes behind the refusals of both files
  by_output : (p q : Program) → Accepted first second p q → room < 24 → Comparison first second room (output_refused 22 0)
  -- the first covers the second
  covering : (p q : Program) → Accepted first second p q → 24 ≤ room → Covers p q → Comparison first second room covered
  -- the first does not cover the second: s is the first listed schedule of the second with an outcome that the first lacks
  exceeding : (p q : Program) (s : Schedule) → Accepted first second p q → 24 ≤ room → FirstLacking p q s
      → Comparison first second room (lacking s)

-- the later content of the output
unfoldable pub output_after : Answer → List ℕ → List ℕ
output_after covered out = out
output_after (lacking s) out = over s out
output_after (first_refused n k) out = out
output_after (second_refused n k) out = out
output_after (output_refused n k) out = out
