-- What the judge says of a program file and a graph text, in document 01's words. Refusals in order: the program's, then 22 for an output
-- shorter than 24 bytes, then 30 to 33 of the text. Otherwise yes with the least schedule, which then stands in front of the output, or no.
-- Only a yes changes the output. Each file, text and room has exactly one answer (`judgement_exists`, `judgement_unique`).
use Rattle.std.specs.Prelude.{ℕ, ◌<◌, ◌≤◌, ◌≡◌, List, length}
use Rattle.spec_file.specs.Over.{over}
use Rattle.spec_file.specs.Program.{Program}
use Rattle.spec_file.specs.Decode.{accepted, refused, decode}
use Rattle.spec_schedules.specs.Order.{Schedule}
use Rattle.spec_sc.specs.Graph.{Graph}
use Rattle.spec_judge.specs.Consistent.{Consistent}
use Rattle.spec_judge.specs.Least.{LeastFor}
use Rattle.spec_judge.specs.Reading.{Parsed, parsed, refused_at, read_graph}

pub data Answer : Type 0 where
  -- yes, with the least schedule
  consistent : Schedule → Answer
  -- no
  inconsistent : Answer
  -- number and place
  refusing : ℕ → ℕ → Answer

-- the file is the accepted program p and the output has room for a schedule, so that the text is read, and as r
pub record TextRead (file text : List ℕ) (room : ℕ) (p : Program) (r : Parsed) : Type 0 where
  pub accepts : decode file ≡ accepted p
  pub enough : 24 ≤ room
  pub reads : read_graph (length p.threads) text ≡ r

-- the answer to a program file and a graph text, with an output of so many bytes
pub data Judgement (file text : List ℕ) (room : ℕ) : Answer → Type 0 where
  -- the program's refusal comes first
  program_refused : (n k : ℕ) → decode file ≡ refused n k → Judgement file text room (refusing n k)
  -- 22 comes behind the refusal of the program
  output_refused : (p : Program) → decode file ≡ accepted p → room < 24 → Judgement file text room (refusing 22 0)
  -- 30 to 33 come behind 22
  text_refused : (p : Program) (n k : ℕ) → TextRead file text room p (refused_at n k) → Judgement file text room (refusing n k)
  -- yes: the graph is consistent, and this is the least full schedule that has it
  judged_yes : (p : Program) (g : Graph) (s : Schedule) → TextRead file text room p (parsed g) → Consistent p g → LeastFor p g s →
      Judgement file text room (consistent s)
  -- no: it is not consistent
  judged_no : (p : Program) (g : Graph) → TextRead file text room p (parsed g) → (Consistent p g → ⊥)
      → Judgement file text room inconsistent

-- the later content of the output
unfoldable pub output_after : Answer → List ℕ → List ℕ
output_after (consistent s) out = over s out
output_after inconsistent out = out
output_after (refusing n k) out = out
