-- The code of a program as the decoder keeps it: a row of sixteen bytes for each instruction, sixteen rows a thread.
use Rattle.std.specs.Prelude.{ℕ, ◌+◌, ◌*◌, cond, List, [], ltb, take, drop}
use Rattle.spec_file.specs.declared.instruction.Instruction.{Instruction}
use Rattle.spec_file.specs.Frames.{Frame, instruction}
use Rattle.spec_file.specs.Tabulate.{tabulate}

-- a row of sixteen bytes: an instruction's frame, padded with zeros
unfoldable pub row_at : List ℕ → ℕ → Frame
row_at code k = take 16 (drop (k * 16) code)

-- the instruction in row k; there are 96 rows, and behind them only empty frames
unfoldable pub instruction_at : List ℕ → ℕ → Instruction
instruction_at code k = cond (ltb k 96) (instruction (row_at code k)) (instruction [])

-- thread t's instructions stand in the rows from 16 t on
unfoldable pub thread_code : List ℕ → ℕ → ℕ → List Instruction
thread_code code t n = tabulate (λ i. instruction_at code (t * 16 + i)) n
