-- A program as document 01 describes it: threads of instructions, the groups that its `02` lines declare alike, and the values that its
-- `03` lines let memory start with.
use Rattle.std.specs.Prelude.{ℕ, List, [], get_or, replicate}
use Rattle.spec_file.specs.declared.instruction.Instruction.{Instruction}

-- the threads in file order, each the list of its instructions; the members of each `02` line, in file order; the starting value of each of
-- the eight locations
pub record Program : Type 0 where
  pub threads : List (List Instruction)
  pub groups : List (List ℕ)
  pub starting : List ℕ

-- the code of thread t; a thread that does not exist has none
unfoldable pub code_of : Program → ℕ → List Instruction
code_of p t = get_or p.threads t []

-- the eight values that memory starts with
unfoldable pub initial : Program → List ℕ
initial p = p.starting

-- the starting values of a program without `03` lines
abbrev pub zeros : List ℕ
zeros = replicate 8 0
