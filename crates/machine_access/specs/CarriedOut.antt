-- What an access does on what memory holds, as the code carries it out, and how it holds a thread. For the machine's own functions: nothing
-- here is needed to read what a step is.
use Rattle.std.specs.Prelude.{ℕ, Bool, true, false, List, drop, slice_index_or}
use Rattle.std.proofs.Math.Option.{Option, none, some}
use Rattle.spec_file.specs.declared.instruction.Instruction.{Instruction}
use Rattle.spec_file.specs.declared.instruction.Instruction.TheVariants.{Memory, Alone}
use Rattle.machine_access.specs.declared.accessing.Access.{Access}
use Rattle.machine_access.specs.declared.thread.ThreadState.{ThreadState}
use Rattle.spec_sc.specs.Local.{Local, access_place, access_takes, access_puts, access_sets}
use Rattle.spec_sc.specs.Actions.{given}

-- what the code's counter and registers say of a thread whose code this is
abbrev pub local_of : List Instruction → ThreadState → Local
local_of c s = record { registers = s.registers; rest = drop s.at c; failed = s.failed }

-- an access: its location, whether it reads, the registers behind it, whether it writes and what
abbrev pub accessing : ℕ → Bool → List ℕ → Bool → ℕ → Access
accessing l b rs w v = record { location = l; reads = b; registers = rs; writes = w; value = v }

-- the access a writing v
abbrev pub writing : Access → ℕ → Access
writing a v = accessing a.location a.reads a.registers true v

-- what was written; 0 where nothing was
abbrev pub value_in : Option ℕ → ℕ
value_in none = 0
value_in (some v) = v

-- what an access does on finding memory so; nothing for an instruction that is none
abbrev pub access_of : Instruction → List ℕ → List ℕ → Access
access_of (Memory a) rs m =
    let x = slice_index_or m (access_place a) 0 in
    let put = access_puts rs a x in
    accessing (access_place a) (access_takes a) (access_sets rs a x) (given put) (value_in put)
access_of (Alone o) rs m = accessing 0 false rs false 0
