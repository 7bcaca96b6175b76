-- States from which no assertion can be reached: nothing that is left to a thread can fail. For the code, which decides such a game at
-- once.
use Prim.Native.Nat.{ℕ}
use mathlib.Core.Path.{◌≡◌}
use mathlib.Core.Bool.{false}
use mathlib.Core.List.{List}
use Rattle.spec_file.specs.WellFormed.{Everywhere}
use Rattle.spec_file.specs.declared.instruction.Instruction.{Instruction}
use Rattle.spec_file.specs.declared.instruction.Instruction.TheVariants.{Memory, Alone}
use Rattle.spec_sc.specs.Local.{stops, outcome}
use Rattle.spec_sc.specs.State.{State, thread_of}

-- an instruction that never ends its thread by failing
abbrev pub Harmless : Instruction → Type 0
Harmless (Memory a) = Unit {0}
Harmless (Alone o) = (rs : List ℕ) → outcome rs o ≡ stops → ⊥

abbrev pub Silent : State → Type 0
Silent σ = (t : ℕ) → Everywhere Harmless (thread_of σ t).local.rest × ((thread_of σ t).local.failed ≡ false)
