-- Live registers as the code keeps them: a byte for each row, a bit for each register.
use Rattle.std.specs.Prelude.{ℕ, ◌+◌, ◌*◌, ◌<◌, ◌≤◌, ◌≡◌, Bool, not, ◌||◌, List, ◌++◌, eqb, get_or, drop}
use Rattle.spec_file.specs.Program.{Program, code_of}
use Rattle.spec_file.specs.declared.instruction.Instruction.{Instruction}
use Rattle.file_rows.specs.Rows.{thread_code}
use Rattle.spec_sc.specs.State.{State, thread_of}
use Rattle.theory_sc.specs.Sets.{set_of}
use Rattle.theory_sc_key.specs.Registers.{live}

-- for each instruction i of a thread t, in its row, the registers that are live before it
pub record Live (code lengths masks : List ℕ) : Type 0 where
  pub rows : (t i : ℕ) → t < 6 → i < get_or lengths t 0 → get_or lengths t 0 ≤ 16
      → get_or masks (t * 16 + i) 0 ≡ set_of (live 0 (drop i (thread_code code t (get_or lengths t 0)))) 4

-- each thread stands somewhere in its code
abbrev pub Stands : Program → State → Type 0
Stands p σ = (t : ℕ) → (front : List Instruction) × (code_of p t ≡ front ++ (thread_of σ t).local.rest)

-- whether an instruction with this first byte reads the register that it names
unfoldable pub reads_own : ℕ → Bool
reads_own b = not (eqb b 0x10 || (eqb b 0x11 || (eqb b 0x12 || (eqb b 0x13 || eqb b 0x20))))

-- whether it writes it
unfoldable pub writes_own : ℕ → Bool
writes_own b = eqb b 0x11 || (eqb b 0x12 || (eqb b 0x13 || (eqb b 0x20 || eqb b 0x21)))
