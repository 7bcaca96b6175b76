-- The notes of a run under total store order: of each step that reads or writes memory. A read has its source, which may be a pending store
-- of its own thread; a write is noted when it reaches memory.
use Rattle.std.specs.Prelude.{ℕ, cond, ◌||◌, List, [], ◌∷◌, ◌++◌}
use Rattle.spec_schedules.specs.Order.{Schedule}
use Rattle.graph_writer.specs.Notes.{Note}
use Rattle.spec_tso.specs.State.{State, thread_of, kind_of, owner, step}
use Rattle.spec_tso.specs.Actions.{action}
use Rattle.tso_machine.specs.declared.stepping.Act.{Act}
use Rattle.tso_machine.specs.Steps.{source_of, cell_at}

-- what the step b states
unfoldable pub note_of : State → ℕ → Note
note_of σ b = record {
  thread = (action σ b).event.0;
  number = (action σ b).event.1;
  location = (action σ b).location;
  reads = (action σ b).reads;
  source = source_of (kind_of b) (owner b) (thread_of σ (owner b)) (cell_at σ b);
  wrote = (action σ b).puts;
}

-- the note of the step b, if it reads or writes memory
unfoldable pub noted : State → ℕ → List Note
noted σ b = cond ((action σ b).reads || (action σ b).puts) (note_of σ b ∷ []) []

-- the notes of a schedule's steps, in order
unfoldable pub notes : State → Schedule → List Note
notes σ [] = []
notes σ (b ∷ s) = noted σ b ++ notes (step σ b) s

-- a step's note as eight bytes, as the code has it
unfoldable pub bytes_of : ℕ → Act → List ℕ
bytes_of b a =
    owner b
    ∷ a.number
    ∷ a.location
    ∷ cond a.reads 1 0
    ∷ a.source.thread
    ∷ a.source.number
    ∷ cond a.puts 1 0
    ∷ 0
    ∷ []
