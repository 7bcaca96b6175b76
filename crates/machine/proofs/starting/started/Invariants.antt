-- `started` opens one thread after the other. The invariant: those before t stand where they should.
use Rattle.std.proofs.Common.{ℕ, ◌<◌, ◌≤◌, ◌≡◌, length, get_or}
use Rattle.spec_file.specs.Program.{Program}
use Rattle.spec_sc.specs.State.{start}
use Rattle.machine.specs.Held.{idle, HoldsAt, Loaded}
use Rattle.machine.proofs.starting.started.Given as goal

abbrev pub invariant-loop-t : goal.invariant-loop-t
invariant-loop-t l =
    (l.t ≤ 6) × (length l.all ≡ 6) × ((p : Program) → Loaded l.program.code l.program.lengths l.program.threads p → (u : ℕ) → u < l.t → HoldsAt l.program.code l.program.lengths (get_or l.all u idle) (start p) u)
