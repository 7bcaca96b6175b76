-- `schedule_lines` goes through the rows. The invariant: the lines of the first k schedules stand in front of the output, and so many of these fail.
use Rattle.std.proofs.Common.{ℕ, ◌*◌, ◌≤◌, ◌≡◌, List, map, length, take}
use Rattle.spec_file.specs.Program.{Program}
use Rattle.spec_schedules.specs.Lists.{filter}
use Rattle.spec_schedules.specs.Order.{Schedule}
use Rattle.graph_writer.specs.NoteText.{Wrote}
use Rattle.spec_model.specs.Model.{failing}
use Rattle.spec_sc.specs.Sequential.{sc}
use Rattle.listing_cursor.specs.ListRows.{Shown}
use Rattle.spec_calls.specs.Printed.{schedule_frame}
use Rattle.explorer_lines.specs.Pieces.{Short}
use Rattle.explorer_lines.proofs.frames.schedule_lines.Given as goal

abbrev pub invariant-loop-k : goal.invariant-loop-k
invariant-loop-k l =
    (l.k ≤ l.n) × (l.at ≤ length l.out) × (length l.out ≡ length l.initial.out) × (l.failed ≤ l.k * 256)
    × ((p : Program) (ss : List Schedule) (held : List ℕ) → Shown sc p ss held l.rows l.n → Short ss
    → (Wrote (map (schedule_frame p) (take l.k ss)) l.initial.out l.out l.at) × (l.failed ≡ length (filter (failing sc p) (take l.k ss))))
