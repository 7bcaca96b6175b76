-- `marked` takes the writes one after the other. The invariant: what is left is still to be marked.
use Rattle.std.proofs.Common.{◌*◌, ◌≡◌, true, length, drop}
use Rattle.spec_file.specs.Frame.{pairs}
use Rattle.spec_schedules.specs.Lists.{all}
use Rattle.spec_sc.specs.Text.{events_in}
use Rattle.spec_judge.specs.Reading.{is_event, writes_in}
use Rattle.graph_reader.specs.Held.{marked_by}
use Rattle.graph_reader.proofs.taken.marked.Given as goal

abbrev pub invariant-loop-k : goal.invariant-loop-k
invariant-loop-k l =
    (length l.s ≡ 96) × (all (is_event 6) (events_in (drop (2 * l.k) (pairs l.line))) ≡ true)
    × (marked_by l.initial.s (writes_in (pairs l.line)) ≡ marked_by l.s (events_in (drop (2 * l.k) (pairs l.line))))
