-- `all_new` takes the writes one after the other and marks each. The invariant: what is left decides, beside the marks so far.
use Rattle.std.proofs.Common.{◌*◌, ◌≡◌, true, List, length, drop}
use Rattle.spec_file.specs.Frame.{pairs}
use Rattle.spec_schedules.specs.Lists.{all}
use Rattle.spec_sc.specs.State.{Event}
use Rattle.spec_sc.specs.Text.{events_in}
use Rattle.spec_judge.specs.Reading.{is_event, writes_in, all_new}
use Rattle.graph_reader.specs.Held.{Seen}
use Rattle.graph_reader.proofs.refusal.all_new.Given as goal

abbrev pub invariant-loop-k : goal.invariant-loop-k
invariant-loop-k l =
    (length l.s ≡ 96) × (all (is_event 6) (events_in (drop (2 * l.k) (pairs l.line))) ≡ true) × ((rows : List (List Event)) → Seen l.initial.s rows →
    (now : List (List Event)) × Seen l.s now × (all_new rows (writes_in (pairs l.line)) ≡ all_new now (events_in (drop (2 * l.k) (pairs l.line)))))
