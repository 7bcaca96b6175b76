-- `all_events` takes the writes one after the other. The invariant: what is left decides.
use Rattle.std.proofs.Common.{◌*◌, ◌≡◌, drop}
use Rattle.spec_file.specs.Frame.{pairs}
use Rattle.spec_schedules.specs.Lists.{all}
use Rattle.spec_sc.specs.Text.{events_in}
use Rattle.spec_judge.specs.Reading.{is_event, writes_in}
use Rattle.graph_reader.proofs.refusal.all_events.Given as goal

abbrev pub invariant-loop-k : goal.invariant-loop-k
invariant-loop-k l = all (is_event l.n) (writes_in (pairs l.line)) ≡ all (is_event l.n) (events_in (drop (2 * l.k) (pairs l.line)))
