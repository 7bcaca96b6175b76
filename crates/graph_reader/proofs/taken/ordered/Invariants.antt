-- `ordered` puts 24 entries. The invariant: the first q are put.
use Rattle.std.proofs.Common.{◌≡◌, length}
use Rattle.spec_file.specs.Frame.{pairs}
use Rattle.spec_judge.specs.Reading.{writes_in}
use Rattle.graph_reader.specs.Held.{Ordered}
use Rattle.graph_reader.proofs.taken.ordered.Given as goal

abbrev pub invariant-loop-q : goal.invariant-loop-q
invariant-loop-q l = (length l.p ≡ 576) × Ordered l.initial.p l.l (writes_in (pairs l.line)) l.q l.p
