-- `read_graph` reads the lines in order. The invariant: what has been read and what is left make the answer.
use Rattle.std.proofs.Common.{◌-◌, length}
use Rattle.graph_reader.proofs.HeldText.{Progress}
use Rattle.graph_reader.proofs.text.read_graph.Given as goal

abbrev pub invariant-loop-at : goal.invariant-loop-at
invariant-loop-at l = Progress l.n l.text l.s l.at l.number

abbrev pub decreases-loop-at : goal.decreases-loop-at
decreases-loop-at l = length l.text - l.at
