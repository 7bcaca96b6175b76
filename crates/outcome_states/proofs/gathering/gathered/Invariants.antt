-- `gathered` takes one new outcome after the other. The invariant: the rows are the first so many outcomes, the marks are true of the rows, and
-- those from the number on stand in the output.
use Rattle.std.proofs.Common.{◌≤◌, ◌≡◌, length, take, drop}
use Rattle.spec_file.specs.Over.{over}
use Rattle.file_decoder.specs.Compiled.{program_of}
use Rattle.listing_model.specs.ModelOf.{model_of}
use Rattle.spec_outcomes.specs.Firsts.{firsts_of}
use Rattle.spec_outcomes.specs.OutcomesCall.{outcome_rows}
use Rattle.outcome_states.specs.Gathered.{Known}
use Rattle.outcome_states.specs.Marks.{Marks}
use Rattle.outcome_states.proofs.Marks.{framed}
use Rattle.outcome_states.proofs.gathering.gathered.Given as goal

abbrev pub invariant-loop-k : goal.invariant-loop-k
invariant-loop-k l = record {
  within : l.k ≤ length (firsts_of (model_of l.model) (program_of l.program));
  known : Known (model_of l.model) (program_of l.program) (take l.frame.cut l.lent) l.k;
  marks : Marks l.model (program_of l.program) (framed l.frame.width l.frame.slots l.frame.cut l.k) (take l.frame.cut l.lent) l.lent;
  shown : l.out ≡ over (outcome_rows (model_of l.model) (program_of l.program) (drop l.from (take l.k (firsts_of (model_of l.model) (program_of l.program))))) l.initial.out;
}
