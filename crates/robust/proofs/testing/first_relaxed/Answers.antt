-- `first_relaxed` looks for the first that is relaxed.
use Rattle.std.proofs.Common.{rules}
use Rattle.file_decoder.specs.Compiled.{program_of}
use Rattle.spec_across.proofs.Relaxed.{is_relaxed}
use Rattle.robust.proofs.testing.first_relaxed.Goals as goal

pub returns-clause-first : goal.returns-clause-first
returns-clause-first c = c.first_passing.ensures.first (is_relaxed (program_of c.args.program)) (λ s b full r. search rules)
