-- All accesses are counted.
use Rattle.tso_replay.proofs.Admitted.{all_few, all_counted}
use Rattle.tso_replay.proofs.admitting.too_many.Goals as goal

pub accesses_below-requires : goal.accesses_below-requires
accesses_below-requires c = all_few c.args.program.now.code c.args.program.now.lengths c.args.program.now.threads c.requires.0 c.requires.1

pub returns : goal.returns
returns c = λ p loaded. all_counted c.args.program.now.code c.args.program.now.lengths c.args.program.now.threads p loaded c.accesses_below.result c.accesses_below.ensures.count
