use Rattle.std.proofs.Common.{arith}
use Rattle.spec_file.specs.Frame.{pairs}
use Rattle.graph_reader.proofs.Ranks.{not_read}
use Rattle.spec_judge.proofs.LineRanges.{write_shape}
use Rattle.graph_reader.proofs.refusal.in_range.Goals as goal

pub all_events-requires : goal.all_events-requires
all_events-requires c =
    let shape = write_shape (pairs c.args.line.now) c.requires.1 (not_read (pairs c.args.line.now) c.field-b.result c.field-b.ensures.same c.if-b-eq64.false) in
    (c.requires.0, omega (arith, c.requires.0, shape.2))
