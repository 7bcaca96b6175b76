-- the operands of a kind stand in the frame's first bytes
use Rattle.std.proofs.Common.{ap, arith}
use Rattle.spec_file.specs.Frame.{pairs}
use Rattle.spec_file.specs.declared.kind.Kind.{Kind}
use Rattle.spec_file.specs.Frames.{byte, kind}
use Rattle.spec_file.proofs.KindTable.{kind_bounds}
use Rattle.file_rows.proofs.fields.in_range.Goals as goal

pub operand_fits-requires : goal.operand_fits-requires
unfolding kind
operand_fits-requires c =
    omega (arith, (kind_bounds (byte (pairs c.args.line.now) 0)).first, ap (λ (k : Kind). k.first) c.requires)

pub operand_fits-requires-then-operand_fits : goal.operand_fits-requires-then-operand_fits
unfolding kind
operand_fits-requires-then-operand_fits c =
    omega (arith, (kind_bounds (byte (pairs c.args.line.now) 0)).second, ap (λ (k : Kind). k.second) c.requires)
