-- `is_harmless` names the kinds by ranges of their bytes.
use Rattle.std.proofs.Common.{arith}
use Rattle.force_moves.proofs.TailLaws.{fine_access, fine_alone, fine_skip_at_most}
use Rattle.force_moves.proofs.tails.is_harmless.Goals as goal

pub returns-in-16-to-19 : goal.returns-in-16-to-19
returns-in-16-to-19 c = λ e. fine_access c.args.code.now c.args.row c.requires (omega arith) (omega arith)

pub returns-in-32-to-34 : goal.returns-in-32-to-34
returns-in-32-to-34 c = λ e. fine_alone c.args.code.now c.args.row c.requires (omega arith) (omega arith)

pub returns-in-36 : goal.returns-in-36
returns-in-36 c = λ e. fine_skip_at_most c.args.code.now c.args.row c.requires c.in-36.is
