-- `served` goes by whether there is a schedule.
use Rattle.std.proofs.Common.{sym, ◌∙◌}
use Rattle.spec_service.specs.Record.{standing, served}
use Rattle.service_record.proofs.Handed.{served_given, served_none}
use Rattle.service_record.proofs.left.served.Goals as goal

pub returns-in_default : goal.returns-in_default
unfolding served standing
returns-in_default c = λ o e. served_none c.args.c.now o (sym c.in_default.is ∙ e)

pub returns : goal.returns
returns c = λ o e. served_given c.args.c.now c.in-Some.next o (sym c.in-Some.is ∙ e)
