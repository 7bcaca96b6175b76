-- `first_refusal` asks for an open caller first, and then for the length of the name.
use Rattle.std.proofs.Common.{rules}
use Rattle.service_marks.specs.Numbers.{refusal_of}
use Rattle.service_marks.proofs.before.first_refusal.Goals as goal

pub returns-in_err-open_refusal : goal.returns-in_err-open_refusal
unfolding refusal_of
returns-in_err-open_refusal c = search rules

pub returns-then-not-name_fits : goal.returns-then-not-name_fits
unfolding refusal_of
returns-then-not-name_fits c = search rules

pub returns : goal.returns
unfolding refusal_of
returns c = search rules
