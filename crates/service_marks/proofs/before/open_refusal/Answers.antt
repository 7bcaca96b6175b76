-- `open_refusal` goes by the refusals in their order.
use Rattle.std.proofs.Common.{rules, tests}
use Rattle.service_marks.specs.Numbers.{open_refusal}
use Rattle.service_marks.proofs.before.open_refusal.Goals as goal

pub returns-then-n-ne4 : goal.returns-then-n-ne4
unfolding open_refusal
returns-then-n-ne4 c = search (rules, tests)

pub returns-then-k-gt3 : goal.returns-then-k-gt3
unfolding open_refusal
returns-then-k-gt3 c = search (rules, tests)

pub returns-then-not-is_open : goal.returns-then-not-is_open
unfolding open_refusal
returns-then-not-is_open c = search (rules, tests)

pub returns : goal.returns
unfolding open_refusal
returns c = search (rules, tests)
