-- `by_counts` compares the two numbers.
use Rattle.std.proofs.Common.{sym, ◌∙◌}
use Rattle.force.proofs.NoneHostile.{said_all, said_fewer}
use Rattle.force.proofs.answering.by_counts.Goals as goal

pub returns-then-n : goal.returns-then-n
returns-then-n c n l f = said_all n (sym l ∙ c.if-n.true ∙ f)

pub returns-else-n : goal.returns-else-n
returns-else-n c n l f = said_fewer n (λ e. c.if-n.false (l ∙ e ∙ sym f))
