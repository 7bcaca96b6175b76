-- The two operands.
use Rattle.theory_search.specs.Ahead.{could_add}
use Rattle.search_place.proofs.waiting.could_add.Goals as goal

pub returns-in-Constant : goal.returns-in-Constant
unfolding could_add
returns-in-Constant c = rw c.in-Constant.is

pub returns-in-Register : goal.returns-in-Register
unfolding could_add
returns-in-Register c = rw c.in-Register.is
