-- `ended` makes the word of kind 2 with a caller.
use Rattle.std.proofs.Common.{refl}
use Rattle.spec_calls.specs.Users.{user_word}
use Rattle.c_service.proofs.users.ended.Goals as goal

pub returns : goal.returns
unfolding user_word
returns c = refl
