-- The word is the reply's, and the list and the last caller are what the call left.
use Rattle.std.proofs.Common.{ap, ◌∙◌}
use Rattle.spec_calls.specs.Users.{user_word}
use Rattle.c_service.proofs.users.tarczolin_forget.Goals as goal

pub returns : goal.returns
returns c = let e = c.forget.ensures in (c.user_word.ensures ∙ ap user_word e.0, e.1)
