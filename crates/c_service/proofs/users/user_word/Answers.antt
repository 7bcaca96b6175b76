-- Each reply's arm gives the word that `user_word` gives this reply.
use Rattle.std.specs.Prelude.{◌≡◌}
use Rattle.std.proofs.Common.{rules, Ok, ap, sym, ◌∙◌}
use Rattle.spec_service.specs.declared.reply.Reply.TheVariants.{Done, Given, Idle}
use Rattle.spec_calls.specs.Users.{user_word}
use Rattle.c_service.proofs.users.user_word.Goals as goal

pub returns-in-Ok-Done : goal.returns-in-Ok-Done
unfolding user_word
returns-in-Ok-Done c =
    let g : c.args.r ≡ Ok Done = search rules in
    c.answered.ensures ∙ ap user_word (sym g)

pub returns-in-Ok-Given : goal.returns-in-Ok-Given
unfolding user_word
returns-in-Ok-Given c =
    let g : c.args.r ≡ Ok (Given c.in-Ok-Given.k c.in-Ok-Given.n) = search rules in
    c.answered-in-Ok-Given.ensures ∙ ap user_word (sym g)

pub returns-in-Ok-Idle : goal.returns-in-Ok-Idle
unfolding user_word
returns-in-Ok-Idle c =
    let g : c.args.r ≡ Ok Idle = search rules in
    ap user_word (sym g)

pub returns-in-Err : goal.returns-in-Err
unfolding user_word
returns-in-Err c = c.refused.ensures ∙ ap user_word (sym c.in-Err.is)
