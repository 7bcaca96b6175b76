-- `next_new`: under sequential consistency outcomes are what they are in one model.
use Rattle.std.proofs.Common.{rules}
use Rattle.spec_covers.specs.Covers.{outcome_of}
use Rattle.spec_across.specs.Under.{outcome_under}
use Rattle.outcome_states.proofs.seeking.next_new.Goals as goal

pub returns-in_err-s-in-Sequential-clause-first : goal.returns-in_err-s-in-Sequential-clause-first
unfolding outcome_under outcome_of
returns-in_err-s-in-Sequential-clause-first c = search rules

pub returns-in_ok-s-in-Sequential-clause-first : goal.returns-in_ok-s-in-Sequential-clause-first
unfolding outcome_under outcome_of
returns-in_ok-s-in-Sequential-clause-first c = search rules
