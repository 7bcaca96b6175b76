-- `first_new` seeks from the start.
use Rattle.std.proofs.Common.{ℕ, sym, subst, ◌∙◌, [], take}
use Rattle.file_decoder.specs.Compiled.{program_of}
use Rattle.theory_sc_key.specs.Key.{Wide}
use Rattle.theory_outcomes.proofs.Passing.{passing_first}
use Rattle.states_outcomes.specs.Rows.{is_new}
use Rattle.states_outcomes.proofs.first.first_new.Goals as goal

pub returns-clause-first : goal.returns-clause-first
returns-clause-first c marks =
    let a = c.args in
    let pre = c.requires in
    let p = program_of a.program in
    let r = c.new_behind.ensures.first a.program.threads a.program.groups p [] pre.1.stands (subst (λ (n : ℕ). Wide n p) (sym pre.2) pre.1.wide) marks in
    (r.0 ∙ passing_first p pre.0 (is_new (take a.frame.cut a.lent.now) a.frame.known) a.m.spot.place.steps pre.1.stands.reached.counted, r.1)
