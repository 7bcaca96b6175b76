-- `all_rows` gathers from the start.
use Rattle.std.proofs.Common.{ℕ, sym, subst, []}
use Rattle.file_decoder.specs.Compiled.{program_of}
use Rattle.theory_sc_key.specs.Key.{Wide}
use Rattle.states_outcomes.proofs.AllRows.{rows_if, rows_first}
use Rattle.states_outcomes.proofs.all.all_rows.Goals as goal

pub returns-clause-rows : goal.returns-clause-rows
returns-clause-rows c =
    let a = c.args in
    let pre = c.requires in
    let p = program_of a.program in
    let behind = c.rows_behind in
    rows_if behind.result behind.ensures.rows (λ n all marks.
    let r = all a.program.threads a.program.groups p [] pre.1.stands (subst (λ (n : ℕ). Wide n p) (sym pre.2) pre.1.wide) marks in
    rows_first p pre.0 a.m.spot.place.steps pre.1.stands.reached.counted _ _ r.0)
