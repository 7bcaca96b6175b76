-- `all_rows` gathers from the start.
use Rattle.std.proofs.Common.{ℕ, ◌≤◌, sym, subst}
use Rattle.file_decoder.specs.Compiled.{program_of}
use Rattle.states_outcomes.proofs.AllRows.{rows_if}
use Rattle.tso_outcomes.proofs.AllRows.{rows_first}
use Rattle.tso_outcomes.proofs.FromStart.{from_start}
use Rattle.tso_outcomes.proofs.all.all_rows.Goals as goal

pub rows_behind-requires : goal.rows_behind-requires
rows_behind-requires c =
    let a = c.args in
    let pre = c.requires in
    (from_start a.program a.m pre.1 a.frame.width pre.2, pre.1.left, pre.1.live, subst (λ (i : ℕ). i ≤ 27) (sym pre.2) pre.1.few, pre.3, pre.4)

pub returns-clause-rows : goal.returns-clause-rows
returns-clause-rows c =
    let a = c.args in
    let pre = c.requires in
    rows_if c.rows_behind.result c.rows_behind.ensures.rows (λ n all marks.
    let r = all (from_start a.program a.m pre.1 a.frame.width pre.2) marks in
    rows_first (program_of a.program) pre.0 a.m.spot.place.steps pre.1.stands.reached.counted _ _ r.0)
