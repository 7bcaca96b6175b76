-- `row_at` reads how many steps there are and copies them.
use Rattle.outcome_lists.proofs.RowRead.{row_left, within_need, steps_read}
use Rattle.outcome_lists.proofs.rows.row_at.Goals as goal

pub put_schedule-requires : goal.put_schedule-requires
put_schedule-requires c =
    row_left c.args.model c.requires.0 c.requires.1 c.args.rows.now c.requires.2 c.requires.3 c.args.k c.requires.4 c.width.result c.width.ensures c.from-steps.result c.from-steps.ensures

pub returns-clause-few : goal.returns-clause-few
returns-clause-few c =
    within_need c.args.model c.requires.0 c.requires.1 c.args.rows.now c.requires.2 c.requires.3 c.args.k c.requires.4 c.width.result c.width.ensures c.from-steps.result c.from-steps.ensures

pub returns-clause-row : goal.returns-clause-row
returns-clause-row c = λ p ss n r h.
    steps_read c.args.model p ss c.args.rows.now n r c.args.k h c.width.result c.width.ensures c.from-steps.result c.from-steps.ensures _ _ c.put_schedule.ensures
