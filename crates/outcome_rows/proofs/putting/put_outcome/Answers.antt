-- `put_outcome` writes the values, then the schedule's row.
use Rattle.std.proofs.Common.{rules, ◌≡◌, length}
use Rattle.outcome_rows.proofs.Values.{row_put}
use Rattle.outcome_rows.proofs.putting.put_outcome.Goals as goal

pub returns : goal.returns
returns c =
    let a = c.args in
    let pre = c.requires in
    let eight : length a.o.memory ≡ 8 = search rules in
    λ t l is ends same. row_put t l a.out.now _ _ a.at a.width a.o.memory _ is ends same eight pre.2 c.put_values.ensures c.put_row.ensures
