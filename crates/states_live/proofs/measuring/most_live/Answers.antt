use Rattle.std.proofs.Common.{◌+◌, ◌*◌, ◌≤◌, get_or, ◌∙◌, rules, count_by}
use Rattle.std.specs.List.{range_with_len}
use Rattle.std.proofs.lemmas.List.Sums.{count_by-le-length}
use Rattle.spec_schedules.specs.Sets.{has}
use Rattle.states_live.proofs.LiveCount.{most_more, four_counted}
use Rattle.states_live.proofs.measuring.most_live.Goals as goal

pub loop-i-preserved : goal.loop-i-preserved
loop-i-preserved c =
    let a = c.args in
    let now = c.loop-i in
    let n = c.members in
    let set = get_or a.masks.now (a.t * 16 + now.i) 0 in
    let few : count_by (has set) (range_with_len 0 4) ≤ 4 = count_by-le-length (has set) (range_with_len 0 4) in
    let left : now.most ≤ c.max-most.result = search rules in
    let right : n.result ≤ c.max-most.result = search rules in (
      search rules,
      most_more a.masks.now a.t now.i now.most n.result c.max-most.result now.invariant.1 (n.ensures ∙ four_counted (has set)) left right,
    )
