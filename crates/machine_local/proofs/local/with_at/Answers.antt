use Rattle.std.proofs.Common.{rules, arith, ◌≡◌, ◌∙◌, length}
use Rattle.machine_local.proofs.Chosen.{chosen_none, chosen_more, chosen_all}
use Rattle.machine_local.proofs.local.with_at.Goals as goal

pub loop-n-init : goal.loop-n-init
loop-n-init g c = chosen_none c.args.values c.args.k c.args.v

pub loop-n-preserved : goal.loop-n-preserved
loop-n-preserved g c = rw (c.choose.ensures, c.loop-n.invariant) (chosen_more c.args.values c.args.k c.args.v c.loop-n.n c.index-values-n.result)

pub returns : goal.returns
returns g c =
    let h : length c.args.values ≡ g.row.N = search rules in
    c.loop-n.invariant ∙ chosen_all c.args.values c.args.k c.args.v c.loop-n.n (omega (arith, h))
