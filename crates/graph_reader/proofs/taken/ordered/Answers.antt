use Rattle.std.proofs.Common.{rules, ℕ, ◌+◌, ◌*◌, ◌≡◌, ◌∙◌, sym, ap₂, arith}
use Rattle.spec_file.specs.Frame.{pairs}
use Rattle.spec_sc.specs.State.{Event}
use Rattle.graph_reader.proofs.LineWrites.{write_at}
use Rattle.graph_reader.proofs.Entries.{length_put, ordered_none, ordered_more}
use Rattle.graph_reader.proofs.taken.ordered.Goals as goal

pub loop-q-init : goal.loop-q-init
loop-q-init c = (search rules, ordered_none _ _ _ (search rules))

pub loop-q-preserved : goal.loop-q-preserved
loop-q-preserved c =
    let pre = c.requires in
    let args = c.args in
    let loop = c.loop-q in
    let byte_or = c.byte_or in (
      length_put loop.p (96 + (args.l * 24 + loop.q)) byte_or.result c.byte_or-in-loop-q.result ∙ loop.invariant.0,
      ordered_more _ _ _ loop.q byte_or.result c.byte_or-in-loop-q.result loop.p loop.invariant.1 c.loop-q-test.true pre.3
          (write_at (pairs args.line.now) loop.q (omega (arith, pre.0, pre.2)) (omega (arith, pre.0, pre.1)) ∙ ap₂ (λ (x y : ℕ). let z : Event = (x, y) in z) (sym byte_or.ensures) (sym c.byte_or-in-loop-q.ensures)),
    )

pub returns : goal.returns
returns c = let e : c.loop-q.q ≡ 24 = omega arith in rw (← e) c.loop-q.invariant.1
