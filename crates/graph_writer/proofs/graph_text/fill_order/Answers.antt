use Rattle.std.proofs.Common.{rules, ◌∙◌, arith, ⊎_elim}
use Rattle.graph_writer.proofs.NoteWriting.{filled_none, filled_all, headed_length, filled_length, filled_more, filled_same}
use Rattle.graph_writer.proofs.graph_text.fill_order.Goals as goal

pub loop-k-init : goal.loop-k-init
loop-k-init c = (search rules, search rules, search rules, filled_none c.args.log.now c.args.l c.args.frame.now c.requires.0)

pub loop-k-preserved : goal.loop-k-preserved
loop-k-preserved c =
    let h = headed_length c.args.l c.args.frame.now ∙ c.requires.0 in let f = ⊎_elim (λ w. filled_more c.args.log.now c.args.l
    c.loop-k.k _ c.loop-k.frame c.if-writes_to.frame c.loop-k.n c.if-writes_to.n _ h (omega arith) c.writes_to.ensures c.loop-k.invariant.3
    w.if-writes_to.true w.frame-is w.n-is) (λ w. filled_same c.args.log.now c.args.l c.loop-k.k _ c.loop-k.frame c.if-writes_to.frame c.loop-k.n c.if-writes_to.n _ c.writes_to.ensures c.loop-k.invariant.3 w.if-writes_to.false w.frame-is w.n-is) c.if-writes_to.branch-raw in (
      search rules,
      f.few,
      filled_length _ _ _ _ _ _ h (omega arith) f,
      f,
    )

pub returns : goal.returns
returns c =
    let pre = c.requires in
    let args = c.args in
    let loop = c.loop-k in
    let whole = filled_all args.log.now args.l loop.k args.steps args.frame.now _ _ (omega arith) pre.1 loop.invariant.3 in
    record { count = whole.0; few = whole.1.0; content = whole.1.1 }
