use Rattle.std.proofs.Common.{◌∙◌, sym, arith}
use Rattle.spec_file.proofs.Split.{before_end}
use Rattle.graph_reader.proofs.HeldText.{progress_start, read_done, read_unended, read_broken, read_remark, read_size, read_refused, read_passes, read_more}
use Rattle.graph_reader.proofs.text.read_graph.Goals.{in-Remark, in-Frame+in_default}
use Rattle.graph_reader.proofs.text.read_graph.Goals as goal

pub loop-at-init : goal.loop-at-init
loop-at-init c = progress_start _ _ _ c.empty-s.ensures

pub returns-then-end-text : goal.returns-then-end-text
returns-then-end-text c =
    let l = c.loop-at in
    let end = c.line_end-end in
    read_unended c.args.n c.args.text.now l.s l.at l.number l.invariant end.result c.loop-at-test.true end.ensures c.if-end-text.true

pub slice_bounds-line-end : goal.slice_bounds-line-end
slice_bounds-line-end c =
    omega (arith, (before_end c.args.text.now c.loop-at.at c.line_end-end.result c.loop-at-test.true c.line_end-end.ensures c.if-end-text.false), c.line_end-end.ensures)

pub returns-in-Broken : goal.returns-in-Broken
returns-in-Broken c =
    let l = c.loop-at in
    let end = c.line_end-end in
    read_broken c.args.n c.args.text.now l.s l.at l.number l.invariant end.result c.loop-at-test.true end.ensures c.if-end-text.false (sym c.read.ensures ∙ c.in-Broken.is)

pub refusal-requires : goal.refusal-requires
refusal-requires c =
    let l = c.loop-at in
    let end = c.line_end-end in
    (read_size c.args.n c.args.text.now l.s l.at l.number l.invariant end.result c.loop-at-test.true end.ensures c.if-end-text.false c.in-Frame.size (sym c.read.ensures ∙ c.in-Frame.is), c.requires)

pub returns-in-Some : goal.returns-in-Some
returns-in-Some c =
    let l = c.loop-at in
    let end = c.line_end-end in
    read_refused c.args.n c.args.text.now l.s l.at l.number l.invariant end.result c.loop-at-test.true end.ensures c.if-end-text.false c.in-Frame.size (sym c.read.ensures ∙ c.in-Frame.is) c.in-Some.k
    (sym c.in-Some.is ∙ c.refusal.ensures l.invariant.read l.invariant.holds)

pub taken-s-requires : goal.taken-s-requires
taken-s-requires c =
    let l = c.loop-at in
    let end = c.line_end-end in
    read_passes c.args.n c.args.text.now l.s l.at l.number l.invariant end.result c.loop-at-test.true end.ensures c.if-end-text.false c.in-Frame.size (sym c.read.ensures ∙ c.in-Frame.is)
    (sym c.in_default.is ∙ c.refusal.ensures l.invariant.read l.invariant.holds) c.requires

pub loop-at-preserved : goal.loop-at-preserved
loop-at-preserved c =
    let l = c.loop-at in
    let end = c.line_end-end in
    elim c.match-read.branch [
      | in-Remark w ↦ rw w.s-is
          (read_remark c.args.n c.args.text.now l.s l.at l.number l.invariant end.result c.loop-at-test.true end.ensures c.if-end-text.false (sym c.read.ensures ∙ w.in-Remark.is))
      | in-Frame+in_default w ↦ rw w.s-is
          (read_more c.args.n c.args.text.now l.s l.at l.number l.invariant end.result c.loop-at-test.true end.ensures c.if-end-text.false w.in-Frame.size (sym c.read.ensures ∙ w.in-Frame.is)
          (sym w.in_default.is ∙ w.refusal.ensures l.invariant.read l.invariant.holds) _ w.taken-s.ensures)
    ]

pub returns : goal.returns
returns c =
    let l = c.loop-at in
    read_done c.args.n c.args.text.now l.s l.at l.number l.invariant c.loop-at-test.false
