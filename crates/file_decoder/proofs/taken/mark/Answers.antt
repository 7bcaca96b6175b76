use Rattle.std.proofs.Common.{◌∙◌, sym, arith}
use lib.Seq.{set_out}
use Rattle.spec_file.specs.Frame.{pairs}
use Rattle.file_decoder.proofs.HeldWrite.{marking, marked_none}
use Rattle.file_decoder.proofs.taken.mark.Goals.{else-t-lt6, then-t-lt6}
use Rattle.file_decoder.proofs.taken.mark.Goals as goal

pub loop-j-preserved : goal.loop-j-preserved
loop-j-preserved c =
    marking c.args.g (pairs c.args.line.now) c.loop-j.c c.if-t-lt6.c c.loop-j.j c.field-t.result _ c.loop-j.invariant.0 c.loop-j.invariant.1 (omega arith) c.field-t.ensures.same (elim c.if-t-lt6.branch [
      | then-t-lt6 w ↦ w.c-is
      | else-t-lt6 w ↦ w.c-is ∙ sym (set_out c.loop-j.c c.field-t.result
          c.args.g (omega arith))
    ])

pub returns : goal.returns
returns c =
    let args = c.args in
    let loop = c.loop-j in
    sym (loop.invariant.1 ∙ marked_none args.g (pairs args.line.now) loop.c loop.j (omega arith))
