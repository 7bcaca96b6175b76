use Rattle.std.proofs.Common.{◌∙◌, sym, refl, arith}
use Rattle.spec_file.proofs.Split.{before_end}
use Rattle.file_lines.proofs.Numbers.{unless_none}
use Rattle.file_decoder.specs.Compiled.{answer_of}
use Rattle.file_decoder.proofs.HeldFile.{too_large, progress_start, progress_bounded, progress_numbered, progress_grouped, read_unended, read_broken, read_remark, read_size, read_refused, read_more, read_done}
use Rattle.file_decoder.proofs.file.decode.Goals.{in-Remark, in-Frame+in_default}
use Rattle.file_decoder.proofs.file.decode.Goals as goal

pub returns-then-file-gt4096 : goal.returns-then-file-gt4096
unfolding answer_of
returns-then-file-gt4096 c = sym (too_large _ c.if-file-gt4096.true)

pub loop-at-init : goal.loop-at-init
loop-at-init c = progress_start _ _ _ _ c.if-file-gt4096.false refl refl c.none_yet-s.ensures

pub returns-then-end-file : goal.returns-then-end-file
unfolding answer_of
returns-then-end-file c =
    let l = c.loop-at in
    let end = c.line_end-end in
    sym (read_unended c.args.file.now l.code l.rows l.s l.at l.number c.if-file-gt4096.false l.invariant end.result c.loop-at-test.true end.ensures c.if-end-file.true)

pub slice_bounds-line-end : goal.slice_bounds-line-end
slice_bounds-line-end c =
    omega (arith, (before_end c.args.file.now c.loop-at.at c.line_end-end.result c.loop-at-test.true c.line_end-end.ensures c.if-end-file.false), c.line_end-end.ensures)

pub returns-in-Broken : goal.returns-in-Broken
unfolding answer_of
returns-in-Broken c =
    let file = c.args.file.now in
    let l = c.loop-at in
    let end = c.line_end-end in
    let here = c.loop-at-test.true in
    let inside = before_end file l.at end.result here end.ensures c.if-end-file.false in
    sym (read_broken file l.code l.rows l.s l.at l.number c.if-file-gt4096.false l.invariant end.result here end.ensures inside (sym c.read.ensures ∙ c.in-Broken.is))

pub refusal-requires : goal.refusal-requires
refusal-requires c =
    let file = c.args.file.now in
    let l = c.loop-at in
    let end = c.line_end-end in
    let here = c.loop-at-test.true in
    let inside = before_end file l.at end.result here end.ensures c.if-end-file.false in (
      progress_bounded file l.code l.rows l.s l.at l.number c.if-file-gt4096.false l.invariant,
      read_size file l.code l.rows l.s l.at l.number c.if-file-gt4096.false l.invariant end.result here end.ensures inside c.in-Frame.n (sym c.read.ensures ∙ c.in-Frame.is),
    )

pub returns-in-Some : goal.returns-in-Some
unfolding answer_of
returns-in-Some c =
    let file = c.args.file.now in
    let l = c.loop-at in
    let end = c.line_end-end in
    let here = c.loop-at-test.true in
    let inside = before_end file l.at end.result here end.ensures c.if-end-file.false in
    sym (read_refused file l.code l.rows l.s l.at l.number c.if-file-gt4096.false l.invariant end.result here end.ensures inside c.in-Frame.n (sym c.read.ensures ∙ c.in-Frame.is) c.in-Some.k
    (sym c.in-Some.is ∙ c.refusal.ensures l.invariant.read l.invariant.holds))

pub taken-s-requires : goal.taken-s-requires
taken-s-requires c =
    let file = c.args.file.now in
    let l = c.loop-at in
    let end = c.line_end-end in
    let here = c.loop-at-test.true in
    let inside = before_end file l.at end.result here end.ensures c.if-end-file.false in
    record {
      bounded = progress_bounded file l.code l.rows l.s l.at l.number c.if-file-gt4096.false l.invariant;
      size = read_size file l.code l.rows l.s l.at l.number c.if-file-gt4096.false l.invariant end.result here end.ensures inside c.in-Frame.n (sym c.read.ensures ∙ c.in-Frame.is);
      read = l.invariant.read;
      holds = l.invariant.holds;
      passes = unless_none _ (sym (c.refusal.ensures l.invariant.read l.invariant.holds) ∙ c.in_default.is);
    }

pub loop-at-preserved : goal.loop-at-preserved
loop-at-preserved c =
    let file = c.args.file.now in
    let l = c.loop-at in
    let end = c.line_end-end in
    let here = c.loop-at-test.true in
    let inside = before_end file l.at end.result here end.ensures c.if-end-file.false in
    elim c.match-read.branch [
      | in-Remark w ↦ rw (w.code-is, w.rows-is, w.s-is)
          (read_remark file l.code l.rows l.s l.at l.number c.if-file-gt4096.false l.invariant end.result here end.ensures inside (sym c.read.ensures ∙ w.in-Remark.is))
      | in-Frame+in_default w ↦ rw (w.code-is, w.rows-is, w.s-is)
          (read_more file l.code l.rows l.s l.at l.number c.if-file-gt4096.false l.invariant end.result here end.ensures inside w.in-Frame.n (sym c.read.ensures ∙ w.in-Frame.is) _ _ _
          (sym w.in_default.is ∙ w.refusal.ensures l.invariant.read l.invariant.holds) w.taken-s.ensures)
    ]

pub finished-requires : goal.finished-requires
finished-requires c =
    let l = c.loop-at in
    progress_bounded c.args.file.now l.code l.rows l.s l.at l.number c.if-file-gt4096.false l.invariant

pub returns : goal.returns
returns c =
    let file = c.args.file.now in
    let l = c.loop-at in
    let small = c.if-file-gt4096.false in
    c.finished.ensures l.invariant.read l.invariant.holds l.invariant.lined (progress_numbered file l.code l.rows l.s l.at l.number small l.invariant) (progress_grouped file l.code l.rows l.s l.at l.number small l.invariant)
    ∙ sym (read_done file l.code l.rows l.s l.at l.number small l.invariant c.loop-at-test.false)
