use Rattle.std.proofs.Common.{rules, ℕ, ◌+◌, ◌-◌, ◌≤◌, ◌≡◌, refl, ap, subst, ◌∙◌, List, map, arith, length, take, take_all}
use borrow.Rule.Slice.PartMut.{mid_of, put_mid, mid_len}
use Rattle.spec_schedules.specs.Lists.{filter}
use Rattle.spec_schedules.specs.Order.{Schedule}
use Rattle.graph_writer.specs.NoteText.{Wrote}
use Rattle.graph_writer.proofs.WrittenLines.{wrote_none}
use Rattle.spec_model.specs.Model.{failing}
use Rattle.spec_sc.specs.Sequential.{sc}
use Rattle.spec_calls.specs.Printed.{schedule_frame}
use Rattle.explorer_lines.proofs.LineLoop.{lines_more}
use Rattle.explorer_lines.proofs.frames.schedule_lines.Goals as goal

pub loop-k-init : goal.loop-k-init
unfolding filter
loop-k-init c = (search rules, search rules, search rules, search rules, λ p ss held w short. (wrote_none c.args.out.now, refl))

pub loop-k-preserved : goal.loop-k-preserved
loop-k-preserved c =
    let room : c.loop-k.at + c.schedule_line-at.result ≤ length c.loop-k.out = let l = c.loop-k in
    let h : c.schedule_line-at.result ≤ length (mid_of l.at (length l.out - l.at) l.out) = c.schedule_line-at.ensures.within in
    omega (arith, h, mid_len l.at (length l.out) l.out (omega arith), l.invariant.1) in
    let l = c.loop-k in
    let kept : length (put_mid l.at (length l.out - l.at) l.out c.schedule_line-at.new.out) ≡ length l.out = search rules in (
      search rules,
      omega (arith, room, kept),
      kept ∙ l.invariant.2,
      omega (arith, l.invariant.3, c.wide-failed.ensures.small),
      λ p ss held w short.
          let r = lines_more p ss held c.args.rows.now c.args.out.now l.out _ c.row_at-row.result c.args.n l.k l.at _ l.failed
          w short c.loop-k-test.true (l.invariant.4 p ss held w short) c.row_at-row.ensures c.schedule_line-at.ensures.line in
          (r.0, ap (λ (j : ℕ). l.failed + j) c.wide-failed.ensures.same ∙ r.1),
    )

pub returns : goal.returns
returns c p ss held w short =
    let l = c.loop-k in
    let e : take l.k ss ≡ ss = take_all l.k ss (omega (arith, w.counted, c.loop-k-test.false, l.invariant.0)) in
    subst (λ (ts : List Schedule). (Wrote (map (schedule_frame p) ts) c.args.out.now l.out l.at) × (l.failed ≡ length (filter (failing sc p) ts))) e
    (l.invariant.4 p ss held w short)
