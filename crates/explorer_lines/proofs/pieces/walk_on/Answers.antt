-- `walk_on` walks along the list and writes the lines of what it finds.
use Rattle.std.proofs.Common.{rules, ℕ, ◌+◌, ◌-◌, ◌<◌, ◌≤◌, ◌^◌, ◌≡◌, sym, ◌∙◌, List, map, arith, length, take, replicate}
use lib.ListN.{length-replicate}
use borrow.Rule.Slice.PartMut.{mid_of, mid_len}
use Rattle.file_decoder.specs.Compiled.{program_of}
use Rattle.spec_schedules.specs.Lists.{filter}
use Rattle.graph_writer.specs.NoteText.{Wrote}
use Rattle.graph_writer.proofs.WrittenLines.{wrote_within}
use Rattle.spec_model.specs.Model.{failing}
use Rattle.spec_sc.specs.Sequential.{sc}
use Rattle.spec_calls.specs.Printed.{schedule_frame}
use Rattle.explorer_lines.specs.Pieces.{left}
use Rattle.explorer_lines.proofs.NextLines.{short_left, shown_left, few_rows, listed_fits, failed_fits, next_counts, next_more}
use Rattle.explorer_lines.proofs.pieces.walk_on.Goals as goal
use Rattle.explorer_lines.proofs.pieces.walk_on.Goals.{After-next_page-page, After-schedule_lines-lines}

-- the bytes of the rows before there is a page
abbrev empty : List ℕ
empty = replicate 6656 0

wide : length empty ≡ 6656
wide = length-replicate {A = ℕ} 6656 0

fits : (c : After-next_page-page) → c.args.walk.listed + c.next_page-page.result.rows < 2 ^ 64
fits c = listed_fits c.args.walk c.requires.0 empty c.next_page-page.new.out c.next_page-page.result wide c.next_page-page.ensures

-- the lines are those of the next 256 schedules, and so many of these fail
wrote : (c : After-schedule_lines-lines)
    → (Wrote (map (schedule_frame (program_of c.args.walk.program)) (take 256 (left c.args.walk))) c.args.out.now c.schedule_lines-lines.new.out c.schedule_lines-lines.result.length)
    × (c.schedule_lines-lines.result.failed ≡ length (filter (failing sc (program_of c.args.walk.program)) (take 256 (left c.args.walk))))
wrote c =
    let w = c.args.walk in
    let page = c.next_page-page in
    c.schedule_lines-lines.ensures (program_of w.program) (take 256 (left w)) empty (shown_left w c.requires.0 empty page.new.out page.result wide page.ensures) (short_left w c.requires.0)

room : (c : After-schedule_lines-lines) → (c.schedule_lines-lines.result.length ≤ length c.schedule_lines-lines.new.out) × (length c.schedule_lines-lines.new.out ≡ length c.args.out.now)
room c = let h = wrote_within _ _ _ _ (wrote c).0 in (omega (arith, h.0, h.1), h.1)

pub schedule_lines-lines-requires : goal.schedule_lines-lines-requires
schedule_lines-lines-requires c =
    let page = c.next_page-page in
    (few_rows c.args.walk c.requires.0 empty page.new.out page.result wide page.ensures, search rules)

pub overflow_add-listed : goal.overflow_add-listed
overflow_add-listed c = omega (arith, fits (goal.at.overflow_add-listed c).After-next_page-page)

pub overflow_add-failed : goal.overflow_add-failed
overflow_add-failed c =
    let here = (goal.at.overflow_add-failed c).After-schedule_lines-lines in
    let page = c.next_page-page in
    omega (
      arith,
      fits (goal.at.overflow_add-failed c).After-next_page-page,
      failed_fits c.args.walk c.requires.0 empty page.new.out page.result wide page.ensures c.schedule_lines-lines.result.failed (wrote here).1,
    )

pub slice_bounds-count_line-count : goal.slice_bounds-count_line-count
slice_bounds-count_line-count c = (room (goal.at.slice_bounds-count_line-count c).After-schedule_lines-lines).0

pub slice_bounds-count_line-start : goal.slice_bounds-count_line-start
slice_bounds-count_line-start c = (room (goal.at.slice_bounds-count_line-start c).After-schedule_lines-lines).0

pub overflow_add-result : goal.overflow_add-result
overflow_add-result c =
    let h = room (goal.at.overflow_add-result c).After-schedule_lines-lines in
    let xs : List ℕ = c.schedule_lines-lines.new.out in
    let at : ℕ = c.schedule_lines-lines.result.length in
    let k : c.count_line.result ≤ length (mid_of at (length xs - at) xs) = (wrote_within _ _ _ _ c.count_line.ensures).0 in
    omega (arith, h.0, h.1, k, mid_len at (length xs) xs (omega (arith, h.0)))

pub returns-then-is_end : goal.returns-then-is_end
returns-then-is_end c =
    let page = c.next_page-page in
    let lines = c.schedule_lines-lines in
    let so = wrote (goal.at.returns-then-is_end c).After-schedule_lines-lines in
    next_counts c.args.walk c.requires.0 empty page.new.out page.result wide page.ensures c.args.out.now lines.new.out c.count_line.new.out lines.result.length c.count_line.result
    lines.result.failed c.requires.1 (sym c.is_end.ensures ∙ c.if-is_end.true) so.0 so.1 c.count_line.ensures

pub returns : goal.returns
returns c =
    let page = c.next_page-page in
    let lines = c.schedule_lines-lines in
    let so = wrote (goal.at.returns c).After-schedule_lines-lines in
    next_more c.args.walk c.requires.0 empty page.new.out page.result wide page.ensures (sym c.is_end.ensures ∙ c.if-is_end.false) lines.result.failed so.1
    c.args.out.now lines.new.out lines.result.length c.requires.1 so.0
