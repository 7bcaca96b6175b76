-- `next_of` asks for one row and reads it back.
use Rattle.std.specs.Prelude.{Some}
use Rattle.std.proofs.Common.{false, sym, ap, ◌∙◌, arith}
use Rattle.spec_file.specs.Over.{over}
use Rattle.file_decoder.specs.Compiled.{program_of}
use Rattle.spec_schedules.specs.Calls.{Answer, answer_to, content}
use Rattle.spec_schedules.proofs.Offered.{answer_none, answer_some, content_found, content_nomore}
use Rattle.spec_model.specs.Model.{failing}
use Rattle.listing_cursor.specs.ListRows.{remaining}
use Rattle.listing_cursor.proofs.FirstRow.{first_none, first_of, first_head, first_length, first_steps}
use Rattle.listing_cursor.proofs.ListPages.{remaining_fits}
use Rattle.listing_cursor.proofs.PageLaws.{page_size}
use Rattle.spec_model.specs.Search.{sought}
use Rattle.listing_model.specs.ModelOf.{model_of}
use Rattle.listing_model.proofs.ModelLaws.{model_laws}
use Rattle.listing.specs.AnswerOf.{length_of}
use Rattle.listing.proofs.calling.next_of.Goals as goal

pub next_page-page-requires : goal.next_page-page-requires
next_page-page-requires c = c.requires.0

pub returns-then-page-eq0 : goal.returns-then-page-eq0
unfolding length_of
returns-then-page-eq0 c =
    let args = c.args in
    let M = model_of args.model in
    let page = c.next_page-page in
    let p = program_of args.program in
    let l = remaining M p args.failures args.cursor in
    let none = first_none M.need (failing M p) args.row.now page.new.out page.result.rows c.requires.1 l page.ensures.shown c.if-page-eq0.true in
    let e = ap (answer_to false) none ∙ answer_none in
    record { answer = ap length_of (sym none); output = sym (content_nomore args.out.now) ∙ ap (λ (a : Answer). content a args.out.now) (sym e) }

pub bounds-row-0 : goal.bounds-row-0
bounds-row-0 c =
    let args = c.args in
    let M = model_of args.model in
    let page = c.next_page-page in
    let p = program_of args.program in
    let size = page_size M.need (failing M p) (sought M args.failures p) args.cursor args.row.now page.new.out page.result page.ensures in
    omega (arith, size, c.requires.1)

pub put_schedule-requires : goal.put_schedule-requires
put_schedule-requires c =
    let args = c.args in
    let M = model_of args.model in
    let page = c.next_page-page in
    let if1 = c.if-page-eq0 in
    let n = c.from-n in
    let p = program_of args.program in
    let row = page.new.out in
    let l = remaining M p args.failures args.cursor in
    let h = remaining_fits M (model_laws args.model) p c.requires.0 args.failures args.cursor _ (first_of M.need (failing M p) args.row.now row page.result.rows c.requires.1 l page.ensures.shown if1.false) in
    let long = first_length M.need (failing M p) args.row.now row page.result.rows c.requires.1 l page.ensures.shown if1.false n.result n.ensures in
    let size = page_size M.need (failing M p) (sought M args.failures p) args.cursor args.row.now row page.result page.ensures in
    (omega (arith, h, long, c.requires.2), omega (arith, h, long, size, c.requires.1))

pub returns : goal.returns
unfolding length_of
returns c =
    let args = c.args in
    let M = model_of args.model in
    let page = c.next_page-page in
    let if1 = c.if-page-eq0 in
    let n = c.from-n in
    let put-schedule = c.put_schedule in
    let out = args.out.now in
    let p = program_of args.program in
    let row = page.new.out in
    let l = remaining M p args.failures args.cursor in
    let h = remaining_fits M (model_laws args.model) p c.requires.0 args.failures args.cursor _ (first_of M.need (failing M p) args.row.now row page.result.rows c.requires.1 l page.ensures.shown if1.false) in
    let long = first_length M.need (failing M p) args.row.now row page.result.rows c.requires.1 l page.ensures.shown if1.false n.result n.ensures in
    let s = first_steps M.need (failing M p) args.row.now row page.result.rows c.requires.1 l page.ensures.shown if1.false n.result n.ensures h in
    let head = first_head M.need (failing M p) args.row.now row page.result.rows c.requires.1 l page.ensures.shown if1.false in
    let e = ap (answer_to false) head ∙ answer_some _ in
    record { answer = ap Some long ∙ ap length_of (sym head); output = put-schedule.ensures ∙ ap (λ t. over t out) s ∙ sym (content_found _ out) ∙ ap (λ (a : Answer). content a out) (sym e) }
