use Rattle.std.proofs.Common.{rules, refl, sym, ◌∙◌, false, of_calls}
use Rattle.file_decoder.specs.Compiled.{program_of}
use Rattle.spec_model.specs.Search.{sought}
use Rattle.listing_model.specs.ModelOf.{model_of}
use Rattle.listing_pages.proofs.FirstByPages.{to_come_start, to_come_end, page_onward}
use Rattle.outcome_lists.proofs.Room.{room_800}
use Rattle.outcome_lists.proofs.Walked.{rows_here, row_is_full, row_passes, row_fails, none_passes}
use Rattle.outcome_lists.proofs.seeking.first_passing.Goals as goal

pub loop-model-init : goal.loop-model-init
loop-model-init g c = λ f tests.
    let p = program_of c.args.program in
    to_come_start (model_of c.args.model) p f c.beginning-cursor.result (c.beginning-cursor.ensures (sought (model_of c.args.model) false p))

pub loop-k-init : goal.loop-k-init
loop-k-init g c = λ f tests ss i. refl

pub row_at-s-requires : goal.row_at-s-requires
row_at-s-requires g c =
    let p = program_of c.args.program in
    let loop = c.loop-model in
    (p, _, _, rows_here c.args.model p c.requires.admitted loop.cursor loop.rows _ c.next_page-page.result c.next_page-page.ensures, c.loop-k-test.true)

pub test-requires : goal.test-requires
test-requires g c =
    let loop = c.loop-model in
    c.requires.callable c.as_slice.result
    (row_is_full c.args.model (program_of c.args.program) c.requires.admitted loop.cursor loop.rows _ c.next_page-page.result c.next_page-page.ensures
    c.loop-k.k c.loop-k-test.true c.row_at-s.result c.row_at-s.ensures.row c.as_slice.result.now c.as_slice.ensures)

pub returns-then-test-clause-first : goal.returns-then-test-clause-first
returns-then-test-clause-first g c = λ f tests.
    let loop = c.loop-model in
    let p = program_of c.args.program in
    let full = row_is_full c.args.model p c.requires.admitted loop.cursor loop.rows _ c.next_page-page.result c.next_page-page.ensures
    c.loop-k.k c.loop-k-test.true c.row_at-s.result c.row_at-s.ensures.row c.as_slice.result.now c.as_slice.ensures in
    row_passes c.args.model p c.requires.admitted loop.cursor loop.rows _ c.next_page-page.result c.next_page-page.ensures
    c.loop-k.k c.loop-k-test.true c.row_at-s.result c.row_at-s.ensures.row c.as_slice.result.now c.as_slice.ensures
    f (c.loop-k.invariant f tests) (loop.invariant f tests) (sym (tests c.as_slice.result.now c.test.result full (search of_calls)) ∙ c.if-test.true)

pub loop-k-preserved : goal.loop-k-preserved
loop-k-preserved g c = λ f tests.
    let loop = c.loop-model in
    let p = program_of c.args.program in
    let full = row_is_full c.args.model p c.requires.admitted loop.cursor loop.rows _ c.next_page-page.result c.next_page-page.ensures
    c.loop-k.k c.loop-k-test.true c.row_at-s.result c.row_at-s.ensures.row c.as_slice.result.now c.as_slice.ensures in
    row_fails c.args.model p c.requires.admitted loop.cursor loop.rows _ c.next_page-page.result c.next_page-page.ensures
    c.loop-k.k c.loop-k-test.true c.row_at-s.result c.row_at-s.ensures.row c.as_slice.result.now c.as_slice.ensures
    f (c.loop-k.invariant f tests) (sym (tests c.as_slice.result.now c.test.result full (search of_calls)) ∙ c.if-test.false)

pub loop-model-preserved : goal.loop-model-preserved
loop-model-preserved g c = λ f tests.
    let loop = c.loop-model in
    none_passes c.args.model (program_of c.args.program) c.requires.admitted loop.cursor loop.rows _ c.next_page-page.result c.next_page-page.ensures
    f c.loop-k.k c.loop-k-test.false (c.loop-k.invariant f tests) (loop.invariant f tests)

pub loop-model-smaller : goal.loop-model-smaller
loop-model-smaller g c =
    let loop = c.loop-model in
    page_onward (model_of c.args.model) (program_of c.args.program) loop.cursor loop.rows _ c.next_page-page.result c.next_page-page.ensures
    (room_800 c.args.model loop.rows (search rules)) (sym c.is_end.ensures ∙ c.loop-model-test.true)

pub returns-clause-first : goal.returns-clause-first
returns-clause-first g c = λ f tests.
    let loop = c.loop-model in
    sym (to_come_end (model_of c.args.model) (program_of c.args.program) f loop.cursor (loop.invariant f tests) (sym c.is_end.ensures ∙ c.loop-model-test.false))
