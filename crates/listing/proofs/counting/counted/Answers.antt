use Rattle.std.proofs.Common.{ℕ, ◌+◌, ◌*◌, ◌≤◌, length, sym, ◌∙◌, subst, arith}
use Rattle.file_decoder.specs.Compiled.{program_of}
use Rattle.listing_cursor.specs.Rows.{Shown}
use Rattle.listing_cursor.proofs.CountedRows.{counting_64, counting_rows, counting_less}
use Rattle.listing_model.specs.ModelOf.{model_of}
use Rattle.listing_model.proofs.ModelLaws.{need_48}
use Rattle.listing.proofs.CountCalled.{wrapped_start, wrapped_next, wrapped_over}
use Rattle.listing.proofs.counting.counted.Goals as goal

pub loop-model-init : goal.loop-model-init
loop-model-init c =
    wrapped_start (model_of c.args.model) (program_of c.args.program) c.beginning-cursor.result c.args.rows.now c.requires.1 (c.beginning-cursor.ensures _)

pub next_page-page-requires : goal.next_page-page-requires
next_page-page-requires c = c.requires.0

pub failing_in-failing-requires : goal.failing_in-failing-requires
failing_in-failing-requires c =
    let args = c.args in
    let width = c.width-need in
    let page = c.next_page-page in
    let inv = c.loop-model.invariant.counting in (
      omega (arith, width.ensures, need_48 args.model),
      counting_64 _ _ _ _ _ _ _ inv _ page.result page.ensures,
      subst (λ (n : ℕ). page.result.rows * (n + 2) ≤ length page.new.out) (sym width.ensures) (counting_rows _ _ _ _ _ _ _ inv _ page.result page.ensures),
    )

pub loop-model-smaller : goal.loop-model-smaller
loop-model-smaller c =
    let page = c.next_page-page in
    counting_less _ _ _ _ _ _ _ c.loop-model.invariant.counting _ page.result page.ensures (sym c.is_end.ensures ∙ c.loop-model-test.true)

pub loop-model-preserved : goal.loop-model-preserved
loop-model-preserved c =
    let args = c.args in
    let M = model_of args.model in
    let loop = c.loop-model in
    let page = c.next_page-page in
    let failing-in = c.failing_in-failing in
    wrapped_next M (program_of args.program) loop.cursor loop.rows loop.tally.listed loop.tally.failing loop.invariant _ page.result page.ensures failing-in.result
    (λ fails ss held s. failing-in.ensures fails ss held (subst (λ (n : ℕ). Shown n fails ss held page.new.out page.result.rows) (sym c.width-need.ensures) s))
    _ _ c.added-tally.ensures.0 c.added-tally.ensures.1

pub returns : goal.returns
returns c =
    let args = c.args in
    let loop = c.loop-model in
    wrapped_over (model_of args.model) (program_of args.program) loop.cursor loop.rows _ _ loop.invariant (sym c.is_end.ensures ∙ c.loop-model-test.false)
