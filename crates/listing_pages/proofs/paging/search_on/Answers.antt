-- `search_on` searches behind the cursor's bound, and reads the next cursor off the last row.
use Rattle.std.proofs.Common.{refl, ℕ, ◌+◌, ap, arith}
use Rattle.file_decoder.specs.Compiled.{program_of}
use Rattle.spec_model.specs.Search.{sought}
use Rattle.listing_cursor.specs.Cursor.{is_end}
use Rattle.listing_cursor.proofs.ListPages.{sought_48}
use Rattle.listing_model.specs.ModelOf.{model_of}
use Rattle.listing_model.proofs.ModelLaws.{model_laws, need_48}
use Rattle.listing_pages.proofs.PageFound.{page_ended, last_within, last_few, page_full}
use Rattle.listing_pages.proofs.paging.search_on.Goals as goal

pub returns-then-rows-out : goal.returns-then-rows-out
returns-then-rows-out c =
    let a = c.args in
    page_ended (model_of a.model) (model_laws a.model) (program_of a.program) c.requires.0 a.failures a.tight a.cursor a.bound.now a.out.now _ _ _ (ap (λ (n : ℕ). n + 2) c.width-row.ensures)
    c.requires.1 c.requires.2 c.listed_rows-rows.ensures c.end.result (ap is_end c.end.ensures) c.if-rows-out.true

pub slice_bounds-behind-end : goal.slice_bounds-behind-end
slice_bounds-behind-end c =
    let a = c.args in
    let within = last_within (model_of a.model) (model_laws a.model) (program_of a.program) c.requires.0 a.failures a.tight a.cursor a.bound.now a.out.now _ _ _ (ap (λ (n : ℕ). n + 2) c.width-row.ensures)
    c.requires.1 c.requires.2 c.listed_rows-rows.ensures c.if-rows-out.false c.if-rows-eq0.false in
    let few = last_few (model_of a.model) (model_laws a.model) (program_of a.program) c.requires.0 a.failures a.tight a.cursor a.bound.now a.out.now _ _ _ (ap (λ (n : ℕ). n + 2) c.width-row.ensures)
    c.requires.1 c.requires.2 c.listed_rows-rows.ensures c.if-rows-out.false c.if-rows-eq0.false _ c.wide-last.ensures.same in
    omega (arith, c.width-row.ensures)

pub returns : goal.returns
returns c =
    let a = c.args in
    page_full (model_of a.model) (model_laws a.model) (program_of a.program) c.requires.0 a.failures a.tight a.cursor a.bound.now a.out.now _ _ _ (ap (λ (n : ℕ). n + 2) c.width-row.ensures)
    c.requires.1 c.requires.2 c.listed_rows-rows.ensures c.if-rows-out.false c.if-rows-eq0.false _ c.wide-last.ensures.same _ c.behind.result refl
    (c.behind.ensures (sought (model_of a.model) a.failures (program_of a.program)) (sought_48 (model_of a.model) (model_laws a.model) (program_of a.program) c.requires.0 a.failures (need_48 a.model)))
