-- `next_page` by the cursor; at the end there is nothing to search for.
use Rattle.std.proofs.Common.{refl, sym, ap, ◌∙◌}
use Rattle.file_decoder.specs.Compiled.{program_of}
use Rattle.spec_model.specs.Model.{failing}
use Rattle.spec_model.specs.Search.{sought}
use Rattle.listing_cursor.specs.Cursor.{bound_of, is_end}
use Rattle.listing_cursor.proofs.CursorLaws.{bound_beginning, bound_behind}
use Rattle.listing_cursor.proofs.PageLaws.{page_over}
use Rattle.listing_model.specs.ModelOf.{model_of}
use Rattle.listing_pages.proofs.paging.next_page.Goals as goal

pub search_on-requires : goal.search_on-requires
search_on-requires c = (c.requires, ap is_end c.in-Beginning.is, bound_beginning _ ∙ ap bound_of (sym c.in-Beginning.is))

pub search_on-requires-in-Behind : goal.search_on-requires-in-Behind
search_on-requires-in-Behind c = (c.requires, refl, bound_behind c.in-Behind.s _ c.as_slice.ensures)

pub returns-in-End : goal.returns-in-End
returns-in-End c =
    let a = c.args in
    page_over (model_of a.model).need (failing (model_of a.model) (program_of a.program)) (sought (model_of a.model) a.failures (program_of a.program)) a.cursor a.out.now (ap is_end c.in-End.is)
