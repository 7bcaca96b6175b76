-- `writes_from` adds the location where the row's access is of that sort.
use Rattle.std.proofs.Common.{sym, ◌∙◌}
use Rattle.file_rows.specs.Rows.{instruction_at}
use Rattle.search_rules.proofs.WhatIsLeft.{writes_more, writes_same}
use Rattle.search_rules.proofs.leaving.writes_from.Goals as goal

pub returns-then-is_writer : goal.returns-then-is_writer
returns-then-is_writer c =
    let args = c.args in
    let test = c.is_writer in
    let location-at = c.location_at in
    λ is e. writes_more (instruction_at args.code.now args.row) is args.set location-at.result c.with_location.result
    (sym test.ensures ∙ c.if-is_writer.true) location-at.ensures e c.with_location.ensures

pub returns : goal.returns
returns c =
    let args = c.args in
    λ is e. writes_same (instruction_at args.code.now args.row) is args.set (sym c.is_writer.ensures ∙ c.if-is_writer.false) e
