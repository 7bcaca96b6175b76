-- `reads_from` adds the location where the row's access is of that sort.
use Rattle.std.proofs.Common.{sym, ◌∙◌}
use Rattle.file_rows.specs.Rows.{instruction_at}
use Rattle.search_rules.proofs.WhatIsLeft.{reads_more, reads_same}
use Rattle.search_rules.proofs.leaving.reads_from.Goals as goal

pub returns-then-is_reader : goal.returns-then-is_reader
returns-then-is_reader c =
    let args = c.args in
    let test = c.is_reader in
    let location-at = c.location_at in
    λ is e. reads_more (instruction_at args.code.now args.row) is args.set location-at.result c.with_location.result
    (sym test.ensures ∙ c.if-is_reader.true) location-at.ensures e c.with_location.ensures

pub returns : goal.returns
returns c =
    let args = c.args in
    λ is e. reads_same (instruction_at args.code.now args.row) is args.set (sym c.is_reader.ensures ∙ c.if-is_reader.false) e
