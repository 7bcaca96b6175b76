-- `conflicts_at` compares the locations, then asks who wrote.
use Rattle.std.proofs.Common.{◌∙◌}
use borrow.Author.Tests.{ne_eqb}
use Rattle.search_place.proofs.RowAccess.{apart_at, written_at, read_at}
use Rattle.search_place.proofs.waiting.conflicts_at.Goals as goal

pub returns-then-wrote : goal.returns-then-wrote
returns-then-wrote c =
    let a = c.args in
    let l = c.location_at in
    c.if-wrote.true ∙ written_at a.code.now a.row a.registers a.memory a.l a.wrote l.result l.ensures c.if-location_at-l.true c.if-wrote.true

pub returns-else-wrote : goal.returns-else-wrote
returns-else-wrote c =
    let a = c.args in
    let l = c.location_at in
    read_at a.code.now a.row a.registers a.memory a.l a.wrote l.result l.ensures c.if-location_at-l.true c.if-wrote.false c.writes_at.result c.writes_at.ensures

pub returns-else-location_at-l : goal.returns-else-location_at-l
returns-else-location_at-l c =
    let a = c.args in
    let l = c.location_at in
    ne_eqb l.result a.l c.if-location_at-l.false ∙ apart_at a.code.now a.row a.registers a.memory a.l a.wrote l.result l.ensures c.if-location_at-l.false
