-- `access_of` reads the row, if the thread has not ended.
use Rattle.std.proofs.Common.{◌+◌, ◌*◌, refl, ◌∙◌, arith, get_or}
use Rattle.search_rules.proofs.WhatIsLeft.{stands_ended, stands_at}
use Rattle.search_rules.proofs.sleeping.access_of.Goals as goal

pub returns-then-program-t : goal.returns-then-program-t
returns-then-program-t c = let a = c.args in λ σ rests. stands_ended a.program.now.code a.program.now.lengths a.at.now σ rests a.t c.requires.0 c.if-program-t.true

pub overflow_add-row : goal.overflow_add-row
overflow_add-row c = let a = c.args in let s = c.requires.1 a.t c.requires.0 c.if-program-t.false in omega (arith, s, c.if-program-t.false, c.requires.0)

pub location_at-requires : goal.location_at-requires
location_at-requires c = let a = c.args in let s = c.requires.1 a.t c.requires.0 c.if-program-t.false in omega (arith, s, c.if-program-t.false, c.requires.0)

pub is_writer-requires : goal.is_writer-requires
is_writer-requires c = let a = c.args in let s = c.requires.1 a.t c.requires.0 c.if-program-t.false in omega (arith, s, c.if-program-t.false, c.requires.0)

pub returns : goal.returns
returns c =
    let a = c.args in
    λ σ rests. let s = stands_at a.program.now.code a.program.now.lengths a.at.now σ rests a.t c.requires.0 c.if-program-t.false (a.t * 16 + get_or a.at.now a.t 0) refl in
    (c.location_at.ensures ∙ s.0, c.is_writer.ensures ∙ s.1)
