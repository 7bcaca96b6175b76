-- One line for the three first bytes, and one for the others.
use Rattle.std.proofs.Common.{arith}
use Rattle.search_rules.proofs.WhatIsLeft.{reader_some, reader_none}
use Rattle.search_rules.proofs.leaving.is_reader.Goals as goal

pub returns-in-17 : goal.returns-in-17
returns-in-17 c = reader_some c.args.code.now c.args.row c.requires (omega arith) (omega arith)

pub returns-in_default : goal.returns-in_default
returns-in_default c = reader_none c.args.code.now c.args.row c.requires (λ e. grind (arith, e)) (λ e. grind (arith, e)) (λ e. grind (arith, e))

pub returns-in_default-2 : goal.returns-in_default-2
returns-in_default-2 c = reader_none c.args.code.now c.args.row c.requires (λ e. grind (arith, e)) (λ e. grind (arith, e)) (λ e. grind (arith, e))
