-- `digit` by what it reads.
use Rattle.std.proofs.Common.{rules, eq-eqb, ne_eqb, lt-ltb, le-ltb, arith}
use Rattle.theory_tso.specs.ReadWords.{source_digit}
use Rattle.tso_place.proofs.reading.digit.Goals as goal

pub returns-then-e-t : goal.returns-then-e-t
unfolding source_digit
returns-then-e-t c = (rw (c.if-not-reads.false, eq-eqb _ _ c.if-e-t.true), search rules)

pub returns-then-e-lt6 : goal.returns-then-e-lt6
unfolding source_digit
returns-then-e-lt6 c = (rw (c.if-not-reads.false, ne_eqb _ _ c.if-e-t.false, lt-ltb _ _ c.if-e-lt6.true), search rules)

pub returns-else-e-lt6 : goal.returns-else-e-lt6
unfolding source_digit
returns-else-e-lt6 c = (rw (c.if-not-reads.false, ne_eqb _ _ c.if-e-t.false, le-ltb _ _ c.if-e-lt6.false), omega arith)
