-- `writes_register` asks for the register that the row's kind names.
use Rattle.std.proofs.Common.{rules, sym, ap, ◌∙◌}
use Rattle.spec_file.specs.declared.kind.Kind.{Kind}
use Rattle.spec_file.specs.Kinds.{kind_of}
use Rattle.spec_file.proofs.KindTable.{kind_bounds}
use Rattle.states_live.proofs.RowRegisters.{writes_none, writes_named}
use Rattle.states_live.proofs.naming.writes_register.Goals as goal

pub overflow_add-result : goal.overflow_add-result
overflow_add-result c = let h = (kind_bounds c.wide.result).register in let e = ap (λ (k : Kind). k.register) c.kind_of.ensures in search rules

pub bounds-code-at-then-writes_own : goal.bounds-code-at-then-writes_own
bounds-code-at-then-writes_own c = let h = (kind_bounds c.wide.result).register in let e = ap (λ (k : Kind). k.register) c.kind_of.ensures in search rules

pub returns-then-writes_own : goal.returns-then-writes_own
returns-then-writes_own c =
    writes_named c.args.code.now c.args.row c.requires c.args.r c.kind_of.result (c.kind_of.ensures ∙ ap kind_of c.wide.ensures.same) (sym c.writes_own.ensures ∙ c.if-writes_own.true)

pub returns-else-writes_own : goal.returns-else-writes_own
returns-else-writes_own c = c.if-writes_own.false ∙ writes_none c.args.code.now c.args.row c.requires c.args.r (sym c.writes_own.ensures ∙ c.if-writes_own.false)
