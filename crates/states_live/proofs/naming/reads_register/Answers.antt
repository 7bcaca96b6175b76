-- `reads_register` asks for the operands of the row's kind, then for the register that it names.
use Rattle.std.proofs.Common.{rules, sym, ap, ◌∙◌, arith}
use Rattle.spec_file.specs.declared.instruction.Operand.{Operand}
use Rattle.spec_file.specs.declared.kind.Kind.{Kind}
use Rattle.spec_file.specs.Kinds.{kind_of}
use Rattle.spec_file.proofs.KindTable.{kind_bounds}
use Rattle.theory_sc_key.specs.Registers.{in_operand}
use Rattle.states_live.proofs.RowRegisters.{reads_load, reads_first, reads_second, reads_none, reads_named}
use Rattle.states_live.proofs.naming.reads_register.Goals as goal

pub returns-then-b-eq17 : goal.returns-then-b-eq17
returns-then-b-eq17 c = reads_load c.args.code.now c.args.row c.requires c.args.r c.if-b-eq17.true

pub operand_at-requires : goal.operand_at-requires
operand_at-requires c = (c.requires, omega (arith, (kind_bounds c.wide.result).first, ap (λ (k : Kind). k.first) c.kind_of-k.ensures))

pub returns-then-is_register : goal.returns-then-is_register
returns-then-is_register c =
    reads_first c.args.code.now c.args.row c.requires c.args.r c.kind_of-k.result (c.kind_of-k.ensures ∙ ap kind_of c.wide.ensures.same) c.if-b-eq17.false
    (ap (λ (o : Operand). in_operand o c.args.r) (sym c.operand_at.ensures) ∙ sym c.is_register.ensures ∙ c.if-is_register.true)

pub operand_at-requires-then-b-eq19 : goal.operand_at-requires-then-b-eq19
operand_at-requires-then-b-eq19 c = (c.requires, omega (arith, (kind_bounds c.wide.result).second, ap (λ (k : Kind). k.second) c.kind_of-k.ensures))

pub returns-then-b-eq19 : goal.returns-then-b-eq19
returns-then-b-eq19 c =
    c.is_register-then-b-eq19.ensures ∙ ap (λ (o : Operand). in_operand o c.args.r) c.operand_at-then-b-eq19.ensures
    ∙ reads_second c.args.code.now c.args.row c.requires c.args.r c.kind_of-k.result (c.kind_of-k.ensures ∙ ap kind_of c.wide.ensures.same)
    (ap (λ (o : Operand). in_operand o c.args.r) (sym c.operand_at.ensures) ∙ sym c.is_register.ensures ∙ c.if-is_register.false) c.if-b-eq19.true

pub overflow_add-result : goal.overflow_add-result
overflow_add-result c = let h = (kind_bounds c.wide.result).register in let e = ap (λ (k : Kind). k.register) c.kind_of-k.ensures in search rules

pub bounds-code-at-then-reads_own : goal.bounds-code-at-then-reads_own
bounds-code-at-then-reads_own c = let h = (kind_bounds c.wide.result).register in let e = ap (λ (k : Kind). k.register) c.kind_of-k.ensures in search rules

pub returns-then-reads_own : goal.returns-then-reads_own
returns-then-reads_own c =
    reads_named c.args.code.now c.args.row c.requires c.args.r c.kind_of-k.result (c.kind_of-k.ensures ∙ ap kind_of c.wide.ensures.same)
    (ap (λ (o : Operand). in_operand o c.args.r) (sym c.operand_at.ensures) ∙ sym c.is_register.ensures ∙ c.if-is_register.false) (sym c.reads_own.ensures ∙ c.if-reads_own.true)

pub returns-else-reads_own : goal.returns-else-reads_own
returns-else-reads_own c =
    c.if-reads_own.false
    ∙ reads_none c.args.code.now c.args.row c.requires c.args.r c.kind_of-k.result (c.kind_of-k.ensures ∙ ap kind_of c.wide.ensures.same)
    (ap (λ (o : Operand). in_operand o c.args.r) (sym c.operand_at.ensures) ∙ sym c.is_register.ensures ∙ c.if-is_register.false) c.if-b-eq19.false (sym c.reads_own.ensures ∙ c.if-reads_own.false)
