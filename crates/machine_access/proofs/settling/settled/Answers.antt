-- An access comes at once, or the end does, or other instructions.
use Rattle.std.proofs.Common.{arith, ◌≡◌, length, sym, refl, ◌∙◌, rules}
use Rattle.machine_local.proofs.HeldRegisters.{same_four}
use Rattle.machine_access.proofs.HeldSettling.{loop_ends, loop_stands}
use Rattle.machine_access.proofs.settling.settled.Goals as goal
use Rattle.machine_access.proofs.settling.settled.Goals.{then-from-n-via-then-from-n, then-from-n-via-else-from-n+then-is_access}

pub returns-then-from-n-clause-local : goal.returns-then-from-n-clause-local
returns-then-from-n-clause-local c =
    let args = c.args in
    elim c.then-from-n.branch [
      | then-from-n-via-then-from-n w ↦ loop_ends args.code.now args.t args.n _ args.from args.registers args.done refl (omega (arith, w.if-from-n.true)) args.from (omega (arith, w.if-from-n.true))
      | then-from-n-via-else-from-n+then-is_access w ↦ loop_stands args.code.now args.t args.n _ args.from args.registers args.done refl (omega (arith, w.if-from-n.false)) (sym w.is_access.ensures ∙ w.if-is_access.true)
    ]

pub returns-clause-local : goal.returns-clause-local
returns-clause-local c =
    let h : length c.settle-k.result.registers ≡ 4 = search rules in rw (same_four c.settle-k.result.registers h) c.settle-k.ensures.local
