-- By the byte: an access, a move, or nobody.
use Rattle.std.proofs.Common.{ℕ, ◌<◌, arith, sym, ap, subst, ◌∙◌, get_or}
use Rattle.machine.specs.Held.{thread_at}
use Rattle.tso_machine.specs.Held.{core_of, head_at, tail_at}
use Rattle.tso_machine.proofs.HeldMay.{access_byte, middle_byte, beyond_byte, move_byte}
use Rattle.tso_machine.proofs.asking.enabled.Goals as goal

pub may_access-requires : goal.may_access-requires
may_access-requires c = let a = c.args in let six : a.b < 6 = omega arith in (six, λ h. c.requires.1.short a.b six (subst (λ (v : ℕ). (thread_at (core_of a.m) v).at < get_or a.program.now.lengths a.b 0) c.wide-u.ensures.same h))

pub returns-in-0-to-5 : goal.returns-in-0-to-5
returns-in-0-to-5 c = let a = c.args in let e = sym c.wide-u.ensures.same in λ σ held. access_byte held a.b (omega arith) c.may_access.result (c.may_access.ensures a.m σ held (ap (λ (v : ℕ). (thread_at (core_of a.m) v).at) e) (ap (head_at a.m) e) (ap (tail_at a.m) e))

pub returns-in-16-to-21 : goal.returns-in-16-to-21
returns-in-16-to-21 c = λ σ held. c.pends.ensures ∙ move_byte held c.args.b (omega arith) (omega arith) _ (omega arith)

pub returns-in_default : goal.returns-in_default
returns-in_default c = λ σ held. middle_byte held c.args.b (omega arith) (omega arith)

pub returns-in_default-2 : goal.returns-in_default-2
returns-in_default-2 c = λ σ held. beyond_byte held c.args.b (omega arith)
