-- An access or a move, by the byte.
use Rattle.tso_machine.proofs.CodeSteps.{step_low, step_high}
use Rattle.tso_machine.proofs.stepping.lean_step.Goals as goal

pub accessed-requires : goal.accessed-requires
accessed-requires c = (c.requires.0 c.if-b-lt16.true, c.requires.2)

pub returns-then-b-lt16 : goal.returns-then-b-lt16
returns-then-b-lt16 c = let a = c.args in record { within = c.accessed.ensures.within; step = λ m σ u eu held eP ok near. step_low a.program.now.code a.program.now.lengths a.b u eu c.accessed.result _ c.if-b-lt16.true c.accessed.ensures.step m σ held eP ok near }

pub moved-requires : goal.moved-requires
moved-requires c = c.requires.1

pub returns-else-b-lt16 : goal.returns-else-b-lt16
returns-else-b-lt16 c = let a = c.args in record { within = c.moved.ensures.within; step = λ m σ u eu held eP ok near. step_high a.program.now.code a.program.now.lengths a.b u eu c.moved.result _ c.if-b-lt16.false (λ k ρ h f g. c.moved.ensures.step a.program.now.code a.program.now.lengths _ _ k ρ h f g) m σ held eP ok }
