-- `serve_one` asks for the room, which there is.
use Rattle.service_serve.proofs.Giving.{about_room, leaves_taken}
use Rattle.service_serve.proofs.taken.serve_one.Goals as goal

pub returns-then-out-lt-STEPS : goal.returns-then-out-lt-STEPS
returns-then-out-lt-STEPS c cs m own about = let x = c.args in about_room cs m x.out.now x.k about c.if-out-lt-STEPS.true

pub returns : goal.returns
returns c cs m own about =
    let x = c.args in
    let s = c.serve_to in
    leaves_taken cs m x.out.now x.k about x.c.now own (s.new.c, s.result) _ s.ensures.kept s.ensures.output
