-- `serve_to` goes by whether there is a schedule.
use Rattle.std.proofs.Common.{Some, sym, ◌∙◌, arith}
use Rattle.spec_service.specs.Record.{reading}
use Rattle.spec_service.specs.Call.{for_seat}
use Rattle.service_record.proofs.Given.{next_small}
use Rattle.service_serve.proofs.Giving.{gave_kept, gave_output, ended_kept, ended_output}
use Rattle.service_serve.proofs.taken.serve_to.Goals as goal

pub returns-in_default : goal.returns-in_default
returns-in_default c =
    let a = c.args in
    let o = for_seat (reading a.c.now) in
    let e = sym c.in_default.is ∙ c.next_of-next.ensures in
    record { kept = ended_kept a.k a.c.now c.served.result o e (c.served.ensures o c.next_of-next.ensures); output = ended_output a.k a.c.now c.served.result o e a.out.now }

pub put_front-requires : goal.put_front-requires
put_front-requires c =
    let h = next_small c.args.c.now (Some c.in-Some.next) (sym c.in-Some.is ∙ c.next_of-next.ensures) in
    (omega (arith, c.from-n.ensures, h.0, h.1), omega (arith, c.from-n.ensures, h.0, c.requires))

pub returns : goal.returns
returns c =
    let a = c.args in
    let o = for_seat (reading a.c.now) in
    let x = c.in-Some.next in
    let e = sym c.in-Some.is ∙ c.next_of-next.ensures in
    record { kept = gave_kept a.k a.c.now c.served.result o x e (c.served.ensures o c.next_of-next.ensures) c.from-n.result c.from-n.ensures; output = gave_output a.k a.c.now c.served.result o x e c.from-n.result c.from-n.ensures a.out.now _ c.put_front.ensures }
