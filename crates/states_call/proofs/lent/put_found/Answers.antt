-- `put_found` copies what was found, if anything was.
use Rattle.std.proofs.Common.{rules, ◌≡◌, length, subst, ◌∙◌, arith}
use Rattle.listing_cursor.specs.Steps.{Short}
use Rattle.states_call.proofs.LentCalls.{put_none, put_some}
use Rattle.states_call.proofs.lent.put_found.Goals as goal

pub returns-in_err-s : goal.returns-in_err-s
returns-in_err-s g c =
    let e = put_none c.args.out.now c.args.found c.in_err-s.was in
    record { length = c.from_residual.ensures ∙ e.0; output = e.1 }

pub put_front-requires : goal.put_front-requires
put_front-requires g c =
    let short = subst Short c.in_ok-s.was c.requires.0 in
    let long : length c.in_ok-s.s.schedule ≡ g.row.N = search rules in
    (omega arith, omega arith)

pub returns : goal.returns
returns g c =
    let short = subst Short c.in_ok-s.was c.requires.0 in
    let long : length c.in_ok-s.s.schedule ≡ g.row.N = search rules in
    let e = put_some c.args.out.now c.args.found c.in_ok-s.s c.in_ok-s.was (omega arith) in
    record { length = e.0; output = c.put_front.ensures ∙ e.1 }
