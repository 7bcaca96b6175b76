-- `returned_to` copies the mark's three fields.
use Rattle.std.proofs.Common.{◌≡◌, ap, arith, rules, length}
use Rattle.spec_service.specs.Record.{no_mark, standing, returned}
use Rattle.service_marks.proofs.Slotting.{blank, get_d_either}
use Rattle.service_marks.proofs.changing.returned_to.Goals as goal

pub returns : goal.returns
unfolding returned standing
returns c =
    let x = c.args in
    let l : length x.c.now.marks ≡ 8 = search rules in
    ap (returned x.c.now) (get_d_either x.c.now.marks x.i blank no_mark (omega (arith, l, c.requires)))
