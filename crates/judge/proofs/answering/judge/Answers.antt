-- `judge` refuses in order, then hands over what the judge finds.
use Rattle.std.proofs.Common.{rules, ◌≡◌, arith, length}
use Rattle.std.proofs.lemmas.Result.{err_from_is_err_and}
use Rattle.file_decoder.specs.Compiled.{program_of}
use Rattle.machine.proofs.HeldStart.{starting_compiled}
use Rattle.judge.proofs.CallAnswer.{says_refused, says_no, says_yes, call_refused, call_loaded, call_few, call_short, call_line, call_no, call_yes}
use Rattle.judge.proofs.answering.judge.Goals as goal

pub returns-in_err-p : goal.returns-in_err-p
returns-in_err-p c =
    let p = err_from_is_err_and c.from_residual.result c.from_residual.ensures.1 in
    let r = c.in_err-p.field-0.0 in
    rw (p.1, p.2) (says_refused r.number r.place c.args.out.now (call_refused c.args.file.now c.args.text.now (length c.args.out.now) r c.in_err-p.ensures))

pub returns-then-out-lt-STEPS : goal.returns-then-out-lt-STEPS
returns-then-out-lt-STEPS c = says_refused 22 0 c.args.out.now (call_short c.args.file.now c.args.text.now (length c.args.out.now) c.in_ok-p.p c.in_ok-p.ensures c.if-out-lt-STEPS.true)

pub read_graph-requires : goal.read_graph-requires
read_graph-requires c = call_few c.args.file.now c.args.text.now (length c.args.out.now) c.in_ok-p.p c.in_ok-p.ensures

pub returns-in_err-table : goal.returns-in_err-table
returns-in_err-table c =
    let p = err_from_is_err_and c.from_residual-in_err-table.result c.from_residual-in_err-table.ensures.1 in
    let r = c.in_err-table.field-0.0 in
    rw (p.1, p.2) (says_refused r.number r.place c.args.out.now (call_line c.args.file.now c.args.text.now (length c.args.out.now) c.in_ok-p.p c.in_ok-p.ensures c.if-out-lt-STEPS.false r c.in_err-table.ensures))

pub judged-requires : goal.judged-requires
judged-requires c =
    let p = c.in_ok-p.p in
    let g = c.in_ok-table.ensures in
    (program_of p, c.args.text.now, g.0, call_loaded c.args.file.now c.args.text.now (length c.args.out.now) p c.in_ok-p.ensures, starting_compiled p, g.1, g.2)

pub returns-in_default : goal.returns-in_default
returns-in_default c =
    let p = c.in_ok-p.p in
    let g = c.in_ok-table.ensures in
    let l = call_loaded c.args.file.now c.args.text.now (length c.args.out.now) p c.in_ok-p.ensures in
    says_no c.args.out.now (call_no c.args.file.now c.args.text.now (length c.args.out.now) p c.in_ok-p.ensures c.if-out-lt-STEPS.false g.0 g.1
    (c.in_default.ensures (program_of p) c.args.text.now g.0 l (starting_compiled p) g.1 g.2))

pub put_front-requires : goal.put_front-requires
put_front-requires c =
    let p = c.in_ok-p.p in
    let g = c.in_ok-table.ensures in
    let l = call_loaded c.args.file.now c.args.text.now (length c.args.out.now) p c.in_ok-p.ensures in
    let few = (c.in-Some.ensures (program_of p) c.args.text.now g.0 l (starting_compiled p) g.1 g.2).1 in
    let z : length c.in-Some.s.schedule ≡ 24 = search rules in
    (omega arith, omega (arith, c.if-out-lt-STEPS.false))

pub returns : goal.returns
returns c =
    let p = c.in_ok-p.p in
    let g = c.in_ok-table.ensures in
    let l = call_loaded c.args.file.now c.args.text.now (length c.args.out.now) p c.in_ok-p.ensures in
    let y = call_yes c.args.file.now c.args.text.now (length c.args.out.now) p c.in_ok-p.ensures c.if-out-lt-STEPS.false g.0 g.1 c.in-Some.s
    (c.in-Some.ensures (program_of p) c.args.text.now g.0 l (starting_compiled p) g.1 g.2) in
    let z : length c.in-Some.s.schedule ≡ 24 = search rules in
    says_yes c.in-Some.s.steps c.in-Some.s.schedule c.args.out.now _ y.0 y.1 z c.put_front.ensures
