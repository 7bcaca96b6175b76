-- `return_one` turns away first.
use Rattle.std.proofs.Common.{◌≡◌, Err, Ok, sym, subst, ◌∙◌, rules, length}
use Rattle.spec_file.specs.declared.refusal.Refusal.{Refusal}
use Rattle.file_decoder.specs.Compiled.{program_of}
use Rattle.spec_service.specs.declared.caller.Caller.{Caller}
use Rattle.spec_service.specs.Seat.{is_open}
use Rattle.spec_service.specs.Record.{reading}
use Rattle.spec_service.specs.Marks.{name_fits}
use Rattle.spec_service.specs.Call.{return_to}
use Rattle.service_one.specs.Left.{Left}
use Rattle.service_one.proofs.Marked.{passed, return_refused, return_46, return_done, return_below}
use Rattle.service_one.proofs.named.return_one.Goals as goal

pub returns-in_err-first_refusal : goal.returns-in_err-first_refusal
returns-in_err-first_refusal c cs n q =
    let x = c.args in
    let e : c.from_residual.result ≡ Err c.in_err-first_refusal.field-0.0 = search rules in
    subst (Left (return_to x.k x.name.now) cs x.k) (sym e)
    (return_refused cs x.k x.name.now x.c.now q x.n n _ (sym c.first_refusal.ensures ∙ c.in_err-first_refusal.was))

pub program_of-p-requires : goal.program_of-p-requires
program_of-p-requires c =
    let x = c.args in
    (passed x.n x.k (is_open (reading x.c.now)) (name_fits (length x.name.now)) _ (sym c.first_refusal.ensures ∙ c.in_ok-first_refusal.was)).2

pub returns-in_default : goal.returns-in_default
returns-in_default c cs n q =
    let x = c.args in
    let g = passed x.n x.k (is_open (reading x.c.now)) (name_fits (length x.name.now)) _ (sym c.first_refusal.ensures ∙ c.in_ok-first_refusal.was) in
    subst (λ (r : Refusal). Left (return_to x.k x.name.now) cs x.k (Err r)) (sym c.by_number.ensures)
    (return_46 cs x.k x.name.now x.c.now q (n ∙ g.0) g.1 g.3 (program_of c.program_of-p.result) c.program_of-p.ensures.0 (sym c.slot_of.ensures ∙ c.in_default.is))

pub returned_to-requires : goal.returned_to-requires
returned_to-requires c = return_below (program_of c.program_of-p.result) c.args.name.now c.args.c.now.marks _ (sym c.slot_of.ensures ∙ c.in-Some.is)

pub returns : goal.returns
returns c cs n q =
    let x = c.args in
    let g = passed x.n x.k (is_open (reading x.c.now)) (name_fits (length x.name.now)) _ (sym c.first_refusal.ensures ∙ c.in_ok-first_refusal.was) in
    subst (λ (r : Caller). Left (return_to x.k x.name.now) cs x.k (Ok r)) (sym c.returned_to.ensures)
    (return_done cs x.k x.name.now x.c.now q (n ∙ g.0) g.1 g.3 (program_of c.program_of-p.result) c.program_of-p.ensures.0 _ (sym c.slot_of.ensures ∙ c.in-Some.is))
