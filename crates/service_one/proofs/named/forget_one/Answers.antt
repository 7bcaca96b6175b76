-- `forget_one` turns away first.
use Rattle.std.proofs.Common.{◌≡◌, Err, Ok, None, not, ap, sym, subst, ◌∙◌, rules, length}
use Rattle.std.specs.Option.{is_some}
use Rattle.spec_file.specs.declared.refusal.Refusal.{Refusal}
use Rattle.file_decoder.specs.Compiled.{program_of}
use Rattle.spec_service.specs.declared.caller.Caller.{Caller}
use Rattle.spec_service.specs.Seat.{is_open}
use Rattle.spec_service.specs.Record.{reading}
use Rattle.spec_service.specs.Marks.{name_fits}
use Rattle.spec_service.specs.Call.{forget}
use Rattle.service_one.specs.Left.{Left}
use Rattle.service_one.proofs.Marked.{passed, forget_refused, forget_46, forget_done}
use Rattle.service_one.proofs.named.forget_one.Goals as goal

pub returns-in_err-first_refusal : goal.returns-in_err-first_refusal
returns-in_err-first_refusal c cs n q =
    let x = c.args in
    let e : c.from_residual.result ≡ Err c.in_err-first_refusal.field-0.0 = search rules in
    subst (Left (forget x.k x.name.now) cs x.k) (sym e)
    (forget_refused cs x.k x.name.now x.c.now q x.n n _ (sym c.first_refusal.ensures ∙ c.in_err-first_refusal.was))

pub program_of-p-requires : goal.program_of-p-requires
program_of-p-requires c =
    let x = c.args in
    (passed x.n x.k (is_open (reading x.c.now)) (name_fits (length x.name.now)) _ (sym c.first_refusal.ensures ∙ c.in_ok-first_refusal.was)).2

pub returns-then-is_none : goal.returns-then-is_none
returns-then-is_none c cs n q =
    let x = c.args in
    let g = passed x.n x.k (is_open (reading x.c.now)) (name_fits (length x.name.now)) _ (sym c.first_refusal.ensures ∙ c.in_ok-first_refusal.was) in
    let e : c.slot_of.result ≡ None = search rules in
    subst (λ (r : Refusal). Left (forget x.k x.name.now) cs x.k (Err r)) (sym c.by_number.ensures)
    (forget_46 cs x.k x.name.now x.c.now q (n ∙ g.0) g.1 g.3 (program_of c.program_of-p.result) c.program_of-p.ensures.0 (sym c.slot_of.ensures ∙ e))

pub returns : goal.returns
returns c cs n q =
    let x = c.args in
    let g = passed x.n x.k (is_open (reading x.c.now)) (name_fits (length x.name.now)) _ (sym c.first_refusal.ensures ∙ c.in_ok-first_refusal.was) in
    subst (λ (r : Caller). Left (forget x.k x.name.now) cs x.k (Ok r)) (sym c.forgotten.ensures)
    (forget_done cs x.k x.name.now x.c.now q (n ∙ g.0) g.1 g.3 (program_of c.program_of-p.result) c.program_of-p.ensures.0 (ap is_some (sym c.slot_of.ensures) ∙ c.is_none.ensures ∙ ap not c.if-is_none.false))
