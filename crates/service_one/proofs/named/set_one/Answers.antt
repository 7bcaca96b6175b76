-- `set_one` turns away first.
use Rattle.std.proofs.Common.{◌≡◌, Err, Ok, sym, subst, ◌∙◌, rules, length}
use Rattle.spec_file.specs.declared.refusal.Refusal.{Refusal}
use Rattle.file_decoder.specs.Compiled.{program_of}
use Rattle.spec_service.specs.declared.caller.Caller.{Caller}
use Rattle.spec_service.specs.Seat.{is_open}
use Rattle.spec_service.specs.Record.{reading}
use Rattle.spec_service.specs.Marks.{name_fits}
use Rattle.spec_service.specs.Call.{set_mark}
use Rattle.service_one.specs.Left.{Left}
use Rattle.service_marks.proofs.Foremost.{fits_most}
use Rattle.service_one.proofs.Marked.{passed, set_refused, set_47, set_done, set_below}
use Rattle.service_one.proofs.named.set_one.Goals as goal

pub returns-in_err-first_refusal : goal.returns-in_err-first_refusal
returns-in_err-first_refusal c cs n q =
    let x = c.args in
    let e : c.from_residual.result ≡ Err c.in_err-first_refusal.field-0.0 = search rules in
    subst (Left (set_mark x.k x.name.now) cs x.k) (sym e)
    (set_refused cs x.k x.name.now x.c.now q x.n n _ (sym c.first_refusal.ensures ∙ c.in_err-first_refusal.was))

pub program_of-p-requires : goal.program_of-p-requires
program_of-p-requires c =
    let x = c.args in
    (passed x.n x.k (is_open (reading x.c.now)) (name_fits (length x.name.now)) _ (sym c.first_refusal.ensures ∙ c.in_ok-first_refusal.was)).2

pub returns-in_default : goal.returns-in_default
returns-in_default c cs n q =
    let x = c.args in
    let g = passed x.n x.k (is_open (reading x.c.now)) (name_fits (length x.name.now)) _ (sym c.first_refusal.ensures ∙ c.in_ok-first_refusal.was) in
    subst (λ (r : Refusal). Left (set_mark x.k x.name.now) cs x.k (Err r)) (sym c.by_number.ensures)
    (set_47 cs x.k x.name.now x.c.now q (n ∙ g.0) g.1 g.3 (program_of c.program_of-p.result) c.program_of-p.ensures.0 (sym c.slot_for.ensures ∙ c.in_default.is))

pub marked-requires : goal.marked-requires
marked-requires c =
    let x = c.args in
    let g = passed x.n x.k (is_open (reading x.c.now)) (name_fits (length x.name.now)) _ (sym c.first_refusal.ensures ∙ c.in_ok-first_refusal.was) in
    (c.program_of-p.ensures.1, fits_most (length x.name.now) g.3, set_below (program_of c.program_of-p.result) x.name.now x.c.now.marks _ (sym c.slot_for.ensures ∙ c.in-Some.is))

pub returns : goal.returns
returns c cs n q =
    let x = c.args in
    let g = passed x.n x.k (is_open (reading x.c.now)) (name_fits (length x.name.now)) _ (sym c.first_refusal.ensures ∙ c.in_ok-first_refusal.was) in
    subst (λ (r : Caller). Left (set_mark x.k x.name.now) cs x.k (Ok r)) (sym c.marked.ensures)
    (set_done cs x.k x.name.now x.c.now q (n ∙ g.0) g.1 g.3 (program_of c.program_of-p.result) c.program_of-p.ensures.0 _ (sym c.slot_for.ensures ∙ c.in-Some.is))
