-- `open_one` turns away first, then reads the file.
use Rattle.std.proofs.Common.{◌≡◌, Err, Ok, sym, subst, ◌∙◌, rules}
use Rattle.spec_file.specs.declared.refusal.Refusal.{Refusal}
use Rattle.spec_file.proofs.PlainFiles.{accepted_size}
use Rattle.file_decoder.proofs.Decoded.{decoded_refused, decoded_accepted}
use Rattle.spec_service.specs.declared.caller.Caller.{Caller}
use Rattle.spec_service.specs.Call.{open_for}
use Rattle.service_one.specs.Left.{Left}
use Rattle.service_one.proofs.Doing.{open_22, open_42, open_43, open_file, open_done, open_refused, open_left}
use Rattle.service_one.proofs.single.open_one.Goals as goal

pub returns-then-n-ne4 : goal.returns-then-n-ne4
returns-then-n-ne4 c cs n q =
    let x = c.args in
    subst (λ (r : Refusal). Left (open_for x.k x.file.now) cs x.k (Err r)) (sym c.by_number.ensures)
    (open_refused cs x.k x.file.now 22 0 (open_22 cs x.k x.file.now (λ e. c.if-n-ne4.true (sym n ∙ e))))

pub returns-then-k-gt3 : goal.returns-then-k-gt3
returns-then-k-gt3 c cs n q =
    let x = c.args in
    subst (λ (r : Refusal). Left (open_for x.k x.file.now) cs x.k (Err r)) (sym c.by_number-then-k-gt3.ensures)
    (open_refused cs x.k x.file.now 42 0 (open_42 cs x.k x.file.now (n ∙ c.if-n-ne4.false) c.if-k-gt3.true))

pub returns-then-is_open : goal.returns-then-is_open
returns-then-is_open c cs n q =
    let x = c.args in
    subst (λ (r : Refusal). Left (open_for x.k x.file.now) cs x.k (Err r)) (sym c.by_number-then-is_open.ensures)
    (open_refused cs x.k x.file.now 43 0 (open_43 cs x.k x.file.now (n ∙ c.if-n-ne4.false) c.if-k-gt3.false x.c.now q (sym c.if-is_open.true ∙ c.is_open.ensures)))

pub returns-in_err-program_from : goal.returns-in_err-program_from
returns-in_err-program_from c cs n q =
    let x = c.args in
    let f = x.file.now in
    let e : c.from_residual.result ≡ Err c.in_err-program_from.field-0.0 = search rules in
    subst (Left (open_for x.k f) cs x.k) (sym e)
    (open_refused cs x.k f _ _ (open_file cs x.k f (n ∙ c.if-n-ne4.false) c.if-k-gt3.false x.c.now q _ _ (sym c.if-is_open.false ∙ c.is_open.ensures) (decoded_refused c.program_from.result f c.program_from.ensures _ c.in_err-program_from.was)))

pub opened_with-requires : goal.opened_with-requires
opened_with-requires c =
    let f = c.args.file.now in
    accepted_size f _ (decoded_accepted c.program_from.result f c.program_from.ensures _ c.in_ok-program_from.was)

pub returns : goal.returns
returns c cs n q =
    let x = c.args in
    let f = x.file.now in
    let a = decoded_accepted c.program_from.result f c.program_from.ensures _ c.in_ok-program_from.was in
    subst (λ (r : Caller). Left (open_for x.k f) cs x.k (Ok r)) (sym c.opened_with.ensures)
    (open_left cs x.k f (open_done cs x.k f (n ∙ c.if-n-ne4.false) c.if-k-gt3.false x.c.now q _ (sym c.if-is_open.false ∙ c.is_open.ensures) a))
