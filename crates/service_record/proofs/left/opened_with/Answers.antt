-- `opened_with` copies the whole file over zeros, into a record that is else a fresh one.
use Rattle.std.proofs.Common.{ℕ, List, length, replicate, ap, ap₂, ◌∙◌, le_refl, take_all}
use Rattle.spec_file.specs.Over.{over}
use Rattle.spec_service.specs.declared.caller.Caller.{Caller}
use Rattle.spec_service.specs.Record.{fresh, opened, plain}
use Rattle.service_record.proofs.left.opened_with.Goals as goal

pub returns : goal.returns
unfolding opened plain fresh
returns c =
    let f = c.args.file.now in
    let e = c.put_front.ensures ∙ ap (λ (t : List ℕ). over t (replicate 4096 0)) (take_all (length f) f (le_refl (length f))) in
    ap₂ (λ (b : List ℕ) (r : Caller). record r { file = b; length = length f; place = 1 }) e c.fresh_record.ensures
