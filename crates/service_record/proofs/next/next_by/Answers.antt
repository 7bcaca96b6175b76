-- `next_by` goes by what the listing answered.
use Rattle.std.proofs.Common.{ℕ, ◌≡◌, Some, Ok, sym, ap, ◌∙◌, None, arith, rules}
use Rattle.std.proofs.lemmas.Grind.{common_steps}
use Rattle.service_record.proofs.Given.{by_found, by_none, by_refused}
use Rattle.service_record.proofs.next.next_by.Goals as goal

pub returns-in_err-steps-in-Ok-Some : goal.returns-in_err-steps-in-Ok-Some
returns-in_err-steps-in-Ok-Some c x e q h =
    let g : c.args.found ≡ Ok (Some c.in-Ok-Some.steps) = search rules in
    let z = by_found c.in-Ok-Some.steps c.args.schedule x (sym g ∙ e) q h in
    absurd (grind (arith, common_steps, z.0))

pub returns-in_ok-steps-in-Ok-Some : goal.returns-in_ok-steps-in-Ok-Some
returns-in_ok-steps-in-Ok-Some c x e q h =
    let g : c.args.found ≡ Ok (Some c.in-Ok-Some.steps) = search rules in
    let z = by_found c.in-Ok-Some.steps c.args.schedule x (sym g ∙ e) q h in
    let same : c.in_ok-steps-in-Ok-Some.steps ≡ c.in-Ok-Some.steps = grind (arith, common_steps, z.0) in
    ap (λ (n : ℕ). Some (record { steps = n; schedule = c.args.schedule })) same ∙ z.1

pub returns-in-Ok-None : goal.returns-in-Ok-None
returns-in-Ok-None c x e q h = let g : c.args.found ≡ Ok None = search rules in by_none x (sym g ∙ e)

pub returns-in-Err : goal.returns-in-Err
returns-in-Err c x e q h = by_refused _ x (sym c.in-Err.is ∙ e)
