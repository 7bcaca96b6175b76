-- `next_of` goes by the record's place.
use Rattle.std.proofs.Common.{ℕ, take, replicate, refl, ap, ◌∙◌, arith}
use Rattle.spec_model.specs.OnFile.{start_file, continue_file}
use Rattle.spec_sc.specs.Sequential.{sc}
use Rattle.service_record.specs.Next.{next_of}
use Rattle.service_record.proofs.Given.{start_content, start_given, continue_content, continue_given, none_long, none_steps, none_left}
use Rattle.service_record.proofs.next.next_of.Goals as goal

pub returns-then-c-gt4096 : goal.returns-then-c-gt4096
unfolding next_of
returns-then-c-gt4096 c = ap next_of (none_long c.args.c.now c.if-c-gt4096.true)

pub returns-in-1 : goal.returns-in-1
returns-in-1 c =
    let r = c.args.c.now in
    let s = c.start in
    let f = take r.length r.file in
    let g = start_given r c.if-c-gt4096.false f (replicate 24 0) refl refl c.in-1.is in
    c.next_by.ensures (start_file sc f (replicate 24 0)).0 s.ensures.answer (s.ensures.output ∙ start_content f (replicate 24 0)) g.1 ∙ ap next_of g.0

pub returns-else-c-gt24 : goal.returns-else-c-gt24
returns-else-c-gt24 c =
    let r = c.args.c.now in
    let s = c.continue_from in
    let f = take r.length r.file in
    let t = take c.from.result r.schedule in
    let g = continue_given r c.if-c-gt4096.false f (replicate 24 0) refl refl t c.in-2.is c.if-c-gt24.false (ap (λ (n : ℕ). take n r.schedule) c.from.ensures) in
    c.next_by-in-2.ensures (continue_file sc f t (replicate 24 0)).0 s.ensures.answer (s.ensures.output ∙ continue_content f t (replicate 24 0)) g.1 ∙ ap next_of g.0

pub returns-then-c-gt24 : goal.returns-then-c-gt24
unfolding next_of
returns-then-c-gt24 c = ap next_of (none_steps c.args.c.now c.in-2.is c.if-c-gt24.true)

pub returns-in_default : goal.returns-in_default
unfolding next_of
returns-in_default c = ap next_of (none_left c.args.c.now (λ e. omega (arith, e)) (λ e. omega (arith, e)))
