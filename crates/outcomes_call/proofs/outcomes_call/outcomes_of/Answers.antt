-- `outcomes_of` goes by states, and by the list where these do not tell.
use Rattle.std.proofs.Common.{rules, ℕ, ◌+◌, ◌/◌, ◌^◌, ◌<◌, ◌≡◌, sym, ap, subst, ◌∙◌, List, le_of_eq, arith, length, replicate}
use Rattle.spec_file.specs.Over.{over}
use Rattle.file_decoder.specs.Compiled.{program_of}
use Rattle.spec_schedules.specs.Order.{Schedule}
use Rattle.listing_model.specs.ModelOf.{model_of}
use Rattle.listing_model.proofs.ModelLaws.{need_48}
use Rattle.spec_outcomes.specs.OutcomesCall.{outcome_size, outcome_rows}
use Rattle.outcomes_call.proofs.Pages.{room_few, room_is, page_all, page_limit, page_again}
use Rattle.outcomes_call.proofs.outcomes_call.outcomes_of.Goals as goal

pub overflow_add-room : goal.overflow_add-room
overflow_add-room c = record { fits = omega (arith, c.width.ensures, need_48 c.args.model) }

pub by_lists-requires : goal.by_lists-requires
by_lists-requires c =
    let is-room : length c.args.out.now / (c.width.result + 34) ≡ length c.args.out.now / outcome_size (model_of c.args.model) = room_is (model_of c.args.model) c.width.result (length c.args.out.now) c.width.ensures in
    (c.requires, is-room)

pub returns-then-from-gt4294967295 : goal.returns-then-from-gt4294967295
returns-then-from-gt4294967295 c = record { count = c.by_lists.ensures.count; output = c.by_lists.ensures.output; later = c.clear.ensures.zeros }

pub overflow_add-limit : goal.overflow_add-limit
overflow_add-limit c =
    let small : length c.args.out.now < 2 ^ 64 = search rules in
    let is-room : length c.args.out.now / (c.width.result + 34) ≡ length c.args.out.now / outcome_size (model_of c.args.model) = room_is (model_of c.args.model) c.width.result (length c.args.out.now) c.width.ensures in
    let few = room_few c.args.model (length c.args.out.now) (small) in
    let h : length c.args.out.now / (c.width.result + 34) < 2 ^ 59 = subst (λ (n : ℕ). n < 2 ^ 59) (sym (is-room)) few in
    record { fits = omega (arith, h, c.if-from-gt4294967295.false) }

pub gathered-g-requires : goal.gathered-g-requires
gathered-g-requires c =
    let is-room : length c.args.out.now / (c.width.result + 34) ≡ length c.args.out.now / outcome_size (model_of c.args.model) = room_is (model_of c.args.model) c.width.result (length c.args.out.now) c.width.ensures in
    (c.requires, omega arith, le_of_eq (ap (λ (n : ℕ). c.args.from + n) (is-room)))

pub returns-then-g : goal.returns-then-g
returns-then-g c =
    let is-room : length c.args.out.now / (c.width.result + 34) ≡ length c.args.out.now / outcome_size (model_of c.args.model) = room_is (model_of c.args.model) c.width.result (length c.args.out.now) c.width.ensures in
    let a = c.args in
    let M = model_of a.model in
    let p = program_of a.program in
    let g = c.gathered-g.ensures in
    let r = page_all M p a.from _ a.out.now (is-room) c.gathered-g.result.known g.few g.within (g.all c.if-g.true) in
    record { count = c.saturating_sub.ensures ∙ r.0; output = g.output ∙ ap (λ (l : List Schedule). over (outcome_rows M p l) a.out.now) r.1; later = c.clear-2.ensures.zeros ∙ ap (λ (n : ℕ). replicate n 0) g.words }

pub returns-then-known-limit : goal.returns-then-known-limit
returns-then-known-limit c =
    let is-room : length c.args.out.now / (c.width.result + 34) ≡ length c.args.out.now / outcome_size (model_of c.args.model) = room_is (model_of c.args.model) c.width.result (length c.args.out.now) c.width.ensures in
    let a = c.args in
    let M = model_of a.model in
    let p = program_of a.program in
    let g = c.gathered-g.ensures in
    let r = page_limit M p a.from _ a.out.now (is-room) c.gathered-g.result.known g.few g.within c.if-known-limit.true in
    record { count = r.0; output = g.output ∙ ap (λ (l : List Schedule). over (outcome_rows M p l) a.out.now) r.1; later = c.clear-2.ensures.zeros ∙ ap (λ (n : ℕ). replicate n 0) g.words }

pub by_lists-requires-2 : goal.by_lists-requires-2
by_lists-requires-2 c =
    let is-room : length c.args.out.now / (c.width.result + 34) ≡ length c.args.out.now / outcome_size (model_of c.args.model) = room_is (model_of c.args.model) c.width.result (length c.args.out.now) c.width.ensures in
    let same : length c.gathered-g.new.out ≡ length c.args.out.now = search rules in
    (c.requires, is-room ∙ ap (λ (n : ℕ). n / outcome_size (model_of c.args.model)) (sym same))

pub returns : goal.returns
returns c =
    let is-room : length c.args.out.now / (c.width.result + 34) ≡ length c.args.out.now / outcome_size (model_of c.args.model) = room_is (model_of c.args.model) c.width.result (length c.args.out.now) c.width.ensures in
    let a = c.args in
    let M = model_of a.model in
    let p = program_of a.program in
    let g = c.gathered-g.ensures in
    let same : length c.gathered-g.new.out ≡ length a.out.now = search rules in
    let r = page_again M p a.from _ a.out.now (is-room) c.gathered-g.result.known g.few g.within _ _ same g.output _ c.by_lists-2.ensures.count c.by_lists-2.ensures.output in
    record { count = r.0; output = r.1; later = c.clear-2.ensures.zeros ∙ ap (λ (n : ℕ). replicate n 0) g.words }
