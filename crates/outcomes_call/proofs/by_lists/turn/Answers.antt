-- `turn` asks whether the schedule is the first with its outcome.
use Rattle.std.proofs.Common.{rules, ℕ, ◌/◌, ◌<◌, ◌≡◌, sym, ap, subst, ◌∙◌, arith, length}
use Rattle.std.proofs.Math.Option.{some}
use Rattle.file_decoder.specs.Compiled.{program_of}
use Rattle.spec_model.proofs.TheList.{list_exact, list_room}
use Rattle.listing_model.specs.ModelOf.{model_of}
use Rattle.listing_model.proofs.ModelLaws.{model_laws}
use Rattle.spec_outcomes.specs.OutcomesCall.{outcome_size}
use Rattle.outcomes_call.proofs.Walked.{differ, agree, is_first_lem, not_first, coming_some, not_none, walks_past, walks_skip, walks_row}
use Rattle.outcomes_call.proofs.by_lists.turn.Goals as goal

-- the schedule's own outcome is come to
pub returns-in_default : goal.returns-in_default
returns-in_default c =
    let a = c.args in
    let M = model_of a.model in
    let p = program_of a.program in
    let listed = c.requires.2 in
    let x = c.outcome_of-o.ensures ((list_exact M (model_laws a.model) p a.s.now).0 listed).0 in
    absurd (not_none M (model_laws a.model) p a.s.now listed c.outcome_of-o.result x c.in_default.ensures.first)

pub returns-then-ne : goal.returns-then-ne
returns-then-ne c =
    let a = c.args in
    let M = model_of a.model in
    let L = model_laws a.model in
    let p = program_of a.program in
    let s = a.s.now in
    let listed = c.requires.2 in
    let x = c.outcome_of-o.ensures ((list_exact M L p s).0 listed).0 in
    let t = c.as_slice.result.now in
    let e = coming_some M L p s listed c.outcome_of-o.result x t (ap some c.as_slice.ensures ∙ c.in-Some.ensures.first) in
    λ from room held rest is same walks.
    (same, walks_past M L p from room held s rest a.t a.out.now (not_first M L p s t listed e (λ i. differ t s c.ne.result c.ne.ensures c.if-ne.true (sym i))) walks)

pub returns-then-t-gt0 : goal.returns-then-t-gt0
returns-then-t-gt0 c =
    let a = c.args in
    let M = model_of a.model in
    let L = model_laws a.model in
    let p = program_of a.program in
    let s = a.s.now in
    let listed = c.requires.2 in
    let x = c.outcome_of-o.ensures ((list_exact M L p s).0 listed).0 in
    let t = c.as_slice.result.now in
    let e = coming_some M L p s listed c.outcome_of-o.result x t (ap some c.as_slice.ensures ∙ c.in-Some.ensures.first) in
    λ from room held rest is same walks.
    (same, walks_skip M L p from room held s rest a.t a.out.now (is_first_lem M L p s t listed e (sym (agree t s c.ne.result c.ne.ensures c.if-ne.false))) c.if-t-gt0.true walks)

pub show-requires : goal.show-requires
show-requires c =
    let a = c.args in
    (list_room (model_of a.model) (model_laws a.model) (program_of a.program) c.requires.0 a.s.now c.requires.2, λ z. omega (arith, c.requires.1))

pub returns : goal.returns
returns c =
    let a = c.args in
    let M = model_of a.model in
    let L = model_laws a.model in
    let p = program_of a.program in
    let s = a.s.now in
    let listed = c.requires.2 in
    let x = c.outcome_of-o.ensures ((list_exact M L p s).0 listed).0 in
    let t = c.as_slice.result.now in
    let e = coming_some M L p s listed c.outcome_of-o.result x t (ap some c.as_slice.ensures ∙ c.in-Some.ensures.first) in
    let eight : length c.outcome_of-o.result.memory ≡ 8 = search rules in
    let z : a.t.left ≡ 0 = omega (arith, c.if-t-gt0.false) in
    let long : length c.show.new.out ≡ length a.out.now = search rules in
    λ from room held rest is same walks.
    let h : a.t.rows < room = subst (λ (n : ℕ). a.t.rows < n) (ap (λ (n : ℕ). n / outcome_size M) same ∙ sym is) c.requires.1 in
    (long ∙ same, walks_row M L p from room held s rest a.t a.out.now (is_first_lem M L p s t listed e (sym (agree t s c.ne.result c.ne.ensures c.if-ne.false))) z h c.outcome_of-o.result x eight _ same (c.show.ensures.row (omega arith)) walks)
