use Rattle.std.proofs.Common.{rules, ℕ, ◌/◌, ◌<◌, ◌≡◌, sym, ap, subst, ◌∙◌, false, List, ◌∷◌, arith, length}
use mathlib.Core.List.{Memᴰ}
use Rattle.spec_file.specs.Over.{over}
use Rattle.file_decoder.specs.Compiled.{program_of}
use Rattle.spec_schedules.specs.Order.{Schedule}
use Rattle.spec_model.specs.Alike.{list_of}
use Rattle.spec_model.specs.Search.{sought}
use Rattle.listing_cursor.specs.ListRows.{remaining}
use Rattle.listing_cursor.proofs.CursorLaws.{from_end}
use Rattle.listing_model.specs.ModelOf.{model_of}
use Rattle.listing_model.proofs.ModelLaws.{model_laws}
use Rattle.listing_pages.proofs.FirstByPages.{page_rows, page_onward}
use Rattle.spec_outcomes.specs.OutcomesCall.{outcome_size, outcome_rows}
use Rattle.outcomes_call.specs.Walked.{Walks}
use Rattle.outcomes_call.proofs.Walked.{walks_start, walks_full, walks_over}
use Rattle.outcomes_call.proofs.OneRow.{sought_list, page_is, some_room, nothing_left, one_here, next_here, listed_here}
use Rattle.outcomes_call.proofs.by_lists.by_lists.Goals as goal

pub loop-model-init : goal.loop-model-init
loop-model-init c =
    let a = c.args in
    let M = model_of a.model in
    let p = program_of a.program in
    walks_start M (model_laws a.model) p a.from a.room a.out.now _ (c.beginning-cursor.ensures (sought M false p) ∙ sought_list M p)

-- the room is full
pub returns-then-t-room : goal.returns-then-t-room
returns-then-t-room c =
    let a = c.args in
    let M = model_of a.model in
    let p = program_of a.program in
    let w = walks_full M (model_laws a.model) p a.from a.room a.out.now _ c.loop-model.t c.loop-model.out c.loop-model.invariant c.if-t-room.true in
    let is = page_is M p a.from a.room a.out.now c.requires.1 in
    record { count = sym c.if-t-room.true ∙ w.0 ∙ ap length is; output = w.1 ∙ ap (λ (l : List Schedule). over (outcome_rows M p l) a.out.now) is }

-- nothing is to come any more
pub returns-then-page-eq0 : goal.returns-then-page-eq0
returns-then-page-eq0 c =
    let a = c.args in
    let M = model_of a.model in
    let p = program_of a.program in
    let n = c.next_page-page in
    let fifty : length c.loop-model.row ≡ 50 = search rules in
    let z = nothing_left a.model c.loop-model.row fifty p c.loop-model.cursor _ n.result n.ensures c.if-page-eq0.true in
    let w = walks_over M (model_laws a.model) p a.from a.room a.out.now _ c.loop-model.t c.loop-model.out c.loop-model.invariant z in
    let is = page_is M p a.from a.room a.out.now c.requires.1 in
    record { count = w.0 ∙ ap length is; output = w.1 ∙ ap (λ (l : List Schedule). over (outcome_rows M p l) a.out.now) is }

pub row_at-requires : goal.row_at-requires
row_at-requires c =
    let a = c.args in
    let M = model_of a.model in
    let p = program_of a.program in
    let n = c.next_page-page in
    let fifty : length c.loop-model.row ≡ 50 = search rules in (
      p,
      _,
      n.result.rows,
      page_rows M p c.loop-model.cursor c.loop-model.row _ n.result n.ensures (model_laws a.model) c.requires.0,
      one_here a.model c.loop-model.row fifty p c.loop-model.cursor _ n.result n.ensures c.if-page-eq0.false,
    )

pub turn-t-requires : goal.turn-t-requires
turn-t-requires c =
    let a = c.args in
    let M = model_of a.model in
    let p = program_of a.program in
    let n = c.next_page-page in
    let fifty : length c.loop-model.row ≡ 50 = search rules in
    let read = c.as_slice.ensures ∙ c.row_at.ensures.row p _ n.result.rows (page_rows M p c.loop-model.cursor c.loop-model.row _ n.result n.ensures (model_laws a.model) c.requires.0)
    (one_here a.model c.loop-model.row fifty p c.loop-model.cursor _ n.result n.ensures c.if-page-eq0.false) in
    let few = c.loop-model.invariant.few in
    let less : c.loop-model.t.rows < a.room = omega (arith, few, c.if-t-room.false) in
    let full : a.room ≡ length c.loop-model.out / outcome_size M = c.requires.1 ∙ ap (λ (k : ℕ). k / outcome_size M) (sym c.loop-model.auto.out) in (
      c.requires.0,
      subst (λ (k : ℕ). c.loop-model.t.rows < k) full less,
      subst (λ (s : Schedule). Memᴰ s (list_of M p)) (sym read) (listed_here a.model c.loop-model.row fifty p c.loop-model.cursor _ n.result n.ensures c.if-page-eq0.false),
    )

pub loop-model-smaller : goal.loop-model-smaller
loop-model-smaller c =
    let a = c.args in
    let n = c.next_page-page in
    page_onward (model_of a.model) (program_of a.program) c.loop-model.cursor c.loop-model.row _ n.result n.ensures (some_room a.model c.loop-model.row (search rules)) (sym c.is_end.ensures ∙ c.loop-model-test.true)

pub loop-model-preserved : goal.loop-model-preserved
loop-model-preserved c =
    let a = c.args in
    let M = model_of a.model in
    let p = program_of a.program in
    let n = c.next_page-page in
    let fifty : length c.loop-model.row ≡ 50 = search rules in
    let read = c.as_slice.ensures ∙ c.row_at.ensures.row p _ n.result.rows (page_rows M p c.loop-model.cursor c.loop-model.row _ n.result n.ensures (model_laws a.model) c.requires.0)
    (one_here a.model c.loop-model.row fifty p c.loop-model.cursor _ n.result n.ensures c.if-page-eq0.false) in
    let next = next_here a.model c.loop-model.row fifty p c.loop-model.cursor _ n.result n.ensures c.if-page-eq0.false in
    let rest = remaining M p false n.result.cursor in
    let walks = subst (λ (l : List Schedule). Walks M p a.from a.room a.out.now l c.loop-model.t c.loop-model.out) (next ∙ ap (λ (s : Schedule). s ∷ rest) (sym read)) c.loop-model.invariant in
    (c.turn-t.ensures a.from a.room a.out.now rest c.requires.1 c.loop-model.auto.out walks).1

-- the list is at its end
pub returns : goal.returns
returns c =
    let a = c.args in
    let M = model_of a.model in
    let p = program_of a.program in
    let z = from_end (sought M false p) c.loop-model.cursor (sym c.is_end.ensures ∙ c.loop-model-test.false) in
    let w = walks_over M (model_laws a.model) p a.from a.room a.out.now _ c.loop-model.t c.loop-model.out c.loop-model.invariant z in
    let is = page_is M p a.from a.room a.out.now c.requires.1 in
    record { count = w.0 ∙ ap length is; output = w.1 ∙ ap (λ (l : List Schedule). over (outcome_rows M p l) a.out.now) is }
