-- `show` writes the row behind those of smaller numbers.
use Rattle.std.proofs.Common.{rules, ℕ, ◌+◌, ◌-◌, ◌*◌, ◌^◌, ◌<◌, ◌≤◌, refl, sym, ap, ◌∙◌, ◌++◌, arith, length}
use mathlib.Core.List.{flat_map}
use Rattle.spec_file.specs.Over.{over}
use Rattle.spec_calls.specs.Rows.{row_bytes}
use Rattle.listing_model.specs.ModelOf.{model_of}
use Rattle.listing_model.proofs.ModelLaws.{need_48}
use Rattle.spec_outcomes.specs.OutcomesCall.{four_bytes}
use Rattle.outcome_states.proofs.Shown.{put_size, put_room}
use Rattle.outcome_states.proofs.keeping.show.Goals as goal

pub returns-then-k-from : goal.returns-then-k-from
returns-then-k-from c = record { before = (λ h. refl); row = λ h. absurd (omega (arith, h, c.if-k-from.true)) }

pub overflow_add-w : goal.overflow_add-w
overflow_add-w c = record { fits = omega (arith, c.width-w.ensures, need_48 c.args.model) }

pub overflow_mul-k : goal.overflow_mul-k
overflow_mul-k c =
    let room : (c.args.k - c.args.from) * (c.width-w.result + 34) + c.width-w.result + 34 ≤ length c.args.out.now = put_room (model_of c.args.model) c.width-w.result (c.args.k - c.args.from) (length c.args.out.now) c.width-w.ensures (c.requires.1 c.if-k-from.false) in
    let g : length c.args.out.now < 2 ^ 64 = search rules in
    let r = room in
    record { fits = omega (arith, g, r) }

pub put_outcome-requires : goal.put_outcome-requires
put_outcome-requires c =
    let room : (c.args.k - c.args.from) * (c.width-w.result + 34) + c.width-w.result + 34 ≤ length c.args.out.now = put_room (model_of c.args.model) c.width-w.result (c.args.k - c.args.from) (length c.args.out.now) c.width-w.ensures (c.requires.1 c.if-k-from.false) in
    let w = c.width-w.ensures in (omega (arith, w, c.requires.0), omega (arith, w, need_48 c.args.model), room)

pub returns : goal.returns
returns c =
    let a = c.args in
    let w = c.width-w in
    let M = model_of a.model in record {
      before = (λ h. absurd (omega (arith, h, c.if-k-from.false)));
      row = λ h t l is ends same.
          c.put_outcome.ensures t l is (ends ∙ sym (put_size M w.result (a.k - a.from) w.ensures)) same
          ∙ ap (λ (n : ℕ). over (t ++ (flat_map four_bytes a.o.memory ++ row_bytes n a.steps.now a.o.fails)) l) w.ensures;
    }
