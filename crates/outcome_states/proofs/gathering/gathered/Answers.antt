use Rattle.std.proofs.Common.{ℕ, ◌+◌, ◌*◌, ◌≤◌, sym, ap, subst, ◌∙◌, List, arith, length, take, drop, length-take-le, ◌≡◌}
use lib.Seq.{paste}
use Rattle.std.proofs.Math.Option.{some}
use Rattle.file_decoder.specs.Compiled.{program_of}
use Rattle.spec_across.specs.Under.{outcome_under}
use Rattle.listing_model.specs.ModelOf.{model_of}
use Rattle.listing_model.proofs.ModelLaws.{model_laws}
use Rattle.spec_outcomes.specs.Firsts.{firsts_of}
use Rattle.states_outcomes.specs.declared.known.Frame.{Frame}
use Rattle.states_outcomes.specs.Rows.{row_of}
use Rattle.outcome_states.specs.Gathered.{Known}
use Rattle.outcome_states.proofs.Known.{known_start, known_more}
use Rattle.outcome_states.proofs.Shown.{shown_start}
use Rattle.outcome_states.proofs.Marks.{framed, eight_under, marks_start, marks_more}
use Rattle.outcome_states.proofs.Gathers.{member_within, found_next, none_next, gathers_all}
use Rattle.outcome_states.proofs.gathering.gathered.Goals as goal

pub loop-k-init : goal.loop-k-init
loop-k-init c =
    let a = c.args in
    let p = program_of a.program in
    let f = c.fresh-frame.result in
    let rows : List ℕ = take f.cut c.fresh-frame.new.lent in
    record {
      within = omega arith;
      known = known_start (model_of a.model) p rows;
      marks = marks_start a.model p (framed f.width f.slots f.cut 0) rows _ c.fresh-frame.ensures.silent;
      shown = shown_start (model_of a.model) p a.from a.out.now;
    }

-- none is new
pub returns-in_default : goal.returns-in_default
returns-in_default c =
    let a = c.args in
    let M = model_of a.model in
    let L = model_laws a.model in
    let p = program_of a.program in
    let loop = c.loop-k in
    let f = c.fresh-frame.result in
    let same = ap (λ (g : Frame). g.cut) c.fresh-frame.ensures.frame in
    let found = c.in_default.ensures.first loop.invariant.marks in
    gathers_all M L p (λ s f. eight_under a.model p c.requires.0 s) a.cut a.limit a.from loop.k a.lent.now _ a.out.now loop.out
    (c.in_default.ensures.words.0 ∙ loop.auto.lent ∙ c.fresh-frame.ensures.kept.0) (omega (arith, c.loop-k-test.true, c.min-room.ensures)) (omega (arith, c.loop-k-test.true, c.min-room.ensures)) loop.invariant.within
    (subst (λ (n : ℕ). Known M p (take n c.next_new.new.lent) loop.k) same (subst (λ (l : List ℕ). Known M p l loop.k) (sym c.in_default.ensures.words.1) loop.invariant.known)) loop.invariant.shown
    (none_next M L p (λ s f. eight_under a.model p c.requires.0 s) (take f.cut loop.lent) loop.k loop.invariant.known found.0)

pub loop-k-preserved : goal.loop-k-preserved
loop-k-preserved c =
    let a = c.args in
    let M = model_of a.model in
    let L = model_laws a.model in
    let p = program_of a.program in
    let admitted = c.requires.0 in
    let loop = c.loop-k in
    let k = loop.k in
    let f = c.fresh-frame.result in
    let same = ap (λ (g : Frame). g.cut) c.fresh-frame.ensures.frame in
    let r = c.in-Some.ensures in
    let s = c.as_slice.result.now in
    let rows : List ℕ = take f.cut loop.lent in
    let found = r.first loop.invariant.marks in
    let next = found_next M L p (λ x f. eight_under a.model p admitted x) rows k loop.invariant.known s (ap some c.as_slice.ensures ∙ found.0) in
    let keep = c.keep.ensures in
    let kept = keep.kept next in
    let is : take f.cut c.keep.new.lent ≡ paste rows (9 * k) (row_of (outcome_under M p s)) 9 =
    ap (λ (n : ℕ). take n c.keep.new.lent) same ∙ kept.row ∙ ap (λ (n : ℕ). paste (take n c.next_new.new.lent) (9 * k) (row_of (outcome_under M p s)) 9) (sym same)
    ∙ ap (λ (l : List ℕ). paste l (9 * k) (row_of (outcome_under M p s)) 9) r.words.1 in
    let behind : drop f.cut c.keep.new.lent ≡ drop f.cut c.next_new.new.lent =
    ap (λ (n : ℕ). drop n c.keep.new.lent) same ∙ keep.words.1 ∙ ap (λ (n : ℕ). drop n c.next_new.new.lent) (sym same) in
    let n = loop.auto.lent ∙ c.fresh-frame.ensures.kept.0 in
    let long = length-take-le f.cut loop.lent (omega (arith, c.requires.1, n, same)) in
    let fits : 9 * k + 9 ≤ length rows = omega (arith, c.loop-k-test.true, c.min-room.ensures, long, same) in
    let within = member_within (firsts_of M p) k s next in
    record {
      within = omega (arith, within);
      known = known_more M L p (λ x f. eight_under a.model p admitted x) rows k loop.invariant.known s next _ fits is;
      marks = marks_more rows k (outcome_under M p s) (eight_under a.model p admitted s) _ fits is a.model p admitted f.width f.slots f.cut _ _ behind found.1;
      shown = kept.shown a.out.now loop.auto.out loop.invariant.shown;
    }
