-- `refusal` makes the checks in their order.
use Rattle.std.proofs.Common.{ℕ, true, false, ◌≡◌, ◌≤◌, ◌<◌, ◌∙◌, sym, ap, arith, length}
use Rattle.file_lines.specs.Numbers.{unless_zero}
use Rattle.spec_file.specs.Frame.{pairs}
use Rattle.spec_file.specs.declared.kind.Kind.{Kind}
use Rattle.spec_file.specs.Kinds.{kind_of, lookup, kinds}
use Rattle.spec_file.specs.Frames.{Frame, byte, kind, known}
use Rattle.spec_file.proofs.StartLines.{start_location}
use Rattle.file_refusals.specs.Held.{starting_refusal, instruction_refusal}
use Rattle.file_refusals.proofs.RefusalByCounts.{too_short, too_long, length_fits, refused_3, refused_4, opening_refused, alike_refused, starting_refused, instruction_refused}
use Rattle.file_refusals.proofs.checking.refusal.Goals.{then-n-k-via-then-n-k, then-n-k-via-else-n-k+then-k-n}
use Rattle.file_refusals.proofs.checking.refusal.Goals as goal

-- the frame's length against the kind that the code looked up
kind_here : (f : Frame) (b : ℕ) (k : Kind) → k ≡ kind_of b → b ≡ byte f 0 → k ≡ kind f
unfolding kind
kind_here f b k e h = e ∙ ap kind_of h

module _ (f : Frame) (n : ℕ) (k : Kind) (e : k ≡ kind f) (size : n ≡ length f) where
  short_here : n < k.least → known f ≡ false
  short_here h = too_short f (omega (arith, ap (λ (x : Kind). x.least) e))

  long_here : k.most < n → known f ≡ false
  long_here h = too_long f (omega (arith, ap (λ (x : Kind). x.most) e))

  fits_here : k.least ≤ n → n ≤ k.most → known f ≡ true
  fits_here h l = length_fits f (omega (arith, ap (λ (x : Kind). x.least) e)) (omega (arith, ap (λ (x : Kind). x.most) e))

pub returns-then-n-k : goal.returns-then-n-k
returns-then-n-k c =
    let f = pairs c.args.line.now in
    let e = kind_here f _ _ c.kind_of-k.ensures c.field-b.ensures.same in
    λ r held. ap unless_zero (sym (refused_3 r f (elim c.then-n-k.branch [
      | then-n-k-via-then-n-k w ↦ short_here f _ _ e c.requires.1 w.if-n-k.true
      | then-n-k-via-else-n-k+then-k-n w ↦ long_here f _ _ e c.requires.1 w.if-k-n.true
    ])))

pub in_range-requires : goal.in_range-requires
in_range-requires c = kind_here (pairs c.args.line.now) _ _ c.kind_of-k.ensures c.field-b.ensures.same

pub returns-then-not-in_range : goal.returns-then-not-in_range
returns-then-not-in_range c =
    let f = pairs c.args.line.now in
    let k = fits_here f _ _ (kind_here f _ _ c.kind_of-k.ensures c.field-b.ensures.same) c.requires.1 c.if-n-k.false c.if-k-n.false in
    λ r held. ap unless_zero (sym (refused_4 r f k (sym c.in_range.ensures ∙ c.if-not-in_range.true)))

pub members_fit-requires : goal.members_fit-requires
unfolding kind_of lookup kinds
members_fit-requires c =
    let e : c.kind_of-k.result.least ≡ 3 = ap (λ (k : Kind). k.least) (c.kind_of-k.ensures ∙ ap kind_of c.in-2.is) in
    (c.requires.0, c.requires.1, omega arith)

pub starting-requires : goal.starting-requires
starting-requires c =
    let l = start_location (pairs c.args.line.now) (sym c.field-b.ensures.same ∙ c.in-3.is) (sym c.in_range.ensures ∙ c.if-not-in_range.false) in
    omega (arith, l, c.field.ensures.same)

pub returns-in-1 : goal.returns-in-1
returns-in-1 c =
    let f = pairs c.args.line.now in
    let k = fits_here f _ _ (kind_here f _ _ c.kind_of-k.ensures c.field-b.ensures.same) c.requires.1 c.if-n-k.false c.if-k-n.false in
    λ r held. c.opening.ensures ∙ ap unless_zero (opening_refused c.args.code.now c.args.s r held f k (sym c.in_range.ensures ∙ c.if-not-in_range.false) (sym c.field-b.ensures.same ∙ c.in-1.is))

pub returns-then-members_fit : goal.returns-then-members_fit
returns-then-members_fit c =
    let f = pairs c.args.line.now in
    let k = fits_here f _ _ (kind_here f _ _ c.kind_of-k.ensures c.field-b.ensures.same) c.requires.1 c.if-n-k.false c.if-k-n.false in
    λ r held. ap unless_zero (rw (sym (c.members_fit.ensures r held) ∙ c.if-members_fit.true) at (alike_refused c.args.code.now c.args.s r held f k (sym c.in_range.ensures ∙ c.if-not-in_range.false) (sym c.field-b.ensures.same ∙ c.in-2.is)))

pub returns-else-members_fit : goal.returns-else-members_fit
returns-else-members_fit c =
    let f = pairs c.args.line.now in
    let k = fits_here f _ _ (kind_here f _ _ c.kind_of-k.ensures c.field-b.ensures.same) c.requires.1 c.if-n-k.false c.if-k-n.false in
    λ r held. ap unless_zero (rw (sym (c.members_fit.ensures r held) ∙ c.if-members_fit.false) at (alike_refused c.args.code.now c.args.s r held f k (sym c.in_range.ensures ∙ c.if-not-in_range.false) (sym c.field-b.ensures.same ∙ c.in-2.is)))

pub returns-in-3 : goal.returns-in-3
returns-in-3 c =
    let f = pairs c.args.line.now in
    let k = fits_here f _ _ (kind_here f _ _ c.kind_of-k.ensures c.field-b.ensures.same) c.requires.1 c.if-n-k.false c.if-k-n.false in
    let three = sym c.field-b.ensures.same ∙ c.in-3.is in
    let in-range = sym c.in_range.ensures ∙ c.if-not-in_range.false in
    λ r held. c.starting.ensures ∙ ap unless_zero (ap (λ (l : ℕ). starting_refusal l c.args.s) c.field.ensures.same ∙ starting_refused c.args.code.now c.args.s r held f k in-range three (start_location f three in-range))

pub returns-in_default : goal.returns-in_default
returns-in_default c =
    let f = pairs c.args.line.now in
    let k = fits_here f _ _ (kind_here f _ _ c.kind_of-k.ensures c.field-b.ensures.same) c.requires.1 c.if-n-k.false c.if-k-n.false in
    let same = c.field-b.ensures.same in
    λ r held. c.instruction.ensures ∙ ap unless_zero (ap (λ (b : ℕ). instruction_refusal b c.args.s) same ∙ instruction_refused c.args.code.now c.args.s r held f k (sym c.in_range.ensures ∙ c.if-not-in_range.false) (λ e. omega arith) (λ e. omega arith) (λ e. omega arith))
