-- `taken` adds the frame in one of four ways, and the arrays go on holding what has been read.
use Rattle.std.proofs.Common.{ℕ, ◌≡◌, ◌≤◌, ◌<◌, ◌-◌, List, get_or, ◌∙◌, sym, arith}
use Rattle.spec_file.specs.Frame.{pairs}
use Rattle.spec_file.specs.Frames.{byte}
use Rattle.file_refusals.specs.declared.counts.Counts.{Counts}
use Rattle.file_decoder.specs.Held.{Passes}
use Rattle.file_decoder.proofs.HeldAfter.{passes_opened, passes_extended}
use Rattle.file_decoder.proofs.HeldAfterStart.{passes_started}
use Rattle.file_decoder.proofs.HeldTaken.{taken_opened, taken_grouped, taken_started, taken_extended}
use Rattle.file_decoder.proofs.taken.taken.Goals as goal

pub opened-requires : goal.opened-requires
opened-requires c =
    let pre = c.requires in
    passes_opened (pairs c.args.line.now) c.args.code.now c.args.s pre.read pre.holds pre.passes (sym c.field-b.ensures.same ∙ c.in-1.is)

pub started-requires : goal.started-requires
started-requires c =
    let pre = c.requires in
    let l = passes_started (pairs c.args.line.now) pre.read pre.passes (sym c.field-b.ensures.same ∙ c.in-3.is) in
    omega (arith, l, c.field.ensures.same)

pub returns-in-1 : goal.returns-in-1
returns-in-1 c =
    let args = c.args in
    taken_opened args.line.now args.number args.code.now args.rows.now args.s c.opened.result c.opened.ensures (sym c.field-b.ensures.same ∙ c.in-1.is)

pub returns-in-2 : goal.returns-in-2
returns-in-2 c =
    let args = c.args in
    taken_grouped args.line.now args.number args.code.now args.rows.now args.s c.grouped.result c.grouped.ensures (sym c.field-b.ensures.same ∙ c.in-2.is)

pub returns-in-3 : goal.returns-in-3
returns-in-3 c =
    let args = c.args in
    taken_started args.line.now args.number args.code.now args.rows.now args.s c.started.result _ _ c.started.ensures
    c.field.ensures.same c.word_at.ensures (sym c.field-b.ensures.same ∙ c.in-3.is)

-- an instruction stands in a thread with room, and is short
module _ (line : List ℕ) (n : ℕ) (code : List ℕ) (s : Counts) (pre : Passes line n code s) (b : ℕ) (same : b ≡ byte (pairs line) 0) where
  has_room : (b ≡ 1 → ⊥) → (b ≡ 2 → ⊥) → (b ≡ 3 → ⊥) → (1 ≤ s.threads) × (get_or s.lengths (s.threads - 1) 0 < 16) × (n ≤ 13)
  has_room one two three =
      let p = passes_extended (pairs line) code s pre.read pre.holds pre.passes (λ e. one (same ∙ e), λ e. two (same ∙ e), λ e. three (same ∙ e)) in
      (p.0, p.1, omega (arith, p.2, pre.size))

pub overflow_sub-last : goal.overflow_sub-last
overflow_sub-last c = (has_room c.args.line.now c.args.n c.args.code.now c.args.s c.requires c.field-b.result c.field-b.ensures.same (λ e. omega arith) (λ e. omega arith) (λ e. omega arith)).0

pub put_row-requires : goal.put_row-requires
put_row-requires c =
    let room = has_room c.args.line.now c.args.n c.args.code.now c.args.s c.requires c.field-b.result c.field-b.ensures.same (λ e. omega arith) (λ e. omega arith) (λ e. omega arith) in
    (omega (arith, c.requires.bounded.six), omega arith, c.requires.holds.size)

pub bounds-rows-row : goal.bounds-rows-row
bounds-rows-row c =
    let room = has_room c.args.line.now c.args.n c.args.code.now c.args.s c.requires c.field-b.result c.field-b.ensures.same (λ e. omega arith) (λ e. omega arith) (λ e. omega arith) in
    omega (arith, c.requires.bounded.six)

pub extended-requires : goal.extended-requires
extended-requires c =
    (c.requires.bounded, (has_room c.args.line.now c.args.n c.args.code.now c.args.s c.requires c.field-b.result c.field-b.ensures.same (λ e. omega arith) (λ e. omega arith) (λ e. omega arith)).0)

pub returns-in_default : goal.returns-in_default
returns-in_default c =
    let args = c.args in
    taken_extended args.line.now args.number args.code.now args.rows.now args.s c.extended.result c.field-b.result
    args.n c.put_row.new.code c.requires.bounded c.requires.size c.field-b.ensures.same (λ e. omega arith) (λ e. omega arith) (λ e. omega arith) c.extended.ensures c.put_row.ensures
