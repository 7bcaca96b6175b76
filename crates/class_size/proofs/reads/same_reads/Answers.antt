use Rattle.std.proofs.Common.{ℕ, ◌<◌, ◌≤◌, ◌≡◌, sym, ap, ap₂, ◌∙◌, not, List, Option, Some, None, IfSome}
use Rattle.spec_sc.specs.Same.{same_read}
use Rattle.spec_file.specs.Lists.{same_list}
use Rattle.graph_writer.specs.Notes.{Note}
use Rattle.graph_writer.specs.NoteText.{reads_in}
use Rattle.class_size.proofs.NotesFrom.{from_first}
use Rattle.class_size.proofs.SameReads.{SameOn, reads_differ, reads_agree, reads_end, reads_longer, some_none}
use Rattle.class_size.proofs.reads.same_reads.Goals.{in_default, in_default-2}
use Rattle.class_size.proofs.reads.same_reads.Goals as goal

-- a place behind another is within the notes
within : (o : Option ℕ) (from steps : ℕ) → IfSome o (λ k. (from ≤ k) × (k < steps)) → IfSome o (λ k. k < steps)
within None from steps h = h
within (Some k) from steps h = h.1

pub loop-a-init : goal.loop-a-init
loop-a-init c =
    let args = c.args in
    let all = from_first args.log.now args.steps in (
      within _ _ _ c.next_read-a.ensures.place,
      within _ _ _ c.next_read-b.ensures.place,
      ap₂ (same_list same_read) (sym c.next_read-a.ensures.reads) (sym c.next_read-b.ensures.reads) ∙ ap₂ (λ (ns ms : List Note). same_list same_read (reads_in args.t ns) (reads_in args.u ms)) all all,
    )

pub returns-then-not-same_read : goal.returns-then-not-same_read
returns-then-not-same_read c =
    let args = c.args in
    let s = c.in-Some-Some in
    reads_differ args.log.now args.steps args.t args.u s.x s.y (sym c.same_read.ensures ∙ c.if-not-same_read.true)
    ∙ ap₂ (SameOn args.log.now args.steps args.t args.u) (sym s.is-0) (sym s.is-1) ∙ c.loop-a.invariant.2

pub loop-a-preserved : goal.loop-a-preserved
loop-a-preserved c =
    let args = c.args in
    let s = c.in-Some-Some in
    let a = c.next_read-a-in-Some-Some in
    let b = c.next_read-b-in-Some-Some in (
      within _ _ _ a.ensures.place,
      within _ _ _ b.ensures.place,
      ap₂ (same_list same_read) (sym a.ensures.reads) (sym b.ensures.reads)
          ∙ reads_agree args.log.now args.steps args.t args.u s.x s.y (sym c.same_read.ensures ∙ c.if-not-same_read.false)
          ∙ ap₂ (SameOn args.log.now args.steps args.t args.u) (sym s.is-0) (sym s.is-1) ∙ c.loop-a.invariant.2,
    )

pub returns-then-is_none : goal.returns-then-is_none
returns-then-is_none c =
    let args = c.args in
    reads_end args.log.now args.steps args.t args.u c.loop-a.a c.loop-a.b _ (c.is_none.ensures ∙ ap not c.if-is_none.true) c.is_none-then-is_none.ensures ∙ c.loop-a.invariant.2

pub returns-else-is_none : goal.returns-else-is_none
returns-else-is_none c =
    let args = c.args in
    let ends : (x y : ℕ) → c.loop-a.a ≡ Some x → c.loop-a.b ≡ Some y → ⊥ = elim c.match-a.branch [ in_default w ↦ λ x y e f. some_none _ y w.in_default.is-1 f | in_default-2 w ↦ λ x y e f. some_none _ x w.in_default.is-0 e ] in
    c.if-is_none.false ∙ reads_longer args.log.now args.steps args.t args.u c.loop-a.a c.loop-a.b (c.is_none.ensures ∙ ap not c.if-is_none.false) ends ∙ c.loop-a.invariant.2
