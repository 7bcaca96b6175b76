-- `taken` adds the line in one of two ways, and the table goes on holding what has been read.
use Rattle.std.proofs.Common.{rules, ℕ, List, ◌≡◌, ◌≤◌, ◌<◌, ◌%◌, true, false, sym, subst, arith, length}
use Rattle.spec_file.specs.Frame.{pairs}
use Rattle.spec_schedules.specs.Lists.{all}
use Rattle.graph_reader.specs.declared.table.Table.{Table}
use Rattle.spec_judge.specs.Reading.{byte_at, is_read, is_event, writes_in, after}
use Rattle.graph_reader.specs.Held.{Holds, Passes}
use Rattle.graph_reader.proofs.Ranks.{is_read_lem, not_read, events_six}
use Rattle.spec_judge.proofs.LineRanges.{read_range, write_range, write_shape}
use Rattle.graph_reader.proofs.HeldAfter.{held_read}
use Rattle.graph_reader.proofs.HeldAfterWrites.{held_writes}
use Rattle.graph_reader.proofs.taken.taken.Goals as goal

pub with_read-requires : goal.with_read-requires
with_read-requires c =
    let pre = c.requires in
    let x = read_range c.args.n pre.few (pairs c.args.line.now) pre.known pre.in_range (is_read_lem (pairs c.args.line.now) c.field-b.result c.field-b.ensures.same c.if-b-eq64.true) in
    (omega (arith, x.1, pre.few), omega (arith, x.2))

pub returns-then-b-eq64 : goal.returns-then-b-eq64
returns-then-b-eq64 c =
    let args = c.args in
    let f = pairs args.line.now in
    let l : length args.s.pairs ≡ 576 = search rules in
    λ r held pass. subst (λ (q : Table). Holds args.n q (after f r)) (sym c.with_read.ensures)
    (held_read args.n c.requires.few f args.s r held pass (is_read_lem f c.field-b.result c.field-b.ensures.same c.if-b-eq64.true) l)

-- a `41` line
module _ (n : ℕ) (line : List ℕ) (size b : ℕ) (pre : Passes n line size) (same : b ≡ byte_at (pairs line) 0) (other : b ≡ 0x40 → ⊥) where
  its_kind : is_read (pairs line) ≡ false
  its_kind = not_read (pairs line) b same other

  its_length : (4 ≤ size) × (size % 2 ≡ 0)
  its_length = let s = write_shape (pairs line) pre.known its_kind in (omega (arith, pre.size, s.1), omega (arith, pre.size, s.2))

  its_location : byte_at (pairs line) 1 < 8
  its_location = let r = write_range n pre.few (pairs line) pre.known pre.in_range its_kind in omega (arith, r.1)

  its_events : all (is_event 6) (writes_in (pairs line)) ≡ true
  its_events = events_six n pre.few _ (write_range n pre.few (pairs line) pre.known pre.in_range its_kind).2

pub ordered-pairs-requires : goal.ordered-pairs-requires
ordered-pairs-requires c =
    let size = its_length c.args.n c.args.line.now c.args.size c.field-b.result c.requires c.field-b.ensures.same c.if-b-eq64.false in
    let location = its_location c.args.n c.args.line.now c.args.size c.field-b.result c.requires c.field-b.ensures.same c.if-b-eq64.false in
    (c.requires.size, size.1, size.0, omega (arith, c.field-l.ensures.same))

pub overflow_sub-counts : goal.overflow_sub-counts
overflow_sub-counts c = omega (arith, its_length c.args.n c.args.line.now c.args.size c.field-b.result c.requires c.field-b.ensures.same c.if-b-eq64.false)

pub bounds-counts-l : goal.bounds-counts-l
bounds-counts-l c =
    omega (arith, c.field-l.ensures.same, its_location c.args.n c.args.line.now c.args.size c.field-b.result c.requires c.field-b.ensures.same c.if-b-eq64.false)

pub marked-seen-requires : goal.marked-seen-requires
marked-seen-requires c = (
  c.requires.size,
  (its_length c.args.n c.args.line.now c.args.size c.field-b.result c.requires c.field-b.ensures.same c.if-b-eq64.false).1,
  its_events c.args.n c.args.line.now c.args.size c.field-b.result c.requires c.field-b.ensures.same c.if-b-eq64.false,
)

pub returns : goal.returns
returns c =
    let args = c.args in
    let f = pairs args.line.now in
    let l : length args.s.counts ≡ 8 = search rules in
    let k : length args.s.seen ≡ 96 = search rules in
    let kind = its_kind args.n args.line.now args.size c.field-b.result c.requires c.field-b.ensures.same c.if-b-eq64.false in
    λ r held pass. rw (c.rank.ensures, c.marked-seen.ensures, c.field-l.ensures.same)
    (held_writes args.n c.requires.few f args.s r held pass kind c.ordered-pairs.result (rw (← c.field-l.ensures.same) c.ordered-pairs.ensures) args.size c.requires.size l k)
