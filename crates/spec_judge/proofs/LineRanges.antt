-- What is known of a line of a graph text that 31 and 32 leave: its kind, and its bytes' ranges.
use Prim.Native.Nat.{ℕ, ◌%◌, ◌<◌, ◌≤◌}
use mathlib.Core.Path.{◌≡◌}
use mathlib.Core.Bool.{true, false, ◌&&◌}
use borrow.Author.Tests.{leb-true, eqb-true}
use lib.Dec.{eqb, leb}
use lib.ListN.{length}
use Rattle.spec_file.proofs.DigitValues.{both}
use Rattle.spec_schedules.specs.Lists.{all}
use Rattle.spec_judge.specs.Reading.{Frame, byte_at, is_read, writes_in, known, is_event, is_source, in_range}
use Rattle.spec_judge.proofs.Readable.{event_is}

-- a `41` line names one event or more
pub write_shape : (f : Frame) → known f ≡ true → is_read f ≡ false → (byte_at f 0 ≡ 0x41) × (4 ≤ length f) × (length f % 2 ≡ 0)
unfolding known
write_shape f k q =
    let b = both (eqb (byte_at f 0) 0x41) (leb 4 (length f) && eqb (length f % 2) 0) (rw q at k) in
    let d = both (leb 4 (length f)) (eqb (length f % 2) 0) b.1 in
    (eqb-true (byte_at f 0) 0x41 b.0, leb-true 4 (length f) d.0, eqb-true (length f % 2) 0 d.1)

-- what is known of a line in range
module _ (n : ℕ) (few : n ≤ 6) (f : Frame) (k : known f ≡ true) (r : in_range n f ≡ true) where
  pub read_range : is_read f ≡ true → (byte_at f 0 ≡ 0x40) × (byte_at f 1 < n) × (byte_at f 2 ≤ 15)
  unfolding is_read in_range
  read_range q =
      let a = both (is_event n (byte_at f 1, byte_at f 2)) (is_source n (byte_at f 3, byte_at f 4)) (rw q at r) in
      let e = event_is n (byte_at f 1, byte_at f 2) a.0 in
      (eqb-true (byte_at f 0) 0x40 q, e.0, e.1)

  pub write_range : is_read f ≡ false → (byte_at f 0 ≡ 0x41) × (byte_at f 1 ≤ 7) × (all (is_event n) (writes_in f) ≡ true)
  unfolding is_read in_range
  write_range q =
      let a = both (leb (byte_at f 1) 7) (all (is_event n) (writes_in f)) (rw q at r) in
      ((write_shape f k q).0, leb-true (byte_at f 1) 7 a.0, a.1)
