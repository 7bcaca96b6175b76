-- A caller's record in the host's memory. One whose program would be refused, or whose place is neither the beginning, a full schedule nor
-- the end, counts as closed and empty.
use Rattle.std.specs.Prelude.{ℕ, ◌+◌, ◌%◌, ◌^◌, cond, List, eqb, ltb, length, take, replicate}
use Rattle.std.proofs.Math.Option.{Option, none, some}
use Rattle.spec_file.specs.Over.{over}
use Rattle.spec_file.specs.Program.{Program}
use Rattle.spec_file.specs.Decode.{Decoded, accepted, refused, decode}
use Rattle.spec_schedules.specs.Order.{Schedule}
use Rattle.spec_sc.specs.Replay.{Replayed, whole, replay}
use Rattle.spec_sc.specs.Replay as Replay
use Rattle.spec_service.specs.declared.caller.Caller.{Caller}
use Rattle.spec_service.specs.declared.caller.Mark.{Mark}
use Rattle.spec_service.specs.Seat.{Place, beginning, behind, end, Seat, closed, active}

-- ---- what a record reads as
-- the program file of a record, read; one that says to be longer than a file may be is refused as such a file is
unfoldable pub file_read : Caller → Decoded
file_read c = cond (ltb 4096 c.length) (refused 1 0) (decode (take c.length c.file))

-- the place behind a schedule, by what its replay comes to: there is one only where the schedule is full
unfoldable pub behind_full : Replayed → Schedule → Option Place
behind_full (whole σ) s = some (behind s)
behind_full (Replay.refused n k) s = none

-- the place of number n, with k steps of a schedule
unfoldable pub place_of : Program → ℕ → ℕ → List ℕ → Option Place
place_of p n k s =
    cond (eqb n 1) (some beginning)
    (cond (eqb n 2) (cond (ltb 24 k) none (behind_full (replay p (take k s)) (take k s)))
    (cond (eqb n 3) (some end) none))

unfoldable pub seated : Program → Option Place → ℕ → Seat
seated p none n = closed
seated p (some x) n = active p x (eqb n 1)

unfoldable pub seat_by : Decoded → Caller → Seat
seat_by (accepted p) c = seated p (place_of p c.place c.steps c.schedule) c.asking
seat_by (refused n k) c = closed

unfoldable pub reading : Caller → Seat
reading c = seat_by (file_read c) c

-- ---- the records that calls leave
-- a mark that is free: nothing in it
unfoldable pub no_mark : Mark
no_mark = record { name = replicate 8 0; length = 0; place = 0; steps = 0; schedule = replicate 24 0 }

-- where a caller stands: the number of its place, whether it asks, and the steps and the bytes of the schedule that it stands behind
pub record Stand : Type 0 where
  pub place : ℕ
  pub asking : ℕ
  pub steps : ℕ
  pub schedule : List ℕ

-- the last schedule handed to a caller: whether there is one, its steps and its bytes
pub record Latest : Type 0 where
  pub handed : ℕ
  pub size : ℕ
  pub newest : List ℕ

-- a record by its file with its length, the count, where the caller stands, the last schedule handed, the marks and the padding
abbrev pub record_by : List ℕ → ℕ → ℕ → Stand → Latest → List Mark → List ℕ → Caller
record_by f n m at last ms rest = record {
  file = f;
  length = n;
  count = m;
  place = at.place;
  asking = at.asking;
  steps = at.steps;
  schedule = at.schedule;
  handed = last.handed;
  size = last.size;
  newest = last.newest;
  marks = ms;
  padding = rest;
}

-- where the caller of the record c stands, and the last schedule handed to it
abbrev pub stand_of : Caller → Stand
stand_of c = record { place = c.place; asking = c.asking; steps = c.steps; schedule = c.schedule }

abbrev pub latest_of : Caller → Latest
latest_of c = record { handed = c.handed; size = c.size; newest = c.newest }

-- a record with the file f of n bytes, at place k, with no mark and nothing handed
unfoldable pub plain : List ℕ → ℕ → ℕ → Caller
plain f n k = record_by f n 0 (record { place = k; asking = 0; steps = 0; schedule = replicate 24 0 })
    (record { handed = 0; size = 0; newest = replicate 24 0 }) (replicate 8 no_mark) (replicate 3 0)

-- the record c at place n, with k steps of the schedule s, and asking where a is 1; all else stays
unfoldable pub standing : Caller → ℕ → ℕ → List ℕ → ℕ → Caller
standing c n k s a = record_by c.file c.length c.count (record { place = n; asking = a; steps = k; schedule = s })
    (latest_of c) c.marks c.padding

-- the record c with s as the last schedule handed
unfoldable pub handing : Caller → Schedule → Caller
handing c s = record_by c.file c.length c.count (stand_of c)
    (record { handed = 1; size = length s; newest = over s (replicate 24 0) }) c.marks c.padding

-- the record c with one schedule more in its count
unfoldable pub counting : Caller → Caller
counting c = record_by c.file c.length ((c.count + 1) % 2 ^ 64) (stand_of c) (latest_of c) c.marks c.padding

-- the record c with the marks ms
unfoldable pub with_marks : Caller → List Mark → Caller
with_marks c ms = record_by c.file c.length c.count (stand_of c) (latest_of c) ms c.padding

-- a fresh record, as closing leaves it: nothing in it
unfoldable pub fresh : Caller
fresh = plain (replicate 4096 0) 0 0

-- a record opened with the file f: before the first schedule
unfoldable pub opened : List ℕ → Caller
opened f = plain (over f (replicate 4096 0)) (length f) 1

-- the record c, asking
unfoldable pub asked : Caller → Caller
asked c = standing c c.place c.steps c.schedule 1

-- the record c served with a schedule, or with no more: its asking ends, it stands behind what it was given, and a schedule counts
unfoldable pub served : Caller → Option Schedule → Caller
served c (some s) = counting (handing (standing c 2 (length s) (over s (replicate 24 0)) 0) s)
served c none = standing c 3 0 (replicate 24 0) 0

-- the record c returned to the mark m: its place is the mark's, and all else stays
unfoldable pub returned : Caller → Mark → Caller
returned c m = standing c m.place m.steps m.schedule c.asking
