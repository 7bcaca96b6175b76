-- What the records that calls leave read as.
use Prim.Native.Nat.{ℕ, ◌≤◌}
use mathlib.Core.Path.{◌≡◌, refl, sym, ap, subst, ◌∙◌}
use mathlib.Core.Bool.{Bool, true, false, cond}
use mathlib.Core.Option.{Option, none, some}
use mathlib.Core.List.{List, []}
use native.Mathlib.Omega.{arith}
use borrow.Author.Tests.{le-ltb}
use lib.Dec.{eqb, ltb}
use lib.ListN.{length, take, replicate}
use Rattle.spec_file.specs.Over.{over}
use Rattle.spec_file.proofs.Over.{take_over}
use Rattle.spec_file.specs.Program.{Program}
use Rattle.spec_file.specs.Decode.{Decoded, accepted, refused, decode}
use Rattle.spec_file.specs.WellFormed.{WellFormed}
use Rattle.spec_file.proofs.AcceptedWellFormed.{accepted_well_formed}
use Rattle.spec_file.proofs.PlainFiles.{accepted_size}
use Rattle.spec_schedules.specs.Order.{Schedule}
use Rattle.spec_sc.specs.Graph.{Full, end_of}
use Rattle.spec_sc.specs.Replay.{whole, replay}
use Rattle.spec_sc.proofs.Replay.{replay_whole}
use Rattle.spec_sc.proofs.Lawful.{at_most_24}
use Rattle.spec_service.specs.declared.caller.Caller.{Caller}
use Rattle.spec_service.specs.declared.caller.Mark.{Mark}
use Rattle.spec_service.specs.Seat.{Place, beginning, behind, end, Seat, closed, active}
use Rattle.spec_service.specs.Record.{file_read, behind_full, place_of, seated, seat_by, reading, fresh, opened, asked, served, with_marks, returned, plain, standing, handing, counting}
use Rattle.spec_service.specs.Marks.{name_fits, mark_place, last_handed}

-- a seat is not both closed and active
pub not_both : {p : Program} {x : Place} {a : Bool} → closed ≡ active p x a → ⊥
not_both e = let z : ◌≡◌ {A = ℕ} 0 1 = cc in absurd (omega arith)

-- an active record's file is accepted as its program
seated_same : (q : Program) (o : Option Place) (n : ℕ) (p : Program) (x : Place) (a : Bool) → seated q o n ≡ active p x a → (q ≡ p) × (o ≡ some x) × (eqb n 1 ≡ a)
unfolding seated
seated_same q none n p x a e = absurd (not_both e)
seated_same q (some y) n p x a e = (cc, cc, cc)

pub active_file : (c : Caller) (p : Program) (x : Place) (a : Bool) → reading c ≡ active p x a →
    (file_read c ≡ accepted p) × (place_of p c.place c.steps c.schedule ≡ some x) × (eqb c.asking 1 ≡ a)
unfolding reading seat_by
active_file c p x a e = go (file_read c) refl e
  where
    go : (d : Decoded) → file_read c ≡ d → seat_by d c ≡ active p x a →
        (file_read c ≡ accepted p) × (place_of p c.place c.steps c.schedule ≡ some x) × (eqb c.asking 1 ≡ a)
    go (accepted q) m h =
        let k = seated_same q (place_of q c.place c.steps c.schedule) c.asking p x a h in
        (m ∙ ap accepted k.0, subst (λ (y : Program). place_of y c.place c.steps c.schedule ≡ some x) k.0 k.1, k.2)
    go (refused n k) m h = absurd (not_both h)

-- the program of an open record is well formed
pub active_formed : (c : Caller) (p : Program) (x : Place) (a : Bool) → reading c ≡ active p x a → WellFormed p
unfolding file_read
active_formed c p x a e = go (ltb 4096 c.length) refl (active_file c p x a e).0
  where
    go : (b : Bool) → ltb 4096 c.length ≡ b → cond (ltb 4096 c.length) (refused 1 0) (decode (take c.length c.file)) ≡ accepted p → WellFormed p
    go true q h = let z : refused 1 0 ≡ accepted p = rw q at h in absurd (let y : ◌≡◌ {A = ℕ} 0 1 = cc in omega arith)
    go false q h = accepted_well_formed (take c.length c.file) p (rw q at h)

-- whatever else it holds, a record with this file reads by its place and whether it asks
by_place : (c : Caller) (p : Program) (x : Place) → file_read c ≡ accepted p → place_of p c.place c.steps c.schedule ≡ some x → reading c ≡ active p x (eqb c.asking 1)
unfolding reading seat_by seated
by_place c p x e h = rw (e, h)

-- ---- the records that calls leave
pub reading_fresh : reading fresh ≡ closed
unfolding reading fresh plain seat_by seated place_of
reading_fresh = go (file_read fresh)
  where
    go : (d : Decoded) → seat_by d fresh ≡ closed
    go (accepted p) = refl
    go (refused n k) = refl

pub reading_opened : (f : List ℕ) (p : Program) → decode f ≡ accepted p → reading (opened f) ≡ active p beginning false
unfolding opened plain place_of file_read
reading_opened f p e = by_place (opened f) p beginning (rw (le-ltb 4096 (length f) (accepted_size f p e), take_over f (replicate 4096 0)) e) refl

pub reading_asked : (c : Caller) (p : Program) (x : Place) (a : Bool) → reading c ≡ active p x a → reading (asked c) ≡ active p x true
unfolding asked standing file_read
reading_asked c p x a e = let k = active_file c p x a e in by_place (asked c) p x k.0 k.1

-- a full schedule stands behind itself, in a record as calls leave it
pub full_place : (c : Caller) (p : Program) (x : Place) (a : Bool) (s : Schedule) → reading c ≡ active p x a → Full p s →
    place_of p 2 (length s) (over s (replicate 24 0)) ≡ some (behind s)
unfolding place_of behind_full
full_place c p x a s e f =
    rw (le-ltb 24 (length s) (at_most_24 p (active_formed c p x a e) s f), take_over s (replicate 24 0), (replay_whole p s (end_of p s)).1 (f, refl))

pub reading_given : (c : Caller) (p : Program) (x : Place) (a : Bool) (s : Schedule) → reading c ≡ active p x a → Full p s → reading (served c (some s)) ≡ active p (behind s) false
unfolding served standing handing counting file_read
reading_given c p x a s e f = let k = active_file c p x a e in by_place (served c (some s)) p (behind s) k.0 (full_place c p x a s e f)

-- the schedule that a record is served with is the last one handed
pub handed_given : (c : Caller) (p : Program) (x : Place) (a : Bool) (s : Schedule) → reading c ≡ active p x a → Full p s → last_handed p (served c (some s)) ≡ some (behind s)
unfolding served standing handing counting last_handed
handed_given c p x a s e f = full_place c p x a s e f

pub reading_ended : (c : Caller) (p : Program) (x : Place) (a : Bool) → reading c ≡ active p x a → reading (served c none) ≡ active p end false
unfolding served standing counting file_read place_of
reading_ended c p x a e = let k = active_file c p x a e in by_place (served c none) p end k.0 refl

-- marks change nothing in what it reads as
pub reading_marks : (c : Caller) (ms : List Mark) → reading (with_marks c ms) ≡ reading c
unfolding reading with_marks file_read seat_by
reading_marks c ms = go (file_read c)
  where
    go : (d : Decoded) → seat_by d (with_marks c ms) ≡ seat_by d c
    go (accepted p) = refl
    go (refused n k) = refl

-- returned to a mark that holds a place
mark_place_lem : (p : Program) (m : Mark) (y : Place) → mark_place p m ≡ some y → place_of p m.place m.steps m.schedule ≡ some y
unfolding mark_place
mark_place_lem p m y e = go (name_fits m.length) (eqb m.place 3) e
  where
    go : (b d : Bool) → cond b (cond d none (place_of p m.place m.steps m.schedule)) none ≡ some y → place_of p m.place m.steps m.schedule ≡ some y
    go true false q = q
    go true true q = absurd (let z : ◌≡◌ {A = ℕ} 0 1 = cc in omega arith)
    go false d q = absurd (let z : ◌≡◌ {A = ℕ} 0 1 = cc in omega arith)

pub reading_returned : (c : Caller) (p : Program) (x : Place) (a : Bool) (m : Mark) (y : Place) → reading c ≡ active p x a → mark_place p m ≡ some y → reading (returned c m) ≡ active p y a
unfolding returned standing file_read
reading_returned c p x a m y e h = let k = active_file c p x a e in by_place (returned c m) p y k.0 (mark_place_lem p m y h) ∙ ap (active p y) k.2
