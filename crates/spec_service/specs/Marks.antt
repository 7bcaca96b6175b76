-- The marks of a record and the last schedule handed to it, under its program: which marks count, under which names, and what the calls
-- on them leave.
use Rattle.std.specs.Prelude.{ℕ, Bool, true, false, cond, ◌&&◌, List, map, eqb, leb, length, take, replicate, get_or, set}
use Rattle.std.proofs.Math.Option.{Option, none, some}
use Rattle.spec_file.specs.Over.{over}
use Rattle.spec_file.specs.Program.{Program}
use Rattle.spec_file.specs.Lists.{same_list}
use Rattle.spec_schedules.specs.Lists.{range, any, find}
use Rattle.spec_service.specs.declared.caller.Caller.{Caller}
use Rattle.spec_service.specs.declared.caller.Mark.{Mark}
use Rattle.spec_service.specs.Seat.{Place}
use Rattle.spec_service.specs.Record.{place_of, no_mark, with_marks, returned}

unfoldable pub is_some : {A : Type 0} → Option A → Bool
is_some none = false
is_some (some x) = true

-- whether two names are the same
abbrev pub same_name : List ℕ → List ℕ → Bool
same_name n m = same_list eqb n m

-- ---- what marks read as
-- a name has 1 to 8 bytes
unfoldable pub name_fits : ℕ → Bool
name_fits n = leb 1 n && leb n 8

-- the place of a mark; none where it is free: its name has another length, or its place is neither the beginning nor a full schedule
unfoldable pub mark_place : Program → Mark → Option Place
mark_place p m = cond (name_fits m.length) (cond (eqb m.place 3) none (place_of p m.place m.steps m.schedule)) none

unfoldable pub name_of : Mark → List ℕ
name_of m = take m.length m.name

-- whether a mark, by itself, is one of this name
unfoldable pub bears : Program → List ℕ → Mark → Bool
bears p n m = is_some (mark_place p m) && same_name (name_of m) n

-- where the mark of a name stands: of two with one name the first counts
unfoldable pub slot_of : Program → List ℕ → List Mark → Option ℕ
slot_of p n ms = find (λ i. bears p n (get_or ms i no_mark)) (range 0 8)

-- whether the mark at i counts as free: by itself, or since an earlier one has its name
unfoldable pub is_free : Program → List Mark → ℕ → Bool
is_free p ms i = cond (is_some (mark_place p (get_or ms i no_mark))) (any (bears p (name_of (get_or ms i no_mark))) (take i ms)) true

-- where a mark of this name goes: where that name stands, else where the first free one is
unfoldable pub slot_for : Program → List ℕ → List Mark → Option ℕ
slot_for p n ms = elim (slot_of p n ms) [ some i ↦ some i | none ↦ find (is_free p ms) (range 0 8) ]

-- ---- the last schedule handed since the record opened, as a place; one that is not full counts as none
unfoldable pub last_handed : Program → Caller → Option Place
last_handed p c = cond (eqb c.handed 1) (place_of p 2 c.size c.newest) none

-- ---- what the calls leave
-- a mark of this name, at this place, with so many steps of this schedule
unfoldable pub mark_at : List ℕ → ℕ → ℕ → List ℕ → Mark
mark_at n x k s = record { name = over n (replicate 8 0); length = length n; place = x; steps = k; schedule = s }

-- a new mark: behind the last schedule handed, or at the beginning if there is none
unfoldable pub new_mark : List ℕ → Caller → Option Place → Mark
new_mark n c (some x) = mark_at n 2 c.size c.newest
new_mark n c none = mark_at n 1 0 (replicate 24 0)

-- the marks without those of this name
unfoldable pub emptied : Program → List ℕ → List Mark → List Mark
emptied p n ms = map (λ m. cond (bears p n m) no_mark m) ms

-- the record with a mark set under this name, and no other of this name left
unfoldable pub mark_set : Program → List ℕ → Caller → Caller
mark_set p n c = elim (slot_for p n c.marks) [
  | some i ↦ with_marks c (set (emptied p n c.marks) i (new_mark n c (last_handed p c)))
  | none ↦ c
]

-- the record with the name forgotten
unfoldable pub mark_forgotten : Program → List ℕ → Caller → Caller
mark_forgotten p n c = with_marks c (emptied p n c.marks)

-- the record at the place of the name's mark
unfoldable pub mark_returned : Program → List ℕ → Caller → Caller
mark_returned p n c = elim (slot_of p n c.marks) [ some i ↦ returned c (get_or c.marks i no_mark) | none ↦ c ]
