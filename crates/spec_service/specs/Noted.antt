-- What caller k's calls since it opened, with what they answered, leave under a name: the place at its last set, unless it was forgotten
-- since.
use Rattle.std.specs.Prelude.{ℕ, Bool, cond, ◌&&◌, List, [], ◌∷◌, eqb}
use Rattle.std.proofs.Math.Option.{Option, none, some}
use Rattle.spec_schedules.specs.Order.{Schedule}
use Rattle.spec_service.specs.Marks.{same_name}
use Rattle.spec_service.specs.Seat.{Place, beginning, behind}
use Rattle.spec_service.specs.Call.{Call, open_for, ask_for, serve, close_for, set_mark, return_to, forget}
use Rattle.spec_service.specs.Call.{Answer, done, given, ended, idle, refused, Shared, answer_to, after}

-- the last schedule handed to the caller, and the place that the name stands for
pub record Noted : Type 0 where
  pub last : Option Schedule
  pub place : Option Place

unfoldable pub nothing_noted : Noted
nothing_noted = record { last = none; place = none }

-- the place behind the last schedule handed, or the beginning if none was
unfoldable pub place_behind : Option Schedule → Place
place_behind none = beginning
place_behind (some s) = behind s

-- what a call that is done notes: a set of the name the place behind the last schedule handed, a forget of it none; a return nothing
unfoldable pub note_done : ℕ → List ℕ → Call → Noted → Noted
note_done k n (open_for j f) μ = μ
note_done k n (ask_for j) μ = μ
note_done k n (serve out) μ = μ
note_done k n (close_for j) μ = μ
note_done k n (set_mark j m) μ = cond (eqb j k && same_name m n) (record { last = μ.last; place = some (place_behind μ.last) }) μ
note_done k n (return_to j m) μ = μ
note_done k n (forget j m) μ = cond (eqb j k && same_name m n) (record { last = μ.last; place = none }) μ

unfoldable pub note_call : ℕ → List ℕ → Call → Answer → Noted → Noted
note_call k n c done μ = note_done k n c μ
note_call k n c (given j s) μ = cond (eqb j k) (record { last = some s; place = μ.place }) μ
note_call k n c (ended j) μ = μ
note_call k n c idle μ = μ
note_call k n c (refused m j) μ = μ

unfoldable pub noted : ℕ → List ℕ → List Call → Shared → Noted → Noted
noted k n [] σ μ = μ
noted k n (c ∷ cs) σ μ = noted k n cs (after c σ) (note_call k n c (answer_to c σ) μ)
