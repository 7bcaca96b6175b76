-- A list of calls, each handed what the one before gave back.
use Rattle.std.specs.Prelude.{ℕ, suc, ◌≡◌, Bool, true, false, cond, ◌&&◌, eqb}
use Rattle.std.proofs.Math.Option.{Option, none, some}
use mathlib.Core.List.{List, [], ◌∷◌, ◌++◌, Memᴰ}
use Rattle.spec_schedules.specs.Order.{Schedule}
use Rattle.spec_service.specs.Call.{Call, open_for, ask_for, serve, close_for, set_mark, return_to, forget}
use Rattle.spec_service.specs.Call.{Answer, done, given, ended, idle, refused, Shared, answer_to, after}

-- what the calls of a list answer, and what is left behind the last
unfoldable pub answers : List Call → Shared → List Answer
answers [] σ = []
answers (c ∷ cs) σ = answer_to c σ ∷ answers cs (after c σ)

unfoldable pub behind_all : List Call → Shared → Shared
behind_all [] σ = σ
behind_all (c ∷ cs) σ = behind_all cs (after c σ)

-- what an answer hands to caller k: a schedule, or no more; nothing if it is another's
unfoldable pub hands_to : ℕ → Answer → List (Option Schedule)
hands_to k done = []
hands_to k (given j s) = cond (eqb j k) (some s ∷ []) []
hands_to k (ended j) = cond (eqb j k) (none ∷ []) []
hands_to k idle = []
hands_to k (refused n m) = []

-- what caller k is handed by these answers, in order
unfoldable pub received : ℕ → List Answer → List (Option Schedule)
received k [] = []
received k (a ∷ rs) = hands_to k a ++ received k rs

-- whether an answer is a serve's that was not refused
unfoldable pub is_serve : Answer → Bool
is_serve done = false
is_serve (given k s) = true
is_serve (ended k) = true
is_serve idle = true
is_serve (refused n k) = false

-- how many serves were not refused
unfoldable pub serves : List Answer → ℕ
serves [] = 0
serves (a ∷ rs) = elim (is_serve a) [ true ↦ suc (serves rs) | false ↦ serves rs ]

-- how many schedules a caller was handed; no more is none
unfoldable pub schedules_of : List (Option Schedule) → ℕ
schedules_of [] = 0
schedules_of (some s ∷ os) = suc (schedules_of os)
schedules_of (none ∷ os) = schedules_of os

-- caller k does not close
abbrev pub Stays : ℕ → List Call → Type 0
Stays k cs = Memᴰ (close_for k) cs → ⊥

-- whether this call is caller k's return to a mark, and is done
unfoldable pub is_done : Answer → Bool
is_done done = true
is_done (given k s) = false
is_done (ended k) = false
is_done idle = false
is_done (refused n k) = false

unfoldable pub is_return : ℕ → Call → Bool
is_return k (open_for j f) = false
is_return k (ask_for j) = false
is_return k (serve out) = false
is_return k (close_for j) = false
is_return k (set_mark j n) = false
is_return k (return_to j n) = eqb j k
is_return k (forget j n) = false

-- whether caller k returns to a mark in these calls
unfoldable pub returns : ℕ → List Call → Shared → Bool
returns k [] σ = false
returns k (c ∷ cs) σ = cond (is_return k c && is_done (answer_to c σ)) true (returns k cs (after c σ))
