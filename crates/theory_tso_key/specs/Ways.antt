-- NEARNESS FROM WHAT THE SEARCH CARRIES, with no thread run ahead. Beside the word of its accesses (R2) each thread has its way: the locations of its
-- accesses, three bits each, the latest last. u's latest access would come again if it looked at no memory, or if its source is still the last write
-- of its location. t is near u where u's word, taken back access by access while each would come again, becomes t's.
use Rattle.std.specs.Prelude.{ℕ, zero, suc, ◌+◌, ◌*◌, ◌/◌, ◌%◌, ◌^◌, Bool, cond, not, ◌&&◌, ◌||◌, List, [], ◌∷◌, eqb, ltb}
use Rattle.spec_file.specs.Program.{Program}
use Rattle.spec_schedules.specs.Order.{Schedule}
use Rattle.spec_model.specs.Exchange.{together}
use Rattle.spec_sc.specs.State.{latest}
use Rattle.spec_tso.specs.State.{State, access, cell_of, place, step, start}
use Rattle.theory_tso.specs.ReadWords.{source_digit, word_of}

-- u's way behind the byte b: its own access adds its location, every other step nothing
unfoldable pub way_behind : State → ℕ → ℕ → ℕ → ℕ
way_behind σ u w b = cond (eqb b u) (w * 8 + place σ access u) w

unfoldable pub way_after : ℕ → State → ℕ → Schedule → ℕ
way_after u σ w [] = w
way_after u σ w (b ∷ v) = way_after u (step σ b) (way_behind σ u w b) v

abbrev pub way_of : Program → Schedule → ℕ → ℕ
way_of p v u = way_after u (start p) 0 v

-- the digit with which a read finds the last write of l that none of its own thread's is
unfoldable pub last_digit : State → ℕ → ℕ
last_digit σ l = source_digit 6 (latest (cell_of σ l).writes)

-- an access with the digit d at l would come again: a store (1), a read of an own pending store (3 to 18), or of the last write
unfoldable pub again : (ℕ → ℕ) → ℕ → ℕ → Bool
again last d l = eqb d 1 || ((ltb 2 d && ltb d 19) || eqb d (last l))

-- the word y becomes x by at most so many accesses taken back, w being their way
unfoldable pub becomes : (ℕ → ℕ) → ℕ → ℕ → ℕ → ℕ → Bool
becomes last zero x y w = eqb y x
becomes last (suc n) x y w = eqb y x || (again last (y % 128) (w % 8) && becomes last n x (y / 128) (w / 8))

-- two words of threads that can still have twins: eight accesses fit each
unfoldable pub near_by_word : (ℕ → ℕ) → ℕ → ℕ → ℕ → Bool
near_by_word last x y w = ltb x (2 ^ 60) && (ltb y (2 ^ 60) && becomes last 8 x y w)

unfoldable pub near_back : Program → Schedule → State → ℕ → ℕ → Bool
near_back p v σ t u = not (eqb t u) && (together p.groups u t && near_by_word (last_digit σ) (word_of σ t) (word_of σ u) (way_of p v u))
