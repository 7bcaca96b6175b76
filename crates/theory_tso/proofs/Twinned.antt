-- TWINNED: two threads that stand alike and of which nothing is in memory. A step of another thread leaves them so, and did not make them so; their own
-- moves cannot both go first; and where both do their next access and put nothing, they stand alike again.
use Prim.Native.Nat.{ℕ, ◌+◌}
use mathlib.Core.Path.{◌≡◌, refl, sym, ap, ap₂, subst, ◌∙◌}
use mathlib.Core.Logic.{◌≢◌, ⊎_elim}
use mathlib.Core.Bool.{true, false, false≢true}
use mathlib.Core.List.{List, [], ◌∷◌, ◌++◌, Memᴰ}
use native.Mathlib.Omega.{arith}
use lib.ListN.{length}
use Rattle.spec_schedules.specs.Order.{Schedule}
use Rattle.spec_schedules.specs.System.{run, FullFrom}
use Rattle.spec_model.proofs.Swapped.{swapped}
use Rattle.spec_sc.specs.State.{Event}
use Rattle.spec_sc.specs.Actions.{given}
use Rattle.spec_tso.specs.Queue.{Entry, oldest_value, oldest_place, movable}
use Rattle.spec_tso.specs.State.{Thread, State, Kind, move, thread_of, cell_of, target, reaches, place, able, kind_of, owner, byte_for, step, enabled, TSO}
use Rattle.spec_tso.specs.Actions.{action, action_of, dependent}
use Rattle.spec_tso.specs.Exchange.{moved_thread}
use Rattle.spec_tso.proofs.Bytes.{kind_move, owner_move}
use Rattle.spec_tso.proofs.Steps.{enabled_able, able_movable, thread_other}
use Rattle.spec_tso.proofs.Change.{write_cases, writes_stay}
use Rattle.spec_tso.proofs.Depends.{Because, both_put, no_reason}
use Rattle.spec_tso.proofs.Regular.{Regular, changes}
use Rattle.theory_tso.proofs.Phases.{Over, Pulled, pull}

-- no write in memory is y's
abbrev pub Quiet : State → ℕ → Type 0
Quiet σ y = (l j : ℕ) → Memᴰ (y, j) (cell_of σ l).writes → ⊥

-- z stands where y stands, an own source counting by its number
abbrev pub Tw : State → ℕ → ℕ → Type 0
Tw σ y z = (thread_of σ z ≡ moved_thread (swapped y z) (thread_of σ y)) × Quiet σ y × Quiet σ z

-- ---- A STEP OF ANOTHER THREAD
module _ (σ : State) (reg : Regular σ) (b : ℕ) (m : enabled σ b ≡ true) where
  quiet_behind : (u : ℕ) → u ≢ owner b → Quiet σ u → Quiet (step σ b) u
  unfolding step
  quiet_behind u ne q l j i = ⊎_elim (λ (k : Memᴰ (u, j) (cell_of σ l).writes). q l j k) (λ k. ne (ap (λ (e : Event). e.0) k.0))
      (write_cases σ (kind_of b) (owner b) l (u, j) (changes σ reg (kind_of b) (owner b) (enabled_able σ b m) l) i)

  quiet_before : (u : ℕ) → Quiet (step σ b) u → Quiet σ u
  unfolding step
  quiet_before u q l j i = q l j (writes_stay σ (kind_of b) (owner b) l (u, j) (changes σ reg (kind_of b) (owner b) (enabled_able σ b m) l) i)

  module _ (y z : ℕ) (ny : y ≢ owner b) (nz : z ≢ owner b) where
    thread_waits : (u : ℕ) → u ≢ owner b → thread_of (step σ b) u ≡ thread_of σ u
    unfolding step
    thread_waits u ne = thread_other σ (kind_of b) (owner b) u ne

    pub tw_behind : Tw σ y z → Tw (step σ b) y z
    tw_behind t = (thread_waits z nz ∙ t.0 ∙ ap (moved_thread (swapped y z)) (sym (thread_waits y ny)), quiet_behind y ny t.1, quiet_behind z nz t.2)

    pub tw_before : Tw (step σ b) y z → Tw σ y z
    tw_before t = (sym (thread_waits z nz) ∙ t.0 ∙ ap (moved_thread (swapped y z)) (thread_waits y ny), quiet_before y t.1, quiet_before z t.2)

-- ---- THEIR OWN MOVES go to one location: they cannot both go first
same_queue : (y z : ℕ) (h : Thread) → (moved_thread (swapped y z) h).queue ≡ h.queue
unfolding moved_thread
same_queue y z h = refl

move_byte : (t : ℕ) → byte_for move t ≡ t + 16
unfolding byte_for
move_byte t = refl

pub kind_16 : (t : ℕ) → kind_of (t + 16) ≡ move
kind_16 t = subst (λ (b : ℕ). kind_of b ≡ move) (move_byte t) (kind_move t)

pub owner_16 : (t : ℕ) → owner (t + 16) ≡ t
owner_16 t = subst (λ (b : ℕ). owner b ≡ t) (move_byte t) (owner_move t)

able_16 : (σ : State) (t : ℕ) → enabled σ (t + 16) ≡ true → able move (thread_of σ t) (length σ.cells) ≡ true
able_16 σ t m = subst (λ (x : ℕ). able move (thread_of σ x) (length σ.cells) ≡ true) (owner_16 t)
    (subst (λ (k : Kind). able k (thread_of σ (owner (t + 16))) (length σ.cells) ≡ true) (kind_16 t) (enabled_able σ (t + 16) m))

some_oldest : (q : List Entry) (n : ℕ) → movable q n ≡ true → given (oldest_value q) ≡ true
unfolding movable oldest_value given
some_oldest [] n e = absurd (false≢true e)
some_oldest (x ∷ q) n e = refl

puts_16 : (σ : State) (t : ℕ) → enabled σ (t + 16) ≡ true → (action σ (t + 16)).puts ≡ true
unfolding action action_of reaches
puts_16 σ t m =
    ap₂ (λ (k : Kind) (x : ℕ). given (reaches k x (thread_of σ x) (cell_of σ (place σ k x)))) (kind_16 t) (owner_16 t)
    ∙ some_oldest (thread_of σ t).queue (length σ.cells) (able_movable (thread_of σ t) (length σ.cells) (able_16 σ t m))

location_16 : (σ : State) (t : ℕ) → (action σ (t + 16)).location ≡ oldest_place (thread_of σ t).queue
unfolding action action_of target
location_16 σ t = ap₂ (λ (k : Kind) (x : ℕ). target k (thread_of σ x)) (kind_16 t) (owner_16 t)

pub alone : (σ : State) → Regular σ → (y z : ℕ) → y ≢ z → Tw σ y z → (r s : Schedule) → FullFrom TSO σ ((y + 16) ∷ r) → FullFrom TSO σ ((z + 16) ∷ s) → run TSO σ ((y + 16) ∷ r) ≡ run TSO σ ((z + 16) ∷ s) → ⊥
alone σ reg y z ne t r s fy fz e = go (pull σ reg (z + 16) s ((y + 16) ∷ r) fz fy (sym e))
  where
    queues : (thread_of σ z).queue ≡ (thread_of σ y).queue
    queues = ap (λ (h : Thread). h.queue) t.0 ∙ same_queue y z (thread_of σ y)

    both : Because (action σ (y + 16)) (action σ (z + 16))
    both = both_put (location_16 σ y ∙ ap oldest_place (sym queues) ∙ sym (location_16 σ z)) (puts_16 σ y fy.0) (puts_16 σ z fz.0)

    go : Pulled σ ((y + 16) ∷ r) (z + 16) → ⊥
    go k = at k.front k.rest k.split k.over
      where
        at : (f b : Schedule) → ((y + 16) ∷ r) ≡ f ++ ((z + 16) ∷ b) → Over (action σ (z + 16)) σ f (z + 16) → ⊥
        at [] b q o = let i : y + 16 ≡ z + 16 = cc in ne (omega (arith, i))
        at (x ∷ f) b q o = let i : y + 16 ≡ x = cc in no_reason (action σ (y + 16)) (action σ (z + 16)) (subst (λ (u : ℕ). dependent (action σ u) (action σ (z + 16)) ≡ false) (sym i) o.3) both
