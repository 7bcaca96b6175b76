-- Which bytes may step, read off the machine, and whether none may.
use Prim.Native.Nat.{ℕ, suc, ◌+◌, ◌-◌, ◌*◌, ◌<◌, ◌≤◌}
use native.Mathlib.Omega.{arith}
use native.Mathlib.Decide.{dec_lt}
use mathlib.Core.Path.{◌≡◌, refl, sym, ap, ◌∙◌}
use mathlib.Core.Bool.{Bool, true, false, not, ◌&&◌, true≢false}
use mathlib.Core.List.{List, [], ◌∷◌}
use lib.Dec.{ltb}
use lib.ListN.{length, get_or}
use borrow.Author.Tests.{lt-ltb, le-ltb}
use Rattle.file_rows.specs.Rows.{instruction_at}
use Rattle.spec_schedules.specs.System.{ended}
use Rattle.spec_schedules.proofs.Runs.{ended_of, ended_none}
use Rattle.spec_sc.specs.Local.{pending}
use Rattle.machine_access.proofs.HeldSettling.{code_at_lem}
use Rattle.machine.specs.Held.{thread_at}
use Rattle.spec_tso.specs.Queue.{Entry, is_empty, free, movable}
use Rattle.spec_tso.specs.State.{Thread, State, Kind, access, move, thread_of, unqueued, first_locks, locked, able, kind_of, owner, byte_for, enabled, TSO}
use Rattle.spec_tso.proofs.Bytes.{ByteCase, of_access, of_move, byte_case, kind_low, owner_access}
use Rattle.spec_tso.proofs.Steps.{enabled_small, enabled_able, enabled_for, enabled_access}
use Rattle.spec_tso.proofs.Lawful.{lawful}
use Rattle.tso_machine.specs.declared.state.QueuedMachine.{QueuedMachine}
use Rattle.tso_machine.specs.Slots.{entry_at, queue_at}
use Rattle.tso_machine.specs.Held.{core_of, head_at, tail_at, Holds}
use Rattle.tso_machine.proofs.InSlots.{queue_none, queue_first}
use Rattle.tso_machine.proofs.HeldCore.{core_eight, core_thread, left_pending, ended_pending, tail_below}
use Rattle.tso_machine.proofs.HeldMeeting.{first_locks_lem}

-- ---- a queue in slots is empty, or its oldest store may move
empty_is : (q : List Entry) → q ≡ [] → (is_empty q ≡ true) × ((n : ℕ) → movable q n ≡ false)
unfolding is_empty movable
empty_is q e = (rw e, λ n. rw e)

full_is : (q : List Entry) (x : Entry) (r : List Entry) → q ≡ x ∷ r → (is_empty q ≡ false) × ((n : ℕ) → x.location < n → movable q n ≡ true)
unfolding is_empty movable
full_is q x r e = (rw e, λ n h. rw e (lt-ltb x.location n h))

free_is : (b : Bool) (q : List Entry) → (b ≡ true → is_empty q ≡ true) → free b q ≡ true
unfolding free
free_is true q h = h refl
free_is false q h = refl

free_locked : (b : Bool) (q : List Entry) → b ≡ true → free b q ≡ is_empty q
unfolding free
free_locked b q e = rw e

able_by : (h : Thread) (n : ℕ) (b c : Bool) → pending h.local ≡ b → free (locked h.local) h.queue ≡ c → able access h n ≡ (b && c)
unfolding able
able_by h n b c e q = rw (e, q)

moves_by : (h : Thread) (n : ℕ) (b : Bool) → movable h.queue n ≡ b → able move h n ≡ b
unfolding able
moves_by h n b e = e

module _ {code lengths : List ℕ} {m : QueuedMachine} {σ : State} (held : Holds code lengths m σ) where
  queue_empty : (t : ℕ) → t < 6 → tail_at m t ≤ head_at m t → (thread_of σ t).queue ≡ []
  queue_empty t h l =
      held.queues t h ∙ ap (queue_at m.slots (head_at m t)) (let z : tail_at m t - head_at m t ≡ 0 = omega (arith, l) in z) ∙ queue_none m.slots (head_at m t)

  queue_full : (t : ℕ) → t < 6 → head_at m t < tail_at m t → (thread_of σ t).queue ≡ entry_at m.slots (head_at m t) ∷ queue_at m.slots (suc (head_at m t)) (tail_at m t - head_at m t - 1)
  queue_full t h l =
      held.queues t h ∙ ap (queue_at m.slots (head_at m t)) (let z : tail_at m t - head_at m t ≡ suc (tail_at m t - head_at m t - 1) = omega (arith, l) in z)
      ∙ queue_first m.slots (head_at m t) (tail_at m t - head_at m t - 1)

  first_near : (t : ℕ) → t < 6 → head_at m t < tail_at m t → (entry_at m.slots (head_at m t)).location < length σ.cells
  unfolding entry_at
  first_near t h l = omega (arith, held.places (head_at m t) (omega (arith, l, tail_below held t h)), core_eight held)

  -- whether the queue is empty
  empty_held : (t : ℕ) → t < 6 → is_empty (thread_of σ t).queue ≡ not (ltb (head_at m t) (tail_at m t))
  empty_held t h = go (dec_lt (head_at m t) (tail_at m t))
    where
      go : Dec (head_at m t < tail_at m t) → is_empty (thread_of σ t).queue ≡ not (ltb (head_at m t) (tail_at m t))
      go (yes l) = (full_is _ _ _ (queue_full t h l)).0 ∙ ap not (sym (lt-ltb (head_at m t) (tail_at m t) l))
      go (no l) = (empty_is _ (queue_empty t h (omega (arith, l)))).0 ∙ ap not (sym (le-ltb (head_at m t) (tail_at m t) (omega (arith, l))))

  -- ---- a move
  pub move_held : (t : ℕ) → t < 6 → ltb (head_at m t) (tail_at m t) ≡ able move (thread_of σ t) (length σ.cells)
  move_held t h = go (dec_lt (head_at m t) (tail_at m t))
    where
      go : Dec (head_at m t < tail_at m t) → ltb (head_at m t) (tail_at m t) ≡ able move (thread_of σ t) (length σ.cells)
      go (yes l) = lt-ltb (head_at m t) (tail_at m t) l ∙ sym (moves_by (thread_of σ t) (length σ.cells) true ((full_is _ _ _ (queue_full t h l)).1 (length σ.cells) (first_near t h l)))
      go (no l) = le-ltb (head_at m t) (tail_at m t) (omega (arith, l)) ∙ sym (moves_by (thread_of σ t) (length σ.cells) false ((empty_is _ (queue_empty t h (omega (arith, l)))).1 (length σ.cells)))

  -- ---- an access
  pub over_held : (t : ℕ) → t < 6 → get_or lengths t 0 ≤ (thread_at (core_of m) t).at → false ≡ able access (thread_of σ t) (length σ.cells)
  over_held t h l = sym (able_by (thread_of σ t) (length σ.cells) false (free (locked (thread_of σ t).local) (thread_of σ t).queue) (ended_pending held t h l) refl)

  module _ (t : ℕ) (h : t < 6) (l : (thread_at (core_of m) t).at < get_or lengths t 0) where
    locked_held : locked (thread_of σ t).local ≡ first_locks (instruction_at code (t * 16 + (thread_at (core_of m) t).at) ∷ [])
    unfolding locked unqueued
    locked_held = ap first_locks ((core_thread held t h).rest ∙ code_at_lem code t (get_or lengths t 0) (thread_at (core_of m) t).at l) ∙ first_locks_lem _ _

    -- with something pending it may step unless it is locked
    pub pending_held : head_at m t < tail_at m t → (b : Bool) → b ≡ first_locks (instruction_at code (t * 16 + (thread_at (core_of m) t).at) ∷ [])
        → not b ≡ able access (thread_of σ t) (length σ.cells)
    pending_held z true e =
        sym (able_by (thread_of σ t) (length σ.cells) true false (left_pending held t h l)
        (free_locked (locked (thread_of σ t).local) (thread_of σ t).queue (locked_held ∙ sym e) ∙ empty_held t h ∙ ap not (lt-ltb (head_at m t) (tail_at m t) z)))
    pending_held z false e =
        sym (able_by (thread_of σ t) (length σ.cells) true true (left_pending held t h l)
        (free_is (locked (thread_of σ t).local) (thread_of σ t).queue (λ q. absurd (true≢false (sym q ∙ locked_held ∙ sym e)))))

    -- with nothing pending it may step
    pub idle_held : tail_at m t ≤ head_at m t → able access (thread_of σ t) (length σ.cells) ≡ true
    idle_held z = able_by (thread_of σ t) (length σ.cells) true true (left_pending held t h l)
        (free_is (locked (thread_of σ t).local) (thread_of σ t).queue (λ e. (empty_is _ (queue_empty t h z)).0))

  -- ---- by the byte
  pub access_byte : (b : ℕ) → b < 6 → (r : Bool) → r ≡ able access (thread_of σ b) (length σ.cells) → r ≡ enabled σ b
  access_byte b h r e = e ∙ sym (enabled_access σ b h)

  nobody : (b : ℕ) → 6 ≤ owner b → enabled σ b ≡ false
  unfolding enabled
  nobody b h = let e = le-ltb (owner b) 6 h in rw e

  pub middle_byte : (b : ℕ) → 6 ≤ b → b < 16 → false ≡ enabled σ b
  middle_byte b h l = sym (nobody b (omega (arith, (owner_access b (kind_low b l)).0)))

  pub beyond_byte : (b : ℕ) → 22 ≤ b → false ≡ enabled σ b
  beyond_byte b h = go (byte_case b)
    where
      go : ByteCase b → false ≡ enabled σ b
      go (of_access i k o) = absurd (omega (arith, i))
      go (of_move i k o) = sym (nobody b (omega (arith, o)))

  pub move_byte : (b : ℕ) → 16 ≤ b → b < 22 → (u : ℕ) → u + 16 ≡ b → ltb (head_at m u) (tail_at m u) ≡ enabled σ b
  unfolding byte_for
  move_byte b h l u e = move_held u (omega arith) ∙ sym (enabled_for σ move u (omega arith)) ∙ ap (enabled σ) e

  -- ---- whether none may
  not_ended : (b : ℕ) → enabled σ b ≡ true → false ≡ ended TSO σ
  not_ended b e = go (ended TSO σ) refl
    where
      go : (x : Bool) → ended TSO σ ≡ x → false ≡ ended TSO σ
      go true q = absurd (true≢false (sym e ∙ ended_none TSO lawful σ b q))
      go false q = sym q

  pub pends_not_ended : (t : ℕ) → t < 6 → head_at m t < tail_at m t → false ≡ ended TSO σ
  pends_not_ended t h l = not_ended (byte_for move t) (enabled_for σ move t h ∙ sym (move_held t h) ∙ lt-ltb (head_at m t) (tail_at m t) l)

  pub left_not_ended : (t : ℕ) → t < 6 → (thread_at (core_of m) t).at < get_or lengths t 0 → false ≡ ended TSO σ
  left_not_ended t h l = go (dec_lt (head_at m t) (tail_at m t))
    where
      go : Dec (head_at m t < tail_at m t) → false ≡ ended TSO σ
      go (yes z) = pends_not_ended t h z
      go (no z) = not_ended t (enabled_access σ t h ∙ idle_held t h l (omega (arith, z)))

  pub all_ended : ((t : ℕ) → t < 6 → (get_or lengths t 0 ≤ (thread_at (core_of m) t).at) × (tail_at m t ≤ head_at m t)) → true ≡ ended TSO σ
  all_ended f = sym (ended_of TSO σ (λ b. go b (enabled σ b) refl))
    where
      never : (k : Kind) (t : ℕ) → t < 6 → able k (thread_of σ t) (length σ.cells) ≡ true → ⊥
      never access t h a = true≢false (sym a ∙ sym (over_held t h (f t h).0))
      never move t h a = true≢false (sym a ∙ sym (move_held t h) ∙ le-ltb (head_at m t) (tail_at m t) (f t h).1)

      go : (b : ℕ) (x : Bool) → enabled σ b ≡ x → enabled σ b ≡ false
      go b true e = absurd (never (kind_of b) (owner b) (enabled_small σ b e) (enabled_able σ b e))
      go b false e = e
