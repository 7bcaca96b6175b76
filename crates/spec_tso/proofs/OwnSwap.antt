-- The swap law for one thread: its next access and the move of its oldest pending store. They commute whenever something was pending and the access is
-- not locked: what the access appends stands behind the oldest entry, and by the look law it finds the same.
use Prim.Native.Nat.{ℕ, ◌<◌}
use mathlib.Core.Path.{◌≡◌, refl, sym, ap, ap₂, ◌∙◌}
use mathlib.Core.Logic.{◌≢◌, ◌⊎◌, inl, inr, Ne-symm}
use mathlib.Core.Bool.{Bool, true, false, false≢true}
use mathlib.Core.Option.{Option, none, some}
use mathlib.Core.List.{List, [], ◌∷◌, ◌++◌}
use native.Mathlib.Decide.{ℕ_discrete}
use lib.ListN.{length, set}
use lib.Seq.{set-set}
use Rattle.spec_sc.specs.Local.{pending, place_of, takes, puts, next}
use Rattle.spec_sc.specs.State.{Event, Cell, noted}
use Rattle.spec_sc.specs.Actions.{given}
use Rattle.spec_tso.specs.Queue.{Entry, queued, at_once, newer, oldest_number, oldest_place, movable, free}
use Rattle.spec_tso.specs.State.{Thread, State, thread_of, cell_of, locked, finds, target, number_of, thread_behind, reaches, cell_behind, place, step_of, able, access, move}
use Rattle.spec_tso.specs.Actions.{moving, reading, locking, source_if, before_if, action_of, dependent}
use Rattle.spec_tso.proofs.Bytes.{access≢move, move≢access}
use Rattle.spec_tso.proofs.Steps.{able_pending, able_free, able_movable, access_able, able_range, thread_own, cell_own, cell_other, putting, still, still_cell, step_of_cells}
use Rattle.spec_tso.proofs.Queues.{newer_front, number_front, place_front, value_front, movable_place, free_movable, look_here, look_away}
use Rattle.spec_tso.proofs.Stays.{step_of_keeps}
use Rattle.spec_tso.proofs.Depends.{made, emptied, no_reason}
use Rattle.spec_tso.proofs.Swap.{does, Swaps, both, step_of_as, act_event}

-- a thread without its oldest pending store
abbrev moved : Thread → Thread
moved h = record { local = h.local; history = h.history; queue = newer h.queue }

-- what an access appends
abbrev added : ℕ → Thread → Cell → List Entry
added t h c = queued (locked h.local) h.history.done (place_of h.local) (puts h.local (finds t h c).value)

-- an access that is not locked writes nothing to memory
pub quiet_access : (t : ℕ) (h : Thread) (c : Cell) → locked h.local ≡ false → reaches access t h c ≡ none
unfolding reaches at_once
quiet_access t h c q = rw q

move_thread : (t : ℕ) (h : Thread) (c : Cell) → thread_behind move t h c ≡ moved h
unfolding thread_behind
move_thread t h c = refl

-- an access, then the move
access_move : (t : ℕ) (h : Thread) (c d : Cell) (n : ℕ) → movable h.queue n ≡ true →
    thread_behind move t (thread_behind access t h c) d ≡ (let x : Thread = record { local = next h.local (finds t h c).value; history = noted (takes h.local) (finds t h c).source h.history; queue = newer h.queue ++ added t h c } in x)
unfolding thread_behind
access_move t h c d n m = rw (newer_front h.queue (added t h c) n m)

-- the move, then the access, which finds the same
move_access : (t : ℕ) (h : Thread) (c d : Cell) → finds t (moved h) d ≡ finds t h c →
    thread_behind access t (moved h) d ≡ (let x : Thread = record { local = next h.local (finds t h c).value; history = noted (takes h.local) (finds t h c).source h.history; queue = newer h.queue ++ added t h c } in x)
unfolding thread_behind
move_access t h c d e = rw e

-- the oldest entry behind an access
module _ (t : ℕ) (h : Thread) (c : Cell) (n : ℕ) (m : movable h.queue n ≡ true) where
  oldest_place_lem : target move (thread_behind access t h c) ≡ target move h
  unfolding thread_behind target
  oldest_place_lem = place_front h.queue (added t h c) n m

  oldest_left : (d : Cell) → cell_behind move t (thread_behind access t h c) d ≡ cell_behind move t h d
  unfolding thread_behind cell_behind number_of reaches
  oldest_left d = rw (number_front h.queue (added t h c) n m, value_front h.queue (added t h c) n m)

  oldest_act : (b : ℕ) (d : Cell) → action_of b move t (thread_behind access t h c) d ≡ action_of b move t h d
  unfolding action_of thread_behind number_of reaches target reading locking source_if
  oldest_act b d = rw (number_front h.queue (added t h c) n m, value_front h.queue (added t h c) n m, place_front h.queue (added t h c) n m)

-- an access that is not locked, by what it finds
access_act : (b t : ℕ) (h : Thread) (c d : Cell) → locked h.local ≡ false → finds t (moved h) d ≡ finds t h c → action_of b access t (moved h) d ≡ action_of b access t h c
unfolding action_of number_of reaches target reading locking at_once given before_if
access_act b t h c d q e = rw (q, e)

module _ (σ : State) (t : ℕ) (m : able move (thread_of σ t) (length σ.cells) ≡ true) (free : locked (thread_of σ t).local ≡ false) where
  abbrev h : Thread
  h = thread_of σ t

  abbrev A : State
  A = step_of σ access t

  abbrev F : State
  F = step_of σ move t

  some_pending : movable h.queue (length σ.cells) ≡ true
  some_pending = able_movable h (length σ.cells) m

  range : t < length σ.threads
  range = able_range σ move t (length σ.cells) m

  quiet : putting σ access t ≡ none
  quiet = quiet_access t h (cell_of σ (place σ access t)) free

  thread_a : thread_of A t ≡ thread_behind access t h (cell_of σ (place σ access t))
  thread_a = thread_own σ access t range

  thread_f : thread_of F t ≡ moved h
  thread_f = thread_own σ move t range ∙ move_thread t h (cell_of σ (place σ move t))

  place_a : place A move t ≡ place σ move t
  unfolding place
  place_a = ap (target move) thread_a ∙ oldest_place_lem t h (cell_of σ (place σ access t)) (length σ.cells) some_pending

  place_f : place F access t ≡ place σ access t
  unfolding place target
  place_f = ap (λ (x : Thread). place_of x.local) thread_f

  -- THE LOOK LAW at this state
  found : finds t (moved h) (cell_of F (place σ access t)) ≡ finds t h (cell_of σ (place σ access t))
  unfolding finds place target cell_behind number_of reaches
  found = go (ℕ_discrete (oldest_place h.queue) (place_of h.local))
    where
      go : Dec (oldest_place h.queue ≡ place_of h.local) → finds t (moved h) (cell_of F (place σ access t)) ≡ finds t h (cell_of σ (place σ access t))
      go (yes e) =
          ap (finds t (moved h)) (ap (cell_of F) (sym e) ∙ cell_own σ move t (movable_place h.queue (length σ.cells) some_pending) ∙ ap (λ (l : ℕ). cell_behind move t h (cell_of σ l)) e)
          ∙ look_here t h.queue (length σ.cells) (place_of h.local) (cell_of σ (place σ access t)) some_pending e
      go (no e) = ap (finds t (moved h)) (cell_other σ move t (place_of h.local) (Ne-symm e)) ∙ look_away t h.queue (place_of h.local) (cell_of σ (place σ access t)) e

  quiet_f : putting F access t ≡ none
  quiet_f = ap (λ (x : Thread). reaches access t x (cell_of F (place F access t))) thread_f ∙ quiet_access t (moved h) (cell_of F (place F access t)) free

  one_threads : (step_of A move t).threads ≡ (step_of F access t).threads
  unfolding step_of
  one_threads =
      ap (λ (x : State). x.threads) (step_of_as A move t _ _ _ thread_a refl refl) ∙ set-set σ.threads t _ _
      ∙ ap (set σ.threads t) (access_move t h (cell_of σ (place σ access t)) _ (length σ.cells) some_pending ∙ sym (move_access t h (cell_of σ (place σ access t)) (cell_of F (place σ access t)) found))
      ∙ sym (set-set σ.threads t _ _) ∙ sym (ap (λ (x : State). x.threads) (step_of_as F access t (moved h) (place σ access t) (cell_of F (place σ access t)) thread_f place_f refl))

  one_cells : (step_of A move t).cells ≡ (step_of F access t).cells
  unfolding step_of
  one_cells =
      ap (λ (x : State). x.cells) (step_of_as A move t _ (place σ move t) (cell_of σ (place σ move t)) thread_a place_a (still_cell σ access t (place σ move t) quiet))
      ∙ ap₂ (λ (cs : List Cell) (c : Cell). set cs (place σ move t) c) (still σ access t quiet) (oldest_left t h (cell_of σ (place σ access t)) (length σ.cells) some_pending (cell_of σ (place σ move t)))
      ∙ sym (still F access t quiet_f)

  -- a thread's access and its move commute
  pub one_thread : step_of A move t ≡ step_of F access t
  one_thread = ap₂ both one_threads one_cells

  pub move_same : (b : ℕ) → does A b move t ≡ does σ b move t
  move_same b =
      ap₂ (λ (x : Thread) (c : Cell). action_of b move t x c) thread_a (ap (cell_of A) place_a ∙ still_cell σ access t (place σ move t) quiet)
      ∙ oldest_act t h (cell_of σ (place σ access t)) (length σ.cells) some_pending b (cell_of σ (place σ move t))

  pub access_same : (a : ℕ) → does F a access t ≡ does σ a access t
  access_same a = ap₂ (λ (x : Thread) (l : ℕ). action_of a access t x (cell_of F l)) thread_f place_f ∙ access_act a t h (cell_of σ (place σ access t)) (cell_of F (place σ access t)) free found

-- what can be moved behind an access could be before, or is the access's own store
queued_own : (b : Bool) (i l : ℕ) (o : Option ℕ) (n : ℕ) → movable (queued b i l o) n ≡ true → oldest_number (queued b i l o) ≡ i
unfolding queued movable oldest_number
queued_own b i l none n m = absurd (false≢true m)
queued_own true i l (some v) n m = absurd (false≢true m)
queued_own false i l (some v) n m = refl

own_or_old : (q w : List Entry) (i n : ℕ) → (movable w n ≡ true → oldest_number w ≡ i) → movable (q ++ w) n ≡ true → (movable q n ≡ true) ⊎ (oldest_number (q ++ w) ≡ i)
unfolding movable oldest_number
own_or_old [] w i n f m = inr (f m)
own_or_old (x ∷ q) w i n f m = inl m

access_own : (t : ℕ) (h : Thread) (c : Cell) (n : ℕ) → able move (thread_behind access t h c) n ≡ true → (able move h n ≡ true) ⊎ (number_of move (thread_behind access t h c) ≡ number_of access h)
unfolding thread_behind able number_of
access_own t h c n m = own_or_old h.queue (added t h c) h.history.done n (queued_own (locked h.local) h.history.done (place_of h.local) (puts h.local (finds t h c).value) n) m

event_same : (a b t : ℕ) (h x : Thread) (c d : Cell) → number_of move x ≡ number_of access h → (action_of a access t h c).event ≡ (action_of b move t x d).event
unfolding action_of
event_same a b t h x c d e = ap (λ (i : ℕ). let y : Event = (t, i) in y) (sym e)

act_access : (b t : ℕ) (h : Thread) (c : Cell) → (action_of b access t h c).moves ≡ false
unfolding action_of moving
act_access b t h c = refl

act_move : (b t : ℕ) (h : Thread) (c : Cell) → (action_of b move t h c).moves ≡ true
unfolding action_of moving
act_move b t h c = refl

act_locks : (b t : ℕ) (h : Thread) (c : Cell) → (action_of b access t h c).locks ≡ locked h.local
unfolding action_of locking
act_locks b t h c = refl

-- AN ACCESS, THEN A MOVE
pub swap_access : (σ : State) (a b t : ℕ) → able access (thread_of σ t) (length σ.cells) ≡ true → able move (thread_of (step_of σ access t) t) (length (step_of σ access t).cells) ≡ true →
    dependent (does σ a access t) (does (step_of σ access t) b move t) ≡ false → Swaps σ a access t b move t
swap_access σ a b t m n dep = go (access_own t (thread_of σ t) (cell_of σ (place σ access t)) (length σ.cells) (ap₂ (able move) (sym own) (sym (step_of_cells σ access t)) ∙ n))
  where
    own : thread_of (step_of σ access t) t ≡ thread_behind access t (thread_of σ t) (cell_of σ (place σ access t))
    own = thread_own σ access t (able_range σ access t (length σ.cells) m)

    go : (able move (thread_of σ t) (length σ.cells) ≡ true) ⊎ (number_of move (thread_behind access t (thread_of σ t) (cell_of σ (place σ access t))) ≡ number_of access (thread_of σ t)) → Swaps σ a access t b move t
    go (inl f) =
        let nl = free_movable (locked (thread_of σ t).local) (thread_of σ t).queue (length σ.cells) (able_movable (thread_of σ t) (length σ.cells) f) (able_free (thread_of σ t) (length σ.cells) m) in
        record {
          second_first = f;
          first_second = step_of_keeps σ move t access t (λ k e. move≢access k) f m;
          same_state = one_thread σ t f nl;
          second_does = move_same σ t f nl b;
          first_does = access_same σ t f nl a;
        }
    go (inr e) = absurd (no_reason (does σ a access t) (does (step_of σ access t) b move t) dep (made (act_access a t _ _) (act_move b t _ _)
        (event_same a b t (thread_of σ t) (thread_of (step_of σ access t) t) (cell_of σ (place σ access t)) (cell_of (step_of σ access t) (place (step_of σ access t) move t)) (ap (number_of move) own ∙ e))))

behind_move : (σ : State) (t : ℕ) → able move (thread_of σ t) (length σ.cells) ≡ true → thread_of (step_of σ move t) t ≡ moved (thread_of σ t)
behind_move σ t m = thread_own σ move t (able_range σ move t (length σ.cells) m) ∙ move_thread t (thread_of σ t) (cell_of σ (place σ move t))

free_not : (b : Bool) (q : List Entry) → b ≡ false → free b q ≡ true
unfolding free
free_not b q e = rw e

-- A MOVE, THEN AN ACCESS
pub swap_move : (σ : State) (a b t : ℕ) → able move (thread_of σ t) (length σ.cells) ≡ true → able access (thread_of (step_of σ move t) t) (length (step_of σ move t).cells) ≡ true →
    dependent (does σ a move t) (does (step_of σ move t) b access t) ≡ false → Swaps σ a move t b access t
swap_move σ a b t m n dep = go (locked (thread_of σ t).local) refl
  where
    own : thread_of (step_of σ move t) t ≡ moved (thread_of σ t)
    own = behind_move σ t m

    go : (x : Bool) → locked (thread_of σ t).local ≡ x → Swaps σ a move t b access t
    go true e = absurd (no_reason (does σ a move t) (does (step_of σ move t) b access t) dep (emptied (act_move a t _ _)
        (act_locks b t (thread_of (step_of σ move t) t) (cell_of (step_of σ move t) (place (step_of σ move t) access t)) ∙ ap (λ (x : Thread). locked x.local) own ∙ e)
        (act_event a move t (thread_of σ t) (cell_of σ (place σ move t)) ∙ sym (act_event b access t (thread_of (step_of σ move t) t) (cell_of (step_of σ move t) (place (step_of σ move t) access t))))))
    go false nl =
        let before : able access (thread_of σ t) (length σ.cells) ≡ true = access_able (thread_of σ t) (length σ.cells)
        (sym (ap (λ (x : Thread). pending x.local) own) ∙ able_pending (thread_of (step_of σ move t) t) (length (step_of σ move t).cells) n) (free_not (locked (thread_of σ t).local) (thread_of σ t).queue nl) in
        record {
          second_first = before;
          first_second = step_of_keeps σ access t move t (λ k e. access≢move k) before m;
          same_state = sym (one_thread σ t m nl);
          second_does = access_same σ t m nl b;
          first_does = move_same σ t m nl a;
        }
