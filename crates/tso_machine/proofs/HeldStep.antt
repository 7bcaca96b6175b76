-- A step of the machine by its three ways of leaving the queue: an access that queues nothing, a store that waits at the tail, and a move from
-- the head.
use Prim.Native.Nat.{ℕ, suc, ◌+◌, ◌-◌, ◌<◌, ◌≤◌}
use native.Mathlib.Omega.{arith}
use native.Mathlib.Decide.{ℕ_discrete, dec_lt}
use mathlib.Core.Path.{◌≡◌, refl, sym, ap, ap₂, subst, ◌∙◌}
use mathlib.Core.Logic.{◌≢◌, ◌⊎◌, inl, inr}
use mathlib.Core.Bool.{Bool, true, false, cond, false≢true}
use mathlib.Core.Option.{Option, none, some}
use mathlib.Core.List.{List, [], ◌∷◌, ◌++◌, append-nil}
use lib.ListN.{length, get_or, set, length-set}
use lib.Seq.{get_or-set_same, get_or-set_other}
use Rattle.spec_file.specs.WellFormed.{accesses}
use Rattle.file_rows.specs.Rows.{thread_code}
use Rattle.spec_sc.specs.Local.{Local, place_of, puts}
use Rattle.spec_sc.specs.State.{Cell}
use Rattle.spec_schedules.proofs.Group.{get_d_any}
use Rattle.spec_sc.specs.Actions.{given}
use Rattle.spec_sc.proofs.Access.{next_fewer}
use Rattle.machine.specs.declared.state.LastWrite.{LastWrite}
use Rattle.machine.specs.Held.{thread_at, idle, event_of, HoldsThread}
use Rattle.machine_access.specs.declared.thread.ThreadState.{ThreadState}
use Rattle.spec_tso.specs.Queue.{Entry, queued, at_once, movable, newer, oldest_number, oldest_place, oldest_value}
use Rattle.spec_tso.specs.State.{Thread, State, Kind, access, move, thread_of, cell_of, unqueued, locked, finds, target, number_of, reaches, thread_behind, place, step_of, able, kind_of, owner, step}
use Rattle.spec_tso.specs.Actions.{Action, action, action_of, reading, locking}
use Rattle.spec_tso.proofs.Steps.{able_pending, able_movable, able_range, putting}
use Rattle.tso_machine.specs.declared.state.Pending.{Pending}
use Rattle.tso_machine.specs.declared.state.QueuedMachine.{QueuedMachine}
use Rattle.tso_machine.specs.declared.meeting.Met.{Met}
use Rattle.tso_machine.specs.declared.stepping.Stepped.{Stepped}
use Rattle.tso_machine.specs.Slots.{no_store, entry_of, entry_at, queue_at}
use Rattle.tso_machine.specs.Held.{core_of, head_at, tail_at, limit_at, slot_at, queue_of, Holds}
use Rattle.tso_machine.specs.Steps.{source_of, own_of, HoldsMet, HoldsStep}
use Rattle.tso_machine.proofs.InSlots.{queue_none, queue_first, queue_away, queue_put}
use Rattle.tso_machine.proofs.HeldCore.{core_thread, core_registers, pending_left, slots_apart, tail_below}
use Rattle.tso_machine.proofs.HeldBehind.{Cells, holds_behind, cells_still, cells_put}

-- ---- what is queued and what is put at once
queued_nothing : (b : Bool) (i l : ℕ) (o : Option ℕ) → (b ≡ true) ⊎ (o ≡ none) → queued b i l o ≡ []
unfolding queued
queued_nothing b i l none e = refl
queued_nothing true i l (some v) e = refl
queued_nothing false i l (some v) (inl e) = absurd (false≢true e)
queued_nothing false i l (some v) (inr e) = absurd (let z : ◌≡◌ {A = ℕ} 0 1 = cc in omega arith)

queued_store : (b : Bool) (i l : ℕ) (o : Option ℕ) (v : ℕ) → b ≡ false → o ≡ some v → queued b i l o ≡ record { number = i; location = l; value = v } ∷ []
unfolding queued
queued_store b i l o v e q = rw (e, q)

pub once_none : (b : Bool) (o : Option ℕ) → o ≡ none → at_once b o ≡ none
unfolding at_once
once_none true o e = e
once_none false o e = refl

pub once_store : (b : Bool) (o : Option ℕ) → b ≡ false → at_once b o ≡ none
unfolding at_once
once_store b o e = rw e

pub once_locked : (b : Bool) (o : Option ℕ) (v : ℕ) → b ≡ true → o ≡ some v → at_once b o ≡ some v
unfolding at_once
once_locked b o v e q = rw (e, q)

-- ---- an access of thread t: a what it does, k the thread behind it
module _ (code lengths : List ℕ) (m : QueuedMachine) (σ : State) (t : ℕ) (held : Holds code lengths m σ) (six : t < 6)
    (ok : able access (thread_of σ t) (length σ.cells) ≡ true) (a : Met) (met : HoldsMet code lengths σ t a) where
  abbrev h : Thread
  h = thread_of σ t

  abbrev c : Cell
  c = cell_of σ (place σ access t)

  -- what it writes
  abbrev written : Option ℕ
  written = puts h.local (finds t h c).value

  threads_six : length (set m.threads t a.thread) ≡ 6
  threads_six = length-set m.threads t a.thread ∙ held.core.sizes.0

  thread_own : get_or (set m.threads t a.thread) t idle ≡ a.thread
  thread_own = get_or-set_same m.threads t a.thread idle (omega (arith, held.core.sizes.0))

  thread_else : (u : ℕ) → u ≢ t → get_or (set m.threads t a.thread) u idle ≡ thread_at (core_of m) u
  thread_else u ne = get_or-set_other m.threads t u a.thread idle ne

  own : HoldsThread (thread_code code t (get_or lengths t 0)) (get_or (set m.threads t a.thread) t idle) (unqueued (thread_behind access t h c))
  own = subst (λ (j : ThreadState). HoldsThread (thread_code code t (get_or lengths t 0)) j (unqueued (thread_behind access t h c))) (sym thread_own) met.thread

  registers : (thread_behind access t h c).local.registers ≡ (get_or (set m.threads t a.thread) t idle).registers
  registers = met.registers ∙ ap (λ (j : ThreadState). j.registers) (sym thread_own)

  abbrev limited : ℕ
  limited = accesses (thread_behind access t h c).local.rest

  fewer : limited < accesses h.local.rest
  unfolding thread_behind
  fewer = next_fewer h.local (finds t h c).value (able_pending h (length σ.cells) ok)

  short : get_or lengths t 0 ≤ 16
  short = held.short t six (pending_left held t six (able_pending h (length σ.cells) ok))

  -- ---- nothing goes into the queue
  abbrev kept : List ℕ → List LastWrite → QueuedMachine
  kept memory last = record { threads = set m.threads t a.thread; memory = memory; last = last; heads = m.heads; tails = m.tails; slots = m.slots }

  queue_kept : (locked h.local ≡ true) ⊎ (written ≡ none) → (thread_behind access t h c).queue ≡ queue_of m t
  unfolding thread_behind
  queue_kept e =
      ap (λ (q : List Entry). h.queue ++ q) (queued_nothing (locked h.local) h.history.done (place_of h.local) written e)
      ∙ append-nil h.queue ∙ held.queues t six

  behind_kept : (memory : List ℕ) (last : List LastWrite) → Cells (kept memory last) (step_of σ access t) → (locked h.local ≡ true) ⊎ (written ≡ none)
      → Holds code lengths (kept memory last) (step_of σ access t)
  behind_kept memory last cells e = holds_behind code lengths m (kept memory last) σ access t held six ok (record {
    sizes = (threads_six, held.sizes.0, held.sizes.1, held.sizes.2);
    own = own;
    registers = registers;
    short = λ b. short;
    others = thread_else;
    cells = cells;
    queue = queue_kept e;
    queues = λ u b ne. refl;
    ordered = held.ordered;
    own_room = omega (arith, fewer, held.room t six);
    room = λ u b ne. (refl, omega arith);
    places = held.places;
  })

  -- the access writes nothing
  pub holds_nothing : a.writes ≡ false → Holds code lengths (kept m.memory m.last) (step_of σ access t)
  unfolding reaches
  holds_nothing e =
      let none_written : written ≡ none = met.puts ∙ ap (λ (b : Bool). cond b (some a.value) none) e in
      behind_kept m.memory m.last (cells_still code lengths m (kept m.memory m.last) σ access t held six ok (once_none (locked h.local) written none_written) refl refl) (inr none_written)

  module _ (near : place σ access t < 8) (e : a.writes ≡ true) where
    some_written : written ≡ some a.value
    some_written = met.puts ∙ ap (λ (b : Bool). cond b (some a.value) none) e

    -- the access is locked and writes memory
    pub holds_locked : (l i : ℕ) → l ≡ a.location → i ≡ h.history.done → a.locks ≡ true
        → Holds code lengths (kept (set m.memory l a.value) (set m.last l (record { thread = t; number = i }))) (step_of σ access t)
    unfolding reaches number_of
    holds_locked l i el ei q =
        let here : l ≡ place σ access t = el ∙ met.location in
        let locks : locked h.local ≡ true = sym met.locks ∙ q in
        let memory = set m.memory l a.value in
        let last = set m.last l (record { thread = t; number = i }) in
        behind_kept memory last (cells_put code lengths m (kept memory last) σ access t held six ok l a.value i here (omega (arith, here, near))
        (once_locked (locked h.local) written a.value locks some_written) ei refl refl) (inl locks)

    -- ---- it waits in the queue
    abbrev store : ℕ → Pending
    store i = record { value = a.value; number = i; location = a.location }

    abbrev waiting : ℕ → QueuedMachine
    waiting i = record {
      threads = set m.threads t a.thread;
      memory = m.memory;
      last = m.last;
      heads = m.heads;
      tails = set m.tails t (tail_at m t + 1);
      slots = set m.slots (tail_at m t) (store i);
    }

    tail_room : tail_at m t < 16
    tail_room = omega (arith, tail_below held t six, fewer)

    tail_own : (i : ℕ) → tail_at (waiting i) t ≡ tail_at m t + 1
    tail_own i = get_or-set_same m.tails t (tail_at m t + 1) 0 (omega (arith, held.sizes.1))

    tail_else : (i u : ℕ) → u ≢ t → tail_at (waiting i) u ≡ tail_at m u
    tail_else i u ne = get_or-set_other m.tails t u (tail_at m t + 1) 0 ne

    -- the new store's slot is in no other queue
    outside : (u : ℕ) → u < 6 → u ≢ t → (tail_at m t < head_at m u) ⊎ (head_at m u + (tail_at m u - head_at m u) ≤ tail_at m t)
    outside u b ne = go (dec_lt t u)
      where
        go : Dec (t < u) → (tail_at m t < head_at m u) ⊎ (head_at m u + (tail_at m u - head_at m u) ≤ tail_at m t)
        go (yes l) = inl (omega (arith, slots_apart held t u l b, fewer))
        go (no l) = inr (let ne' : t ≢ u = (λ q. ne (sym q)) in omega (arith, slots_apart held u t (omega (arith, l, ne')) six, held.ordered u b, held.ordered t six))

    queue_waiting : (i : ℕ) → i ≡ h.history.done → a.locks ≡ false → (thread_behind access t h c).queue ≡ queue_of (waiting i) t
    unfolding thread_behind place target
    queue_waiting i ei q =
        ap₂ (λ (x y : List Entry). x ++ y) (held.queues t six)
        (queued_store (locked h.local) h.history.done (place_of h.local) written a.value (sym met.locks ∙ q) some_written
        ∙ ap₂ (λ (x y : ℕ). record { number = x; location = y; value = a.value } ∷ []) (sym ei) (sym met.location))
        ∙ sym (queue_put m.slots (head_at m t) (tail_at m t - head_at m t) (tail_at m t) (store i) (omega (arith, held.ordered t six)) (omega (arith, tail_room, held.sizes.2)))
        ∙ ap (queue_at (set m.slots (tail_at m t) (store i)) (head_at m t))
        (let z : suc (tail_at m t - head_at m t) ≡ tail_at (waiting i) t - head_at m t = omega (arith, tail_own i, held.ordered t six) in z)

    pub holds_waiting : (i : ℕ) → i ≡ h.history.done → a.locks ≡ false → Holds code lengths (waiting i) (step_of σ access t)
    unfolding reaches
    holds_waiting i ei q = holds_behind code lengths m (waiting i) σ access t held six ok (record {
      sizes = (threads_six, held.sizes.0, length-set m.tails t (tail_at m t + 1) ∙ held.sizes.1, length-set m.slots (tail_at m t) (store i) ∙ held.sizes.2);
      own = own;
      registers = registers;
      short = λ b. short;
      others = thread_else;
      cells = cells_still code lengths m (waiting i) σ access t held six ok (once_store (locked h.local) written (sym met.locks ∙ q)) refl refl;
      queue = queue_waiting i ei q;
      queues = λ u b ne. ap (λ (x : ℕ). queue_at (set m.slots (tail_at m t) (store i)) (head_at m u) (x - head_at m u)) (tail_else i u ne)
          ∙ queue_away m.slots (head_at m u) (tail_at m u - head_at m u) (tail_at m t) (store i) (outside u b ne);
      ordered = λ u b. in_order u b (ℕ_discrete u t);
      own_room = omega (arith, tail_own i, fewer, held.room t six);
      room = λ u b ne. (tail_else i u ne, omega arith);
      places = λ j b. in_place_lem j b (ℕ_discrete j (tail_at m t));
    })
      where
        in_order : (u : ℕ) → u < 6 → Dec (u ≡ t) → head_at m u ≤ tail_at (waiting i) u
        in_order u b (yes e) = omega (arith, ap (tail_at (waiting i)) e, ap (head_at m) e, tail_own i, held.ordered t six)
        in_order u b (no e) = omega (arith, tail_else i u e, held.ordered u b)

        in_place_lem : (j : ℕ) → j < 16 → Dec (j ≡ tail_at m t) → (slot_at (waiting i) j).location < 8
        in_place_lem j b (yes e) =
            subst (λ (x : ℕ). (slot_at (waiting i) x).location < 8) (sym e)
            (subst (λ (x : Pending). x.location < 8) (sym (get_or-set_same m.slots (tail_at m t) (store i) no_store (omega (arith, tail_room, held.sizes.2)))) (omega (arith, met.location, near)))
        in_place_lem j b (no e) = subst (λ (x : Pending). x.location < 8) (sym (get_or-set_other m.slots (tail_at m t) j (store i) no_store e)) (held.places j b)

-- ---- a move of thread t
oldest : (q : List Entry) (x : Entry) (r : List Entry) → q ≡ x ∷ r → (oldest_number q ≡ x.number) × (oldest_place q ≡ x.location) × (oldest_value q ≡ some x.value) × (newer q ≡ r)
unfolding oldest_number oldest_place oldest_value newer
oldest q x r e = (rw e, rw e, rw e, rw e)

empty_stays : (q : List Entry) (n : ℕ) → q ≡ [] → movable q n ≡ true → ⊥
unfolding movable
empty_stays [] n e m = false≢true m
empty_stays (x ∷ q) n e m = let z : ◌≡◌ {A = ℕ} 0 1 = cc in omega arith

module _ (code lengths : List ℕ) (m : QueuedMachine) (σ : State) (t : ℕ) (held : Holds code lengths m σ) (six : t < 6)
    (ok : able move (thread_of σ t) (length σ.cells) ≡ true) where
  abbrev g : Thread
  g = thread_of σ t

  abbrev d : Cell
  d = cell_of σ (place σ move t)

  pub head_tail : head_at m t < tail_at m t
  head_tail = go (dec_lt (head_at m t) (tail_at m t))
    where
      go : Dec (head_at m t < tail_at m t) → head_at m t < tail_at m t
      go (yes b) = b
      go (no b) = absurd (empty_stays g.queue (length σ.cells)
          (held.queues t six ∙ ap (queue_at m.slots (head_at m t)) (let z : tail_at m t - head_at m t ≡ 0 = omega (arith, b) in z) ∙ queue_none m.slots (head_at m t))
          (able_movable g (length σ.cells) ok))

  pub head_room : head_at m t < 16
  head_room = omega (arith, tail_below held t six, head_tail)

  abbrev e : Pending
  e = slot_at m (head_at m t)

  first : g.queue ≡ entry_of e ∷ queue_at m.slots (suc (head_at m t)) (tail_at m t - head_at m t - 1)
  unfolding entry_at
  first =
      held.queues t six ∙ ap (queue_at m.slots (head_at m t)) (let z : tail_at m t - head_at m t ≡ suc (tail_at m t - head_at m t - 1) = omega (arith, head_tail) in z)
      ∙ queue_first m.slots (head_at m t) (tail_at m t - head_at m t - 1)

  abbrev facts : (oldest_number g.queue ≡ e.number) × (oldest_place g.queue ≡ e.location) × (oldest_value g.queue ≡ some e.value) × (newer g.queue ≡ queue_at m.slots (suc (head_at m t)) (tail_at m t - head_at m t - 1))
  facts = oldest g.queue (entry_of e) (queue_at m.slots (suc (head_at m t)) (tail_at m t - head_at m t - 1)) first

  pub move_number : e.number ≡ number_of move g
  unfolding number_of
  move_number = sym facts.0

  pub move_place : e.location ≡ place σ move t
  unfolding place target
  move_place = sym facts.1

  pub move_puts : reaches move t g d ≡ some e.value
  unfolding reaches
  move_puts = facts.2

  abbrev gone : ℕ → QueuedMachine
  gone l = record {
    threads = m.threads;
    memory = set m.memory l e.value;
    last = set m.last l (record { thread = t; number = e.number });
    heads = set m.heads t (head_at m t + 1);
    tails = m.tails;
    slots = m.slots;
  }

  head_own : (l : ℕ) → head_at (gone l) t ≡ head_at m t + 1
  head_own l = get_or-set_same m.heads t (head_at m t + 1) 0 (omega (arith, held.sizes.0))

  head_else : (l u : ℕ) → u ≢ t → head_at (gone l) u ≡ head_at m u
  head_else l u ne = get_or-set_other m.heads t u (head_at m t + 1) 0 ne

  limits : (l u : ℕ) → Dec (u + 1 ≡ t) → limit_at m u ≤ limit_at (gone l) u
  limits l u (yes q) =
      omega (
        arith,
        ap (λ (x : ℕ). get_or m.heads x 16) q,
        ap (λ (x : ℕ). get_or (set m.heads t (head_at m t + 1)) x 16) q,
        get_or-set_same m.heads t (head_at m t + 1) 16 (omega (arith, held.sizes.0)),
        get_d_any m.heads t 16 0 (omega (arith, held.sizes.0)),
      )
  limits l u (no q) = omega (arith, get_or-set_other m.heads t (u + 1) (head_at m t + 1) 16 q)

  same_local_lem : (thread_behind move t g d).local ≡ g.local
  unfolding thread_behind
  same_local_lem = refl

  same_thread : unqueued (thread_behind move t g d) ≡ unqueued g
  unfolding thread_behind unqueued
  same_thread = refl

  queue_behind : (l : ℕ) → (thread_behind move t g d).queue ≡ queue_of (gone l) t
  unfolding thread_behind
  queue_behind l =
      facts.3 ∙ ap₂ (queue_at m.slots) (let z : suc (head_at m t) ≡ head_at (gone l) t = omega (arith, head_own l) in z)
      (let z : tail_at m t - head_at m t - 1 ≡ tail_at m t - head_at (gone l) t = omega (arith, head_own l) in z)

  pub holds_gone : (l : ℕ) → l ≡ e.location → Holds code lengths (gone l) (step_of σ move t)
  holds_gone l el =
      let near : l < 8 = omega (arith, el, held.places (head_at m t) head_room) in
      holds_behind code lengths m (gone l) σ move t held six ok (record {
        sizes = (held.core.sizes.0, length-set m.heads t (head_at m t + 1) ∙ held.sizes.0, held.sizes.1, held.sizes.2);
        own = subst (HoldsThread (thread_code code t (get_or lengths t 0)) (thread_at (core_of m) t)) (sym same_thread) (core_thread held t six);
        registers = ap (λ (x : Local). x.registers) same_local_lem ∙ core_registers held t (able_range σ move t (length σ.cells) ok);
        short = held.short t six;
        others = λ u ne. refl;
        cells = cells_put code lengths m (gone l) σ move t held six ok l e.value e.number (el ∙ move_place) near move_puts move_number refl refl;
        queue = queue_behind l;
        queues = λ u b ne. ap (λ (x : ℕ). queue_at m.slots x (tail_at m u - x)) (head_else l u ne);
        ordered = λ u b. in_order u b (ℕ_discrete u t);
        own_room = omega (arith, ap (λ (x : Local). accesses x.rest) same_local_lem, held.room t six, limits l t (ℕ_discrete (t + 1) t));
        room = λ u b ne. (refl, limits l u (ℕ_discrete (u + 1) t));
        places = held.places;
      })
    where
      in_order : (u : ℕ) → u < 6 → Dec (u ≡ t) → head_at (gone l) u ≤ tail_at m u
      in_order u b (yes q) = omega (arith, ap (head_at (gone l)) q, ap (tail_at m) q, head_own l, head_tail)
      in_order u b (no q) = omega (arith, head_else l u q, held.ordered u b)

-- ---- what a step leaves, by its kind and its thread
module _ (code lengths : List ℕ) (σ : State) (b : ℕ) (k : Kind) (t : ℕ) (ek : kind_of b ≡ k) (eo : owner b ≡ t) where
  same_step : step_of σ k t ≡ step σ b
  unfolding step
  same_step = sym (ap₂ (step_of σ) ek eo)

  abbrev action_by : Kind → ℕ → Action
  action_by x y = action_of b x y (thread_of σ y) (cell_of σ (place σ x y))

  same_action : action_by k t ≡ action σ b
  unfolding action
  same_action = sym (ap₂ action_by ek eo)

  pub step_by_lem : (r : Stepped) → Holds code lengths r.machine (step_of σ k t) → r.act.number ≡ number_of k (thread_of σ t) → r.act.location ≡ place σ k t → r.act.reads ≡ reading k (thread_of σ t)
      → r.act.locks ≡ locking k (thread_of σ t) → r.act.puts ≡ given (putting σ k t) → event_of r.act.source ≡ source_of k t (thread_of σ t) (cell_of σ (place σ k t)) → r.act.own ≡ own_of k (thread_of σ t)
      → HoldsStep code lengths σ b r
  unfolding action_of place
  step_by_lem r holds number location reads locks puts source own = record {
    holds = subst (Holds code lengths r.machine) same_step holds;
    number = number ∙ ap (λ (x : Action). x.event.1) same_action;
    location = location ∙ ap (λ (x : Action). x.location) same_action;
    reads = reads ∙ ap (λ (x : Action). x.reads) same_action;
    locks = locks ∙ ap (λ (x : Action). x.locks) same_action;
    puts = puts ∙ ap (λ (x : Action). x.puts) same_action;
    source = source ∙ sym (ap₂ (λ (x : Kind) (y : ℕ). source_of x y (thread_of σ y) (cell_of σ (place σ x y))) ek eo);
    own = own ∙ sym (ap₂ (λ (x : Kind) (y : ℕ). own_of x (thread_of σ y)) ek eo);
  }
