-- What a next step would do, read off the machine's arrays: a move off its slot, an access off its row, its queue and memory; and whether it
-- has to stay behind the step just taken, in the order in which the code asks.
use Prim.Native.Nat.{ℕ, zero, suc, ◌+◌, ◌-◌, ◌*◌, ◌%◌, ◌<◌, ◌≤◌}
use mathlib.Core.Path.{◌≡◌, refl, sym, ap, ap₂, subst, ◌∙◌}
use mathlib.Core.Bool.{Bool, true, false, not, ◌&&◌, ◌||◌, false≢true}
use mathlib.Core.Option.{Option, none, some}
use mathlib.Core.List.{List, [], ◌∷◌, map}
use native.Mathlib.Omega.{arith}
use lib.Dec.{eqb}
use lib.ListN.{length, get_or, drop}
use native.Mathlib.Decide.{dec_lt}
use native.Mathlib.Nat.{mod-eq_of_lt}
use borrow.Author.Tests.{eq-eqb, ne_eqb}
use Rattle.spec_file.specs.declared.instruction.Instruction.{Instruction}
use Rattle.spec_file.specs.declared.instruction.Instruction.TheVariants.{Memory, Alone}
use Rattle.file_rows.specs.Rows.{instruction_at, thread_code}
use Rattle.spec_schedules.specs.Lists.{any, range}
use Rattle.spec_schedules.proofs.Lists.{range_suc, any_cons}
use Rattle.machine_access.specs.CarriedOut.{access_of}
use Rattle.machine_access.specs.declared.accessing.Access.{Access}
use Rattle.machine_access.specs.declared.thread.ThreadState.{ThreadState}
use Rattle.spec_sc.specs.Local.{Local, first_place, first_takes, pending, place_of, takes, puts}
use Rattle.spec_sc.specs.State as SC
use Rattle.spec_sc.specs.State.{Cell}
use Rattle.spec_sc.specs.Actions as Acts
use Rattle.spec_sc.specs.Actions.{given}
use Rattle.spec_sc.proofs.Steps as Steps
use Rattle.machine.specs.Held.{thread_at}
use Rattle.machine.proofs.HeldNext.{next_rest, next_wrote, held_left}
use Rattle.search_place.proofs.RowAccess.{place_first}
use Rattle.spec_tso.specs.Queue.{Entry, newest, found_in, at_once, free, movable, oldest_number, oldest_place, oldest_value}
use Rattle.spec_tso.specs.State.{State, Kind, access, move, unqueued, without_queues, thread_of, cell_of, first_locks, locked, finds, number_of, target, reaches, place, able, byte_for, enabled}
use Rattle.spec_tso.specs.Actions.{moving, reading, locking}
use Rattle.spec_tso.proofs.Bytes.{kind_for, owner_for}
use Rattle.spec_tso.proofs.Steps.{enabled_for, able_pending, able_free, able_movable}
use Rattle.spec_tso.proofs.Queues.{free_empty}
use Rattle.spec_tso.proofs.Seen.{seen_thread}
use Rattle.tso_machine.specs.Slots.{no_store, entry_at, queue_at}
use Rattle.tso_machine.specs.Held.{core_of, head_at, tail_at, slot_at, queue_of, Holds}
use Rattle.tso_machine.specs.declared.state.Pending.{Pending}
use Rattle.tso_machine.proofs.HeldCore.{tail_below}
use Rattle.tso_machine.specs.declared.state.QueuedMachine.{QueuedMachine}
use Rattle.theory_tso.specs.Deeds.{is_none, looking, deed_of, deed}
use Rattle.theory_tso.specs.declared.deed.Deed.{Deed}
use Rattle.tso_order.specs.Freed.{Ends, stores_to}

-- ---- queues in slots
pub queue_none : (slots : List Pending) (k n : ℕ) → n ≡ 0 → queue_at slots k n ≡ []
unfolding queue_at range
queue_none slots k n e = ap (λ (i : ℕ). map (entry_at slots) (range k i)) e

pub queue_more : (slots : List Pending) (k n : ℕ) → 0 < n → queue_at slots k n ≡ entry_at slots k ∷ queue_at slots (k + 1) (n - 1)
unfolding queue_at
queue_more slots k zero h = absurd (omega arith)
queue_more slots k (suc n) h =
    ap (map (entry_at slots)) (range_suc k n) ∙ ap (λ (l : List ℕ). entry_at slots k ∷ map (entry_at slots) l) (ap₂ range (let e : suc k ≡ k + 1 = omega arith in e) (let e : n ≡ suc n - 1 = omega arith in e))

entry_location : (slots : List Pending) (k : ℕ) → (entry_at slots k).location ≡ (get_or slots k (record { value = 0; number = 0; location = 0 })).location
unfolding entry_at
entry_location slots k = refl

-- one slot after the other, from k up to `end`
pub stores_none : (slots : List Pending) (k end l : ℕ) → end ≤ k → stores_to l (queue_at slots k (end - k)) ≡ false
unfolding any
stores_none slots k end l h = ap (stores_to l) (queue_none slots k (end - k) (omega arith))

pub stores_here : (slots : List Pending) (k end l : ℕ) → k < end → (get_or slots k (record { value = 0; number = 0; location = 0 })).location ≡ l → stores_to l (queue_at slots k (end - k)) ≡ true
stores_here slots k end l h e =
    ap (stores_to l) (queue_more slots k (end - k) (omega arith)) ∙ any_cons (λ (x : Entry). eqb x.location l) (entry_at slots k) (queue_at slots (k + 1) (end - k - 1))
    ∙ ap (λ (b : Bool). b || stores_to l (queue_at slots (k + 1) (end - k - 1))) (eq-eqb (entry_at slots k).location l (entry_location slots k ∙ e))

pub stores_on : (slots : List Pending) (k end l : ℕ) → k < end → ((get_or slots k (record { value = 0; number = 0; location = 0 })).location ≡ l → ⊥) → stores_to l (queue_at slots k (end - k)) ≡ stores_to l (queue_at slots (k + 1) (end - (k + 1)))
stores_on slots k end l h e =
    ap (stores_to l) (queue_more slots k (end - k) (omega arith)) ∙ any_cons (λ (x : Entry). eqb x.location l) (entry_at slots k) (queue_at slots (k + 1) (end - k - 1))
    ∙ ap (λ (b : Bool). b || stores_to l (queue_at slots (k + 1) (end - k - 1))) (ne_eqb (entry_at slots k).location l (λ q. e (sym (entry_location slots k) ∙ q)))
    ∙ ap (λ (n : ℕ). stores_to l (queue_at slots (k + 1) n)) (let z : end - k - 1 ≡ end - (k + 1) = omega arith in z)

-- no newest store there exactly when none is pending
or_false : (b : Bool) → (b || false) ≡ b
or_false true = refl
or_false false = refl

or_true : (b : Bool) → (b || true) ≡ true
or_true true = refl
or_true false = refl

back : (b : Bool) → not b ≡ false → b ≡ true
back true e = refl
back false e = absurd (false≢true (sym e))

forth : (b : Bool) → not b ≡ true → b ≡ false
forth true e = absurd (false≢true e)
forth false e = refl

none_pending : (q : List Entry) (l : ℕ) → is_none (newest q l) ≡ not (stores_to l q)
unfolding newest is_none any
none_pending [] l = refl
none_pending (x ∷ q) l = go (newest q l) refl (none_pending q l)
  where
    go : (o : Option Entry) → newest q l ≡ o → is_none (newest q l) ≡ not (stores_to l q) → is_none (newest (x ∷ q) l) ≡ not (stores_to l (x ∷ q))
    go (some y) e ih =
        let l' = any_cons (λ (z : Entry). eqb z.location l) x q in
        let f : stores_to l q ≡ true = back (stores_to l q) (sym ih ∙ ap is_none e) in
        ap is_none (let k : newest (x ∷ q) l ≡ some y = rw (e, newest) in k) ∙ sym (ap not (l' ∙ ap (λ (b : Bool). eqb x.location l || b) f ∙ or_true (eqb x.location l)))
    go none e ih =
        let l' = any_cons (λ (z : Entry). eqb z.location l) x q in
        let f : stores_to l q ≡ false = forth (stores_to l q) (sym ih ∙ ap is_none e) in
        here (eqb x.location l) refl e ∙ sym (ap not (l' ∙ ap (λ (b : Bool). eqb x.location l || b) f ∙ or_false (eqb x.location l)))
      where
        here : (b : Bool) → eqb x.location l ≡ b → newest q l ≡ none → is_none (newest (x ∷ q) l) ≡ not (eqb x.location l)
        here true i j = ap is_none (let k : newest (x ∷ q) l ≡ some x = rw (j, newest, i) in k) ∙ sym (ap not i)
        here false i j = ap is_none (let k : newest (x ∷ q) l ≡ none = rw (j, newest, i) in k) ∙ sym (ap not i)

-- ---- deeds by kind
deed_for : (σ : State) (k : Kind) (u : ℕ) → u < 6 → deed σ (byte_for k u) ≡ deed_of k u (thread_of σ u) (cell_of σ (place σ k u))
unfolding deed
deed_for σ k u h = let i : u < 16 = omega arith in rw (owner_for k u i, kind_for k u i)

module _ (code lengths : List ℕ) (m : QueuedMachine) (σ : State) (held : Holds code lengths m σ) (u : ℕ) (h : u < 6) where
  -- ---- a move
  module _ (ok : enabled σ (byte_for move u) ≡ true) where
    can : movable (thread_of σ u).queue (length σ.cells) ≡ true
    can = able_movable (thread_of σ u) (length σ.cells) (sym (enabled_for σ move u h) ∙ ok)

    pub some_pending : head_at m u < tail_at m u
    unfolding movable
    some_pending = go (dec_lt (head_at m u) (tail_at m u))
      where
        go : Dec (head_at m u < tail_at m u) → head_at m u < tail_at m u
        go (yes i) = i
        go (no i) = absurd (false≢true (sym (ap (λ (q : List Entry). movable q (length σ.cells)) (held.queues u h ∙ queue_none m.slots (head_at m u) (tail_at m u - head_at m u) (omega (arith, i)))) ∙ can))

    front : (thread_of σ u).queue ≡ entry_at m.slots (head_at m u) ∷ queue_at m.slots (head_at m u + 1) (tail_at m u - head_at m u - 1)
    front = held.queues u h ∙ queue_more m.slots (head_at m u) (tail_at m u - head_at m u) (let i = some_pending in omega arith)

    pub move_place : place σ move u ≡ (slot_at m (head_at m u)).location
    unfolding place target oldest_place entry_at
    move_place = ap oldest_place front

    pub move_deed : (s : Pending) → slot_at m (head_at m u) ≡ s → deed σ (byte_for move u) ≡ record { thread = u; number = s.number; location = s.location; moves = true; locks = false; looks = false; puts = true }
    unfolding deed_of number_of target moving locking looking reading reaches oldest_number oldest_place oldest_value given entry_at
    move_deed s e =
        deed_for σ move u h
        ∙ ap (λ (q : List Entry). let z : Deed = record { thread = u; number = oldest_number q; location = oldest_place q; moves = true; locks = false; looks = false; puts = given (oldest_value q) } in z) front
        ∙ ap (λ (x : Pending). let z : Deed = record { thread = u; number = x.number; location = x.location; moves = true; locks = false; looks = false; puts = true } in z) e

  -- ---- an access
  module _ (ok : enabled σ (byte_for access u) ≡ true) where
    abbrev at : ThreadState
    at = thread_at (core_of m) u

    abbrev x : Instruction
    x = instruction_at code (u * 16 + (thread_at (core_of m) u).at)

    abbrev a : Access
    a = access_of (instruction_at code (u * 16 + (thread_at (core_of m) u).at)) (thread_at (core_of m) u).registers m.memory

    abbrev later : List Instruction
    later = drop ((thread_at (core_of m) u).at + 1) (thread_code code u (get_or lengths u 0))

    able_now : able access (thread_of σ u) (length σ.cells) ≡ true
    able_now = sym (enabled_for σ access u h) ∙ ok

    local : (SC.thread_of (without_queues σ) u).local ≡ (thread_of σ u).local
    unfolding unqueued
    local = ap (λ (k : SC.Thread). k.local) (seen_thread σ u)

    pub live : SC.enabled (without_queues σ) u ≡ true
    live = Steps.enabled_of (without_queues σ) u h (ap pending local ∙ able_pending (thread_of σ u) (length σ.cells) able_now)

    rest : (thread_of σ u).local.rest ≡ instruction_at code (u * 16 + (thread_at (core_of m) u).at) ∷ drop ((thread_at (core_of m) u).at + 1) (thread_code code u (get_or lengths u 0))
    rest = ap (λ (k : Local). k.rest) (sym local) ∙ next_rest code lengths (core_of m) (without_queues σ) u held.core live x a refl refl

    locks_first : (y : Instruction) (is : List Instruction) → first_locks (y ∷ is) ≡ first_locks (y ∷ [])
    unfolding first_locks
    locks_first (Memory b) is = refl
    locks_first (Alone o) is = refl

    takes_first : (y : Instruction) (is : List Instruction) → first_takes (y ∷ is) ≡ first_takes (y ∷ [])
    unfolding first_takes
    takes_first (Memory b) is = refl
    takes_first (Alone o) is = refl

    pub access_place_lem : place σ access u ≡ first_place (instruction_at code (u * 16 + (thread_at (core_of m) u).at) ∷ [])
    unfolding place target place_of
    access_place_lem = ap first_place rest ∙ place_first x later

    pub access_locks_lem : locked (thread_of σ u).local ≡ first_locks (instruction_at code (u * 16 + (thread_at (core_of m) u).at) ∷ [])
    unfolding locked
    access_locks_lem = ap first_locks rest ∙ locks_first x later

    pub access_takes : takes (thread_of σ u).local ≡ first_takes (instruction_at code (u * 16 + (thread_at (core_of m) u).at) ∷ [])
    unfolding takes
    access_takes = ap first_takes rest ∙ takes_first x later

    -- a locked access has nothing pending, so it finds memory
    wrote : (access_of (instruction_at code (u * 16 + (thread_at (core_of m) u).at)) (thread_at (core_of m) u).registers m.memory).writes ≡ given (puts (thread_of σ u).local (cell_of σ (place σ access u)).value)
    unfolding Acts.writes SC.place place target SC.cell_of cell_of without_queues
    wrote =
        sym (next_wrote code lengths (core_of m) (without_queues σ) u held.core live x a refl refl)
        ∙ ap (λ (k : Local). given (puts k (cell_of σ (place_of k)).value)) local

    puts_now : (b : Bool) → locked (thread_of σ u).local ≡ b → given (reaches access u (thread_of σ u) (cell_of σ (place σ access u))) ≡ (b && given (puts (thread_of σ u).local (cell_of σ (place σ access u)).value))
    unfolding reaches at_once finds found_in newest given
    puts_now false e = ap (λ (b : Bool). given (at_once b (puts (thread_of σ u).local (finds u (thread_of σ u) (cell_of σ (place σ access u))).value))) e
    puts_now true e =
        let q = free_empty (thread_of σ u).queue (subst (λ (b : Bool). free b (thread_of σ u).queue ≡ true) e (able_free (thread_of σ u) (length σ.cells) able_now)) in
        ap₂ (λ (b : Bool) (l : List Entry). given (at_once b (puts (thread_of σ u).local (found_in u (newest l (place_of (thread_of σ u).local)) (cell_of σ (place σ access u))).value))) e q

    pub access_deed : deed σ (byte_for access u) ≡ record {
      thread = u;
      number = (thread_of σ u).history.done;
      location = first_place (instruction_at code (u * 16 + (thread_at (core_of m) u).at) ∷ []);
      moves = false;
      locks = first_locks (instruction_at code (u * 16 + (thread_at (core_of m) u).at) ∷ []);
      looks = first_takes (instruction_at code (u * 16 + (thread_at (core_of m) u).at) ∷ []) && not (stores_to (first_place (instruction_at code (u * 16 + (thread_at (core_of m) u).at) ∷ [])) (queue_of m u));
      puts = first_locks (instruction_at code (u * 16 + (thread_at (core_of m) u).at) ∷ []) && (access_of (instruction_at code (u * 16 + (thread_at (core_of m) u).at)) (thread_at (core_of m) u).registers m.memory).writes;
    }
    unfolding deed_of number_of target moving locking looking reading place place_of
    access_deed =
        deed_for σ access u h
        ∙ ap₂ (λ (b c : Bool). let z : Deed = record { thread = u; number = (thread_of σ u).history.done; location = place_of (thread_of σ u).local; moves = false; locks = locked (thread_of σ u).local; looks = b; puts = c } in z)
        (ap₂ (λ (b c : Bool). b && c) access_takes (none_pending (thread_of σ u).queue (place_of (thread_of σ u).local) ∙ ap₂ (λ (l : ℕ) (q : List Entry). not (stores_to l q)) access_place_lem (held.queues u h)))
        (puts_now (locked (thread_of σ u).local) refl ∙ ap₂ (λ (b c : Bool). b && c) access_locks_lem (sym wrote))
        ∙ ap₂ (λ (l : ℕ) (b : Bool). let z : Deed = record {
          thread = u;
          number = (thread_of σ u).history.done;
          location = l;
          moves = false;
          locks = b;
          looks = first_takes (x ∷ []) && not (stores_to (first_place (x ∷ [])) (queue_of m u));
          puts = first_locks (x ∷ []) && a.writes;
        } in z) access_place_lem access_locks_lem

    -- as the code has it: where the thread stands so, with this memory, at this row
    abbrev shown : ThreadState → List ℕ → ℕ → Deed
    shown j z i = record {
      thread = u;
      number = (thread_of σ u).history.done;
      location = first_place (instruction_at code i ∷ []);
      moves = false;
      locks = first_locks (instruction_at code i ∷ []);
      looks = first_takes (instruction_at code i ∷ []) && not (stores_to (first_place (instruction_at code i ∷ [])) (queue_of m u));
      puts = first_locks (instruction_at code i ∷ []) && (access_of (instruction_at code i) j.registers z).writes;
    }

    pub access_shown : (k : ThreadState) (memory : List ℕ) (row : ℕ) → thread_at (core_of m) u ≡ k → m.memory ≡ memory → row ≡ u * 16 + k.at → deed σ (byte_for access u) ≡ record {
      thread = u;
      number = (thread_of σ u).history.done;
      location = first_place (instruction_at code row ∷ []);
      moves = false;
      locks = first_locks (instruction_at code row ∷ []);
      looks = first_takes (instruction_at code row ∷ []) && not (stores_to (first_place (instruction_at code row ∷ [])) (queue_of m u));
      puts = first_locks (instruction_at code row ∷ []) && (access_of (instruction_at code row) k.registers memory).writes;
    }
    access_shown k memory row ek em er = access_deed ∙ ap₂ (λ (j : ThreadState) (z : List ℕ). shown j z (u * 16 + j.at)) ek em ∙ ap (shown k memory) (sym er)

-- ---- what the code may look at
-- a queue by the arrays that the code is given
pub same_queue : (m : QueuedMachine) (slots : List Pending) (heads tails : List ℕ) → m.slots ≡ slots → m.heads ≡ heads → m.tails ≡ tails → (u : ℕ) → queue_at slots (get_or heads u 0) (get_or tails u 0 - get_or heads u 0) ≡ queue_of m u
same_queue m slots heads tails es eh el u = λ i. queue_at (sym es i) (get_or (sym eh i) u 0) (get_or (sym el i) u 0 - get_or (sym eh i) u 0)

-- a queue ends within the slots; a thread that may access has an instruction left among sixteen
pub ends : (code lengths : List ℕ) (m : QueuedMachine) (ρ : State) → Holds code lengths m ρ → Ends m.tails
ends code lengths m ρ held t h = omega (arith, tail_below held t h)

pub short_at : (code lengths : List ℕ) (m : QueuedMachine) (ρ : State) → Holds code lengths m ρ → (u : ℕ) → u < 6 → enabled ρ (byte_for access u) ≡ true → (thread_at (core_of m) u).at < 16
short_at code lengths m ρ held u h e = let l = held_left code lengths (core_of m) (without_queues ρ) u held.core (live code lengths m ρ held u h e) in omega (arith, l, held.short u h l)

-- the slot at a queue's head, as the code finds it
pub held_slot : (code lengths : List ℕ) (m : QueuedMachine) (ρ : State) → Holds code lengths m ρ → (u : ℕ) → u < 6 → enabled ρ (byte_for move u) ≡ true → (slots : List Pending) (heads : List ℕ) → m.slots ≡ slots → m.heads ≡ heads →
    (i : ℕ) → i ≡ get_or heads u 0 → slot_at m (head_at m u) ≡ get_or slots (i % 16) no_store
held_slot code lengths m ρ held u h e slots heads es eh i ei =
    let l = some_pending code lengths m ρ held u h e in
    let n = ends code lengths m ρ held u h in
    let q : i ≡ head_at m u = ei ∙ ap (λ (x : List ℕ). get_or x u 0) (sym eh) in
    let r : i % 16 ≡ head_at m u = ap (λ (j : ℕ). j % 16) q ∙ mod-eq_of_lt (omega (arith, l, n)) in
    ap₂ (λ (s : List Pending) (j : ℕ). get_or s j no_store) es (sym r)
