-- Steps as the code has them: it names a thread by another number u, a slot by k and a location by its remainder.
use Prim.Native.Nat.{ℕ, ◌+◌, ◌-◌, ◌*◌, ◌%◌, ◌<◌, ◌≤◌}
use native.Mathlib.Omega.{arith}
use native.Mathlib.Nat.{mod-eq_of_lt}
use mathlib.Core.Path.{◌≡◌, refl, sym, ap, ap₂, subst, ◌∙◌}
use mathlib.Core.Bool.{Bool, true, false, cond, not, ◌&&◌}
use mathlib.Core.Option.{Option, none, some}
use mathlib.Core.List.{List, [], ◌∷◌}
use lib.Dec.{eqb}
use lib.ListN.{length, get_or, set}
use lib.Seq.{set-get_or}
use Rattle.file_rows.specs.Rows.{instruction_at}
use Rattle.spec_sc.specs.Local.{begins_with_access, first_place, puts}
use Rattle.spec_sc.specs.State as SC
use Rattle.spec_sc.specs.State.{initial_write}
use Rattle.spec_sc.specs.Actions.{given}
use Rattle.machine_access.specs.declared.thread.ThreadState.{ThreadState}
use Rattle.machine.specs.declared.state.LastWrite.{LastWrite}
use Rattle.machine.specs.declared.state.Machine.{Machine}
use Rattle.machine.specs.declared.stepping.After.{After}
use Rattle.machine.specs.Held as Core
use Rattle.machine.specs.Held.{idle, unwritten, thread_at, last_at, whole, ReadyThread}
use Rattle.spec_tso.specs.Queue.{newest}
use Rattle.spec_tso.specs.State.{State, access, move, thread_of, cell_of, unqueued, first_locks, locked, finds, number_of, reaches, place, step_of, able, kind_of, owner, byte_for, enabled}
use Rattle.spec_tso.specs.Actions.{reading, locking}
use Rattle.spec_tso.proofs.Bytes.{kind_low, kind_move, owner_move, owner_access}
use Rattle.spec_tso.proofs.Steps.{enabled_small, enabled_for, putting}
use Rattle.tso_machine.specs.declared.state.Pending.{Pending}
use Rattle.tso_machine.specs.declared.state.QueuedMachine.{QueuedMachine}
use Rattle.tso_machine.specs.declared.looking.Sight.{Sight}
use Rattle.tso_machine.specs.declared.meeting.Met.{Met}
use Rattle.tso_machine.specs.declared.stepping.Act.{Act}
use Rattle.tso_machine.specs.declared.stepping.Change.{Change}
use Rattle.tso_machine.specs.declared.stepping.Stepped.{Stepped}
use Rattle.tso_machine.specs.Slots.{no_store, queue_at}
use Rattle.tso_machine.specs.Held.{core_of, head_at, tail_at, slot_at, queue_of, Parts, parts_of, Holds, MayStep}
use Rattle.tso_machine.specs.Looked.{look_of}
use Rattle.tso_machine.specs.Steps.{source_of, own_of, HoldsMet, HoldsStep, behind}
use Rattle.tso_machine.proofs.HeldCore.{core_thread, tail_below}
use Rattle.tso_machine.proofs.HeldMeeting.{access_six, access_able, access_ready, access_slot, p_near, met_held}
use Rattle.tso_machine.proofs.HeldStep.{once_none, once_store, once_locked, holds_nothing, holds_locked, holds_waiting, head_room, move_number, move_place, move_puts, holds_gone, step_by_lem}

-- ---- what a caller promises is enough for the code
pub ready_row : (lengths : List ℕ) (k : ThreadState) (t u : ℕ) → ReadyThread lengths k t → u ≡ t → u * 16 + k.at < 96
ready_row lengths k t u r e = omega (arith, e, r.six, r.sixteen, r.left)

-- b's thread as the code has it, u, is one of the six
pub step_six : {code lengths : List ℕ} {m : QueuedMachine} {b t u : ℕ} → MayStep code lengths m b → t ≡ owner b → u ≡ t → u < 6
step_six may et eu = subst (λ (v : ℕ). v < 6) (sym (eu ∙ et)) (enabled_small may.state _ may.may)

pub step_ready : {code lengths : List ℕ} {m : QueuedMachine} {b t u : ℕ} → MayStep code lengths m b → t ≡ owner b → u ≡ t
    → (b < 16 → ReadyThread lengths (thread_at (core_of m) u) b) × (head_at m u ≤ 16) × (tail_at m u ≤ 16)
step_ready {code} {lengths} {m} {b} {t} {u} may et eu =
    let six : u < 6 = step_six may et eu in
    let tail : tail_at m u ≤ 16 = omega (arith, tail_below may.holds u six) in
    (λ low. subst (λ (v : ℕ). ReadyThread lengths (thread_at (core_of m) v) b) (sym (eu ∙ et ∙ (owner_access b (kind_low b low)).0)) (access_ready code lengths m may.state b may.holds low may.may), omega (arith, may.holds.ordered u six), tail)

-- ---- an access by itself, of a thread, memory, last writes and a queue that are the machine's
pub met_code : (code lengths : List ℕ) (m : QueuedMachine) (t u : ℕ) → u ≡ t → (p w : ℕ) → w ≡ p → (f : Sight) (a : After) (b : Bool) (P : Parts) → parts_of m t ≡ P
    → (begins_with_access (instruction_at code (u * 16 + P.thread.at) ∷ []) ≡ true → p ≡ first_place (instruction_at code (u * 16 + P.thread.at) ∷ []))
    → f ≡ look_of t (newest (queue_at P.slots P.head (P.tail - P.head)) p) (get_or P.memory (w % 8) 0) (get_or P.last (w % 8) unwritten)
    → ((k : Machine) (ρ : SC.State) → thread_at k t ≡ P.thread → k.memory ≡ set P.memory (w % 8) f.value → Core.Holds code lengths k ρ → SC.enabled ρ t ≡ true → SC.place ρ t < 8
    → Core.HoldsStep code lengths ρ t (whole k t t a))
    → b ≡ first_locks (instruction_at code (u * 16 + P.thread.at) ∷ [])
    → (σ : State) → Holds code lengths m σ → t < 16 → enabled σ t ≡ true → place σ access t < 8
    → HoldsMet code lengths σ t (record {
      thread = a.thread;
      source = f.source;
      value = get_or a.memory (w % 8) 0;
      location = p;
      reads = a.reads;
      locks = b;
      writes = a.writes;
      own = f.own;
    })
met_code code lengths m t u eu p w ew f a b P eP ep ef acts eb σ held low ok near =
    let here = subst Found (sym eP) (ep, ef, acts, eb) in
    let ep' = subst (λ (v : ℕ). begins_with_access (instruction_at code (v * 16 + (thread_at (core_of m) t).at) ∷ []) ≡ true → p ≡ first_place (instruction_at code (v * 16 + (thread_at (core_of m) t).at) ∷ [])) eu here.0 in
    let el : w % 8 ≡ p = mod-eq_of_lt (omega (arith, ew, p_near code lengths m σ t held low ok near p ep')) ∙ ew in
    met_held code lengths m σ t held low ok near p (w % 8) ep' el f
    (λ h. here.1 ∙ ap (λ (j : ℕ). look_of t (newest (queue_of m t) p) (get_or m.memory j 0) (last_at (core_of m) j)) el) a
    here.2 b
    (here.3 ∙ ap (λ (v : ℕ). first_locks (instruction_at code (v * 16 + (thread_at (core_of m) t).at) ∷ [])) eu)
  where
    Found : Parts → Type 0
    Found Q = (begins_with_access (instruction_at code (u * 16 + Q.thread.at) ∷ []) ≡ true → p ≡ first_place (instruction_at code (u * 16 + Q.thread.at) ∷ []))
        × (f ≡ look_of t (newest (queue_at Q.slots Q.head (Q.tail - Q.head)) p) (get_or Q.memory (w % 8) 0) (get_or Q.last (w % 8) unwritten))
        × ((k : Machine) (ρ : SC.State) → thread_at k t ≡ Q.thread → k.memory ≡ set Q.memory (w % 8) f.value → Core.Holds code lengths k ρ → SC.enabled ρ t ≡ true → SC.place ρ t < 8
        → Core.HoldsStep code lengths ρ t (whole k t t a))
        × (b ≡ first_locks (instruction_at code (u * 16 + Q.thread.at) ∷ []))

-- what an access did
abbrev act_of : ℕ → Met → Bool → Act
act_of number a b = record {
  source = a.source;
  number = number;
  location = a.location;
  reads = a.reads;
  locks = a.locks;
  puts = b;
  own = a.own;
}

-- an access that did this, with this machine behind it
abbrev did : QueuedMachine → ℕ → Met → Bool → Stepped
did m number a b = record {
  machine = m;
  act = act_of number a b;
}

-- one machine for another, array by array
same_machine : (n k : QueuedMachine) → n.threads ≡ k.threads → n.memory ≡ k.memory → n.last ≡ k.last → n.heads ≡ k.heads → n.tails ≡ k.tails → n.slots ≡ k.slots → n ≡ k
same_machine n k a b c d e f = λ i. record { threads = a i; memory = b i; last = c i; heads = d i; tails = e i; slots = f i }

-- what is stored over what stands there, or that itself
kept : {A : Type 0} (xs : List A) (l : ℕ) (v d x : A) (b : Bool) → x ≡ cond b v (get_or xs l d) → b ≡ false → set xs l x ≡ xs
kept xs l v d x b e q = ap (set xs l) (e ∙ ap (λ (c : Bool). cond c v (get_or xs l d)) q) ∙ set-get_or xs l d

stored : {A : Type 0} (xs : List A) (l : ℕ) (v d x : A) (b : Bool) → x ≡ cond b v (get_or xs l d) → b ≡ true → set xs l x ≡ set xs l v
stored xs l v d x b e q = ap (set xs l) (e ∙ ap (λ (c : Bool). cond c v (get_or xs l d)) q)

-- ---- an access put back
module _ (code lengths : List ℕ) (m : QueuedMachine) (σ : State) (t : ℕ) (held : Holds code lengths m σ) (low : t < 16) (ok : enabled σ t ≡ true) (near : place σ access t < 8)
    (a : Met) (met : HoldsMet code lengths σ t a) where
  abbrev six : t < 6
  six = access_six code lengths m σ t held low ok

  abbrev able_here : able access (thread_of σ t) (length σ.cells) ≡ true
  able_here = access_able code lengths m σ t held low ok

  number_here : (thread_at (core_of m) t).done ≡ (thread_of σ t).history.done
  unfolding unqueued
  number_here = sym (core_thread held t six).done

  -- what the step did beside the machine
  step_done : (n : QueuedMachine) (b : Bool) → Holds code lengths n (step_of σ access t) → b ≡ given (putting σ access t) → HoldsStep code lengths σ t (did n (thread_at (core_of m) t).done a b)
  unfolding number_of reading locking source_of
  step_done n b holds e =
      step_by_lem code lengths σ t access t (kind_low t low) (owner_access t (kind_low t low)).0 (did n (thread_at (core_of m) t).done a b)
      holds number_here met.location met.reads met.locks e met.source met.own

  abbrev written : Option ℕ
  written = puts (thread_of σ t).local (finds t (thread_of σ t) (cell_of σ (place σ access t))).value

  -- the access writes nothing
  access_nothing : a.writes ≡ false
      → HoldsStep code lengths σ t (did (record { threads = set m.threads t a.thread; memory = m.memory; last = m.last; heads = m.heads; tails = m.tails; slots = m.slots }) (thread_at (core_of m) t).done a false)
  unfolding reaches given
  access_nothing e =
      let q : written ≡ none = met.puts ∙ ap (λ (b : Bool). cond b (some a.value) none) e in
      step_done (record { threads = set m.threads t a.thread; memory = m.memory; last = m.last; heads = m.heads; tails = m.tails; slots = m.slots }) false
      (holds_nothing code lengths m σ t held six able_here a met e) (sym (ap given (once_none (locked (thread_of σ t).local) written q)))

  module _ (e : a.writes ≡ true) where
    some_written : written ≡ some a.value
    some_written = met.puts ∙ ap (λ (b : Bool). cond b (some a.value) none) e

    abbrev locking_machine : ℕ → QueuedMachine
    locking_machine l = record {
      threads = set m.threads t a.thread;
      memory = set m.memory l a.value;
      last = set m.last l (record { thread = t; number = (thread_at (core_of m) t).done });
      heads = m.heads;
      tails = m.tails;
      slots = m.slots;
    }

    -- the access is locked, at the location l
    access_locked : (l : ℕ) → l ≡ a.location → a.locks ≡ true → HoldsStep code lengths σ t (did (locking_machine l) (thread_at (core_of m) t).done a true)
    unfolding reaches given
    access_locked l el q =
        step_done (locking_machine l) true
        (holds_locked code lengths m σ t held six able_here a met near e l (thread_at (core_of m) t).done el number_here q)
        (sym (ap given (once_locked (locked (thread_of σ t).local) written a.value (sym met.locks ∙ q) some_written)))

    abbrev waiting_machine : ℕ → QueuedMachine
    waiting_machine k = record {
      threads = set m.threads t a.thread;
      memory = m.memory;
      last = m.last;
      heads = m.heads;
      tails = set m.tails t (tail_at m t + 1);
      slots = set m.slots k (record { value = a.value; number = (thread_at (core_of m) t).done; location = a.location });
    }

    -- the access is a store, put into slot k
    access_waiting : (k : ℕ) → k ≡ tail_at m t → a.locks ≡ false → HoldsStep code lengths σ t (did (waiting_machine k) (thread_at (core_of m) t).done a false)
    unfolding reaches given
    access_waiting k ek q =
        subst (λ (j : ℕ). HoldsStep code lengths σ t (did (waiting_machine j) (thread_at (core_of m) t).done a false)) (sym ek)
        (step_done (waiting_machine (tail_at m t)) false
        (holds_waiting code lengths m σ t held six able_here a met near e (thread_at (core_of m) t).done number_here q)
        (sym (ap given (once_store (locked (thread_of σ t).local) written (sym met.locks ∙ q)))))

  -- what the code stores of it at location l and slot j: the values v, w, e and n, each chosen by whether it puts (x) or waits (y)
  module _ (l j : ℕ) (el : l ≡ a.location) (ej : j ≡ tail_at m t) (x y : Bool) (ex : x ≡ (a.writes && a.locks)) (ey : y ≡ (a.writes && not a.locks)) where
    -- as the parts of the machine have it
    abbrev Stores : Parts → ℕ → LastWrite → Pending → ℕ → Type 0
    Stores P v w e n = (v ≡ cond x a.value (get_or P.memory l 0)) × (w ≡ cond x (record { thread = t; number = P.thread.done }) (get_or P.last l unwritten))
        × (e ≡ cond y (record { value = a.value; number = P.thread.done; location = a.location }) (get_or P.slots j no_store)) × (n ≡ cond y (P.tail + 1) P.tail)

    abbrev change : Parts → ℕ → LastWrite → Pending → ℕ → Change
    change P v w e n = record {
      thread = a.thread;
      value = v;
      last = w;
      place = l;
      slot = e;
      at = j;
      head = P.head;
      tail = n;
      act = act_of P.thread.done a x;
    }

    change_here : (v : ℕ) (w : LastWrite) (e : Pending) (n : ℕ) → Stores (parts_of m t) v w e n → HoldsStep code lengths σ t (behind m t (change (parts_of m t) v w e n))
    change_here v w e n q = go a.writes a.locks refl refl
      where
        by : (k : QueuedMachine) (b : Bool) → HoldsStep code lengths σ t (did k (thread_at (core_of m) t).done a b) → (behind m t (change (parts_of m t) v w e n)).machine ≡ k → x ≡ b
            → HoldsStep code lengths σ t (behind m t (change (parts_of m t) v w e n))
        by k b h f g = subst (HoldsStep code lengths σ t) (sym (ap₂ (λ (n : QueuedMachine) (c : Bool). did n (thread_at (core_of m) t).done a c) f g)) h

        go : (c d : Bool) → a.writes ≡ c → a.locks ≡ d → HoldsStep code lengths σ t (behind m t (change (parts_of m t) v w e n))
        go false d f g =
            let x' : x ≡ false = ex ∙ ap (λ (b : Bool). b && a.locks) f in
            let y' : y ≡ false = ey ∙ ap (λ (b : Bool). b && not a.locks) f in
            by (record { threads = set m.threads t a.thread; memory = m.memory; last = m.last; heads = m.heads; tails = m.tails; slots = m.slots }) false (access_nothing f)
            (same_machine _ _ refl (kept m.memory l _ 0 v x q.0 x') (kept m.last l _ unwritten w x q.1 x') (set-get_or m.heads t 0) (kept m.tails t _ 0 n y q.3 y') (kept m.slots j _ no_store e y q.2 y')) x'
        go true true f g =
            let x' : x ≡ true = ex ∙ ap₂ (λ (b c : Bool). b && c) f g in
            let y' : y ≡ false = ey ∙ ap₂ (λ (b c : Bool). b && not c) f g in
            by (locking_machine f l) true (access_locked f l el g)
            (same_machine _ _ refl (stored m.memory l _ 0 v x q.0 x') (stored m.last l _ unwritten w x q.1 x') (set-get_or m.heads t 0) (kept m.tails t _ 0 n y q.3 y') (kept m.slots j _ no_store e y q.2 y')) x'
        go true false f g =
            let x' : x ≡ false = ex ∙ ap₂ (λ (b c : Bool). b && c) f g in
            let y' : y ≡ true = ey ∙ ap₂ (λ (b c : Bool). b && not c) f g in
            by (waiting_machine f j) false (access_waiting f j ej g)
            (same_machine _ _ refl (kept m.memory l _ 0 v x q.0 x') (kept m.last l _ unwritten w x q.1 x') (set-get_or m.heads t 0) (stored m.tails t _ 0 n y q.3 y') (stored m.slots j _ no_store e y q.2 y')) x'

    pub change_stored : (P : Parts) → parts_of m t ≡ P → (v : ℕ) (w : LastWrite) (e : Pending) (n : ℕ) → Stores P v w e n → HoldsStep code lengths σ t (behind m t (change P v w e n))
    change_stored P eP v w e n = subst (λ (Q : Parts). Stores Q v w e n → HoldsStep code lengths σ t (behind m t (change Q v w e n))) eP (change_here v w e n)

-- an access by the code: the location and the slot are remainders
pub access_code : (code lengths : List ℕ) (m : QueuedMachine) (σ : State) (t : ℕ) (held : Holds code lengths m σ) (low : t < 16) (ok : enabled σ t ≡ true) (near : place σ access t < 8)
    (a : Met) (met : HoldsMet code lengths σ t a) (P : Parts) → parts_of m t ≡ P → (i k : ℕ) → i ≡ a.location → k ≡ P.tail → (x y : Bool) → x ≡ (a.writes && a.locks) → y ≡ (a.writes && not a.locks)
    → (v : ℕ) (w : LastWrite) (e : Pending) (n : ℕ)
    → v ≡ cond x a.value (get_or P.memory (i % 8) 0) → w ≡ cond x (record { thread = t; number = P.thread.done }) (get_or P.last (i % 8) unwritten)
    → e ≡ cond y (record { value = a.value; number = P.thread.done; location = a.location }) (get_or P.slots (k % 16) no_store) → n ≡ cond y (P.tail + 1) P.tail
    → HoldsStep code lengths σ t (behind m t (record {
      thread = a.thread;
      value = v;
      last = w;
      place = i % 8;
      slot = e;
      at = k % 16;
      head = P.head;
      tail = n;
      act = act_of P.thread.done a x;
    }))
access_code code lengths m σ t held low ok near a met P eP i k ei ek x y ex ey v w e n ev ew ee en =
    let tail : k ≡ tail_at m t = ek ∙ sym (ap (λ (Q : Parts). Q.tail) eP) in
    let el : i % 8 ≡ a.location = mod-eq_of_lt (omega (arith, ei, met.location, near)) ∙ ei in
    let ej : k % 16 ≡ tail_at m t = mod-eq_of_lt (omega (arith, tail, access_slot code lengths m σ t held low ok)) ∙ tail in
    change_stored code lengths m σ t held low ok near a met (i % 8) (k % 16) el ej x y ex ey P eP v w e n (ev, ew, ee, en)

-- ---- a move
module _ (code lengths : List ℕ) (m : QueuedMachine) (σ : State) (t : ℕ) (held : Holds code lengths m σ) (ok : enabled σ (byte_for move t) ≡ true) where
  move_six : t < 6
  move_six = subst (λ (v : ℕ). v < 6) (owner_move t) (enabled_small σ (byte_for move t) ok)

  move_may : able move (thread_of σ t) (length σ.cells) ≡ true
  move_may = sym (enabled_for σ move t move_six) ∙ ok

  abbrev moving_machine : ℕ → QueuedMachine
  moving_machine l = record {
    threads = m.threads;
    memory = set m.memory l (slot_at m (head_at m t)).value;
    last = set m.last l (record { thread = t; number = (slot_at m (head_at m t)).number });
    heads = set m.heads t (head_at m t + 1);
    tails = m.tails;
    slots = m.slots;
  }

  abbrev act_moving : Pending → Act
  act_moving e = record {
    source = record { thread = 255; number = 255 };
    number = e.number;
    location = e.location;
    reads = false;
    locks = false;
    puts = true;
    own = false;
  }

  abbrev moving : QueuedMachine → ℕ → Stepped
  moving n k = record { machine = n; act = act_moving (slot_at m k) }

  moving_held : (l : ℕ) → l ≡ (slot_at m (head_at m t)).location → HoldsStep code lengths σ (byte_for move t) (moving (moving_machine l) (head_at m t))
  unfolding reading locking source_of own_of initial_write given
  moving_held l el =
      step_by_lem code lengths σ (byte_for move t) move t (kind_move t) (owner_move t) (moving (moving_machine l) (head_at m t))
      (holds_gone code lengths m σ t held move_six move_may l el) (move_number code lengths m σ t held move_six move_may) (move_place code lengths m σ t held move_six move_may) refl refl
      (sym (ap given (move_puts code lengths m σ t held move_six move_may))) refl refl

  -- what the code stores of it: the slot and the location are remainders
  abbrev move_change : Parts → ℕ → ℕ → Change
  move_change P k l = record {
    thread = P.thread;
    value = (get_or P.slots k no_store).value;
    last = record { thread = t; number = (get_or P.slots k no_store).number };
    place = l;
    slot = get_or P.slots k no_store;
    at = k;
    head = P.head + 1;
    tail = P.tail;
    act = act_moving (get_or P.slots k no_store);
  }

  move_here : (k l : ℕ) → k ≡ head_at m t → l ≡ (slot_at m k).location → HoldsStep code lengths σ (byte_for move t) (behind m t (move_change (parts_of m t) k l))
  move_here k l ek el =
      subst (λ (j : ℕ). l ≡ (slot_at m j).location → HoldsStep code lengths σ (byte_for move t) (behind m t (move_change (parts_of m t) j l))) (sym ek)
      (λ q. subst (λ (n : QueuedMachine). HoldsStep code lengths σ (byte_for move t) (moving n (head_at m t)))
      (sym (same_machine (behind m t (move_change (parts_of m t) (head_at m t) l)).machine (moving_machine l) (set-get_or m.threads t idle) refl refl refl (set-get_or m.tails t 0) (set-get_or m.slots (head_at m t) no_store)))
      (moving_held l q)) el

  pub move_code : (P : Parts) → parts_of m t ≡ P → (h w : ℕ) → h ≡ P.head → w ≡ (get_or P.slots (h % 16) no_store).location → HoldsStep code lengths σ (byte_for move t) (behind m t (move_change P (h % 16) (w % 8)))
  move_code P eP h w eh ew =
      let f = subst (λ (Q : Parts). (h ≡ Q.head) × (w ≡ (get_or Q.slots (h % 16) no_store).location)) (sym eP) (eh, ew) in
      let room = head_room code lengths m σ t held move_six move_may in
      let k : h % 16 ≡ head_at m t = mod-eq_of_lt (omega (arith, f.0, room)) ∙ f.0 in
      let near : (slot_at m (h % 16)).location < 8 = subst (λ (j : ℕ). (slot_at m j).location < 8) (sym k) (held.places (head_at m t) room) in
      let l : w % 8 ≡ (slot_at m (h % 16)).location = mod-eq_of_lt (omega (arith, f.1, near)) ∙ f.1 in
      subst (λ (Q : Parts). HoldsStep code lengths σ (byte_for move t) (behind m t (move_change Q (h % 16) (w % 8)))) eP (move_here (h % 16) (w % 8) k l)

-- ---- by the byte
module _ (code lengths : List ℕ) (b u : ℕ) (eu : u ≡ owner b) (c : Change) (P : Parts) where
  pub step_low : b < 16
      → ((m : QueuedMachine) (σ : State) → Holds code lengths m σ → parts_of m b ≡ P → enabled σ b ≡ true → place σ access b < 8 → HoldsStep code lengths σ b (behind m b c))
      → (m : QueuedMachine) (σ : State) → Holds code lengths m σ → parts_of m u ≡ P → enabled σ b ≡ true → place σ (kind_of b) (owner b) < 8 → HoldsStep code lengths σ b (behind m u c)
  step_low low f m σ held eP ok near =
      let e : u ≡ b = eu ∙ (owner_access b (kind_low b low)).0 in
      subst (λ (v : ℕ). HoldsStep code lengths σ b (behind m v c)) (sym e)
      (f m σ held (subst (λ (v : ℕ). parts_of m v ≡ P) e eP) ok (subst (λ (v : ℕ). v < 8) (ap₂ (place σ) (kind_low b low) (owner_access b (kind_low b low)).0) near))

  same_byte : 16 ≤ b → byte_for move (b - 16) ≡ b
  unfolding byte_for
  same_byte h = omega arith

  pub step_high : 16 ≤ b
      → ((m : QueuedMachine) (σ : State) → Holds code lengths m σ → parts_of m (b - 16) ≡ P → enabled σ (byte_for move (b - 16)) ≡ true → HoldsStep code lengths σ (byte_for move (b - 16)) (behind m (b - 16) c))
      → (m : QueuedMachine) (σ : State) → Holds code lengths m σ → parts_of m u ≡ P → enabled σ b ≡ true → HoldsStep code lengths σ b (behind m u c)
  step_high h f m σ held eP ok =
      let e : u ≡ b - 16 = eu ∙ ap owner (sym (same_byte h)) ∙ owner_move (b - 16) in
      subst (λ (v : ℕ). HoldsStep code lengths σ b (behind m v c)) (sym e)
      (subst (λ (v : ℕ). HoldsStep code lengths σ v (behind m (b - 16) c)) (same_byte h)
      (f m σ held (subst (λ (v : ℕ). parts_of m v ≡ P) e eP) (ap (enabled σ) (same_byte h) ∙ ok)))
