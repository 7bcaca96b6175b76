-- A thread's next access by itself. To the step of sequential consistency memory is shown with what the thread finds at the access's location;
-- what that step gives back of the thread, and the value that it leaves there, are those of the access here.
use Prim.Native.Nat.{ℕ, suc, ◌+◌, ◌*◌, ◌<◌, ◌≤◌}
use native.Mathlib.Omega.{arith}
use native.Mathlib.Decide.{ℕ_discrete}
use mathlib.Core.Path.{◌≡◌, refl, sym, ap, subst, ◌∙◌}
use mathlib.Core.Logic.{◌≢◌}
use mathlib.Core.Bool.{Bool, true, cond}
use mathlib.Core.Option.{Option, none, some}
use mathlib.Core.List.{List, [], ◌∷◌}
use lib.Dec.{eqb}
use lib.ListN.{length, get_or, set, drop, length-set}
use lib.Seq.{get_or-set_same, get_or-set_other}
use Rattle.spec_file.specs.declared.instruction.Instruction.{Instruction}
use Rattle.spec_file.specs.declared.instruction.Instruction.TheVariants.{Memory, Alone}
use Rattle.file_rows.specs.Rows.{instruction_at, thread_code}
use Rattle.spec_sc.specs.Local.{Local, begins_with_access, first_place, pending, place_of, takes, puts, next}
use Rattle.spec_sc.specs.State as SC
use Rattle.spec_sc.specs.State.{Cell, fresh_cell, latest}
use Rattle.spec_sc.specs.Actions as SCActions
use Rattle.spec_sc.specs.Actions.{given}
use Rattle.spec_sc.proofs.Access.{next_fewer}
use Rattle.spec_sc.proofs.Steps as SCSteps
use Rattle.spec_sc.proofs.Change as SCChange
use Rattle.graph_writer.specs.Notes.{note, note_bytes}
use Rattle.graph_writer.proofs.NotesHeld.{flag, byte_wrote}
use Rattle.graph_writer.proofs.NoteGraph.{noted_wrote}
use Rattle.machine_access.specs.declared.thread.ThreadState.{ThreadState}
use Rattle.machine_access.proofs.HeldSettling.{code_at_lem}
use Rattle.machine.specs.declared.state.LastWrite.{LastWrite}
use Rattle.machine.specs.declared.state.Machine.{Machine}
use Rattle.machine.specs.declared.stepping.After.{After}
use Rattle.machine.specs.Held as Core
use Rattle.machine.specs.Held.{thread_at, last_at, idle, event_of, whole, HoldsThread, ReadyThread}
use Rattle.spec_tso.specs.Queue.{Entry, newest, found_in}
use Rattle.spec_tso.specs.State.{Thread, State, access, thread_of, cell_of, unqueued, without_queues, first_locks, locked, finds, target, thread_behind, place, able, enabled}
use Rattle.spec_tso.proofs.Bytes.{kind_low, owner_access}
use Rattle.spec_tso.proofs.Steps.{enabled_small, enabled_access, able_pending}
use Rattle.spec_tso.proofs.Change.{access_done}
use Rattle.spec_tso.proofs.Seen.{seen_thread}
use Rattle.tso_machine.specs.declared.state.QueuedMachine.{QueuedMachine}
use Rattle.tso_machine.specs.declared.looking.Sight.{Sight}
use Rattle.tso_machine.specs.Held.{core_of, tail_at, queue_of, Holds}
use Rattle.tso_machine.specs.Looked.{look_of, is_there}
use Rattle.tso_machine.specs.Steps.{own_of, HoldsMet}
use Rattle.tso_machine.proofs.HeldCore.{core_eight, core_thread, core_value, core_source, pending_left, tail_below}

-- ---- what the code finds is what the thread finds
look_value : (t : ℕ) (o : Option Entry) (v : ℕ) (w : LastWrite) (c : Cell) → c.value ≡ v → (look_of t o v w).value ≡ (found_in t o c).value
unfolding look_of found_in
look_value t (some e) v w c q = refl
look_value t none v w c q = sym q

look_source : (t : ℕ) (o : Option Entry) (v : ℕ) (w : LastWrite) (c : Cell) → latest c.writes ≡ event_of w → event_of (look_of t o v w).source ≡ (found_in t o c).source
unfolding look_of found_in
look_source t (some e) v w c q = refl
look_source t none v w c q = sym q

look_own : (t : ℕ) (o : Option Entry) (v : ℕ) (w : LastWrite) → (look_of t o v w).own ≡ is_there o
unfolding look_of is_there
look_own t (some e) v w = refl
look_own t none v w = refl

-- ---- the first instruction says it all
first_begins : (x : Instruction) (is : List Instruction) → begins_with_access (x ∷ is) ≡ begins_with_access (x ∷ [])
unfolding begins_with_access
first_begins (Memory a) is = refl
first_begins (Alone o) is = refl

first_place_lem : (x : Instruction) (is : List Instruction) → first_place (x ∷ is) ≡ first_place (x ∷ [])
unfolding first_place
first_place_lem (Memory a) is = refl
first_place_lem (Alone o) is = refl

pub first_locks_lem : (x : Instruction) (is : List Instruction) → first_locks (x ∷ is) ≡ first_locks (x ∷ [])
unfolding first_locks
first_locks_lem (Memory a) is = refl
first_locks_lem (Alone o) is = refl

-- a thread that agrees in its local state and in the number of its accesses is held as well
alike_held : (c : List Instruction) (k : ThreadState) (g h : SC.Thread) → g.local ≡ h.local → g.history.done ≡ h.history.done → HoldsThread c k g → HoldsThread c k h
alike_held c k g h el ed held = record {
  rest = ap (λ (x : Local). x.rest) (sym el) ∙ held.rest;
  failed = ap (λ (x : Local). x.failed) (sym el) ∙ held.failed;
  done = sym ed ∙ held.done;
  settled = λ b. subst (λ (x : Local). pending x ≡ true) el (held.settled b);
  bounded = held.bounded;
}

module _ (code lengths : List ℕ) (m : QueuedMachine) (σ : State) (t : ℕ) (held : Holds code lengths m σ) (low : t < 16) (ok : enabled σ t ≡ true) where
  pub access_six : t < 6
  access_six = subst (λ (u : ℕ). u < 6) (owner_access t (kind_low t low)).0 (enabled_small σ t ok)

  pub access_able : able access (thread_of σ t) (length σ.cells) ≡ true
  access_able = sym (enabled_access σ t access_six) ∙ ok

  pub access_left : (thread_at (core_of m) t).at < get_or lengths t 0
  access_left = pending_left held t access_six (able_pending (thread_of σ t) (length σ.cells) access_able)

  pub access_ready : ReadyThread lengths (thread_at (core_of m) t) t
  access_ready = record { six = access_six; sixteen = held.short t access_six access_left; left = access_left; bounded = (core_thread held t access_six).bounded }

  pub access_tail : tail_at m t ≤ 16
  access_tail = omega (arith, tail_below held t access_six)

  -- there is a slot for one store more
  pub access_slot : tail_at m t < 16
  access_slot = omega (arith, tail_below held t access_six, next_fewer (thread_of σ t).local 0 (able_pending (thread_of σ t) (length σ.cells) access_able))

  abbrev h : Thread
  h = thread_of σ t

  abbrev x : Instruction
  x = instruction_at code (t * 16 + (thread_at (core_of m) t).at)

  abbrev is : List Instruction
  is = drop (suc (thread_at (core_of m) t).at) (thread_code code t (get_or lengths t 0))

  rest : h.local.rest ≡ x ∷ is
  unfolding unqueued
  rest = (core_thread held t access_six).rest ∙ code_at_lem code t (get_or lengths t 0) (thread_at (core_of m) t).at access_left

  begins : begins_with_access (x ∷ []) ≡ true
  unfolding pending
  begins = sym (first_begins x is) ∙ ap begins_with_access (sym rest) ∙ able_pending h (length σ.cells) access_able

  goes : place σ access t ≡ first_place (x ∷ [])
  unfolding place target place_of
  goes = ap first_place rest ∙ first_place_lem x is

  locks_it : locked h.local ≡ first_locks (x ∷ [])
  unfolding locked
  locks_it = ap first_locks rest ∙ first_locks_lem x is

  -- ---- p its location as the code has it
  module _ (near : place σ access t < 8) (p : ℕ) (ep : begins_with_access (x ∷ []) ≡ true → p ≡ first_place (x ∷ [])) where
    here : p ≡ place σ access t
    here = ep begins ∙ sym goes

    pub p_near : p < 8
    p_near = omega (arith, here, near)

  -- f what the code finds there, a what the step of sequential consistency gives back
  module _ (near : place σ access t < 8) (p l : ℕ) (ep : begins_with_access (x ∷ []) ≡ true → p ≡ first_place (x ∷ [])) (el : l ≡ p)
      (f : Sight) (ef : p < 8 → f ≡ look_of t (newest (queue_of m t) p) (get_or m.memory p 0) (last_at (core_of m) p)) where
    abbrev at_place : p ≡ place σ access t
    at_place = here near p ep

    abbrev below_eight : p < 8
    below_eight = p_near near p ep

    abbrev c : Cell
    c = cell_of σ (place σ access t)

    abbrev sought : Option Entry
    sought = newest h.queue (place_of h.local)

    same_sought : newest (queue_of m t) p ≡ sought
    unfolding place target
    same_sought = ap (λ (q : List Entry). newest q p) (sym (held.queues t access_six)) ∙ ap (newest h.queue) at_place

    seen_here : f ≡ look_of t sought (get_or m.memory p 0) (last_at (core_of m) p)
    seen_here = ef below_eight ∙ ap (λ (o : Option Entry). look_of t o (get_or m.memory p 0) (last_at (core_of m) p)) same_sought

    cell_value : c.value ≡ get_or m.memory p 0
    cell_value = core_value held (place σ access t) near ∙ ap (λ (j : ℕ). get_or m.memory j 0) (sym at_place)

    found_value : f.value ≡ (finds t h c).value
    unfolding finds
    found_value = ap (λ (s : Sight). s.value) seen_here ∙ look_value t sought (get_or m.memory p 0) (last_at (core_of m) p) c cell_value

    found_source : event_of f.source ≡ (finds t h c).source
    unfolding finds
    found_source =
        ap (λ (s : Sight). event_of s.source) seen_here
        ∙ look_source t sought (get_or m.memory p 0) (last_at (core_of m) p) c (core_source held (place σ access t) near ∙ ap (λ (j : ℕ). event_of (last_at (core_of m) j)) (sym at_place))

    found_own : f.own ≡ own_of access h
    unfolding own_of
    found_own = ap (λ (s : Sight). s.own) seen_here ∙ look_own t sought (get_or m.memory p 0) (last_at (core_of m) p)

    -- ---- the state of sequential consistency that is shown to the step
    shown : Cell
    shown = record { value = f.value; writes = (cell_of σ l).writes }

    τ : SC.State
    τ = record { threads = (without_queues σ).threads; cells = set σ.cells l shown }

    n : Machine
    n = record { threads = m.threads; memory = set m.memory l f.value; last = m.last }

    inside : l < length σ.cells
    inside = omega (arith, el, below_eight, core_eight held)

    same_thread : (u : ℕ) → SC.thread_of (without_queues σ) u ≡ SC.thread_of τ u
    unfolding SC.thread_of τ
    same_thread u = refl

    cell_shown : SC.cell_of τ l ≡ shown
    unfolding SC.cell_of τ
    cell_shown = get_or-set_same σ.cells l shown (fresh_cell 0) inside

    cell_else : (j : ℕ) → j ≢ l → SC.cell_of τ j ≡ cell_of σ j
    unfolding SC.cell_of cell_of τ
    cell_else j ne = get_or-set_other σ.cells l j shown (fresh_cell 0) ne

    shown_value : (j : ℕ) → j < 8 → Dec (j ≡ l) → (SC.cell_of τ j).value ≡ get_or (set m.memory l f.value) j 0
    unfolding shown
    shown_value j b (yes q) =
        ap (λ (i : ℕ). (SC.cell_of τ i).value) q ∙ ap (λ (k : Cell). k.value) cell_shown
        ∙ sym (ap (λ (i : ℕ). get_or (set m.memory l f.value) i 0) q ∙ get_or-set_same m.memory l f.value 0 (omega (arith, el, below_eight, held.core.sizes.1)))
    shown_value j b (no q) = ap (λ (k : Cell). k.value) (cell_else j q) ∙ core_value held j b ∙ sym (get_or-set_other m.memory l j f.value 0 q)

    shown_source : (j : ℕ) → j < 8 → Dec (j ≡ l) → latest (SC.cell_of τ j).writes ≡ event_of (last_at (core_of m) j)
    unfolding shown
    shown_source j b (yes q) =
        ap (λ (i : ℕ). latest (SC.cell_of τ i).writes) q ∙ ap (λ (k : Cell). latest k.writes) cell_shown
        ∙ ap (λ (i : ℕ). latest (cell_of σ i).writes) (sym q) ∙ core_source held j b
    shown_source j b (no q) = ap (λ (k : Cell). latest k.writes) (cell_else j q) ∙ core_source held j b

    shown_held : Core.Holds code lengths n τ
    unfolding n τ
    shown_held = record {
      sizes = (held.core.sizes.0, length-set m.memory l f.value ∙ held.core.sizes.1, held.core.sizes.2);
      six = held.core.six;
      eight = length-set σ.cells l shown ∙ core_eight held;
      threads = λ u b. subst (HoldsThread (thread_code code u (get_or lengths u 0)) (thread_at (core_of m) u)) (same_thread u) (held.core.threads u b);
      registers = λ u b. ap (λ (g : SC.Thread). g.local.registers) (sym (same_thread u)) ∙ held.core.registers u b;
      values = λ j b. shown_value j b (ℕ_discrete j l);
      sources = λ j b. shown_source j b (ℕ_discrete j l);
    }

    same_local_lem : (SC.thread_of τ t).local ≡ h.local
    unfolding unqueued
    same_local_lem = ap (λ (g : SC.Thread). g.local) (sym (same_thread t) ∙ seen_thread σ t)

    same_done : (SC.thread_of τ t).history.done ≡ h.history.done
    unfolding unqueued
    same_done = ap (λ (g : SC.Thread). g.history.done) (sym (same_thread t) ∙ seen_thread σ t)

    shown_enabled : SC.enabled τ t ≡ true
    shown_enabled = SCSteps.enabled_of τ t access_six (ap pending same_local_lem ∙ able_pending h (length σ.cells) access_able)

    shown_place : SC.place τ t ≡ l
    unfolding SC.place place target
    shown_place = ap place_of same_local_lem ∙ sym at_place ∙ sym el

    shown_near : SC.place τ t < 8
    shown_near = omega (arith, shown_place, el, below_eight)

    -- what stands there when the access meets it
    met_value : (SC.cell_of τ (SC.place τ t)).value ≡ (finds t h c).value
    unfolding shown
    met_value = ap (λ (j : ℕ). (SC.cell_of τ j).value) shown_place ∙ ap (λ (k : Cell). k.value) cell_shown ∙ found_value

    module _ (a : After)
        (acts : (k : Machine) (ρ : SC.State) → thread_at k t ≡ thread_at (core_of m) t → k.memory ≡ set m.memory l f.value → Core.Holds code lengths k ρ → SC.enabled ρ t ≡ true → SC.place ρ t < 8
        → Core.HoldsStep code lengths ρ t (whole k t t a)) where
      stepped : Core.HoldsStep code lengths τ t (whole n t t a)
      unfolding n
      stepped = acts n τ refl refl shown_held shown_enabled shown_near

      range : t < length τ.threads
      range = SCSteps.enabled_range τ t shown_enabled

      behind_local : (SC.thread_of (SC.step τ t) t).local ≡ (thread_behind access t h c).local
      unfolding SC.advanced thread_behind
      behind_local =
          ap (λ (g : SC.Thread). g.local) (SCSteps.thread_own τ t range)
          ∙ ap (λ (k : Local). next k (SC.cell_of τ (SC.place τ t)).value) same_local_lem ∙ ap (next h.local) met_value

      behind_done : (SC.thread_of (SC.step τ t) t).history.done ≡ (thread_behind access t h c).history.done
      unfolding SC.advanced
      behind_done =
          ap (λ (g : SC.Thread). g.history.done) (SCSteps.thread_own τ t range)
          ∙ SCChange.noted_done (takes (SC.thread_of τ t).local) (latest (SC.cell_of τ (SC.place τ t)).writes) (SC.thread_of τ t).history
          ∙ ap suc same_done ∙ sym (access_done t h c)

      stored : get_or (set m.threads t a.thread) t idle ≡ a.thread
      stored = get_or-set_same m.threads t a.thread idle (omega (arith, access_six, held.core.sizes.0))

      thread_held : HoldsThread (thread_code code t (get_or lengths t 0)) a.thread (unqueued (thread_behind access t h c))
      unfolding n unqueued
      thread_held =
          subst (λ (k : ThreadState). HoldsThread (thread_code code t (get_or lengths t 0)) k (unqueued (thread_behind access t h c))) stored
          (alike_held (thread_code code t (get_or lengths t 0)) (get_or (set m.threads t a.thread) t idle) (SC.thread_of (SC.step τ t) t) (unqueued (thread_behind access t h c))
          behind_local behind_done (stepped.holds.threads t access_six))

      registers_held : (thread_behind access t h c).local.registers ≡ a.thread.registers
      unfolding n
      registers_held =
          ap (λ (k : Local). k.registers) (sym behind_local)
          ∙ stepped.holds.registers t (omega (arith, range, SCSteps.step_threads τ t)) ∙ ap (λ (k : ThreadState). k.registers) stored

      -- what it writes
      abbrev put : Option ℕ
      put = puts h.local (finds t h c).value

      same_put : puts (SC.thread_of τ t).local (SC.cell_of τ (SC.place τ t)).value ≡ put
      same_put = ap (λ (k : Local). puts k (SC.cell_of τ (SC.place τ t)).value) same_local_lem ∙ ap (puts h.local) met_value

      writes_held : a.writes ≡ given put
      unfolding SCActions.writes n
      writes_held =
          sym (flag a.writes) ∙ ap (λ (bs : List ℕ). eqb (get_or bs 6 0) 1) stepped.noted ∙ byte_wrote (note τ t) ∙ noted_wrote τ t ∙ ap given same_put

      value_held : (v : ℕ) → put ≡ some v → get_or a.memory l 0 ≡ v
      unfolding n
      value_held v e =
          sym (stepped.holds.values l (omega (arith, el, below_eight)))
          ∙ (SCChange.wrote_own τ t l v (omega (arith, shown_near, shown_held.eight)) (sym shown_place) (same_put ∙ e)).1

      puts_held : put ≡ cond a.writes (some (get_or a.memory l 0)) none
      unfolding given
      puts_held = go put refl
        where
          go : (o : Option ℕ) → put ≡ o → put ≡ cond a.writes (some (get_or a.memory l 0)) none
          go none e = e ∙ sym (ap (λ (b : Bool). cond b (some (get_or a.memory l 0)) none) (writes_held ∙ ap given e))
          go (some v) e = e ∙ ap some (sym (value_held v e)) ∙ sym (ap (λ (b : Bool). cond b (some (get_or a.memory l 0)) none) (writes_held ∙ ap given e))

      reads_held : a.reads ≡ takes h.local
      unfolding note_bytes note n
      reads_held = sym (flag a.reads) ∙ ap (λ (bs : List ℕ). eqb (get_or bs 3 0) 1) stepped.noted ∙ flag (takes (SC.thread_of τ t).local) ∙ ap takes same_local_lem

      pub met_held : (b : Bool) → b ≡ first_locks (x ∷ []) → HoldsMet code lengths σ t (record {
        thread = a.thread;
        source = f.source;
        value = get_or a.memory l 0;
        location = p;
        reads = a.reads;
        locks = b;
        writes = a.writes;
        own = f.own;
      })
      met_held b eb = record {
        thread = thread_held;
        registers = registers_held;
        puts = puts_held;
        location = at_place;
        reads = reads_held;
        locks = eb ∙ sym locks_it;
        source = found_source;
        own = found_own;
      }
