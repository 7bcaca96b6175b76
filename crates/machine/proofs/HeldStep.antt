-- A step of the machine: the thread behind its access, the location, and so the whole state.
use Prim.Native.Nat.{ℕ, ◌+◌, ◌*◌, ◌%◌, ◌<◌, ◌≤◌}
use native.Mathlib.Omega.{arith}
use native.Mathlib.Decide.{ℕ_discrete}
use native.Mathlib.Nat.{mod-eq_of_lt}
use mathlib.Core.Path.{◌≡◌, refl, sym, ap, subst, ◌∙◌}
use mathlib.Core.Logic.{inl, inr, ◌≢◌}
use mathlib.Core.Bool.{Bool, true, false, cond}
use mathlib.Core.Option.{none, some}
use mathlib.Core.List.{List, [], ◌∷◌}
use lib.Dec.{eqb}
use lib.ListN.{length, get_or, set, drop, length-drop, length-set}
use lib.Seq.{get_or-set_other, get_or-set_same, set-get_or}
use mir.Val.{bool_byte}
use Rattle.spec_file.specs.declared.instruction.Instruction.{Instruction}
use Rattle.file_rows.specs.Rows.{instruction_at, thread_code}
use Rattle.machine_access.specs.declared.accessing.Access.{Access}
use Rattle.machine_access.specs.declared.thread.ThreadState.{ThreadState}
use Rattle.machine.specs.declared.state.LastWrite.{LastWrite}
use Rattle.machine.specs.declared.state.Machine.{Machine}
use Rattle.machine.specs.declared.stepping.After.{After}
use Rattle.machine.specs.declared.stepping.Moved.{Moved}
use Rattle.spec_sc.specs.Local.{Local, settle, first_takes, first_puts, first_next, pending, takes, puts, next}
use Rattle.spec_sc.specs.State.{Thread, Cell, State, thread_of, cell_of, place, latest, advanced, step, enabled}
use Rattle.spec_sc.specs.Actions.{writes}
use Rattle.graph_writer.specs.Notes.{note, note_bytes}
use Rattle.graph_writer.proofs.NoteGraph.{noted_location, noted_wrote}
use Rattle.graph_writer.proofs.NotesHeld.{flag, byte_location, byte_wrote}
use Rattle.machine_access.specs.CarriedOut.{access_of, local_of}
use Rattle.machine.specs.Held.{idle, unwritten, thread_at, last_at, event_of, HoldsThread, Holds, HoldsStep, HoldsMoved, whole}
use Rattle.spec_sc.proofs.Access.{Settled, settle_law}
use Rattle.spec_sc.proofs.Steps.{enabled_small, enabled_range, cell_other, step_threads, step_cells}
use Rattle.spec_sc.proofs.Change.{thread_cases, noted_done, wrote_own, Change, kept, wrote, change}
use Rattle.machine_access.proofs.HeldAccess.{Meets}
use Rattle.machine.proofs.HeldNext.{next_rest, next_meets, next_place, next_value, next_wrote}

-- a flag as a byte
pub byte_of : (b : Bool) → bool_byte b ≡ cond b 1 0
byte_of true = refl
byte_of false = refl

-- settled code of which something is left begins with an access
pub settled_pending : (h : Local) (c : List Instruction) (k : ℕ) → Settled h → h.rest ≡ drop k c → k < length c → pending h ≡ true
settled_pending h c k (inl e) q l = absurd (omega (arith, ap length (sym q ∙ e), length-drop k c))
settled_pending h c k (inr p) q l = p

-- thread t of the machine m, at its next access: x the instruction, a what it does, k the thread behind it
module _ (code lengths : List ℕ) (m : Machine) (σ : State) (t : ℕ) (held : Holds code lengths m σ) (ok : enabled σ t ≡ true) (near : place σ t < 8)
    (x : Instruction) (a : Access) (k : ThreadState)
    (left : (thread_at m t).at < get_or lengths t 0)
    (ex : x ≡ instruction_at code (t * 16 + (thread_at m t).at)) (ea : a ≡ access_of x (thread_at m t).registers m.memory)
    (ek : local_of (thread_code code t (get_or lengths t 0)) k ≡ settle 0 a.registers (drop ((thread_at m t).at + 1) (thread_code code t (get_or lengths t 0))))
    (later : (thread_at m t).at + 1 ≤ k.at) (counted : k.done ≡ (thread_at m t).done + 1) where
  abbrev h : Thread
  h = thread_of σ t

  abbrev c : List Instruction
  c = thread_code code t (get_or lengths t 0)

  abbrev is : List Instruction
  is = drop ((thread_at m t).at + 1) c

  own : HoldsThread c (thread_at m t) h
  own = held.threads t (enabled_small σ t ok)

  rest : h.local.rest ≡ x ∷ is
  rest = next_rest code lengths m σ t held ok x a ex ea

  meets : Meets h.local x is m.memory a
  meets = next_meets code lengths m σ t held ok x a ex ea

  pub at_place : place σ t ≡ a.location
  at_place = next_place code lengths m σ t held ok x a ex ea

  found : (cell_of σ (place σ t)).value ≡ get_or m.memory a.location 0
  found = next_value code lengths m σ t held ok x a ex ea

  puts_here : puts h.local (cell_of σ (place σ t)).value ≡ cond a.writes (some a.value) none
  unfolding puts
  puts_here = ap (λ (j : List Instruction). first_puts h.local.registers j (cell_of σ (place σ t)).value) rest ∙ ap (first_puts h.local.registers (x ∷ is)) found ∙ meets.puts

  local_behind : next h.local (cell_of σ (place σ t)).value ≡ settle 0 a.registers is
  unfolding next
  local_behind = ap (λ (j : List Instruction). first_next h.local j (cell_of σ (place σ t)).value) rest ∙ ap (first_next h.local (x ∷ is)) found ∙ meets.next

  -- ---- the thread
  thread_behind_lem : HoldsThread c k (advanced h (cell_of σ (place σ t)))
  unfolding advanced
  thread_behind_lem =
      let e : next h.local (cell_of σ (place σ t)).value ≡ local_of c k = local_behind ∙ sym ek in
      record {
        rest = ap (λ (l : Local). l.rest) e;
        failed = ap (λ (l : Local). l.failed) e;
        done = noted_done _ _ _ ∙ omega (arith, own.done, counted);
        settled = λ l. settled_pending (next h.local (cell_of σ (place σ t)).value) c k.at (subst Settled (sym local_behind) (settle_law is 0 a.registers).0) (ap (λ (l : Local). l.rest) e) l;
        bounded = omega (arith, own.bounded);
      }

  registers_behind : (advanced h (cell_of σ (place σ t))).local.registers ≡ k.registers
  unfolding advanced
  registers_behind = ap (λ (l : Local). l.registers) (local_behind ∙ sym ek)

  -- ---- the whole, in a machine that has this thread in its place
  module _ (m' : Machine) (et : m'.threads ≡ set m.threads t k) where
    thread_same : thread_at m' t ≡ k
    thread_same = ap (λ (l : List ThreadState). get_or l t idle) et ∙ get_or-set_same m.threads t k idle (omega (arith, enabled_small σ t ok, held.sizes.0))

    thread_else : (u : ℕ) → u ≢ t → thread_at m' u ≡ thread_at m u
    thread_else u ne = ap (λ (l : List ThreadState). get_or l u idle) et ∙ get_or-set_other m.threads t u k idle ne

    threads_behind : (u : ℕ) → u < 6 → HoldsThread (thread_code code u (get_or lengths u 0)) (thread_at m' u) (thread_of (step σ t) u)
    threads_behind u b =
        thread_cases (λ (u : ℕ) (g : Thread). HoldsThread (thread_code code u (get_or lengths u 0)) (thread_at m' u) g) σ t (enabled_range σ t ok)
        (subst (λ (j : ThreadState). HoldsThread c j (advanced h (cell_of σ (place σ t)))) (sym thread_same) thread_behind_lem) u
        (λ ne. subst (λ (j : ThreadState). HoldsThread (thread_code code u (get_or lengths u 0)) j (thread_of σ u)) (sym (thread_else u ne)) (held.threads u b))

    registers_all : (u : ℕ) → u < length (step σ t).threads → (thread_of (step σ t) u).local.registers ≡ (thread_at m' u).registers
    registers_all u b =
        thread_cases (λ (u : ℕ) (g : Thread). g.local.registers ≡ (thread_at m' u).registers) σ t (enabled_range σ t ok)
        (registers_behind ∙ ap (λ (j : ThreadState). j.registers) (sym thread_same)) u
        (λ ne. held.registers u (omega (arith, step_threads σ t)) ∙ ap (λ (j : ThreadState). j.registers) (sym (thread_else u ne)))

    behind_all : length m'.memory ≡ 8 → length m'.last ≡ 8 → ((l : ℕ) → l < 8 → (cell_of (step σ t) l).value ≡ get_or m'.memory l 0) → ((l : ℕ) → l < 8 → latest (cell_of (step σ t) l).writes ≡ event_of (last_at m' l)) → Holds code lengths m' (step σ t)
    behind_all b d v w = record {
      sizes = (ap length et ∙ length-set m.threads t k ∙ held.sizes.0, b, d);
      six = omega (arith, step_threads σ t, held.six);
      eight = step_cells σ t ∙ held.eight;
      threads = threads_behind;
      registers = registers_all;
      values = v;
      sources = w;
    }

    -- the access wrote nothing
    still : a.writes ≡ false → (l : ℕ) → cell_of (step σ t) l ≡ cell_of σ l
    still n l = go (change σ t (omega (arith, held.eight)) l)
      where
        go : Change σ t l → cell_of (step σ t) l ≡ cell_of σ l
        go (kept q) = q
        go (wrote q v e w y) = let z : some v ≡ none = sym e ∙ puts_here ∙ ap (λ (b : Bool). cond b (some a.value) none) n in cc

    pub holds_still : a.writes ≡ false → m'.memory ≡ m.memory → m'.last ≡ m.last → Holds code lengths m' (step σ t)
    holds_still n em el = behind_all (ap length em ∙ held.sizes.1) (ap length el ∙ held.sizes.2)
        (λ l b. ap (λ (c : Cell). c.value) (still n l) ∙ held.values l b ∙ ap (λ (j : List ℕ). get_or j l 0) (sym em))
        (λ l b. ap (λ (c : Cell). latest c.writes) (still n l) ∙ held.sources l b ∙ ap (λ (j : List LastWrite). event_of (get_or j l unwritten)) (sym el))

    -- the access wrote at location l
    module _ (l : ℕ) (el : l ≡ a.location) (w : a.writes ≡ true)
        (em : m'.memory ≡ set m.memory l a.value) (es : m'.last ≡ set m.last l (record { thread = t; number = (thread_at m t).done })) where
      here : place σ t ≡ l
      here = at_place ∙ sym el

      puts_it : puts h.local (cell_of σ (place σ t)).value ≡ some a.value
      puts_it = puts_here ∙ ap (λ (b : Bool). cond b (some a.value) none) w

      value_at : (j : ℕ) → j < 8 → (cell_of (step σ t) j).value ≡ get_or m'.memory j 0
      value_at j b = go (ℕ_discrete j (place σ t))
        where
          go : Dec (j ≡ place σ t) → (cell_of (step σ t) j).value ≡ get_or m'.memory j 0
          go (yes q) =
              (wrote_own σ t j a.value (omega (arith, held.eight)) q puts_it).1
              ∙ sym (ap (λ (g : List ℕ). get_or g j 0) em ∙ ap (λ (i : ℕ). get_or (set m.memory l a.value) i 0) (q ∙ here) ∙ get_or-set_same m.memory l a.value 0 (omega (arith, here, held.sizes.1)))
          go (no q) =
              ap (λ (c : Cell). c.value) (cell_other σ t j q) ∙ held.values j b
              ∙ sym (ap (λ (g : List ℕ). get_or g j 0) em ∙ get_or-set_other m.memory l j a.value 0 (λ e. q (e ∙ sym here)))

      last_at_lem : (j : ℕ) → j < 8 → latest (cell_of (step σ t) j).writes ≡ event_of (last_at m' j)
      unfolding latest
      last_at_lem j b = go (ℕ_discrete j (place σ t))
        where
          new : LastWrite
          new = record { thread = t; number = (thread_at m t).done }

          go : Dec (j ≡ place σ t) → latest (cell_of (step σ t) j).writes ≡ event_of (last_at m' j)
          go (yes q) =
              ap latest (wrote_own σ t j a.value (omega (arith, held.eight)) q puts_it).0
              ∙ ap (λ (d : ℕ). (t, d)) own.done
              ∙ sym (ap event_of (ap (λ (g : List LastWrite). get_or g j unwritten) es ∙ ap (λ (i : ℕ). get_or (set m.last l new) i unwritten) (q ∙ here) ∙ get_or-set_same m.last l new unwritten (omega (arith, here, held.sizes.2))))
          go (no q) =
              ap (λ (c : Cell). latest c.writes) (cell_other σ t j q) ∙ held.sources j b
              ∙ sym (ap event_of (ap (λ (g : List LastWrite). get_or g j unwritten) es ∙ get_or-set_other m.last l j new unwritten (λ e. q (e ∙ sym here))))

      pub holds_written : Holds code lengths m' (step σ t)
      holds_written = behind_all (ap length em ∙ length-set m.memory l a.value ∙ held.sizes.1) (ap length es ∙ length-set m.last l _ ∙ held.sizes.2) value_at last_at_lem

  -- ---- the note
  wrote_here : writes σ t ≡ a.writes
  wrote_here = next_wrote code lengths m σ t held ok x a ex ea

  pub note_behind : (e : LastWrite) → e ≡ last_at m a.location
      → (t ∷ (thread_at m t).done ∷ a.location ∷ cond a.reads 1 0 ∷ e.thread ∷ e.number ∷ cond a.writes 1 0 ∷ 0 ∷ []) ≡ note_bytes (note σ t)
  unfolding note_bytes note takes
  note_behind e q =
      let source : latest (cell_of σ (place σ t)).writes ≡ event_of e = held.sources (place σ t) near ∙ ap (λ (l : ℕ). event_of (last_at m l)) at_place ∙ ap event_of (sym q) in
      let reads : takes h.local ≡ a.reads = ap first_takes rest ∙ meets.reads in
      sym (λ i. t ∷ own.done i ∷ at_place i ∷ cond (reads i) 1 0 ∷ (source i).0 ∷ (source i).1 ∷ cond (wrote_here i) 1 0 ∷ 0 ∷ [])

-- ---- the code's step: what its thread u, which stands so, does with this memory; a its access, k the thread behind it
pub record Acted (code lengths : List ℕ) (thread : ThreadState) (memory : List ℕ) (u : ℕ) (a : Access) (k : ThreadState) : Type 0 where
  pub left : thread.at < get_or lengths u 0
  pub access : a ≡ access_of (instruction_at code (u * 16 + thread.at)) thread.registers memory
  pub local : local_of (thread_code code u (get_or lengths u 0)) k ≡ settle 0 a.registers (drop (thread.at + 1) (thread_code code u (get_or lengths u 0)))
  pub later : thread.at + 1 ≤ k.at
  pub counted : k.done ≡ thread.done + 1

-- what it gives back; the code names a location l by its remainder
abbrev pub after_of : Access → ThreadState → List ℕ → ℕ → After
after_of a k memory l = record {
  thread = k;
  memory = set memory (l % 8) (cond a.writes a.value (get_or memory (l % 8) 0));
  place = l % 8;
  location = a.location;
  reads = a.reads;
  writes = a.writes;
}

module _ (code lengths : List ℕ) (m : Machine) (σ : State) (t : ℕ) (held : Holds code lengths m σ) (ok : enabled σ t ≡ true) (near : place σ t < 8)
    (a : Access) (k : ThreadState) (l : ℕ) (el : l ≡ a.location) (acts : Acted code lengths (thread_at m t) m.memory t a k) where
  abbrev x : Instruction
  x = instruction_at code (t * 16 + (thread_at m t).at)

  abbrev after : After
  after = after_of a k m.memory l

  own_location : l % 8 ≡ a.location
  own_location =
      let q = at_place code lengths m σ t held ok near x a k acts.left refl acts.access acts.local acts.later acts.counted in
      ap (λ (v : ℕ). v % 8) el ∙ mod-eq_of_lt (omega (arith, q, near))

  holds_behind : Holds code lengths (whole m t t after).machine (step σ t)
  holds_behind = go a.writes refl
    where
      entry : Bool → LastWrite
      entry b = cond b (record { thread = t; number = (thread_at m t).done }) (last_at m (l % 8))

      go : (b : Bool) → a.writes ≡ b → Holds code lengths (whole m t t after).machine (step σ t)
      go true q =
          holds_written code lengths m σ t held ok near x a k acts.left refl acts.access acts.local acts.later acts.counted
          (whole m t t after).machine refl (l % 8) own_location q
          (ap (λ (b : Bool). set m.memory (l % 8) (cond b a.value (get_or m.memory (l % 8) 0))) q)
          (ap (λ (b : Bool). set m.last (l % 8) (entry b)) q)
      go false q =
          holds_still code lengths m σ t held ok near x a k acts.left refl acts.access acts.local acts.later acts.counted
          (whole m t t after).machine refl q
          (ap (λ (b : Bool). set m.memory (l % 8) (cond b a.value (get_or m.memory (l % 8) 0))) q ∙ set-get_or m.memory (l % 8) 0)
          (ap (λ (b : Bool). set m.last (l % 8) (entry b)) q ∙ set-get_or m.last (l % 8) unwritten)

  pub holds_after : HoldsStep code lengths σ t (whole m t t after)
  holds_after = record {
    holds = holds_behind;
    noted = note_behind code lengths m σ t held ok near x a k acts.left refl acts.access acts.local acts.later acts.counted (last_at m (l % 8)) (ap (last_at m) own_location);
  }

-- the code has the thread and the memory by themselves, and the thread's number as u
pub after_holds : (code lengths : List ℕ) (m : Machine) (σ : State) (t u : ℕ) (thread : ThreadState) (memory : List ℕ) (a : Access) (k : ThreadState) (l : ℕ)
    → u ≡ t → l ≡ a.location → Acted code lengths thread memory u a k
    → thread_at m t ≡ thread → m.memory ≡ memory → Holds code lengths m σ → enabled σ t ≡ true → place σ t < 8 → HoldsStep code lengths σ t (whole m t t (after_of a k memory l))
after_holds code lengths m σ t u thread memory a k l eu el acts et em held ok near =
    subst (λ (v : ℕ). P v thread memory) (sym eu)
    (subst (λ (h : ThreadState). P t h memory) et
    (subst (P t (thread_at m t)) em (holds_after code lengths m σ t held ok near a k l el))) acts
  where
    P : ℕ → ThreadState → List ℕ → Type 0
    P v h n = Acted code lengths h n v a k → HoldsStep code lengths σ t (whole m t t (after_of a k n l))

-- put back into the machine that it was taken from
pub stored_whole : (code lengths : List ℕ) (m : Machine) (t u : ℕ) (a : After) → u ≡ t
    → ((n : Machine) (τ : State) → thread_at n t ≡ thread_at m u → n.memory ≡ m.memory → Holds code lengths n τ → enabled τ t ≡ true → place τ t < 8 → HoldsStep code lengths τ t (whole n t t a))
    → (τ : State) → Holds code lengths m τ → enabled τ t ≡ true → place τ t < 8 → HoldsStep code lengths τ t (whole m u t a)
stored_whole code lengths m t u a eu acts τ held ok near =
    subst (λ (v : ℕ). HoldsStep code lengths τ t (whole m v t a)) (sym eu) (acts m τ (ap (thread_at m) (sym eu)) refl held ok near)

-- to one who keeps no last writes and no note
abbrev pub moved_of : After → Moved
moved_of a = record { thread = a.thread; memory = a.memory; location = a.location; wrote = a.writes }

pub moved_holds : (code lengths : List ℕ) (m : Machine) (σ : State) (t : ℕ) (a : After) → HoldsStep code lengths σ t (whole m t t a) → HoldsMoved code lengths m σ t (moved_of a)
moved_holds code lengths m σ t a s = record {
  last = (whole m t t a).machine.last;
  holds = s.holds;
  location = ap (λ (bs : List ℕ). get_or bs 2 0) s.noted ∙ byte_location (note σ t) ∙ noted_location σ t;
  wrote = sym (flag a.writes) ∙ ap (λ (bs : List ℕ). eqb (get_or bs 6 0) 1) s.noted ∙ byte_wrote (note σ t) ∙ noted_wrote σ t;
}
