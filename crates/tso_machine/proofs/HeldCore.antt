-- What the arrays hold of a state, thread by thread and location by location, and back.
use Prim.Native.Nat.{ℕ, zero, suc, ◌+◌, ◌-◌, ◌<◌, ◌≤◌}
use native.Mathlib.Omega.{arith}
use native.Mathlib.Decide.{dec_lt}
use mathlib.Core.Path.{◌≡◌, refl, sym, ap, subst, ◌∙◌}
use mathlib.Core.Bool.{true, false, true≢false}
use mathlib.Core.List.{List}
use lib.ListN.{length, get_or, length-map, get_or-eq_default}
use Rattle.spec_file.specs.WellFormed.{accesses}
use Rattle.file_rows.specs.Rows.{thread_code}
use Rattle.spec_schedules.proofs.Group.{get_d_any}
use Rattle.spec_sc.specs.Local.{pending}
use Rattle.spec_sc.specs.State as SC
use Rattle.spec_sc.specs.State.{Cell, latest}
use Rattle.spec_sc.proofs.Access.{nothing_pending}
use Rattle.machine_access.proofs.HeldSettling.{length_code, code_end}
use Rattle.machine.specs.declared.state.Machine.{Machine}
use Rattle.machine.specs.Held as Core
use Rattle.machine.specs.Held.{thread_at, last_at, event_of, HoldsThread}
use Rattle.spec_tso.specs.State.{State, thread_of, cell_of, unqueued, without_queues}
use Rattle.spec_tso.proofs.Seen.{seen_thread, seen_cell}
use Rattle.tso_machine.specs.declared.state.QueuedMachine.{QueuedMachine}
use Rattle.tso_machine.specs.Held.{core_of, head_at, tail_at, limit_at, Holds}

pub seen_threads : (σ : State) → length (without_queues σ).threads ≡ length σ.threads
unfolding without_queues
seen_threads σ = length-map σ.threads unqueued

pub seen_cells : (σ : State) → length (without_queues σ).cells ≡ length σ.cells
unfolding without_queues
seen_cells σ = refl

unqueued_local : (σ : State) (t : ℕ) → (SC.thread_of (without_queues σ) t).local ≡ (thread_of σ t).local
unfolding unqueued
unqueued_local σ t = ap (λ (h : SC.Thread). h.local) (seen_thread σ t)

-- ---- the parts of a state that is held
module _ {code lengths : List ℕ} {m : QueuedMachine} {σ : State} (held : Holds code lengths m σ) where
  pub core_six : length σ.threads ≤ 6
  core_six = omega (arith, held.core.six, seen_threads σ)

  pub core_eight : length σ.cells ≡ 8
  core_eight = sym (seen_cells σ) ∙ held.core.eight

  pub core_thread : (t : ℕ) → t < 6 → HoldsThread (thread_code code t (get_or lengths t 0)) (thread_at (core_of m) t) (unqueued (thread_of σ t))
  core_thread t h = subst (HoldsThread (thread_code code t (get_or lengths t 0)) (thread_at (core_of m) t)) (seen_thread σ t) (held.core.threads t h)

  pub core_rest : (t : ℕ) → t < 6 → HoldsThread (thread_code code t (get_or lengths t 0)) (thread_at (core_of m) t) (SC.thread_of (without_queues σ) t)
  core_rest t h = held.core.threads t h

  pub core_registers : (t : ℕ) → t < length σ.threads → (thread_of σ t).local.registers ≡ (thread_at (core_of m) t).registers
  core_registers t h = ap (λ l. l.registers) (sym (unqueued_local σ t)) ∙ held.core.registers t (omega (arith, seen_threads σ))

  pub core_value : (l : ℕ) → l < 8 → (cell_of σ l).value ≡ get_or m.memory l 0
  core_value l h = ap (λ (c : Cell). c.value) (sym (seen_cell σ l)) ∙ held.core.values l h

  pub core_source : (l : ℕ) → l < 8 → latest (cell_of σ l).writes ≡ event_of (last_at (core_of m) l)
  core_source l h = ap (λ (c : Cell). latest c.writes) (sym (seen_cell σ l)) ∙ held.core.sources l h

  -- ---- a thread may do its next access while an instruction is left
  pub left_pending : (t : ℕ) → t < 6 → (thread_at (core_of m) t).at < get_or lengths t 0 → pending (thread_of σ t).local ≡ true
  unfolding unqueued
  left_pending t h l = (core_thread t h).settled (omega (arith, length_code code t (get_or lengths t 0)))

  pub ended_pending : (t : ℕ) → t < 6 → get_or lengths t 0 ≤ (thread_at (core_of m) t).at → pending (thread_of σ t).local ≡ false
  unfolding unqueued
  ended_pending t h l = nothing_pending (thread_of σ t).local ((core_thread t h).rest ∙ code_end code t (get_or lengths t 0) (thread_at (core_of m) t).at l)

  pub pending_left : (t : ℕ) → t < 6 → pending (thread_of σ t).local ≡ true → (thread_at (core_of m) t).at < get_or lengths t 0
  pending_left t h e = go (dec_lt (thread_at (core_of m) t).at (get_or lengths t 0))
    where
      go : Dec ((thread_at (core_of m) t).at < get_or lengths t 0) → (thread_at (core_of m) t).at < get_or lengths t 0
      go (yes b) = b
      go (no b) = absurd (true≢false (sym e ∙ ended_pending t h (omega (arith, b))))

  -- ---- the slots of one thread lie before those of the next
  limit_head : (t : ℕ) → t + 1 < 6 → limit_at m t ≡ head_at m (t + 1)
  limit_head t h = get_d_any m.heads (t + 1) 16 0 (omega (arith, held.sizes.0))

  limit_last : (t : ℕ) → 6 ≤ t + 1 → limit_at m t ≡ 16
  limit_last t h = get_or-eq_default m.heads 16 {n = t + 1} (omega (arith, held.sizes.0))

  abbrev left : ℕ → ℕ
  left t = accesses (thread_of σ t).local.rest

  heads_apart : (d t u : ℕ) → u ≡ t + 1 + d → u < 6 → tail_at m t + left t ≤ head_at m u
  heads_apart zero t u e h =
      let z : u ≡ t + 1 = omega arith in
      omega (arith, held.room t (omega arith), limit_head t (omega arith), ap (head_at m) z)
  heads_apart (suc d) t u e h =
      let v = t + 1 + d in
      let z : u ≡ v + 1 = omega arith in
      omega (arith, heads_apart d t v refl (omega arith), held.ordered v (omega arith), held.room v (omega arith), limit_head v (omega arith), ap (head_at m) z)

  pub slots_apart : (t u : ℕ) → t < u → u < 6 → tail_at m t + left t ≤ head_at m u
  slots_apart t u h b = heads_apart (u - t - 1) t u (omega arith) b

  pub tail_below : (t : ℕ) → t < 6 → tail_at m t + left t ≤ 16
  tail_below t h = go (dec_lt (t + 1) 6)
    where
      last : tail_at m 5 + left 5 ≤ 16
      last = omega (arith, held.room 5 (omega arith), limit_last 5 (omega arith))

      go : Dec (t + 1 < 6) → tail_at m t + left t ≤ 16
      go (yes b) = omega (arith, slots_apart t 5 (omega arith) (omega arith), held.ordered 5 (omega arith), last)
      go (no b) = omega (arith, held.room t h, limit_last t (omega arith))

-- ---- a state is held when its parts are
pub core_of_lem : (code lengths : List ℕ) (n : Machine) (σ : State)
    → (length n.threads ≡ 6) × (length n.memory ≡ 8) × (length n.last ≡ 8) → length σ.threads ≤ 6 → length σ.cells ≡ 8
    → ((t : ℕ) → t < 6 → HoldsThread (thread_code code t (get_or lengths t 0)) (thread_at n t) (unqueued (thread_of σ t)))
    → ((t : ℕ) → t < length σ.threads → (thread_of σ t).local.registers ≡ (thread_at n t).registers)
    → ((l : ℕ) → l < 8 → (cell_of σ l).value ≡ get_or n.memory l 0)
    → ((l : ℕ) → l < 8 → latest (cell_of σ l).writes ≡ event_of (last_at n l))
    → Core.Holds code lengths n (without_queues σ)
core_of_lem code lengths n σ sizes six eight threads registers values sources = record {
  sizes = sizes;
  six = omega (arith, seen_threads σ, six);
  eight = seen_cells σ ∙ eight;
  threads = λ t h. subst (HoldsThread (thread_code code t (get_or lengths t 0)) (thread_at n t)) (sym (seen_thread σ t)) (threads t h);
  registers = λ t h. ap (λ l. l.registers) (unqueued_local σ t) ∙ registers t (omega (arith, seen_threads σ));
  values = λ l h. ap (λ (c : Cell). c.value) (seen_cell σ l) ∙ values l h;
  sources = λ l h. ap (λ (c : Cell). latest c.writes) (seen_cell σ l) ∙ sources l h;
}
