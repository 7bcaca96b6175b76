-- The state before the first step: nothing is pending, and each thread has as many slots as accesses.
use Prim.Native.Nat.{ℕ, ◌+◌, ◌-◌, ◌<◌, ◌≤◌, min}
use native.Mathlib.Omega.{arith}
use native.Mathlib.Decide.{dec_lt, ℕ_discrete}
use mathlib.Core.Path.{◌≡◌, sym, ap, subst, ◌∙◌}
use mathlib.Core.List.{List, []}
use lib.ListN.{length, get_or, set, replicate, length-replicate, get_or-replicate, get_or-eq_default}
use lib.Seq.{get_or-set_same, get_or-set_other}
use Rattle.spec_schedules.proofs.Group.{get_d_any}
use Rattle.spec_file.specs.Program.{Program}
use Rattle.spec_file.specs.WellFormed.{accesses, all_accesses}
use Rattle.file_rows.specs.Rows.{thread_code}
use Rattle.spec_sc.specs.Local.{begin}
use Rattle.spec_sc.specs.State as SC
use Rattle.spec_sc.proofs.Access.{suffix_accesses, begin_law}
use Rattle.spec_sc.proofs.Steps as SCSteps
use Rattle.spec_sc.proofs.Start as SCStart
use Rattle.machine.specs.declared.state.Machine.{Machine}
use Rattle.machine.specs.Held as Core
use Rattle.machine.specs.Held.{Loaded}
use Rattle.machine.proofs.HeldStart.{accesses_held, threads_held, code_held, short_held}
use Rattle.machine_access.proofs.HeldSettling.{length_code}
use Rattle.spec_tso.specs.State.{Thread, thread_of, idle, start, without_queues}
use Rattle.spec_tso.proofs.Seen.{seen_drained, drained_thread}
use Rattle.tso_machine.specs.declared.state.Pending.{Pending}
use Rattle.tso_machine.specs.declared.state.QueuedMachine.{QueuedMachine}
use Rattle.tso_machine.specs.Slots.{no_store, queue_at}
use Rattle.tso_machine.specs.Held.{core_of, slot_at, Holds}
use Rattle.machine_access.specs.Counted.{accesses_below}
use Rattle.tso_machine.specs.Counted.{HoldsFirst}
use Rattle.tso_machine.proofs.InSlots.{queue_none}
use Rattle.machine_access.proofs.HeldCounting.{below_next}

module _ (code lengths : List ℕ) (threads : ℕ) (p : Program) (loaded : Loaded code lengths threads p) (few : all_accesses p.threads ≤ 16)
    (m : Machine) (held : Core.Holds code lengths m (SC.start p)) (first : List ℕ) (firsts : HoldsFirst code lengths threads first) where
  abbrev empty : Pending
  empty = record { value = 0; number = 0; location = 0 }

  abbrev n : QueuedMachine
  n = record { threads = m.threads; memory = m.memory; last = m.last; heads = first; tails = first; slots = replicate 16 empty }

  at_start : (t : ℕ) → thread_of (start p) t ≡ idle (SC.thread_of (SC.start p) t)
  unfolding start
  at_start t = drained_thread (SC.start p) t

  same_rest : (t : ℕ) → (thread_of (start p) t).local.rest ≡ (SC.thread_of (SC.start p) t).local.rest
  unfolding idle
  same_rest t = ap (λ (h : Thread). h.local.rest) (at_start t)

  no_queue : (t : ℕ) → (thread_of (start p) t).queue ≡ []
  unfolding idle
  no_queue t = ap (λ (h : Thread). h.queue) (at_start t)

  seen_start : SC.start p ≡ without_queues (start p)
  unfolding start
  seen_start = sym (seen_drained (SC.start p))

  core_held : Core.Holds code lengths (core_of n) (without_queues (start p))
  core_held = subst (Core.Holds code lengths (core_of n)) seen_start (record {
    sizes = held.sizes;
    six = held.six;
    eight = held.eight;
    threads = held.threads;
    registers = held.registers;
    values = held.values;
    sources = held.sources;
  })

  -- ---- room
  at_most_six : threads ≤ 6
  at_most_six = omega (arith, threads_held code lengths threads p loaded, loaded.well_formed.six)

  -- a thread that exists has no more accesses left than its code
  own_left : (t : ℕ) → t < threads → accesses (thread_of (start p) t).local.rest ≤ accesses (thread_code code t (get_or lengths t 0))
  unfolding SC.opened
  own_left t h =
      let c = thread_code code t (get_or lengths t 0) in
      let e : SC.thread_of (SC.start p) t ≡ SC.opened c = SCStart.start_thread p t (omega (arith, threads_held code lengths threads p loaded)) ∙ ap SC.opened (code_held code lengths threads p loaded t h) in
      omega (arith, ap accesses (same_rest t), ap (λ (g : SC.Thread). accesses g.local.rest) e, suffix_accesses (begin c).rest c (begin_law c).1)

  none_left : (t : ℕ) → threads ≤ t → accesses (thread_of (start p) t).local.rest ≡ 0
  unfolding SC.no_thread accesses
  none_left t h =
      ap accesses (same_rest t)
      ∙ ap (λ (g : SC.Thread). accesses g.local.rest) (SCSteps.missing (SC.start p) t (omega (arith, SCStart.start_threads p, threads_held code lengths threads p loaded)))

  abbrev below : ℕ → ℕ
  below k = accesses_below code lengths k

  -- thread t's slots end where those of t + 1 would begin
  behind : (t : ℕ) → Dec (t < threads) → below (min threads t) + accesses (thread_of (start p) t).local.rest ≤ below (min threads (t + 1))
  behind t (yes h) =
      omega (
        arith,
        ap below (let e : min threads t ≡ t = omega arith in e),
        ap below (let e : min threads (t + 1) ≡ t + 1 = omega arith in e),
        below_next code lengths t,
        own_left t h,
      )
  behind t (no h) =
      omega (
        arith,
        ap below (let e : min threads t ≡ threads = omega (arith, h) in e),
        ap below (let e : min threads (t + 1) ≡ threads = omega (arith, h) in e),
        none_left t (omega (arith, h)),
      )

  last_slots : below (min threads 6) ≡ all_accesses p.threads
  last_slots = ap below (let e : min threads 6 ≡ threads = omega (arith, at_most_six) in e) ∙ accesses_held code lengths threads p loaded

  room : (t : ℕ) → t < 6 → Dec (t + 1 < 6) → get_or first t 0 + accesses (thread_of (start p) t).local.rest ≤ get_or first (t + 1) 16
  room t h (yes b) =
      omega (
        arith,
        firsts.each t h,
        firsts.each (t + 1) b,
        behind t (dec_lt t threads),
        get_d_any first (t + 1) 16 0 (omega (arith, firsts.size)),
      )
  room t h (no b) =
      let z : t + 1 ≡ 6 = omega (arith, b) in
      omega (
        arith,
        firsts.each t h,
        behind t (dec_lt t threads),
        ap (λ (k : ℕ). below (min threads k)) z,
        last_slots,
        few,
        get_or-eq_default first 16 {n = t + 1} (omega (arith, z, firsts.size)),
      )

  slot_zero : (k : ℕ) → k < 16 → (slot_at n k).location < 8
  slot_zero k h = omega (arith, ap (λ (x : Pending). x.location) (get_or-replicate 16 k empty no_store h))

  pub first_held : Holds code lengths n (start p)
  first_held = record {
    core = core_held;
    sizes = (firsts.size, firsts.size, length-replicate {A = Pending} 16 empty);
    short = λ t h l. short_held code lengths threads p loaded t
        (omega (arith, SCSteps.in_range_lem (SC.start p) t ((held.threads t h).settled (omega (arith, length_code code t (get_or lengths t 0)))), SCStart.start_threads p, threads_held code lengths threads p loaded));
    queues = λ t h. no_queue t ∙ sym (ap (queue_at (replicate 16 empty) (get_or first t 0)) (let z : get_or first t 0 - get_or first t 0 ≡ 0 = omega arith in z) ∙ queue_none (replicate 16 empty) (get_or first t 0));
    ordered = λ t h. omega arith;
    room = λ t h. room t h (dec_lt (t + 1) 6);
    places = slot_zero;
  }

-- where the slots begin, one thread after the other
pub first_more : (code lengths : List ℕ) (threads : ℕ) (first : List ℕ) (t v : ℕ) → length first ≡ 6 → t < 6 → v ≡ accesses_below code lengths (min threads t)
    → ((u : ℕ) → u < t → get_or first u 0 ≡ accesses_below code lengths (min threads u)) → (u : ℕ) → u < t + 1 → get_or (set first t v) u 0 ≡ accesses_below code lengths (min threads u)
first_more code lengths threads first t v n h e before u b = go (ℕ_discrete u t)
  where
    go : Dec (u ≡ t) → get_or (set first t v) u 0 ≡ accesses_below code lengths (min threads u)
    go (yes q) = ap (λ (k : ℕ). get_or (set first t v) k 0) q ∙ get_or-set_same first t v 0 (omega arith) ∙ e ∙ ap (λ (k : ℕ). accesses_below code lengths (min threads k)) (sym q)
    go (no q) = get_or-set_other first t u v 0 q ∙ before u (omega (arith, q))

-- what counting the first of them needs
pub first_short : {code lengths : List ℕ} {threads : ℕ} {p : Program} → Loaded code lengths threads p → (k t u : ℕ) → k ≡ min threads t → u < k → get_or lengths u 0 ≤ 16
first_short loaded k t u e h = short_held _ _ _ _ loaded u (omega arith)
