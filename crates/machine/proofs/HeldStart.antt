-- The state before the first step: each thread carried to its first access, memory at its starting values.
use Prim.Native.Nat.{ℕ, ◌+◌, ◌<◌, ◌≤◌}
use native.Mathlib.Omega.{arith}
use native.Mathlib.Decide.{ℕ_discrete}
use mathlib.Core.Path.{◌≡◌, refl, sym, ap, subst, ◌∙◌}
use mathlib.Core.Bool.{false}
use mathlib.Core.List.{List, []}
use lib.ListN.{length, get_or, set, drop, replicate, length-replicate, get_or-replicate}
use lib.Seq.{get_or-set_same, get_or-set_other}
use Rattle.spec_file.specs.declared.instruction.Instruction.{Instruction}
use Rattle.spec_file.specs.Program.{Program, code_of, initial}
use Rattle.spec_file.specs.WellFormed.{WellFormed, all_accesses}
use Rattle.file_decoder.specs.declared.file.Compiled.{Compiled}
use Rattle.file_decoder.specs.Compiled.{program_of}
use Rattle.file_rows.specs.Rows.{thread_code}
use Rattle.file_rows.proofs.Tabulate.{length_tabulate, get_d_tabulate}
use Rattle.spec_file.proofs.Everywhere.{everywhere_get_d}
use Rattle.machine_access.specs.declared.thread.ThreadState.{ThreadState}
use Rattle.machine.specs.declared.state.LastWrite.{LastWrite}
use Rattle.spec_sc.specs.Local.{Local, settle, begin}
use Rattle.spec_sc.specs.State.{Thread, no_thread, thread_of, latest, initial_write, opened, start}
use Rattle.machine_access.specs.CarriedOut.{local_of}
use Rattle.machine_access.specs.Counted.{accesses_below}
use Rattle.machine.specs.Held.{idle, unwritten, event_of, HoldsAt, Holds, Loaded}
use Rattle.spec_sc.proofs.Access.{begin_law}
use Rattle.spec_sc.proofs.Steps.{missing}
use Rattle.spec_sc.proofs.Start.{start_threads, start_cells, start_thread, start_value, start_writes}
use Rattle.machine_access.proofs.HeldSettling.{length_code, code_end}
use Rattle.machine.proofs.HeldStep.{settled_pending}

-- the rows and the starting values of an accepted program
pub loaded_compiled : (c : Compiled) → WellFormed (program_of c) → Loaded c.code c.lengths c.threads (program_of c)
unfolding program_of
loaded_compiled c w = record { well_formed = w; codes = refl }

pub starting_compiled : (c : Compiled) → c.starting ≡ initial (program_of c)
unfolding program_of initial
starting_compiled c = refl

module _ (code lengths : List ℕ) (threads : ℕ) (p : Program) (loaded : Loaded code lengths threads p) where
  pub threads_held : length p.threads ≡ threads
  threads_held = ap length loaded.codes ∙ length_tabulate (λ t. thread_code code t (get_or lengths t 0)) threads

  pub code_held : (t : ℕ) → t < threads → code_of p t ≡ thread_code code t (get_or lengths t 0)
  unfolding code_of
  code_held t h = ap (λ (cs : List (List Instruction)). get_or cs t []) loaded.codes ∙ get_d_tabulate (λ t. thread_code code t (get_or lengths t 0)) threads t [] h

  -- the program's accesses are those of its rows
  pub accesses_held : accesses_below code lengths threads ≡ all_accesses p.threads
  unfolding accesses_below
  accesses_held = ap all_accesses (sym loaded.codes)

  -- at most sixteen instructions
  pub short_held : (t : ℕ) → t < threads → get_or lengths t 0 ≤ 16
  unfolding code_of
  short_held t h =
      let n : length (code_of p t) ≤ 16 = everywhere_get_d (λ (c : List Instruction). length c ≤ 16) p.threads t [] loaded.well_formed.sixteen (omega arith) in
      omega (arith, n, ap length (code_held t h) ∙ length_code code t (get_or lengths t 0))

  -- a thread that exists
  pub opened_held : (t : ℕ) (k : ThreadState) → t < threads → local_of (thread_code code t (get_or lengths t 0)) k ≡ settle 0 (replicate 4 0) (drop 0 (thread_code code t (get_or lengths t 0))) → k.done ≡ 0
      → HoldsAt code lengths k (start p) t
  unfolding opened begin
  opened_held t k h e d =
      let c = thread_code code t (get_or lengths t 0) in
      let own : thread_of (start p) t ≡ opened c = start_thread p t (omega (arith, threads_held)) ∙ ap opened (code_held t h) in
      let local : (thread_of (start p) t).local ≡ local_of c k = ap (λ (g : Thread). g.local) own ∙ sym e in (
        record {
          rest = ap (λ (l : Local). l.rest) local;
          failed = ap (λ (l : Local). l.failed) local;
          done = ap (λ (g : Thread). g.history.done) own ∙ sym d;
          settled = λ b. settled_pending (thread_of (start p) t).local c k.at (rw own (begin_law c).0) (ap (λ (l : Local). l.rest) local) b;
          bounded = omega arith;
        },
        λ b. ap (λ (l : Local). l.registers) local,
      )

  -- a thread that does not exist
  pub missing_held : (t : ℕ) (rs : List ℕ) → threads ≤ t → HoldsAt code lengths (record { registers = rs; at = get_or lengths t 0; done = 0; failed = false }) (start p) t
  unfolding no_thread
  missing_held t rs h =
      let c = thread_code code t (get_or lengths t 0) in
      let none : thread_of (start p) t ≡ no_thread = missing (start p) t (omega (arith, start_threads p, threads_held)) in (
        record {
          rest = ap (λ (g : Thread). g.local.rest) none ∙ sym (code_end code t (get_or lengths t 0) (get_or lengths t 0) (omega arith));
          failed = ap (λ (g : Thread). g.local.failed) none;
          done = ap (λ (g : Thread). g.history.done) none;
          settled = λ b. absurd (omega (arith, length_code code t (get_or lengths t 0)));
          bounded = omega arith;
        },
        λ b. absurd (omega (arith, start_threads p, threads_held)),
      )

  -- one thread more
  pub one_more : (all : List ThreadState) (t : ℕ) (k : ThreadState) → length all ≡ 6 → t < 6 → ((u : ℕ) → u < t → HoldsAt code lengths (get_or all u idle) (start p) u)
      → HoldsAt code lengths k (start p) t → (u : ℕ) → u < t + 1 → HoldsAt code lengths (get_or (set all t k) u idle) (start p) u
  one_more all t k n h before own u b = go (ℕ_discrete u t)
    where
      go : Dec (u ≡ t) → HoldsAt code lengths (get_or (set all t k) u idle) (start p) u
      go (yes q) = subst (λ (v : ℕ). HoldsAt code lengths (get_or (set all t k) v idle) (start p) v) (sym q) (subst (λ (j : ThreadState). HoldsAt code lengths j (start p) t) (sym (get_or-set_same all t k idle (omega arith))) own)
      go (no q) = subst (λ (j : ThreadState). HoldsAt code lengths j (start p) u) (sym (get_or-set_other all t u k idle q)) (before u (omega (arith, q)))

  -- all threads, and memory
  pub start_held : (all : List ThreadState) (t : ℕ) (memory : List ℕ) → length all ≡ 6 → 6 ≤ t
      → ((u : ℕ) → u < t → HoldsAt code lengths (get_or all u idle) (start p) u) → memory ≡ initial p
      → Holds code lengths (record { threads = all; memory = memory; last = replicate 8 (record { thread = 255; number = 255 }) }) (start p)
  unfolding initial latest initial_write
  start_held all t memory n h each e = record {
    sizes = (n, ap length e ∙ loaded.well_formed.eight, length-replicate {A = LastWrite} 8 (record { thread = 255; number = 255 }));
    six = omega (arith, start_threads p, loaded.well_formed.six);
    eight = start_cells p loaded.well_formed;
    threads = λ u b. (each u (omega arith)).0;
    registers = λ u b. (each u (omega (arith, start_threads p, loaded.well_formed.six))).1 b;
    values = λ l b. start_value p l ∙ sym (ap (λ (vs : List ℕ). get_or vs l 0) e);
    sources = λ l b. ap latest (start_writes p l) ∙ ap event_of (sym (get_or-replicate 8 l (record { thread = 255; number = 255 }) unwritten b));
  }
