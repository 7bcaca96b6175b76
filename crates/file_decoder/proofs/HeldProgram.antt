-- The program that the decoder hands over is the one that the lines have made.
use Prim.Native.Nat.{ℕ, zero, suc, ◌+◌, ◌*◌, ◌≤◌, ◌<◌}
use native.Mathlib.Omega.{arith}
use mathlib.Core.Path.{◌≡◌, refl, sym, ap, ◌∙◌}
use mathlib.Core.List.{List, [], map}
use lib.Dec.{eqb, ltb, lit<}
use Rattle.spec_file.specs.Lists.{Ascends}
use borrow.Author.Tests.{lt-ltb}
use lib.ListN.{length, get_or, length-map, get_or-map}
use lib.Seq.{ext_get_or}
use Rattle.spec_file.specs.declared.instruction.Instruction.{Instruction}
use Rattle.file_refusals.specs.declared.counts.Counts.{Counts}
use Rattle.spec_file.specs.Frames.{instruction}
use Rattle.spec_file.specs.Decode.{Placed, Reading, thread_at, value_at, locations, program_in}
use Rattle.file_decoder.specs.Compiled.{members_of, program_of}
use Rattle.spec_file.specs.Tabulate.{tabulate}
use Rattle.file_rows.specs.Rows.{row_at, instruction_at, thread_code}
use Rattle.spec_file.specs.WellFormed.{Everywhere}
use Rattle.file_refusals.specs.Held.{Holds, no_instruction, frame_at}
use Rattle.file_decoder.specs.Held.{Grouped}
use Rattle.spec_file.proofs.Everywhere.{everywhere_get_d, everywhere_weaken}
use Rattle.spec_file.proofs.FrameBytes.{instruction_same}
use Rattle.file_rows.proofs.Rows.{row_byte}
use Rattle.file_rows.proofs.Tabulate.{tabulate_members}
use Rattle.file_decoder.proofs.Classes.{select_members, class_among}

-- the instruction of a placed frame
abbrev placed : Placed → Instruction
placed x = instruction x.code

module _ (code : List ℕ) (s : Counts) (r : Reading) (holds : Holds code s r) where
  -- row 16 t + i is read as instruction i of thread t
  pub instruction_held : (t i : ℕ) → t < 6 → i < 16 → instruction_at code (t * 16 + i) ≡ instruction (frame_at r t i)
  unfolding instruction_at
  instruction_held t i k h =
      rw (lt-ltb (t * 16 + i) 96 (omega arith))
      (instruction_same (row_at code (t * 16 + i)) (frame_at r t i)
      (λ j b. row_byte code (t * 16 + i) j b ∙ holds.bytes t i j h b))

  -- thread t's rows are its instructions
  pub thread_held : (t : ℕ) → t < 6 → length (thread_at r t) ≤ 16 → thread_code code t (get_or s.lengths t 0) ≡ map placed (thread_at r t)
  unfolding thread_code frame_at
  thread_held t k h =
      let e : get_or s.lengths t 0 ≡ length (thread_at r t) = holds.lengths t in
      tabulate_members (λ i. instruction_at code (t * 16 + i)) (get_or s.lengths t 0) (map placed (thread_at r t)) (placed no_instruction)
      (length-map (thread_at r t) placed ∙ sym e)
      (λ i b. instruction_held t i k (omega arith) ∙ sym (get_or-map placed (thread_at r t) i no_instruction))

  -- the threads of class k + 1 are the members of group k
  pub group_held : Grouped r → (k : ℕ) → members_of s.class (k + 1) ≡ get_or r.groups k []
  unfolding members_of
  group_held g k =
      let small : Everywhere (λ t. t < 6) (get_or r.groups k []) = everywhere_get_d (Everywhere (λ t. t < 6)) r.groups k [] g.small tt in
      select_members (λ t. eqb (get_or s.class t 0) (k + 1)) 0 6 (get_or r.groups k [])
      (everywhere_get_d (Ascends ltb) r.groups k [] g.ascend tt)
      (everywhere_weaken (λ t. t < 6) (λ t. 0 ≤ t) (λ t b. omega arith) (get_or r.groups k []) small)
      small
      (λ t b h. ap (λ (c : ℕ). eqb c (k + 1)) (holds.class t h) ∙ class_among 1 t r.groups k (lit< tt) g.apart)

  -- all threads, and all groups
  pub threads_held : s.threads ≤ 6 → ((t : ℕ) → length (thread_at r t) ≤ 16)
      → tabulate (λ t. thread_code code t (get_or s.lengths t 0)) s.threads ≡ map (map placed) r.threads
  unfolding thread_at
  threads_held six sixteen =
      tabulate_members (λ t. thread_code code t (get_or s.lengths t 0)) s.threads (map (map placed) r.threads) []
      (length-map r.threads (map placed) ∙ sym holds.threads)
      (λ t b. thread_held t (omega arith) (sixteen t) ∙ sym (get_or-map (map placed) r.threads t []))

  pub groups_held : Grouped r → tabulate (λ k. members_of s.class (k + 1)) s.groups ≡ r.groups
  groups_held g =
      tabulate_members (λ k. members_of s.class (k + 1)) s.groups r.groups [] (sym holds.groups) (λ k b. group_held g k)

  -- the eight starting values
  pub starting_held : s.starting.values ≡ map (λ l. value_at l r.given) locations
  starting_held =
      ext_get_or 0 s.starting.values (map (λ l. value_at l r.given) locations) holds.starting.sizes.0
      (λ l b. holds.starting.values l (omega (arith, holds.starting.sizes.0)) ∙ sym (each l (omega (arith, holds.starting.sizes.0))))
    where
      each : (l : ℕ) → l < 8 → get_or (map (λ k. value_at k r.given) locations) l 0 ≡ value_at l r.given
      each zero b = refl
      each (suc zero) b = refl
      each (suc (suc zero)) b = refl
      each (suc (suc (suc zero))) b = refl
      each (suc (suc (suc (suc zero)))) b = refl
      each (suc (suc (suc (suc (suc zero))))) b = refl
      each (suc (suc (suc (suc (suc (suc zero)))))) b = refl
      each (suc (suc (suc (suc (suc (suc (suc zero))))))) b = refl
      each (suc (suc (suc (suc (suc (suc (suc (suc l)))))))) b = absurd (omega arith)

pub program_held : (code : List ℕ) (s : Counts) (r : Reading) → Holds code s r → length r.threads ≤ 6 → ((t : ℕ) → length (thread_at r t) ≤ 16) → Grouped r
    → program_of (record { code = code; threads = s.threads; lengths = s.lengths; groups = s.groups; class = s.class; starting = s.starting.values }) ≡ program_in r
unfolding program_of program_in
program_held code s r holds six sixteen g =
    λ i. record {
      threads = threads_held code s r holds (rw holds.threads six) sixteen i;
      groups = groups_held code s r holds g i;
      starting = starting_held code s r holds i;
    }
