-- Settling, one instruction after the other, as the code carries them out.
use Rattle.std.proofs.Common.{◌≡◌, ℕ, zero, suc, ◌+◌, ◌*◌, ◌<◌, ◌≤◌, true, false, List, [], ◌∷◌, length, drop, sym, refl, ap, ◌∙◌, true≢false, arith, drop_of_length-le, drop-cons, drop-drop}
use Rattle.std.specs.Prelude.{Option, None, Some}
use mathlib.Core.Bool.{false≢true}
use Rattle.spec_file.specs.declared.instruction.Own.{Own}
use Rattle.spec_file.specs.declared.instruction.Instruction.{Instruction}
use Rattle.spec_file.specs.declared.instruction.Instruction.TheVariants.{Memory, Alone}
use Rattle.file_rows.specs.Rows.{instruction_at, thread_code}
use Rattle.file_rows.proofs.Tabulate.{length_tabulate, get_d_tabulate}
use Rattle.spec_sc.specs.Local.{Local, Outcome, continues, stops, outcome, settle, begins_with_access}
use Rattle.spec_sc.proofs.Access.{settle_continues, settle_stops}
use Rattle.machine_local.specs.declared.local.Carried.{Carried}
use Rattle.machine_local.specs.CarriedOut.{carried}
use Rattle.machine_access.specs.CarriedOut.{local_of}

-- ---- one instruction
settle_stands : (i : Instruction) (is : List Instruction) (rs : List ℕ) → begins_with_access (i ∷ []) ≡ true → settle 0 rs (i ∷ is) ≡ record { registers = rs; rest = i ∷ is; failed = false }
unfolding begins_with_access settle
settle_stands (Memory a) is rs e = refl
settle_stands (Alone o) is rs e = absurd (false≢true e)

-- what is no access is a thread's own
own_of : (i : Instruction) → begins_with_access (i ∷ []) ≡ false → (o : Own) × (i ≡ Alone o)
unfolding begins_with_access
own_of (Memory a) e = absurd (true≢false e)
own_of (Alone o) e = (o, refl)

carried_fails : (o : Own) (is : List Instruction) (rs : List ℕ) (x : Outcome) → outcome rs o ≡ x → carried x ≡ None
    → settle 0 rs (Alone o ∷ is) ≡ record { registers = rs; rest = []; failed = true }
carried_fails o is rs (continues ss k) q e = cc
carried_fails o is rs stops q e = settle_stops o is rs q

carried_goes : (o : Own) (is : List Instruction) (rs : List ℕ) (x : Outcome) → outcome rs o ≡ x → (r : Carried) → carried x ≡ Some r
    → settle 0 rs (Alone o ∷ is) ≡ settle r.skip r.registers is
carried_goes o is rs (continues ss k) q r e =
    let same : record { registers = ss; skip = k } ≡ r = cc in
    settle_continues o is rs ss k q ∙ ap (λ (j : Carried). settle j.skip j.registers is) same
carried_goes o is rs stops q r e = cc

-- skipping leaves what lies behind
settle_skip : (k : ℕ) (rs : List ℕ) (is : List Instruction) → settle k rs is ≡ settle 0 rs (drop k is)
unfolding settle
settle_skip zero rs is = refl
settle_skip (suc k) rs [] = refl
settle_skip (suc k) rs (i ∷ is) = settle_skip k rs is

-- ---- the code of a thread
pub length_code : (code : List ℕ) (t n : ℕ) → length (thread_code code t n) ≡ n
unfolding thread_code
length_code code t n = length_tabulate (λ i. instruction_at code (t * 16 + i)) n

pub code_at_lem : (code : List ℕ) (t n i : ℕ) → i < n → drop i (thread_code code t n) ≡ instruction_at code (t * 16 + i) ∷ drop (suc i) (thread_code code t n)
unfolding thread_code
code_at_lem code t n i h =
    drop-cons (thread_code code t n) i (instruction_at code 0) (omega (arith, length_code code t n))
    ∙ ap (λ (x : Instruction). x ∷ drop (suc i) (thread_code code t n)) (get_d_tabulate (λ j. instruction_at code (t * 16 + j)) n i (instruction_at code 0) h)

-- behind its end there is nothing
pub code_end : (code : List ℕ) (t n i : ℕ) → n ≤ i → drop i (thread_code code t n) ≡ []
code_end code t n i h = drop_of_length-le (thread_code code t n) {i = i} (omega (arith, length_code code t n))

-- ---- the loop: thread t of n instructions stands at instruction i with registers rs, and S is what settling from there on gives
module _ (code : List ℕ) (t n : ℕ) (S : Local) (i : ℕ) (rs : List ℕ) (d : ℕ) (left : S ≡ settle 0 rs (drop i (thread_code code t n))) where
  abbrev c : List Instruction
  c = thread_code code t n

  -- the code is used up, at its end j
  pub loop_ends : n ≤ i → (j : ℕ) → n ≤ j → local_of c (record { registers = rs; at = j; done = d; failed = false }) ≡ S
  unfolding settle
  loop_ends h j e = sym (left ∙ ap (settle 0 rs) (code_end code t n i h) ∙ ap (λ (is : List Instruction). record { registers = rs; rest = is; failed = false }) (sym (code_end code t n j e)))

  -- one instruction more
  module _ (h : i < n) where
    abbrev x : Instruction
    x = instruction_at code (t * 16 + i)

    here : drop i c ≡ x ∷ drop (suc i) c
    here = code_at_lem code t n i h

    -- an access comes next
    pub loop_stands : begins_with_access (instruction_at code (t * 16 + i) ∷ []) ≡ true → local_of c (record { registers = rs; at = i; done = d; failed = false }) ≡ S
    loop_stands e =
        sym (left ∙ ap (settle 0 rs) here ∙ settle_stands x (drop (suc i) c) rs e
        ∙ ap (λ (is : List Instruction). record { registers = rs; rest = is; failed = false }) (sym here))

    -- what is no access is carried out: r is what it does
    module _ (e : begins_with_access (instruction_at code (t * 16 + i) ∷ []) ≡ false) (r : Option Carried)
        (er : (o : Own) → instruction_at code (t * 16 + i) ≡ Alone o → r ≡ carried (outcome rs o)) where
      abbrev o : Own
      o = (own_of (instruction_at code (t * 16 + i)) e).0

      is_own : instruction_at code (t * 16 + i) ≡ Alone o
      is_own = (own_of (instruction_at code (t * 16 + i)) e).1

      own : drop i c ≡ Alone o ∷ drop (suc i) c
      own = here ∙ ap (λ (j : Instruction). j ∷ drop (suc i) c) is_own

      same : carried (outcome rs o) ≡ r
      same = sym (er o is_own)

      -- an assertion fails
      pub loop_fails : r ≡ None → local_of c (record { registers = rs; at = n; done = d; failed = true }) ≡ S
      loop_fails f =
          sym (left ∙ ap (settle 0 rs) own ∙ carried_fails o (drop (suc i) c) rs (outcome rs o) refl (same ∙ f)
          ∙ ap (λ (is : List Instruction). record { registers = rs; rest = is; failed = true }) (sym (code_end code t n n (omega arith))))

      -- the thread goes on
      pub loop_goes : (k : ℕ) (g : Carried) → r ≡ Some g → k ≡ g.skip → S ≡ settle 0 g.registers (drop (i + (k + 1)) c)
      loop_goes k g f q =
          left ∙ ap (settle 0 rs) own
          ∙ carried_goes o (drop (suc i) c) rs (outcome rs o) refl g (same ∙ f)
          ∙ settle_skip g.skip g.registers (drop (suc i) c)
          ∙ ap (settle 0 g.registers) (drop-drop g.skip (suc i) c ∙ ap (λ (j : ℕ). drop j c) (let z : suc i + g.skip ≡ i + (k + 1) = omega arith in z))
