-- Accesses counted row after row, and thread after thread.
use Rattle.std.proofs.Common.{◌≡◌, ℕ, zero, suc, ◌+◌, ◌*◌, Bool, cond, List, [], ◌∷◌, get_or, refl, arith}
use Rattle.spec_file.specs.declared.instruction.Instruction.{Instruction}
use Rattle.spec_file.specs.declared.instruction.Instruction.TheVariants.{Memory, Alone}
use Rattle.spec_file.specs.WellFormed.{accesses, all_accesses}
use Rattle.spec_file.specs.Tabulate.{tabulate}
use Rattle.file_rows.specs.Rows.{instruction_at, thread_code}
use Rattle.spec_sc.specs.Local.{begins_with_access}
use Rattle.machine_access.specs.Counted.{accesses_below}

-- one for an access, else none
abbrev pub one : Bool → ℕ
one b = cond b 1 0

first_counted : (i : Instruction) (is : List Instruction) → accesses (i ∷ is) ≡ one (begins_with_access (i ∷ [])) + accesses is
unfolding accesses begins_with_access
first_counted (Memory a) is = omega arith
first_counted (Alone o) is = omega arith

last_counted : (f : ℕ → Instruction) (n : ℕ) → accesses (tabulate f (suc n)) ≡ accesses (tabulate f n) + one (begins_with_access (f n ∷ []))
unfolding tabulate accesses
last_counted f zero = let q = first_counted (f 0) [] in omega (arith, q)
last_counted f (suc n) =
    let a = first_counted (f 0) (tabulate (λ i. f (suc i)) (suc n)) in
    let b = first_counted (f 0) (tabulate (λ i. f (suc i)) n) in
    let ih = last_counted (λ i. f (suc i)) n in
    omega (arith, a, b, ih)

last_thread : (f : ℕ → List Instruction) (n : ℕ) → all_accesses (tabulate f (suc n)) ≡ all_accesses (tabulate f n) + accesses (f n)
unfolding tabulate all_accesses
last_thread f zero = omega arith
last_thread f (suc n) = let ih = last_thread (λ i. f (suc i)) n in omega (arith, ih)

module _ (code : List ℕ) where
  -- none of a thread's instructions
  pub counted_none : (t : ℕ) → accesses (thread_code code t 0) ≡ 0
  unfolding thread_code tabulate accesses
  counted_none t = refl

  -- one instruction more
  pub counted_next : (t i : ℕ) → accesses (thread_code code t (i + 1)) ≡ accesses (thread_code code t i) + one (begins_with_access (instruction_at code (t * 16 + i) ∷ []))
  unfolding thread_code
  counted_next t i = let n : i + 1 ≡ suc i = omega arith in rw n (last_counted (λ j. instruction_at code (t * 16 + j)) i)

  module _ (lengths : List ℕ) where
    -- no thread
    pub below_none : accesses_below code lengths 0 ≡ 0
    unfolding accesses_below tabulate all_accesses
    below_none = refl

    -- one thread more
    pub below_next : (t : ℕ) → accesses_below code lengths (t + 1) ≡ accesses_below code lengths t + accesses (thread_code code t (get_or lengths t 0))
    unfolding accesses_below
    below_next t = let n : t + 1 ≡ suc t = omega arith in rw n (last_thread (λ u. thread_code code u (get_or lengths u 0)) t)
