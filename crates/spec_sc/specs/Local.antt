-- A thread by itself: its registers and what is left of its code. Memory meets it through four functions of an access only: where it goes,
-- whether it reads, what it writes on finding a value, and the registers behind it. What a thread does by itself is settling. Single
-- instructions appear here and nowhere else.
use Rattle.std.specs.Prelude.{ℕ, zero, suc, ◌+◌, ◌%◌, ◌^◌, Bool, true, false, cond, List, [], ◌∷◌, eqb, get_or, set}
use Rattle.std.proofs.Math.Option.{Option, none, some}
use Rattle.spec_file.specs.declared.instruction.Operand.{Operand}
use Rattle.spec_file.specs.declared.instruction.Operand.TheVariants.{Constant, Register}
use Rattle.spec_file.specs.declared.instruction.Access.{Access}
use Rattle.spec_file.specs.declared.instruction.Access.TheVariants.{Store, Load, FetchAdd, CompareSwap}
use Rattle.spec_file.specs.declared.instruction.Comparison.{Comparison}
use Rattle.spec_file.specs.declared.instruction.Comparison.TheVariants.{Equal, AtMost}
use Rattle.spec_file.specs.declared.instruction.Test.{Test}
use Rattle.spec_file.specs.declared.instruction.Own.{Own}
use Rattle.spec_file.specs.declared.instruction.Own.TheVariants.{Assign, AddAssign, SkipUnless, Assert}
use Rattle.spec_file.specs.declared.instruction.Instruction.{Instruction}
use Rattle.spec_file.specs.declared.instruction.Instruction.TheVariants.{Memory, Alone}
use Rattle.spec_sc.specs.Signed.{at_most}

-- registers, what is left of the code, and whether an assertion failed; a thread has ended when nothing is left
pub record Local : Type 0 where
  pub registers : List ℕ
  pub rest : List Instruction
  pub failed : Bool

-- the value of an operand
unfoldable pub eval : List ℕ → Operand → ℕ
eval rs (Constant v) = v
eval rs (Register k) = get_or rs k 0

-- sums wrap at 32 bits
unfoldable pub sum32 : ℕ → ℕ → ℕ
sum32 a b = (a + b) % 2 ^ 32

-- ---- an access
-- the location that it goes to
unfoldable pub access_place : Access → ℕ
access_place (Store l p) = l
access_place (Load r l) = l
access_place (FetchAdd r l p) = l
access_place (CompareSwap r l e v) = l

-- whether an access reads
unfoldable pub access_takes : Access → Bool
access_takes (Store l p) = false
access_takes (Load r l) = true
access_takes (FetchAdd r l p) = true
access_takes (CompareSwap r l e v) = true

-- what an access writes on finding x: nothing for a load, for a fetch and add of zero and for a compare and swap that fails
unfoldable pub access_puts : List ℕ → Access → ℕ → Option ℕ
access_puts rs (Store l p) x = some (eval rs p)
access_puts rs (Load r l) x = none
access_puts rs (FetchAdd r l p) x = cond (eqb (eval rs p) 0) none (some (sum32 x (eval rs p)))
access_puts rs (CompareSwap r l e v) x = cond (eqb x (eval rs e)) (some (eval rs v)) none

-- the registers behind an access: a read's holds x
unfoldable pub access_sets : List ℕ → Access → ℕ → List ℕ
access_sets rs (Store l p) x = rs
access_sets rs (Load r l) x = set rs r x
access_sets rs (FetchAdd r l p) x = set rs r x
access_sets rs (CompareSwap r l e v) x = set rs r x

-- ---- what a thread does by itself
-- a comparison of two values
unfoldable pub compare : Comparison → ℕ → ℕ → Bool
compare Equal a b = eqb a b
compare AtMost a b = at_most a b

-- whether a test holds
unfoldable pub holds : List ℕ → Test → Bool
holds rs t = compare t.comparison (get_or rs t.register 0) (eval rs t.operand)

-- how an instruction that is no access ends: with these registers and so many instructions skipped, or an assertion has failed
pub data Outcome : Type 0 where
  continues : List ℕ → ℕ → Outcome
  stops : Outcome

unfoldable pub outcome : List ℕ → Own → Outcome
outcome rs (Assign r p) = continues (set rs r (eval rs p)) 0
outcome rs (AddAssign r p) = continues (set rs r (sum32 (get_or rs r 0) (eval rs p))) 0
outcome rs (SkipUnless t n) = continues rs (cond (holds rs t) 0 n)
outcome rs (Assert t) = cond (holds rs t) (continues rs 0) stops

-- carries out the instructions up to the next access; the first number says how many to skip. A failed assertion leaves no code.
unfoldable pub settle : ℕ → List ℕ → List Instruction → Local
settle k rs [] = record { registers = rs; rest = []; failed = false }
settle (suc k) rs (i ∷ is) = settle k rs is
settle zero rs (Memory a ∷ is) = record { registers = rs; rest = Memory a ∷ is; failed = false }
settle zero rs (Alone o ∷ is) = elim (outcome rs o) [
  | continues ss k ↦ settle k ss is
  | stops ↦ record { registers = rs; rest = []; failed = true }
]

-- ---- a thread's code
-- whether this code begins with an access
unfoldable pub begins_with_access : List Instruction → Bool
begins_with_access [] = false
begins_with_access (Memory a ∷ is) = true
begins_with_access (Alone o ∷ is) = false

-- the location that this code's first access goes to
unfoldable pub first_place : List Instruction → ℕ
first_place [] = 0
first_place (Memory a ∷ is) = access_place a
first_place (Alone o ∷ is) = 0

-- whether this code's first access reads
unfoldable pub first_takes : List Instruction → Bool
first_takes [] = false
first_takes (Memory a ∷ is) = access_takes a
first_takes (Alone o ∷ is) = false

-- what this code's first access writes on finding x
unfoldable pub first_puts : List ℕ → List Instruction → ℕ → Option ℕ
first_puts rs [] x = none
first_puts rs (Memory a ∷ is) x = access_puts rs a x
first_puts rs (Alone o ∷ is) x = none

-- the thread behind its code's first access, settled again
unfoldable pub first_next : Local → List Instruction → ℕ → Local
first_next h [] x = h
first_next h (Memory a ∷ is) x = settle 0 (access_sets h.registers a x) is
first_next h (Alone o ∷ is) x = h

-- a thread may step when an access comes next; otherwise it has ended
unfoldable pub pending : Local → Bool
pending h = begins_with_access h.rest

-- the location of a thread's next access
unfoldable pub place_of : Local → ℕ
place_of h = first_place h.rest

-- whether a thread's next access reads
unfoldable pub takes : Local → Bool
takes h = first_takes h.rest

-- what its next access writes on finding x, if anything
unfoldable pub puts : Local → ℕ → Option ℕ
puts h x = first_puts h.registers h.rest x

-- the thread behind its next access, which found x
unfoldable pub next : Local → ℕ → Local
next h x = first_next h h.rest x

-- a thread before its first step: registers 0, and settled, so that an assertion can have failed already
unfoldable pub begin : List Instruction → Local
begin c = settle 0 (0 ∷ 0 ∷ 0 ∷ 0 ∷ []) c
