-- Values are 32-bit: memory and registers start with 0, constants are below 2^32 and sums wrap, so that a thread which finds such values
-- keeps such registers and writes such values.
use Prim.Native.Nat.{ℕ, zero, suc, ◌<◌, ◌^◌}
use mathlib.Core.Path.{◌≡◌, refl, sym, subst}
use mathlib.Core.Bool.{Bool, true, false, cond}
use mathlib.Core.Option.{none, some, none-ne-some}
use mathlib.Core.List.{List, [], ◌∷◌}
use native.Mathlib.Omega.{arith}
use lib.Dec.{eqb}
use lib.ListN.{get_or, set}
use Rattle.spec_file.specs.Program.{Program, initial}
use Rattle.spec_file.specs.WellFormed.{WellFormed, Everywhere, OperandInRange, AccessInRange, OwnInRange, InRange}
use Rattle.spec_file.specs.declared.instruction.Operand.{Operand}
use Rattle.spec_file.specs.declared.instruction.Operand.TheVariants.{Constant, Register}
use Rattle.spec_file.specs.declared.instruction.Access.{Access}
use Rattle.spec_file.specs.declared.instruction.Access.TheVariants.{Store, Load, FetchAdd, CompareSwap}
use Rattle.spec_file.specs.declared.instruction.Own.{Own}
use Rattle.spec_file.specs.declared.instruction.Own.TheVariants.{Assign, AddAssign, SkipUnless, Assert}
use Rattle.spec_file.specs.declared.instruction.Instruction.{Instruction}
use Rattle.spec_file.specs.declared.instruction.Instruction.TheVariants.{Memory, Alone}
use Rattle.spec_file.proofs.Everywhere.{everywhere_get_d, everywhere_set}
use Rattle.spec_sc.specs.Local.{Local, eval, sum32, access_puts, access_sets, holds, Outcome, continues, stops, outcome, settle, first_puts, first_next, pending, puts, next, begin}
use Rattle.spec_sc.specs.State.{no_thread, thread_of, opened, start}
use Rattle.spec_sc.proofs.Suffix.{suffix_everywhere}
use Rattle.spec_sc.proofs.Access.{settle_continues, settle_stops, next_suffix, begin_law}
use Rattle.spec_sc.proofs.Idle.{idle}
use Rattle.spec_sc.proofs.Start.{start_cases}

abbrev pub Word : ℕ → Type 0
Word x = x < 2 ^ 32

sum_word : (a b : ℕ) → Word (sum32 a b)
unfolding sum32
sum_word a b = omega arith

eval_word : (rs : List ℕ) (o : Operand) → Everywhere Word rs → OperandInRange o → Word (eval rs o)
unfolding eval
eval_word rs (Constant v) w r = r
eval_word rs (Register k) w r = everywhere_get_d Word rs k 0 w (omega arith)

outcome_words : (o : Own) (rs ss : List ℕ) (k : ℕ) → OwnInRange o → Everywhere Word rs → outcome rs o ≡ continues ss k → Everywhere Word ss
unfolding outcome
outcome_words (Assign r p) rs ss k i w e =
    let q : set rs r (eval rs p) ≡ ss = cc in
    subst (Everywhere Word) q (everywhere_set Word rs r (eval rs p) w (eval_word rs p w i.1))
outcome_words (AddAssign r p) rs ss k i w e =
    let v : ℕ = sum32 (get_or rs r 0) (eval rs p) in
    let q : set rs r v ≡ ss = cc in
    subst (Everywhere Word) q (everywhere_set Word rs r v w (sum_word (get_or rs r 0) (eval rs p)))
outcome_words (SkipUnless t n) rs ss k i w e = let q : rs ≡ ss = cc in subst (Everywhere Word) q w
outcome_words (Assert t) rs ss k i w e = go (holds rs t) e
  where
    go : (b : Bool) → cond b (continues rs 0) stops ≡ continues ss k → Everywhere Word ss
    go true q = let j : rs ≡ ss = cc in subst (Everywhere Word) j w
    go false q = let z : ◌≡◌ {A = ℕ} 0 1 = cc in absurd (omega arith)

settle_words : (is : List Instruction) (k : ℕ) (rs : List ℕ) → Everywhere InRange is → Everywhere Word rs → Everywhere Word (settle k rs is).registers
unfolding settle
settle_words [] k rs i w = w
settle_words (x ∷ is) (suc k) rs i w = settle_words is k rs i.1 w
settle_words (Memory a ∷ is) zero rs i w = w
settle_words (Alone o ∷ is) zero rs i w = go (outcome rs o) refl (λ k ss. settle_words is k ss i.1)
  where
    go : (x : Outcome) → outcome rs o ≡ x → ((k : ℕ) (ss : List ℕ) → Everywhere Word ss → Everywhere Word (settle k ss is).registers) → Everywhere Word (settle zero rs (Alone o ∷ is)).registers
    go (continues ss k) e ih = subst (λ (h : Local). Everywhere Word h.registers) (sym (settle_continues o is rs ss k e)) (ih k ss (outcome_words o rs ss k i.0 w e))
    go stops e ih = subst (λ (h : Local). Everywhere Word h.registers) (sym (settle_stops o is rs e)) w

-- the thread's code is in range and its registers hold 32-bit values
abbrev pub Words : Local → Type 0
Words h = Everywhere InRange h.rest × Everywhere Word h.registers

access_words : (a : Access) (rs : List ℕ) (x : ℕ) → Everywhere Word rs → Word x → Everywhere Word (access_sets rs a x)
unfolding access_sets
access_words (Store l p) rs x w y = w
access_words (Load r l) rs x w y = everywhere_set Word rs r x w y
access_words (FetchAdd r l p) rs x w y = everywhere_set Word rs r x w y
access_words (CompareSwap r l e v) rs x w y = everywhere_set Word rs r x w y

registers_at : (h : Local) (is : List Instruction) (x : ℕ) → Everywhere InRange is → Everywhere Word h.registers → Word x → Everywhere Word (first_next h is x).registers
unfolding first_next
registers_at h [] x i w y = w
registers_at h (Memory a ∷ is) x i w y = settle_words is 0 (access_sets h.registers a x) i.1 (access_words a h.registers x w y)
registers_at h (Alone o ∷ is) x i w y = w

-- registers behind an access that found a value of 32 bits have 32 bits
pub next_words : (h : Local) (x : ℕ) → Words h → Word x → Words (next h x)
unfolding next
next_words h x w y = (go (pending h) refl, registers_at h h.rest x w.0 w.1 y)
  where
    go : (b : Bool) → pending h ≡ b → Everywhere InRange (next h x).rest
    go true e = suffix_everywhere InRange (next h x).rest h.rest (next_suffix h x e) w.0
    go false e = subst (λ (k : Local). Everywhere InRange k.rest) (sym (idle h x e).stays) w.0

access_puts_word : (a : Access) (rs : List ℕ) (x y : ℕ) → AccessInRange a → Everywhere Word rs → access_puts rs a x ≡ some y → Word y
unfolding access_puts
access_puts_word (Store l p) rs x y i w e = let q : eval rs p ≡ y = cc in subst Word q (eval_word rs p w i.1)
access_puts_word (Load r l) rs x y i w e = absurd (none-ne-some y e)
access_puts_word (FetchAdd r l p) rs x y i w e = go (eqb (eval rs p) 0) e
  where
    go : (b : Bool) → cond b none (some (sum32 x (eval rs p))) ≡ some y → Word y
    go true k = absurd (none-ne-some y k)
    go false k = let q : sum32 x (eval rs p) ≡ y = cc in subst Word q (sum_word x (eval rs p))
access_puts_word (CompareSwap r l c v) rs x y i w e = go (eqb x (eval rs c)) e
  where
    go : (b : Bool) → cond b (some (eval rs v)) none ≡ some y → Word y
    go true k = let q : eval rs v ≡ y = cc in subst Word q (eval_word rs v w i.3)
    go false k = absurd (none-ne-some y k)

puts_at : (rs : List ℕ) (is : List Instruction) (x y : ℕ) → Everywhere InRange is → Everywhere Word rs → first_puts rs is x ≡ some y → Word y
unfolding first_puts
puts_at rs [] x y i w e = absurd (none-ne-some y e)
puts_at rs (Memory a ∷ is) x y i w e = access_puts_word a rs x y i.0 w e
puts_at rs (Alone o ∷ is) x y i w e = absurd (none-ne-some y e)

-- an access writes a value of 32 bits
pub puts_word : (h : Local) (x y : ℕ) → Words h → puts h x ≡ some y → Word y
unfolding puts
puts_word h x y w e = puts_at h.registers h.rest x y w.0 w.1 e

begin_words : (c : List Instruction) → Everywhere InRange c → Words (begin c)
unfolding begin
begin_words c i = (suffix_everywhere InRange (begin c).rest c (begin_law c).1 i, settle_words c 0 (0 ∷ 0 ∷ 0 ∷ 0 ∷ []) i (omega arith, (omega arith, (omega arith, (omega arith, tt)))))

-- at the start it is of every thread, and memory holds such values
pub start_words : (p : Program) → WellFormed p → (t : ℕ) → Words (thread_of (start p) t).local
unfolding opened no_thread
start_words p wf = start_cases p (Everywhere InRange) (λ h. Words h.local) (tt, tt) begin_words wf.ranges

pub initial_word : (p : Program) → WellFormed p → (l : ℕ) → Word (get_or (initial p) l 0)
unfolding initial
initial_word p w l = everywhere_get_d Word p.starting l 0 w.words (omega arith)
