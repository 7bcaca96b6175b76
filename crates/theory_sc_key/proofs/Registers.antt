-- LIKE LOCAL STATES DO THE SAME: they write the same, fail alike behind their next access, and are like again.
use Prim.Native.Nat.{ℕ, zero, suc, ◌<◌}
use mathlib.Core.Path.{◌≡◌, refl, sym, ap, ap₂, subst, ◌∙◌}
use mathlib.Core.Bool.{Bool, true, false, not, ◌||◌, cond, false≢true}
use mathlib.Core.Option.{none, some}
use mathlib.Core.List.{List, [], ◌∷◌}
use native.Mathlib.Omega.{arith}
use native.Mathlib.Decide.{ℕ_discrete, dec_lt}
use lib.Dec.{eqb}
use lib.ListN.{length, length-set, get_or, set, get_or-eq_default}
use lib.Seq.{get_or-set_same, get_or-set_other, set_out}
use borrow.Author.Tests.{eq-eqb, ne_eqb}
use Rattle.spec_file.specs.WellFormed.{most_skipped}
use Rattle.spec_file.specs.declared.instruction.Operand.{Operand}
use Rattle.spec_file.specs.declared.instruction.Operand.TheVariants.{Constant, Register}
use Rattle.spec_file.specs.declared.instruction.Access.{Access}
use Rattle.spec_file.specs.declared.instruction.Access.TheVariants.{Store, Load, FetchAdd, CompareSwap}
use Rattle.spec_file.specs.declared.instruction.Test.{Test}
use Rattle.spec_file.specs.declared.instruction.Own.{Own}
use Rattle.spec_file.specs.declared.instruction.Own.TheVariants.{Assign, AddAssign, SkipUnless, Assert}
use Rattle.spec_file.specs.declared.instruction.Instruction.{Instruction}
use Rattle.spec_file.specs.declared.instruction.Instruction.TheVariants.{Memory, Alone}
use Rattle.spec_model.proofs.Permitted.{or_left, or_right}
use Rattle.spec_sc.proofs.Access.{settle_continues, settle_stops}
use Rattle.spec_sc.proofs.Same.{both_and}
use Rattle.spec_sc.specs.Local.{Local, eval, sum32, access_puts, access_sets, compare, holds, Outcome, continues, stops, outcome, settle, begins_with_access, first_puts, first_next, pending, puts, next}
use Rattle.theory_sc_key.specs.Registers.{in_operand, in_test, reads_register, writes_register, live, Agree, Like}

pub like_sym : (h k : Local) → Like h k → Like k h
like_sym h k e = record { rest = sym e.rest; registers = (sym e.registers.0, λ r l. sym (e.registers.1 r (ap (λ (c : List Instruction). live 0 c r) e.rest ∙ l))) }

-- ---- operands and tests go by the registers in them
operand_alike : (p : Operand) (rs ss : List ℕ) → ((r : ℕ) → in_operand p r ≡ true → get_or rs r 0 ≡ get_or ss r 0) → eval rs p ≡ eval ss p
unfolding eval in_operand
operand_alike (Constant v) rs ss same = refl
operand_alike (Register k) rs ss same = same k (eq-eqb k k refl)

test_alike : (t : Test) (rs ss : List ℕ) → ((r : ℕ) → in_test t r ≡ true → get_or rs r 0 ≡ get_or ss r 0) → holds rs t ≡ holds ss t
unfolding holds in_test
test_alike t rs ss same =
    let k : ℕ = t.register in
    let left = same k (or_left (eqb k k) _ (eq-eqb k k refl)) in
    let right = operand_alike t.operand rs ss (λ r m. same r (or_right (eqb k r) _ m)) in
    ap₂ (compare t.comparison) left right

-- ---- registers behind an instruction
module _ (i : Instruction) (is : List Instruction) (rs ss : List ℕ) (a : Agree 0 (i ∷ is) rs ss) where
  -- what it reads is the same
  reads : (r : ℕ) → reads_register i r ≡ true → get_or rs r 0 ≡ get_or ss r 0
  unfolding live
  reads r e = a.1 r (or_left (reads_register i r) _ e)

  -- and what is live behind it, unless it writes it
  passes : (r : ℕ) → writes_register i r ≡ false → (live 0 is r || live (most_skipped i) is r) ≡ true → get_or rs r 0 ≡ get_or ss r 0
  unfolding live
  passes r e l = a.1 r (or_right (reads_register i r) _ (both_and (ap not e) l))

  on : ((r : ℕ) → writes_register i r ≡ false) → Agree 0 is rs ss
  on e = (a.0, λ r l. passes r (e r) (or_left (live 0 is r) _ l))

  skipped : ((r : ℕ) → writes_register i r ≡ false) → Agree (most_skipped i) is rs ss
  skipped e = (a.0, λ r l. passes r (e r) (or_right (live 0 is r) _ l))

  -- it writes q, and the same in both
  put : (q x y : ℕ) → ((r : ℕ) → writes_register i r ≡ eqb q r) → x ≡ y → Agree 0 is (set rs q x) (set ss q y)
  put q x y e same = (length-set rs q x ∙ a.0 ∙ sym (length-set ss q y), λ r l. go r l (ℕ_discrete r q) (dec_lt q (length rs)))
    where
      go : (r : ℕ) → live 0 is r ≡ true → Dec (r ≡ q) → Dec (q < length rs) → get_or (set rs q x) r 0 ≡ get_or (set ss q y) r 0
      go r l (no n) d =
          get_or-set_other rs q r x 0 n ∙ passes r (e r ∙ ne_eqb q r (λ j. n (sym j))) (or_left (live 0 is r) _ l) ∙ sym (get_or-set_other ss q r y 0 n)
      go r l (yes n) (yes h) = subst (λ (j : ℕ). get_or (set rs q x) j 0 ≡ get_or (set ss q y) j 0) (sym n)
          (get_or-set_same rs q x 0 h ∙ same ∙ sym (get_or-set_same ss q y 0 (omega (arith, h, a.0))))
      go r l (yes n) (no h) =
          ap (λ (k : List ℕ). get_or k r 0) (set_out rs q x (omega arith)) ∙ get_or-eq_default rs 0 {n = r} (omega arith)
          ∙ sym (ap (λ (k : List ℕ). get_or k r 0) (set_out ss q y (omega (arith, h, a.0))) ∙ get_or-eq_default ss 0 {n = r} (omega (arith, h, a.0)))

-- ---- WHAT A THREAD DOES BY ITSELF
-- two outcomes before the same code: as many instructions are skipped and what is live behind them is the same, or both stop
abbrev Alike : List Instruction → Outcome → Outcome → Type 0
Alike is (continues us k) (continues ws m) = (k ≡ m) × Agree k is us ws
Alike is (continues us k) stops = ⊥
Alike is stops (continues ws m) = ⊥
Alike is stops stops = Unit {0}

outcome_alike : (o : Own) (is : List Instruction) (rs ss : List ℕ) → Agree 0 (Alone o ∷ is) rs ss → Alike is (outcome rs o) (outcome ss o)
unfolding outcome reads_register writes_register
outcome_alike (Assign q p) is rs ss a =
    let i : Instruction = Alone (Assign q p) in
    (refl, put i is rs ss a q (eval rs p) (eval ss p) (λ r. refl) (operand_alike p rs ss (reads i is rs ss a)))
outcome_alike (AddAssign q p) is rs ss a =
    let i : Instruction = Alone (AddAssign q p) in
    let sums = ap₂ sum32 (reads i is rs ss a q (or_left (eqb q q) _ (eq-eqb q q refl))) (operand_alike p rs ss (λ r m. reads i is rs ss a r (or_right (eqb q r) _ m))) in
    (refl, put i is rs ss a q (sum32 (get_or rs q 0) (eval rs p)) (sum32 (get_or ss q 0) (eval ss p)) (λ r. refl) sums)
outcome_alike (SkipUnless t n) is rs ss a = (ap (λ (b : Bool). cond b 0 n) (test_alike t rs ss (reads (Alone (SkipUnless t n)) is rs ss a)), by (holds rs t))
  where
    by : (b : Bool) → Agree (cond b 0 n) is rs ss
    by true = on (Alone (SkipUnless t n)) is rs ss a (λ r. refl)
    by false = skipped (Alone (SkipUnless t n)) is rs ss a (λ r. refl)
outcome_alike (Assert t) is rs ss a = subst (λ (b : Bool). Alike is (cond (holds rs t) (continues rs 0) stops) (cond b (continues ss 0) stops)) (test_alike t rs ss (reads (Alone (Assert t)) is rs ss a)) (by (holds rs t))
  where
    by : (b : Bool) → Alike is (cond b (continues rs 0) stops) (cond b (continues ss 0) stops)
    by true = (refl, on (Alone (Assert t)) is rs ss a (λ r. refl))
    by false = tt

abbrev pub Settles : Local → Local → Type 0
Settles h k = Like h k × (h.failed ≡ k.failed)

nothing_left : (rs ss : List ℕ) (b : Bool) → length rs ≡ length ss → Settles (record { registers = rs; rest = []; failed = b }) (record { registers = ss; rest = []; failed = b })
unfolding live
nothing_left rs ss b many = (record { rest = refl; registers = (many, λ r l. absurd (false≢true l)) }, refl)

settle_like : (is : List Instruction) (k : ℕ) (rs ss : List ℕ) → Agree k is rs ss → Settles (settle k rs is) (settle k ss is)
unfolding settle live
settle_like [] k rs ss a = nothing_left rs ss false a.0
settle_like (Memory x ∷ is) zero rs ss a = (record { rest = refl; registers = a }, refl)
settle_like (i ∷ is) (suc k) rs ss a = settle_like is k rs ss a
settle_like (Alone o ∷ is) zero rs ss a = go (outcome rs o) (outcome ss o) refl refl (outcome_alike o is rs ss a) (λ k us ws b. settle_like is k us ws b)
  where
    go : (x y : Outcome) → outcome rs o ≡ x → outcome ss o ≡ y → Alike is x y → ((k : ℕ) (us ws : List ℕ) → Agree k is us ws → Settles (settle k us is) (settle k ws is)) →
        Settles (settle zero rs (Alone o ∷ is)) (settle zero ss (Alone o ∷ is))
    go (continues us k) (continues ws m) e f alike ih = rw (settle_continues o is rs us k e, settle_continues o is ss ws m f)
        (subst (λ (j : ℕ). Settles (settle k us is) (settle j ws is)) alike.0 (ih k us ws alike.1))
    go (continues us k) stops e f alike ih = absurd alike
    go stops (continues ws m) e f alike ih = absurd alike
    go stops stops e f alike ih = rw (settle_stops o is rs e, settle_stops o is ss f) (nothing_left rs ss true a.0)

-- ---- an access
puts_same : (x : Access) (is : List Instruction) (rs ss : List ℕ) (v : ℕ) → Agree 0 (Memory x ∷ is) rs ss → access_puts rs x v ≡ access_puts ss x v
unfolding access_puts reads_register
puts_same (Store l p) is rs ss v a = ap some (operand_alike p rs ss (reads (Memory (Store l p)) is rs ss a))
puts_same (Load k l) is rs ss v a = refl
puts_same (FetchAdd k l p) is rs ss v a = ap (λ (y : ℕ). cond (eqb y 0) none (some (sum32 v y))) (operand_alike p rs ss (reads (Memory (FetchAdd k l p)) is rs ss a))
puts_same (CompareSwap k l e p) is rs ss v a =
    let same = reads (Memory (CompareSwap k l e p)) is rs ss a in
    ap₂ (λ (x y : ℕ). cond (eqb v x) (some y) none) (operand_alike e rs ss (λ r m. same r (or_left (in_operand e r) _ m))) (operand_alike p rs ss (λ r m. same r (or_right (in_operand e r) _ m)))

sets_same : (x : Access) (is : List Instruction) (rs ss : List ℕ) (v : ℕ) → Agree 0 (Memory x ∷ is) rs ss → Agree 0 is (access_sets rs x v) (access_sets ss x v)
unfolding access_sets writes_register
sets_same (Store l p) is rs ss v a = on (Memory (Store l p)) is rs ss a (λ r. refl)
sets_same (Load k l) is rs ss v a = put (Memory (Load k l)) is rs ss a k v v (λ r. refl) refl
sets_same (FetchAdd k l p) is rs ss v a = put (Memory (FetchAdd k l p)) is rs ss a k v v (λ r. refl) refl
sets_same (CompareSwap k l e p) is rs ss v a = put (Memory (CompareSwap k l e p)) is rs ss a k v v (λ r. refl) refl

first_puts_lem : (c : List Instruction) (rs ss : List ℕ) (v : ℕ) → Agree 0 c rs ss → first_puts rs c v ≡ first_puts ss c v
unfolding first_puts
first_puts_lem [] rs ss v a = refl
first_puts_lem (Memory x ∷ is) rs ss v a = puts_same x is rs ss v a
first_puts_lem (Alone o ∷ is) rs ss v a = refl

-- LIKE STATES WRITE THE SAME
pub puts_like : (h k : Local) → Like h k → (v : ℕ) → puts h v ≡ puts k v
unfolding puts
puts_like h k e v = first_puts_lem h.rest h.registers k.registers v e.registers ∙ ap (λ (c : List Instruction). first_puts k.registers c v) e.rest

first_next_lem : (c : List Instruction) (h k : Local) (v : ℕ) → Like h k → Agree 0 c h.registers k.registers →
    Like (first_next h c v) (first_next k c v) × (begins_with_access c ≡ true → (first_next h c v).failed ≡ (first_next k c v).failed)
unfolding first_next begins_with_access
first_next_lem [] h k v e a = (e, λ m. absurd (false≢true m))
first_next_lem (Memory x ∷ is) h k v e a =
    let r = settle_like is 0 (access_sets h.registers x v) (access_sets k.registers x v) (sets_same x is h.registers k.registers v a) in (r.0, λ m. r.1)
first_next_lem (Alone o ∷ is) h k v e a = (e, λ m. absurd (false≢true m))

-- THEY ARE LIKE AGAIN behind the next access, and fail alike if there is one
pub next_like : (h k : Local) → Like h k → (v : ℕ) → Like (next h v) (next k v) × (pending h ≡ true → (next h v).failed ≡ (next k v).failed)
unfolding next pending
next_like h k e v =
    subst (λ (c : List Instruction). Like (first_next h h.rest v) (first_next k c v) × (begins_with_access h.rest ≡ true → (first_next h h.rest v).failed ≡ (first_next k c v).failed))
    e.rest (first_next_lem h.rest h k v e e.registers)
