-- What the functions that read a row by its bytes rest on: rows that are accesses or none, and what is none carried out.
use Rattle.std.proofs.Common.{◌≡◌, ℕ, ◌+◌, ◌*◌, ◌<◌, ◌≤◌, arith, true, false, List, [], ◌∷◌, get_or, sym, refl, ap, ◌∙◌, true≢false}
use Rattle.std.specs.Prelude.{Option}
use native.Mathlib.Decide.{ℕ_discrete}
use Rattle.spec_file.specs.declared.instruction.Operand.{Operand}
use Rattle.spec_file.specs.declared.instruction.Comparison.TheVariants.{Equal, AtMost}
use Rattle.spec_file.specs.declared.instruction.Own.{Own}
use Rattle.spec_file.specs.declared.instruction.Own.TheVariants.{Assign, AddAssign, SkipUnless, Assert}
use Rattle.spec_file.specs.declared.instruction.Instruction.{Instruction}
use Rattle.spec_file.specs.declared.instruction.Instruction.TheVariants.{Alone}
use Rattle.spec_file.specs.Frames.{operand, test}
use Rattle.file_rows.specs.Rows.{row_at, instruction_at}
use Rattle.file_rows.proofs.Rows.{row_store, row_load, row_fetch_add, row_compare_swap, row_assign, row_add_assign, row_skip, row_assert, row_skip_at_most, row_assert_at_most, row_other, row_no_access}
use Rattle.spec_sc.specs.Local.{outcome, begins_with_access}
use Rattle.machine_local.specs.declared.local.Carried.{Carried}
use Rattle.machine_local.specs.CarriedOut.{carried}

-- ---- accesses and other instructions
-- row k of the code
module _ (code : List ℕ) (k : ℕ) (h : k < 96) where
  pub access_store : get_or code (k * 16) 0 ≡ 0x10 → begins_with_access (instruction_at code k ∷ []) ≡ true
  unfolding begins_with_access
  access_store e = rw (row_store code k h e)

  pub access_load : get_or code (k * 16) 0 ≡ 0x11 → begins_with_access (instruction_at code k ∷ []) ≡ true
  unfolding begins_with_access
  access_load e = rw (row_load code k h e)

  pub access_fetch_add : get_or code (k * 16) 0 ≡ 0x12 → begins_with_access (instruction_at code k ∷ []) ≡ true
  unfolding begins_with_access
  access_fetch_add e = rw (row_fetch_add code k h e)

  pub access_compare_swap : get_or code (k * 16) 0 ≡ 0x13 → begins_with_access (instruction_at code k ∷ []) ≡ true
  unfolding begins_with_access
  access_compare_swap e = rw (row_compare_swap code k h e)

  module _ (n10 : get_or code (k * 16) 0 ≡ 0x10 → ⊥) (n11 : get_or code (k * 16) 0 ≡ 0x11 → ⊥) (n12 : get_or code (k * 16) 0 ≡ 0x12 → ⊥) (n13 : get_or code (k * 16) 0 ≡ 0x13 → ⊥) where
    -- a row that begins with none of the four first bytes is no access
    pub no_access : begins_with_access (instruction_at code k ∷ []) ≡ false
    unfolding begins_with_access
    no_access = row_no_access code k h (λ i. begins_with_access (i ∷ []) ≡ false) n10 n11 n12 n13 (λ o. refl)

  -- the four bytes are those from 10 to 13
  pub access_in : 0x10 ≤ get_or code (k * 16) 0 → get_or code (k * 16) 0 ≤ 0x13 → begins_with_access (instruction_at code k ∷ []) ≡ true
  access_in l u = go (ℕ_discrete (get_or code (k * 16) 0) 0x10) (ℕ_discrete (get_or code (k * 16) 0) 0x11) (ℕ_discrete (get_or code (k * 16) 0) 0x12)
    where
      go : Dec (get_or code (k * 16) 0 ≡ 0x10) → Dec (get_or code (k * 16) 0 ≡ 0x11) → Dec (get_or code (k * 16) 0 ≡ 0x12) → begins_with_access (instruction_at code k ∷ []) ≡ true
      go (yes e) d f = access_store e
      go (no n) (yes e) f = access_load e
      go (no n) (no m) (yes e) = access_fetch_add e
      go (no n) (no m) (no o) = access_compare_swap (omega (arith, l, u, n, m, o))

  pub access_out : (0x10 ≤ get_or code (k * 16) 0 → get_or code (k * 16) 0 ≤ 0x13 → ⊥) → begins_with_access (instruction_at code k ∷ []) ≡ false
  access_out n =
      no_access (λ e. n (omega (arith, e)) (omega (arith, e))) (λ e. n (omega (arith, e)) (omega (arith, e)))
      (λ e. n (omega (arith, e)) (omega (arith, e))) (λ e. n (omega (arith, e)) (omega (arith, e)))

  -- a row that is no access begins with none of the four bytes
  module _ (e : begins_with_access (instruction_at code k ∷ []) ≡ false) where
    pub not_store : get_or code (k * 16) 0 ≡ 0x10 → ⊥
    not_store q = true≢false (sym (access_store q) ∙ e)

    pub not_load : get_or code (k * 16) 0 ≡ 0x11 → ⊥
    not_load q = true≢false (sym (access_load q) ∙ e)

    pub not_fetch_add : get_or code (k * 16) 0 ≡ 0x12 → ⊥
    not_fetch_add q = true≢false (sym (access_fetch_add q) ∙ e)

    pub not_compare_swap : get_or code (k * 16) 0 ≡ 0x13 → ⊥
    not_compare_swap q = true≢false (sym (access_compare_swap q) ∙ e)

-- ---- what is no access, carried out
-- an instruction is one of a thread's own alone
own_carried : (x : Instruction) (rs : List ℕ) (s : Option Carried) (a : Own) → x ≡ Alone a → s ≡ carried (outcome rs a) → (o : Own) → x ≡ Alone o → s ≡ carried (outcome rs o)
own_carried x rs s a ea es o eo =
    let q : Alone a ≡ Alone o = sym ea ∙ eo in
    let same : a ≡ o = cc in
    es ∙ ap (λ (k : Own). carried (outcome rs k)) same

-- row k of the code, by its first byte: s is what the code gives for registers rs, p its operand
module _ (code : List ℕ) (k : ℕ) (h : k < 96) (rs : List ℕ) (s : Option Carried) where
  module _ (p : Operand) (ep : p ≡ operand (row_at code k) 2) where
    pub carried_assign : get_or code (k * 16) 0 ≡ 0x20
        → s ≡ carried (outcome rs (Assign (get_or code (k * 16 + 1) 0) p)) → (o : Own) → instruction_at code k ≡ Alone o → s ≡ carried (outcome rs o)
    carried_assign e = own_carried (instruction_at code k) rs s _ (row_assign code k h e ∙ ap (λ (q : Operand). Alone (Assign (get_or code (k * 16 + 1) 0) q)) (sym ep))

    pub carried_add : get_or code (k * 16) 0 ≡ 0x21
        → s ≡ carried (outcome rs (AddAssign (get_or code (k * 16 + 1) 0) p)) → (o : Own) → instruction_at code k ≡ Alone o → s ≡ carried (outcome rs o)
    carried_add e = own_carried (instruction_at code k) rs s _ (row_add_assign code k h e ∙ ap (λ (q : Operand). Alone (AddAssign (get_or code (k * 16 + 1) 0) q)) (sym ep))

    pub carried_skip : get_or code (k * 16) 0 ≡ 0x22
        → s ≡ carried (outcome rs (SkipUnless (test Equal (get_or code (k * 16 + 1) 0) p) (get_or code (k * 16 + 7) 0)))
        → (o : Own) → instruction_at code k ≡ Alone o → s ≡ carried (outcome rs o)
    carried_skip e = own_carried (instruction_at code k) rs s _ (row_skip code k h e ∙ ap (λ (q : Operand). Alone (SkipUnless (test Equal (get_or code (k * 16 + 1) 0) q) (get_or code (k * 16 + 7) 0))) (sym ep))

    pub carried_assert : get_or code (k * 16) 0 ≡ 0x23
        → s ≡ carried (outcome rs (Assert (test Equal (get_or code (k * 16 + 1) 0) p))) → (o : Own) → instruction_at code k ≡ Alone o → s ≡ carried (outcome rs o)
    carried_assert e = own_carried (instruction_at code k) rs s _ (row_assert code k h e ∙ ap (λ (q : Operand). Alone (Assert (test Equal (get_or code (k * 16 + 1) 0) q))) (sym ep))

    pub carried_skip_at_most : get_or code (k * 16) 0 ≡ 0x24
        → s ≡ carried (outcome rs (SkipUnless (test AtMost (get_or code (k * 16 + 1) 0) p) (get_or code (k * 16 + 7) 0)))
        → (o : Own) → instruction_at code k ≡ Alone o → s ≡ carried (outcome rs o)
    carried_skip_at_most e = own_carried (instruction_at code k) rs s _ (row_skip_at_most code k h e ∙ ap (λ (q : Operand). Alone (SkipUnless (test AtMost (get_or code (k * 16 + 1) 0) q) (get_or code (k * 16 + 7) 0))) (sym ep))

    pub carried_assert_at_most : get_or code (k * 16) 0 ≡ 0x25
        → s ≡ carried (outcome rs (Assert (test AtMost (get_or code (k * 16 + 1) 0) p))) → (o : Own) → instruction_at code k ≡ Alone o → s ≡ carried (outcome rs o)
    carried_assert_at_most e = own_carried (instruction_at code k) rs s _ (row_assert_at_most code k h e ∙ ap (λ (q : Operand). Alone (Assert (test AtMost (get_or code (k * 16 + 1) 0) q))) (sym ep))

  -- none of the six, where it is no access
  pub carried_other : (get_or code (k * 16) 0 ≡ 0x20 → ⊥) → (get_or code (k * 16) 0 ≡ 0x21 → ⊥) → (get_or code (k * 16) 0 ≡ 0x22 → ⊥) → (get_or code (k * 16) 0 ≡ 0x23 → ⊥) → (get_or code (k * 16) 0 ≡ 0x24 → ⊥) → (get_or code (k * 16) 0 ≡ 0x25 → ⊥)
      → (p : Operand) → p ≡ operand (row_at code k) 0
      → s ≡ carried (outcome rs (Assert (test AtMost (get_or code (k * 16) 0) p))) → (o : Own) → instruction_at code k ≡ Alone o → s ≡ carried (outcome rs o)
  unfolding begins_with_access
  carried_other n20 n21 n22 n23 n24 n25 p ep es o eo =
      let no : begins_with_access (instruction_at code k ∷ []) ≡ false = ap (λ (x : Instruction). begins_with_access (x ∷ [])) eo in
      own_carried (instruction_at code k) rs s _
      (row_other code k h (not_store code k h no) (not_load code k h no) (not_fetch_add code k h no) (not_compare_swap code k h no) n20 n21 n22 n23 n24 n25
      ∙ ap (λ (q : Operand). Alone (Assert (test AtMost (get_or code (k * 16) 0) q))) (sym ep))
      es o eo
