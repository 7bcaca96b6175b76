-- The bytes of a row are those that stand in the code from sixteen times its number on.
use Prim.Native.Nat.{ℕ, ◌+◌, ◌*◌, ◌<◌}
use native.Mathlib.Nat.{add-zero}
use native.Mathlib.Omega.{arith}
use mathlib.Core.Path.{◌≡◌, ◌∙◌, refl, sym, ap, subst}
use mathlib.Core.Bool.{Bool, true, false}
use mathlib.Core.List.{List}
use borrow.Author.Tests.{ne_eqb, lt-ltb}
use lib.Dec.{eqb, lit<}
use lib.ListN.{get_or, drop}
use lib.Seq.{get_or-take, get_or-drop}
use Rattle.spec_file.specs.declared.instruction.Access.TheVariants.{Store, Load, FetchAdd, CompareSwap}
use Rattle.spec_file.specs.declared.instruction.Comparison.TheVariants.{Equal, AtMost}
use Rattle.spec_file.specs.declared.instruction.Own.{Own}
use Rattle.spec_file.specs.declared.instruction.Own.TheVariants.{Assign, AddAssign, SkipUnless, Assert}
use Rattle.spec_file.specs.declared.instruction.Instruction.{Instruction}
use Rattle.spec_file.specs.declared.instruction.Instruction.TheVariants.{Memory, Alone}
use Rattle.spec_file.specs.Kinds.{kind_of, lookup, kinds}
use Rattle.spec_file.specs.Frames.{Frame, byte, word, kind, operand, test, build_own, build, instruction}
use Rattle.file_rows.specs.Rows.{row_at, instruction_at}

pub row_byte : (code : List ℕ) (k j : ℕ) → j < 16 → byte (row_at code k) j ≡ get_or code (k * 16 + j) 0
unfolding row_at
row_byte code k j h = get_or-take 16 (drop (k * 16) code) j 0 h ∙ get_or-drop (k * 16) code j 0

-- the first byte
pub row_first : (code : List ℕ) (k : ℕ) → byte (row_at code k) 0 ≡ get_or code (k * 16) 0
row_first code k = row_byte code k 0 (lit< tt) ∙ ap (λ (i : ℕ). get_or code i 0) (add-zero (k * 16))

-- the four bytes behind a position
pub row_word : (code : List ℕ) (k j : ℕ) → j < 12 → word (row_at code k) (j + 1)
    ≡ ((get_or code (k * 16 + j + 1) 0 * 256 + get_or code (k * 16 + j + 2) 0) * 256 + get_or code (k * 16 + j + 3) 0) * 256 + get_or code (k * 16 + j + 4) 0
unfolding word
row_word code k j h =
    let at : (i m : ℕ) → i < 16 → k * 16 + i ≡ m → byte (row_at code k) i ≡ get_or code m 0 =
    λ i m b e. row_byte code k i b ∙ ap (λ (n : ℕ). get_or code n 0) e in
    rw (at (j + 1) (k * 16 + j + 1) (omega arith) (omega arith), at (j + 1 + 1) (k * 16 + j + 2) (omega arith) (omega arith), at (j + 1 + 2) (k * 16 + j + 3) (omega arith) (omega arith), at (j + 1 + 3) (k * 16 + j + 4) (omega arith) (omega arith))

-- the instruction of a frame that is none of the ten kinds
pub other_kind : (f : Frame) → (byte f 0 ≡ 0x10 → ⊥) → (byte f 0 ≡ 0x11 → ⊥) → (byte f 0 ≡ 0x12 → ⊥) → (byte f 0 ≡ 0x13 → ⊥)
    → (byte f 0 ≡ 0x20 → ⊥) → (byte f 0 ≡ 0x21 → ⊥) → (byte f 0 ≡ 0x22 → ⊥) → (byte f 0 ≡ 0x23 → ⊥)
    → (byte f 0 ≡ 0x24 → ⊥) → (byte f 0 ≡ 0x25 → ⊥) → instruction f ≡ Alone (Assert (test AtMost (byte f 0) (operand f 0)))
unfolding instruction build_own build kind kind_of lookup kinds
other_kind f h10 h11 h12 h13 h20 h21 h22 h23 h24 h25 = go (eqb (byte f 0) 1) (eqb (byte f 0) 2) (eqb (byte f 0) 3) refl refl refl where
  go : (x y z : Bool) → eqb (byte f 0) 1 ≡ x → eqb (byte f 0) 2 ≡ y → eqb (byte f 0) 3 ≡ z → instruction f ≡ Alone (Assert (test AtMost (byte f 0) (operand f 0)))
  go true y z e d t = rw (e, ne_eqb _ _ h10, ne_eqb _ _ h11, ne_eqb _ _ h12, ne_eqb _ _ h13, ne_eqb _ _ h20, ne_eqb _ _ h21, ne_eqb _ _ h22, ne_eqb _ _ h23, ne_eqb _ _ h24)
  go false true z e d t = rw (e, d, ne_eqb _ _ h10, ne_eqb _ _ h11, ne_eqb _ _ h12, ne_eqb _ _ h13, ne_eqb _ _ h20, ne_eqb _ _ h21, ne_eqb _ _ h22, ne_eqb _ _ h23, ne_eqb _ _ h24)
  go false false true e d t = rw (e, d, t, ne_eqb _ _ h10, ne_eqb _ _ h11, ne_eqb _ _ h12, ne_eqb _ _ h13, ne_eqb _ _ h20, ne_eqb _ _ h21, ne_eqb _ _ h22, ne_eqb _ _ h23, ne_eqb _ _ h24)
  go false false false e d t = rw (e, d, t, ne_eqb _ _ h10, ne_eqb _ _ h11, ne_eqb _ _ h12, ne_eqb _ _ h13, ne_eqb _ _ h20, ne_eqb _ _ h21, ne_eqb _ _ h22, ne_eqb _ _ h23, ne_eqb _ _ h24, ne_eqb _ _ h25)

-- the instruction in one of the 96 rows, by its first byte
module _ (code : List ℕ) (k : ℕ) (h : k < 96) where
  pub row_store : get_or code (k * 16) 0 ≡ 0x10 → instruction_at code k ≡ Memory (Store (get_or code (k * 16 + 1) 0) (operand (row_at code k) 2))
  unfolding instruction_at instruction build_own build kind kind_of lookup kinds
  row_store e = rw (lt-ltb _ _ h, row_first code k ∙ e, row_byte code k 1 (lit< tt))

  pub row_load : get_or code (k * 16) 0 ≡ 0x11 → instruction_at code k ≡ Memory (Load (get_or code (k * 16 + 1) 0) (get_or code (k * 16 + 2) 0))
  unfolding instruction_at instruction build_own build kind kind_of lookup kinds
  row_load e = rw (lt-ltb _ _ h, row_first code k ∙ e, row_byte code k 1 (lit< tt), row_byte code k 2 (lit< tt))

  pub row_fetch_add : get_or code (k * 16) 0 ≡ 0x12 → instruction_at code k ≡ Memory (FetchAdd (get_or code (k * 16 + 1) 0) (get_or code (k * 16 + 2) 0) (operand (row_at code k) 3))
  unfolding instruction_at instruction build_own build kind kind_of lookup kinds
  row_fetch_add e = rw (lt-ltb _ _ h, row_first code k ∙ e, row_byte code k 1 (lit< tt), row_byte code k 2 (lit< tt))

  pub row_compare_swap : get_or code (k * 16) 0 ≡ 0x13 → instruction_at code k ≡ Memory (CompareSwap (get_or code (k * 16 + 1) 0) (get_or code (k * 16 + 2) 0) (operand (row_at code k) 3) (operand (row_at code k) 8))
  unfolding instruction_at instruction build_own build kind kind_of lookup kinds
  row_compare_swap e = rw (lt-ltb _ _ h, row_first code k ∙ e, row_byte code k 1 (lit< tt), row_byte code k 2 (lit< tt))

  pub row_assign : get_or code (k * 16) 0 ≡ 0x20 → instruction_at code k ≡ Alone (Assign (get_or code (k * 16 + 1) 0) (operand (row_at code k) 2))
  unfolding instruction_at instruction build_own build kind kind_of lookup kinds
  row_assign e = rw (lt-ltb _ _ h, row_first code k ∙ e, row_byte code k 1 (lit< tt))

  pub row_add_assign : get_or code (k * 16) 0 ≡ 0x21 → instruction_at code k ≡ Alone (AddAssign (get_or code (k * 16 + 1) 0) (operand (row_at code k) 2))
  unfolding instruction_at instruction build_own build kind kind_of lookup kinds
  row_add_assign e = rw (lt-ltb _ _ h, row_first code k ∙ e, row_byte code k 1 (lit< tt))

  pub row_skip : get_or code (k * 16) 0 ≡ 0x22 → instruction_at code k ≡ Alone (SkipUnless (test Equal (get_or code (k * 16 + 1) 0) (operand (row_at code k) 2)) (get_or code (k * 16 + 7) 0))
  unfolding instruction_at instruction build_own build kind kind_of lookup kinds
  row_skip e = rw (lt-ltb _ _ h, row_first code k ∙ e, row_byte code k 1 (lit< tt), row_byte code k 7 (lit< tt))

  pub row_assert : get_or code (k * 16) 0 ≡ 0x23 → instruction_at code k ≡ Alone (Assert (test Equal (get_or code (k * 16 + 1) 0) (operand (row_at code k) 2)))
  unfolding instruction_at instruction build_own build kind kind_of lookup kinds
  row_assert e = rw (lt-ltb _ _ h, row_first code k ∙ e, row_byte code k 1 (lit< tt))

  pub row_skip_at_most : get_or code (k * 16) 0 ≡ 0x24 → instruction_at code k ≡ Alone (SkipUnless (test AtMost (get_or code (k * 16 + 1) 0) (operand (row_at code k) 2)) (get_or code (k * 16 + 7) 0))
  unfolding instruction_at instruction build_own build kind kind_of lookup kinds
  row_skip_at_most e = rw (lt-ltb _ _ h, row_first code k ∙ e, row_byte code k 1 (lit< tt), row_byte code k 7 (lit< tt))

  pub row_assert_at_most : get_or code (k * 16) 0 ≡ 0x25 → instruction_at code k ≡ Alone (Assert (test AtMost (get_or code (k * 16 + 1) 0) (operand (row_at code k) 2)))
  unfolding instruction_at instruction build_own build kind kind_of lookup kinds
  row_assert_at_most e = rw (lt-ltb _ _ h, row_first code k ∙ e, row_byte code k 1 (lit< tt))

  pub row_other : (get_or code (k * 16) 0 ≡ 0x10 → ⊥) → (get_or code (k * 16) 0 ≡ 0x11 → ⊥) → (get_or code (k * 16) 0 ≡ 0x12 → ⊥) → (get_or code (k * 16) 0 ≡ 0x13 → ⊥) → (get_or code (k * 16) 0 ≡ 0x20 → ⊥) → (get_or code (k * 16) 0 ≡ 0x21 → ⊥) → (get_or code (k * 16) 0 ≡ 0x22 → ⊥) → (get_or code (k * 16) 0 ≡ 0x23 → ⊥) → (get_or code (k * 16) 0 ≡ 0x24 → ⊥) → (get_or code (k * 16) 0 ≡ 0x25 → ⊥)
      → instruction_at code k ≡ Alone (Assert (test AtMost (get_or code (k * 16) 0) (operand (row_at code k) 0)))
  unfolding instruction_at
  row_other h10 h11 h12 h13 h20 h21 h22 h23 h24 h25 =
      let first : (b : ℕ) → (get_or code (k * 16) 0 ≡ b → ⊥) → byte (row_at code k) 0 ≡ b → ⊥ = λ b n e. n (sym (row_first code k) ∙ e) in
      rw (lt-ltb _ _ h) (other_kind (row_at code k) (first 0x10 h10) (first 0x11 h11) (first 0x12 h12) (first 0x13 h13) (first 0x20 h20) (first 0x21 h21) (first 0x22 h22) (first 0x23 h23) (first 0x24 h24) (first 0x25 h25) ∙ rw (row_first code k))

  -- a row that is no access
  pub row_no_access : (P : Instruction → Type 0) → (get_or code (k * 16) 0 ≡ 0x10 → ⊥) → (get_or code (k * 16) 0 ≡ 0x11 → ⊥) → (get_or code (k * 16) 0 ≡ 0x12 → ⊥) → (get_or code (k * 16) 0 ≡ 0x13 → ⊥)
      → ((o : Own) → P (Alone o)) → P (instruction_at code k)
  unfolding instruction_at instruction build
  row_no_access P h10 h11 h12 h13 own =
      let f : Frame = row_at code k in
      let first : (b : ℕ) → (get_or code (k * 16) 0 ≡ b → ⊥) → byte (row_at code k) 0 ≡ b → ⊥ = λ b n e. n (sym (row_first code k) ∙ e) in
      let e : instruction_at code k ≡ Alone (build_own (byte f 0) (byte f (kind f).register) (operand f (kind f).first) (byte f (kind f).skip)) =
      rw (lt-ltb _ _ h, ne_eqb _ _ (first 0x10 h10), ne_eqb _ _ (first 0x11 h11), ne_eqb _ _ (first 0x12 h12), ne_eqb _ _ (first 0x13 h13)) in
      subst P (sym e) (own _)
