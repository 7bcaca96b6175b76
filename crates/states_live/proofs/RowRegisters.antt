-- Which registers the instruction in a row reads and writes, and how many instructions it may skip, by the row's bytes.
use Prim.Native.Nat.{ℕ, ◌+◌, ◌*◌, ◌<◌}
use mathlib.Core.Path.{◌≡◌, refl, sym, ap, ap₂, ◌∙◌}
use mathlib.Core.Bool.{Bool, true, false, cond, not, ◌||◌, or-true, false≢true, true≢false}
use mathlib.Core.List.{List}
use native.Mathlib.Omega.{arith}
use native.Mathlib.Decide.{ℕ_discrete}
use lib.Dec.{eqb, lit<}
use lib.ListN.{get_or}
use borrow.Author.Tests.{ne_eqb, lt-ltb}
use Rattle.spec_file.specs.declared.instruction.Operand.{Operand}
use Rattle.spec_file.specs.declared.instruction.Access.TheVariants.{Store, Load, FetchAdd, CompareSwap}
use Rattle.spec_file.specs.declared.instruction.Comparison.TheVariants.{Equal, AtMost}
use Rattle.spec_file.specs.declared.instruction.Own.TheVariants.{Assign, AddAssign, SkipUnless, Assert}
use Rattle.spec_file.specs.declared.instruction.Instruction.{Instruction}
use Rattle.spec_file.specs.declared.instruction.Instruction.TheVariants.{Memory, Alone}
use Rattle.spec_file.specs.declared.kind.Kind.{Kind}
use Rattle.spec_file.specs.Kinds.{kind_of}
use Rattle.spec_file.specs.Frames.{byte, kind, skip_of, operand, test, build_own, build, instruction}
use Rattle.spec_file.specs.WellFormed.{most_skipped}
use Rattle.spec_file.proofs.KindTable.{kind_bounds}
use Rattle.spec_file.proofs.Skips.{no_skip, equal_skip, at_most_skip}
use Rattle.file_rows.specs.Rows.{row_at, instruction_at}
use Rattle.file_rows.proofs.Rows.{row_byte, row_first, row_skip, row_skip_at_most}
use Rattle.theory_sc_key.specs.Registers.{in_operand, in_test, reads_register, writes_register}
use Rattle.states_live.specs.Live.{reads_own, writes_own}

-- ---- an instruction by its fields
-- by the first byte: whether register x is read, where p, q and r say so of the operands and of the register that is named
abbrev reading : ℕ → Bool → Bool → Bool → Bool
reading b p q r = cond (eqb b 0x10) p (cond (eqb b 0x11) false (cond (eqb b 0x12) p (cond (eqb b 0x13) (p || q) (cond (eqb b 0x20) p (r || p)))))

-- whether it is written
abbrev writing : ℕ → Bool → Bool
writing b r = cond (eqb b 0x10) false (cond (eqb b 0x11) r (cond (eqb b 0x12) r (cond (eqb b 0x13) r (cond (eqb b 0x20) r (cond (eqb b 0x21) r false)))))

module _ (r l n x : ℕ) (p q : Operand) where
  -- the instruction that the tests on its first byte leave
  abbrev made : Bool → Bool → Bool → Bool → Bool → Bool → Bool → Bool → Bool → Instruction
  made s t u v a d e f g =
      cond s (Memory (Store l p)) (cond t (Memory (Load r l)) (cond u (Memory (FetchAdd r l p)) (cond v (Memory (CompareSwap r l p q))
      (Alone (cond a (Assign r p) (cond d (AddAssign r p) (cond e (SkipUnless (test Equal r p) n) (cond f (Assert (test Equal r p)) (cond g (SkipUnless (test AtMost r p) n) (Assert (test AtMost r p)))))))))))

  reads_made : (s t u v a d e f g : Bool) → reads_register (made s t u v a d e f g) x
      ≡ cond s (in_operand p x) (cond t false (cond u (in_operand p x) (cond v (in_operand p x || in_operand q x) (cond a (in_operand p x) (eqb r x || in_operand p x)))))
  unfolding reads_register in_test
  reads_made true t u v a d e f g = refl
  reads_made false true u v a d e f g = refl
  reads_made false false true v a d e f g = refl
  reads_made false false false true a d e f g = refl
  reads_made false false false false true d e f g = refl
  reads_made false false false false false true e f g = refl
  reads_made false false false false false false true f g = refl
  reads_made false false false false false false false true g = refl
  reads_made false false false false false false false false true = refl
  reads_made false false false false false false false false false = refl

  writes_made : (s t u v a d e f g : Bool) → writes_register (made s t u v a d e f g) x
      ≡ cond s false (cond t (eqb r x) (cond u (eqb r x) (cond v (eqb r x) (cond a (eqb r x) (cond d (eqb r x) false)))))
  unfolding writes_register
  writes_made true t u v a d e f g = refl
  writes_made false true u v a d e f g = refl
  writes_made false false true v a d e f g = refl
  writes_made false false false true a d e f g = refl
  writes_made false false false false true d e f g = refl
  writes_made false false false false false true e f g = refl
  writes_made false false false false false false true f g = refl
  writes_made false false false false false false false true g = refl
  writes_made false false false false false false false false true = refl
  writes_made false false false false false false false false false = refl

  skips_made : (s t u v a d f : Bool) → most_skipped (made s t u v a d false f false) ≡ 0
  skips_made true t u v a d f = refl
  skips_made false true u v a d f = refl
  skips_made false false true v a d f = refl
  skips_made false false false true a d f = refl
  skips_made false false false false true d f = refl
  skips_made false false false false false true f = refl
  skips_made false false false false false false true = refl
  skips_made false false false false false false false = refl

  reads_built : (b : ℕ) → reads_register (build b r l p q n) x ≡ reading b (in_operand p x) (in_operand q x) (eqb r x)
  unfolding build build_own
  reads_built b = reads_made (eqb b 0x10) (eqb b 0x11) (eqb b 0x12) (eqb b 0x13) (eqb b 0x20) (eqb b 0x21) (eqb b 0x22) (eqb b 0x23) (eqb b 0x24)

  writes_built : (b : ℕ) → writes_register (build b r l p q n) x ≡ writing b (eqb r x)
  unfolding build build_own
  writes_built b = writes_made (eqb b 0x10) (eqb b 0x11) (eqb b 0x12) (eqb b 0x13) (eqb b 0x20) (eqb b 0x21) (eqb b 0x22) (eqb b 0x23) (eqb b 0x24)

  skips_built : (b : ℕ) → eqb b 0x22 ≡ false → eqb b 0x24 ≡ false → most_skipped (build b r l p q n) ≡ 0
  unfolding build build_own
  skips_built b e g =
      ap₂ (λ (y z : Bool). most_skipped (made (eqb b 0x10) (eqb b 0x11) (eqb b 0x12) (eqb b 0x13) (eqb b 0x20) (eqb b 0x21) y (eqb b 0x23) z)) e g
      ∙ skips_made (eqb b 0x10) (eqb b 0x11) (eqb b 0x12) (eqb b 0x13) (eqb b 0x20) (eqb b 0x21) (eqb b 0x23)

-- ---- the ways through the tests, whatever the tests are
first_way : (s u v a q r : Bool) → cond s true (cond u true (cond v (true || q) (cond a true (r || true)))) ≡ true
first_way true u v a q r = refl
first_way false true v a q r = refl
first_way false false true a q r = refl
first_way false false false true q r = refl
first_way false false false false q r = or-true r

none_way : (s t u a q r : Bool) → not (s || (t || (u || (false || a)))) ≡ false → cond s false (cond t false (cond u false (cond a false (r || false)))) ≡ false
none_way true t u a q r e = refl
none_way false true u a q r e = refl
none_way false false true a q r e = refl
none_way false false false true q r e = refl
none_way false false false false q r e = absurd (true≢false e)

own_way : (s t u v a q r : Bool) → not (s || (t || (u || (v || a)))) ≡ true → cond s false (cond t false (cond u false (cond v (false || q) (cond a false (r || false))))) ≡ r
own_way true t u v a q r e = absurd (false≢true e)
own_way false true u v a q r e = absurd (false≢true e)
own_way false false true v a q r e = absurd (false≢true e)
own_way false false false true a q r e = absurd (false≢true e)
own_way false false false false true q r e = absurd (false≢true e)
own_way false false false false false q true e = refl
own_way false false false false false q false e = refl

unwritten_way : (s t u v a d r : Bool) → (t || (u || (v || (a || d)))) ≡ false → cond s false (cond t r (cond u r (cond v r (cond a r (cond d r false))))) ≡ false
unwritten_way true t u v a d r e = refl
unwritten_way false true u v a d r e = absurd (true≢false e)
unwritten_way false false true v a d r e = absurd (true≢false e)
unwritten_way false false false true a d r e = absurd (true≢false e)
unwritten_way false false false false true d r e = absurd (true≢false e)
unwritten_way false false false false false true r e = absurd (true≢false e)
unwritten_way false false false false false false r e = refl

written_way : (t u v a d r : Bool) → (t || (u || (v || (a || d)))) ≡ true → cond t r (cond u r (cond v r (cond a r (cond d r false)))) ≡ r
written_way true u v a d r e = refl
written_way false true v a d r e = refl
written_way false false true a d r e = refl
written_way false false false true d r e = refl
written_way false false false false true r e = refl
written_way false false false false false r e = absurd (false≢true e)

-- ---- the instruction in a row
module _ (code : List ℕ) (k : ℕ) (h : k < 96) where
  abbrev b : ℕ
  b = get_or code (k * 16) 0

  row_built : instruction_at code k ≡ build (get_or code (k * 16) 0) (get_or code (k * 16 + (kind_of (get_or code (k * 16) 0)).register) 0) (byte (row_at code k) (kind_of (get_or code (k * 16) 0)).location)
      (operand (row_at code k) (kind_of (get_or code (k * 16) 0)).first) (operand (row_at code k) (kind_of (get_or code (k * 16) 0)).second) (byte (row_at code k) (kind_of (get_or code (k * 16) 0)).skip)
  unfolding instruction_at instruction kind
  row_built =
      let fits = (kind_bounds (get_or code (k * 16) 0)).register in
      rw (lt-ltb _ _ h, row_first code k, row_byte code k (kind_of (get_or code (k * 16) 0)).register (omega (arith, fits)))

  -- how many instructions it may skip
  pub row_skips : skip_of (row_at code k) ≡ most_skipped (instruction_at code k)
  row_skips = go (ℕ_discrete (get_or code (k * 16) 0) 0x22) (ℕ_discrete (get_or code (k * 16) 0) 0x24)
    where
      go : Dec (get_or code (k * 16) 0 ≡ 0x22) → Dec (get_or code (k * 16) 0 ≡ 0x24) → skip_of (row_at code k) ≡ most_skipped (instruction_at code k)
      go (yes e) d = equal_skip (row_at code k) (row_first code k ∙ e) ∙ row_byte code k 7 (lit< tt) ∙ sym (ap most_skipped (row_skip code k h e))
      go (no n) (yes e) = at_most_skip (row_at code k) (row_first code k ∙ e) ∙ row_byte code k 7 (lit< tt) ∙ sym (ap most_skipped (row_skip_at_most code k h e))
      go (no n) (no m) = no_skip (row_at code k) (λ e. n (sym (row_first code k) ∙ e)) (λ e. m (sym (row_first code k) ∙ e))
          ∙ sym (ap most_skipped row_built ∙ skips_built _ _ _ 0 _ _ b (ne_eqb _ _ n) (ne_eqb _ _ m))

  module _ (x : ℕ) where
    module _ (K : Kind) (known : K ≡ kind_of (get_or code (k * 16) 0)) where
      abbrev p : Bool
      p = in_operand (operand (row_at code k) K.first) x

      abbrev q : Bool
      q = in_operand (operand (row_at code k) K.second) x

      abbrev r : Bool
      r = eqb (get_or code (k * 16 + K.register) 0) x

      row_reads : reads_register (instruction_at code k) x ≡ reading b p q r
      row_reads = ap (λ (i : Instruction). reads_register i x) row_built ∙ reads_built _ _ _ x _ _ b
          ∙ ap (λ (z : Kind). reading b (in_operand (operand (row_at code k) z.first) x) (in_operand (operand (row_at code k) z.second) x) (eqb (get_or code (k * 16 + z.register) 0) x)) (sym known)

      row_writes : writes_register (instruction_at code k) x ≡ writing b r
      row_writes = ap (λ (i : Instruction). writes_register i x) row_built ∙ writes_built _ _ _ x _ _ b ∙ ap (λ (z : Kind). writing b (eqb (get_or code (k * 16 + z.register) 0) x)) (sym known)

      pub reads_first : (get_or code (k * 16) 0 ≡ 0x11 → ⊥) → in_operand (operand (row_at code k) K.first) x ≡ true → true ≡ reads_register (instruction_at code k) x
      reads_first n e = sym (row_reads ∙ ap₂ (λ (t z : Bool). cond (eqb b 0x10) z (cond t false (cond (eqb b 0x12) z (cond (eqb b 0x13) (z || q) (cond (eqb b 0x20) z (r || z)))))) (ne_eqb b 0x11 n) e
          ∙ first_way (eqb b 0x10) (eqb b 0x12) (eqb b 0x13) (eqb b 0x20) q r)

      module _ (e : in_operand (operand (row_at code k) K.first) x ≡ false) where
        pub reads_second : get_or code (k * 16) 0 ≡ 0x13 → in_operand (operand (row_at code k) K.second) x ≡ reads_register (instruction_at code k) x
        reads_second f = sym (row_reads ∙ ap₂ (λ (z : ℕ) (y : Bool). reading z y q r) f e)

        pub reads_none : (get_or code (k * 16) 0 ≡ 0x13 → ⊥) → reads_own (get_or code (k * 16) 0) ≡ false → false ≡ reads_register (instruction_at code k) x
        unfolding reads_own
        reads_none n o =
            let m = ne_eqb b 0x13 n in
            sym (row_reads ∙ ap₂ (λ (v z : Bool). cond (eqb b 0x10) z (cond (eqb b 0x11) false (cond (eqb b 0x12) z (cond v (z || q) (cond (eqb b 0x20) z (r || z)))))) m e
            ∙ none_way (eqb b 0x10) (eqb b 0x11) (eqb b 0x12) (eqb b 0x20) q r (sym (ap (λ (v : Bool). not (eqb b 0x10 || (eqb b 0x11 || (eqb b 0x12 || (v || eqb b 0x20))))) m) ∙ o))

        pub reads_named : reads_own (get_or code (k * 16) 0) ≡ true → eqb (get_or code (k * 16 + K.register) 0) x ≡ reads_register (instruction_at code k) x
        unfolding reads_own
        reads_named o = sym (row_reads ∙ ap (λ (z : Bool). reading b z q r) e ∙ own_way (eqb b 0x10) (eqb b 0x11) (eqb b 0x12) (eqb b 0x13) (eqb b 0x20) q r o)

      pub writes_named : writes_own (get_or code (k * 16) 0) ≡ true → eqb (get_or code (k * 16 + K.register) 0) x ≡ writes_register (instruction_at code k) x
      unfolding writes_own
      writes_named o = go (ℕ_discrete b 0x10)
        where
          go : Dec (b ≡ 0x10) → r ≡ writes_register (instruction_at code k) x
          go (yes e) = absurd (false≢true (sym (ap (λ (z : ℕ). eqb z 0x11 || (eqb z 0x12 || (eqb z 0x13 || (eqb z 0x20 || eqb z 0x21)))) e) ∙ o))
          go (no n) = sym (row_writes ∙ ap (λ (s : Bool). cond s false (cond (eqb b 0x11) r (cond (eqb b 0x12) r (cond (eqb b 0x13) r (cond (eqb b 0x20) r (cond (eqb b 0x21) r false)))))) (ne_eqb b 0x10 n)
              ∙ written_way (eqb b 0x11) (eqb b 0x12) (eqb b 0x13) (eqb b 0x20) (eqb b 0x21) r o)

    pub reads_load : get_or code (k * 16) 0 ≡ 0x11 → false ≡ reads_register (instruction_at code k) x
    reads_load e = sym (row_reads (kind_of b) refl ∙ ap (λ (z : ℕ). reading z (p (kind_of b) refl) (q (kind_of b) refl) (r (kind_of b) refl)) e)

    pub writes_none : writes_own (get_or code (k * 16) 0) ≡ false → false ≡ writes_register (instruction_at code k) x
    unfolding writes_own
    writes_none o = sym (row_writes (kind_of b) refl ∙ unwritten_way (eqb b 0x10) (eqb b 0x11) (eqb b 0x12) (eqb b 0x13) (eqb b 0x20) (eqb b 0x21) (eqb (get_or code (k * 16 + (kind_of b).register) 0) x) o)
