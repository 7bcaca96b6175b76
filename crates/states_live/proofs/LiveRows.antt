-- Live registers, row by row from the last one on.
use Prim.Native.Nat.{ℕ, zero, suc, ◌+◌, ◌-◌, ◌*◌, ◌/◌, ◌%◌, ◌<◌, ◌≤◌}
use mathlib.Core.Path.{◌≡◌, refl, sym, ap, ap₂, subst, ◌∙◌}
use mathlib.Core.Bool.{Bool, true, false, cond, not, ◌&&◌, ◌||◌}
use mathlib.Core.List.{List, [], ◌∷◌}
use native.Mathlib.Omega.{arith}
use native.Mathlib.Decide.{ℕ_discrete, dec_lt}
use lib.ListN.{length, get_or, set, drop}
use lib.Seq.{get_or-set_same, get_or-set_other, drop-drop}
use Rattle.spec_file.specs.WellFormed.{most_skipped}
use Rattle.spec_file.specs.declared.instruction.Instruction.{Instruction}
use Rattle.file_rows.specs.Rows.{instruction_at, thread_code}
use Rattle.machine_access.proofs.HeldSettling.{code_at_lem, code_end}
use Rattle.spec_schedules.specs.Sets.{has}
use Rattle.theory_sc.specs.Sets.{addend, set_of}
use Rattle.theory_sc.proofs.Sets.{set_has, set_same, set_none, set_more}
use Rattle.theory_sc_key.specs.Registers.{reads_register, writes_register, live}
use Rattle.states_live.specs.Live.{Live}

-- no register is live at the end
pub live_end : (r : ℕ) → live 0 [] r ≡ false
unfolding live
live_end r = refl

-- ---- one instruction more in front
live_skip : (k : ℕ) (is : List Instruction) (r : ℕ) → live k is r ≡ live 0 (drop k is) r
unfolding live
live_skip zero is r = refl
live_skip (suc k) [] r = refl
live_skip (suc k) (i ∷ is) r = live_skip k is r

pub live_bit : (x : Instruction) (is : List Instruction) (next far r : ℕ) (b : Bool) → r < 4 → next ≡ set_of (live 0 is) 4 → far ≡ set_of (live (most_skipped x) is) 4
    → b ≡ (reads_register x r || (not (writes_register x r) && (has next r || has far r))) → b ≡ live 0 (x ∷ is) r
unfolding live
live_bit x is next far r b h en ef e =
    e ∙ ap₂ (λ (m n : Bool). reads_register x r || (not (writes_register x r) && (m || n)))
    (ap (λ (s : ℕ). has s r) en ∙ set_has (live 0 is) 4 r h) (ap (λ (s : ℕ). has s r) ef ∙ set_has (live (most_skipped x) is) 4 r h)

-- four bits as one number
pub addend_cond : (b : Bool) (k : ℕ) → addend b k ≡ cond b k 0
unfolding addend
addend_cond true k = refl
addend_cond false k = refl

pub four_bits : (f : ℕ → Bool) (b0 b1 b2 b3 : Bool) (a0 a1 a2 a3 : ℕ) → a0 ≡ cond b0 1 0 → a1 ≡ cond b1 2 0 → a2 ≡ cond b2 4 0 → a3 ≡ cond b3 8 0
    → b0 ≡ f 0 → b1 ≡ f 1 → b2 ≡ f 2 → b3 ≡ f 3 → a0 + a1 + a2 + a3 ≡ set_of f 4
four_bits f b0 b1 b2 b3 a0 a1 a2 a3 p0 p1 p2 p3 e0 e1 e2 e3 =
    let s0 : set_of f 0 ≡ 0 = set_none f 0 (λ t h. absurd (omega arith)) in
    let s1 : set_of f 1 ≡ set_of f 0 + addend b0 1 = set_more f 0 b0 (sym e0) in
    let s2 : set_of f 2 ≡ set_of f 1 + addend b1 2 = set_more f 1 b1 (sym e1) in
    let s3 : set_of f 3 ≡ set_of f 2 + addend b2 4 = set_more f 2 b2 (sym e2) in
    let s4 : set_of f 4 ≡ set_of f 3 + addend b3 8 = set_more f 3 b3 (sym e3) in
    omega (arith, addend_cond b0 1, addend_cond b1 2, addend_cond b2 4, addend_cond b3 8)

-- ---- the rows from k on hold their sets
module _ (code lengths : List ℕ) where
  abbrev code_at : ℕ → List Instruction
  code_at t = thread_code code t (get_or lengths t 0)

  abbrev pub From : ℕ → List ℕ → Type 0
  From k masks =
      (t i : ℕ) → t < 6 → i < get_or lengths t 0 → get_or lengths t 0 ≤ 16 → k ≤ t * 16 + i
      → get_or masks (t * 16 + i) 0 ≡ set_of (live 0 (drop i (thread_code code t (get_or lengths t 0)))) 4

  pub rows_live : (masks : List ℕ) → From 0 masks → Live code lengths masks
  rows_live masks f = record { rows = λ t i h l n. f t i h l n (omega arith) }

  module _ (k : ℕ) (below : k < 96) (masks : List ℕ) (f : From (k + 1) masks) where
    -- a row without an instruction
    pub rows_skip : (k % 16 < get_or lengths (k / 16) 0 → get_or lengths (k / 16) 0 ≤ 16 → ⊥) → From k masks
    rows_skip none t i h l n b = go (ℕ_discrete (t * 16 + i) k)
      where
        go : Dec (t * 16 + i ≡ k) → get_or masks (t * 16 + i) 0 ≡ set_of (live 0 (drop i (code_at t))) 4
        go (no q) = f t i h l n (omega (arith, q))
        go (yes q) =
            let et : k / 16 ≡ t = omega arith in
            let ei : k % 16 ≡ i = omega arith in
            absurd (none (subst (λ (j : ℕ). k % 16 < get_or lengths j 0) (sym et) (omega (arith, ei, l))) (subst (λ (j : ℕ). get_or lengths j 0 ≤ 16) (sym et) n))

    module _ (own : k % 16 < get_or lengths (k / 16) 0) (short : get_or lengths (k / 16) 0 ≤ 16) where
      -- what is live before the instruction d behind the next one
      later : (d s : ℕ) → (d < get_or lengths (k / 16) 0 - k % 16 - 1 → s ≡ get_or masks (k + 1 + d) 0) → (get_or lengths (k / 16) 0 - k % 16 - 1 ≤ d → s ≡ 0)
          → s ≡ set_of (live 0 (drop (suc (k % 16) + d) (code_at (k / 16)))) 4
      later d s some none = go (dec_lt (suc (k % 16) + d) (get_or lengths (k / 16) 0))
        where
          row : k + 1 + d ≡ k / 16 * 16 + (suc (k % 16) + d)
          row = omega arith

          go : Dec (suc (k % 16) + d < get_or lengths (k / 16) 0) → s ≡ set_of (live 0 (drop (suc (k % 16) + d) (code_at (k / 16)))) 4
          go (yes l) = some (omega (arith, l)) ∙ ap (λ (n : ℕ). get_or masks n 0) row ∙ f (k / 16) (suc (k % 16) + d) (omega arith) l short (omega (arith, row))
          go (no l) = none (omega (arith, l)) ∙ sym (set_none (live 0 (drop (suc (k % 16) + d) (code_at (k / 16)))) 4
              (λ r h. ap (λ (c : List Instruction). live 0 c r) (code_end code (k / 16) (get_or lengths (k / 16) 0) (suc (k % 16) + d) (omega (arith, l))) ∙ live_end r))

      pub live_next : (s : ℕ) → (0 < get_or lengths (k / 16) 0 - k % 16 - 1 → s ≡ get_or masks (k + 1 + 0) 0) → (get_or lengths (k / 16) 0 - k % 16 - 1 ≤ 0 → s ≡ 0)
          → s ≡ set_of (live 0 (drop (suc (k % 16)) (thread_code code (k / 16) (get_or lengths (k / 16) 0)))) 4
      live_next s some none =
          let e : suc (k % 16) + 0 ≡ suc (k % 16) = omega arith in
          later 0 s some none ∙ ap (λ (n : ℕ). set_of (live 0 (drop n (code_at (k / 16)))) 4) e

      pub live_far : (d s : ℕ) → d ≡ most_skipped (instruction_at code k) → (d < get_or lengths (k / 16) 0 - k % 16 - 1 → s ≡ get_or masks (k + 1 + d) 0) → (get_or lengths (k / 16) 0 - k % 16 - 1 ≤ d → s ≡ 0)
          → s ≡ set_of (live (most_skipped (instruction_at code k)) (drop (suc (k % 16)) (thread_code code (k / 16) (get_or lengths (k / 16) 0)))) 4
      live_far d s skips some none =
          later d s some none
          ∙ sym (ap (λ (n : ℕ). set_of (live n (drop (suc (k % 16)) (code_at (k / 16)))) 4) (sym skips)
          ∙ set_same (live d (drop (suc (k % 16)) (code_at (k / 16)))) (live 0 (drop (suc (k % 16) + d) (code_at (k / 16)))) 4
          (λ r h. live_skip d (drop (suc (k % 16)) (code_at (k / 16))) r ∙ ap (λ (c : List Instruction). live 0 c r) (drop-drop d (suc (k % 16)) (code_at (k / 16)))))

      -- a row with one
      pub rows_more : (s : ℕ) → length masks ≡ 96 → s ≡ set_of (live 0 (instruction_at code k ∷ drop (suc (k % 16)) (thread_code code (k / 16) (get_or lengths (k / 16) 0)))) 4 → From k (set masks k s)
      rows_more s size e t i h l n b = go (ℕ_discrete (t * 16 + i) k)
        where
          row : k / 16 * 16 + k % 16 ≡ k
          row = omega arith

          whole : instruction_at code k ∷ drop (suc (k % 16)) (code_at (k / 16)) ≡ drop (k % 16) (code_at (k / 16))
          whole = sym (code_at_lem code (k / 16) (get_or lengths (k / 16) 0) (k % 16) own ∙ ap (λ (y : Instruction). y ∷ drop (suc (k % 16)) (code_at (k / 16))) (ap (instruction_at code) row))

          go : Dec (t * 16 + i ≡ k) → get_or (set masks k s) (t * 16 + i) 0 ≡ set_of (live 0 (drop i (code_at t))) 4
          go (no q) = get_or-set_other masks k (t * 16 + i) s 0 q ∙ f t i h l n (omega (arith, q))
          go (yes q) =
              let et : k / 16 ≡ t = omega arith in
              let ei : k % 16 ≡ i = omega arith in
              ap (λ (j : ℕ). get_or (set masks k s) j 0) q ∙ get_or-set_same masks k s 0 (omega (arith, size)) ∙ e
              ∙ ap (λ (c : List Instruction). set_of (live 0 c) 4) whole ∙ ap₂ (λ (y z : ℕ). set_of (live 0 (drop z (code_at y))) 4) et ei
