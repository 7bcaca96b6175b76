-- The sets of what is left, row by row from the last one on, and R3 read off them.
use Prim.Native.Nat.{ℕ, zero, suc, ◌+◌, ◌-◌, ◌*◌, ◌/◌, ◌%◌, ◌^◌, ◌<◌, ◌≤◌}
use mathlib.Core.Path.{◌≡◌, refl, sym, ap, ap₂, subst, ◌∙◌}
use mathlib.Core.Bool.{Bool, true, false, cond, not, ◌&&◌, ◌||◌}
use mathlib.Core.List.Memᴰ
use mathlib.Core.List.{List, [], ◌∷◌}
use native.Mathlib.Omega.{arith}
use native.Mathlib.Decide.{ℕ_discrete, dec_lt}
use lib.Dec.{eqb}
use lib.ListN.{length, get_or, set, drop, length-set}
use lib.Seq.{get_or-set_same, get_or-set_other}
use borrow.Author.Tests.{eqb-true, ne_eqb}
use Rattle.spec_file.specs.declared.instruction.Instruction.{Instruction}
use Rattle.spec_file.specs.declared.instruction.Instruction.TheVariants.{Memory, Alone}
use Rattle.file_rows.specs.Rows.{instruction_at, thread_code}
use Rattle.file_rows.proofs.Rows.{row_store, row_load, row_fetch_add, row_compare_swap, row_no_access}
use Rattle.machine_access.proofs.HeldSettling.{code_at_lem, code_end}
use Rattle.spec_schedules.specs.Lists.{range, all}
use Rattle.spec_schedules.proofs.Lists.{in_range_lem, all_at, all_of, all_yes, all_no}
use Rattle.spec_schedules.proofs.Loops.{range_none, range_more}
use Rattle.spec_sc.specs.Local.{access_takes, first_place, first_takes, place_of}
use Rattle.spec_sc.specs.State.{State, thread_of, place}
use Rattle.theory_search.specs.Ahead.{first_may_write, may_write}
use Rattle.theory_search.proofs.Back.{and_false}
use Rattle.spec_schedules.specs.Sets.{has}
use Rattle.theory_sc.specs.Sets.{addend, set_of, joined}
use Rattle.theory_sc.specs.Sleepers.{reads_left, writes_left, meets, wakes, sleeps_in}
use Rattle.theory_sc.proofs.Sets.{has_none, set_same, joined_new, joined_below}
use Rattle.search_rules.specs.Left.{Left, Rests}
use Rattle.search_place.proofs.RowAccess.{place_first, writer_first}

-- ---- one location more
own_eight : all (λ s. eqb (set_of (has s) 8) s) (range 0 256) ≡ true
unfolding all range has addend set_of
own_eight = refl

-- a number that names no location
pub joined_out : (l s : ℕ) → 8 ≤ l → s < 256 → s ≡ joined l s
unfolding joined
joined_out l s h k =
    sym (eqb-true (set_of (has s) 8) s (all_at (λ s. eqb (set_of (has s) 8) s) (range 0 256) s own_eight (in_range_lem 0 256 s (omega arith) (omega arith))))
    ∙ set_same (has s) (λ k. eqb l k || has s k) 8 (λ t i. let q = ne_eqb l t (λ e. omega (arith, e)) in rw q)

-- a location's bit, shifted
power_at : (l : ℕ) → l < 8 → 1 * 2 ^ l % 256 ≡ 2 ^ l
power_at zero h = refl
power_at (suc zero) h = refl
power_at (suc (suc zero)) h = refl
power_at (suc (suc (suc zero))) h = refl
power_at (suc (suc (suc (suc zero)))) h = refl
power_at (suc (suc (suc (suc (suc zero))))) h = refl
power_at (suc (suc (suc (suc (suc (suc zero)))))) h = refl
power_at (suc (suc (suc (suc (suc (suc (suc zero))))))) h = refl
power_at (suc (suc (suc (suc (suc (suc (suc (suc l)))))))) h = absurd (omega arith)

pub joined_power : (l s : ℕ) → l < 8 → s < 256 → has s l ≡ false → s + 1 * 2 ^ l % 256 ≡ joined l s
joined_power l s h k e = ap (λ (n : ℕ). s + n) (power_at l h) ∙ sym (joined_new l s h k e)

pub joined_fits : (l s : ℕ) → l < 8 → s < 256 → has s l ≡ false → s + 1 * 2 ^ l % 256 < 256
joined_fits l s h k e = omega (arith, joined_power l s h k e, joined_below l s)

-- ---- one instruction more in front
reads_front : (x : Instruction) (is : List Instruction) → reads_left (x ∷ is) ≡ cond (first_takes (x ∷ [])) (joined (first_place (x ∷ [])) (reads_left is)) (reads_left is)
unfolding reads_left first_takes first_place
reads_front (Memory a) is = refl
reads_front (Alone o) is = refl

writes_front : (x : Instruction) (is : List Instruction) → writes_left (x ∷ is) ≡ cond (first_may_write (x ∷ [])) (joined (first_place (x ∷ [])) (writes_left is)) (writes_left is)
unfolding writes_left first_may_write first_place
writes_front (Memory a) is = refl
writes_front (Alone o) is = refl

module _ (x : Instruction) (is : List Instruction) (set : ℕ) where
  pub reads_more : (l r : ℕ) → first_takes (x ∷ []) ≡ true → l ≡ first_place (x ∷ []) → set ≡ reads_left is → r ≡ joined l set → r ≡ reads_left (x ∷ is)
  reads_more l r t el es er = er ∙ ap₂ joined el es ∙ sym (reads_front x is ∙ ap (λ (b : Bool). cond b (joined (first_place (x ∷ [])) (reads_left is)) (reads_left is)) t)

  pub reads_same : first_takes (x ∷ []) ≡ false → set ≡ reads_left is → set ≡ reads_left (x ∷ is)
  reads_same t es = es ∙ sym (reads_front x is ∙ ap (λ (b : Bool). cond b (joined (first_place (x ∷ [])) (reads_left is)) (reads_left is)) t)

  pub writes_more : (l r : ℕ) → first_may_write (x ∷ []) ≡ true → l ≡ first_place (x ∷ []) → set ≡ writes_left is → r ≡ joined l set → r ≡ writes_left (x ∷ is)
  writes_more l r t el es er = er ∙ ap₂ joined el es ∙ sym (writes_front x is ∙ ap (λ (b : Bool). cond b (joined (first_place (x ∷ [])) (writes_left is)) (writes_left is)) t)

  pub writes_same : first_may_write (x ∷ []) ≡ false → set ≡ writes_left is → set ≡ writes_left (x ∷ is)
  writes_same t es = es ∙ sym (writes_front x is ∙ ap (λ (b : Bool). cond b (joined (first_place (x ∷ [])) (writes_left is)) (writes_left is)) t)

-- whether the access in a row reads, by the row's first byte
module _ (code : List ℕ) (k : ℕ) (h : k < 96) where
  reader_load : get_or code (k * 16) 0 ≡ 0x11 → true ≡ first_takes (instruction_at code k ∷ [])
  unfolding first_takes access_takes
  reader_load e = rw (row_load code k h e)

  reader_fetch_add : get_or code (k * 16) 0 ≡ 0x12 → true ≡ first_takes (instruction_at code k ∷ [])
  unfolding first_takes access_takes
  reader_fetch_add e = rw (row_fetch_add code k h e)

  reader_compare_swap : get_or code (k * 16) 0 ≡ 0x13 → true ≡ first_takes (instruction_at code k ∷ [])
  unfolding first_takes access_takes
  reader_compare_swap e = rw (row_compare_swap code k h e)

  pub reader_some : 0x11 ≤ get_or code (k * 16) 0 → get_or code (k * 16) 0 ≤ 0x13 → true ≡ first_takes (instruction_at code k ∷ [])
  reader_some low high = go (ℕ_discrete (get_or code (k * 16) 0) 0x11) (ℕ_discrete (get_or code (k * 16) 0) 0x12)
    where
      go : Dec (get_or code (k * 16) 0 ≡ 0x11) → Dec (get_or code (k * 16) 0 ≡ 0x12) → true ≡ first_takes (instruction_at code k ∷ [])
      go (yes e) d = reader_load e
      go (no n) (yes e) = reader_fetch_add e
      go (no n) (no m) = reader_compare_swap (omega (arith, n, m, low, high))

  pub reader_none : (get_or code (k * 16) 0 ≡ 0x11 → ⊥) → (get_or code (k * 16) 0 ≡ 0x12 → ⊥) → (get_or code (k * 16) 0 ≡ 0x13 → ⊥) → false ≡ first_takes (instruction_at code k ∷ [])
  unfolding first_takes access_takes
  reader_none n11 n12 n13 = go (ℕ_discrete (get_or code (k * 16) 0) 0x10)
    where
      go : Dec (get_or code (k * 16) 0 ≡ 0x10) → false ≡ first_takes (instruction_at code k ∷ [])
      go (yes e) = rw (row_store code k h e)
      go (no n10) = row_no_access code k h (λ i. false ≡ first_takes (i ∷ [])) n10 n11 n12 n13 (λ o. refl)

-- ---- whether what is left meets an access
module _ (code : List ℕ) (u n i l : ℕ) (w : Bool) where
  pub meets_ended : n ≤ i → false ≡ meets (reads_left (drop i (thread_code code u n))) (writes_left (drop i (thread_code code u n))) l w
  unfolding meets reads_left writes_left
  meets_ended h = let q = has_none l in sym (ap (λ (c : List Instruction). meets (reads_left c) (writes_left c) l w) (code_end code u n i h) ∙ rw q)

pub meets_write : (R W l : ℕ) (w : Bool) → has W l ≡ true → true ≡ meets R W l w
unfolding meets
meets_write R W l w e = rw e

and_true : (b : Bool) → (b && true) ≡ b
and_true true = refl
and_true false = refl

pub meets_read : (R W l : ℕ) (w : Bool) → has W l ≡ false → w ≡ true → has R l ≡ meets R W l w
unfolding meets
meets_read R W l w e f = rw (e, f) (sym (and_true (has R l)))

pub meets_not : (R W l : ℕ) (w : Bool) → has W l ≡ false → w ≡ false → false ≡ meets R W l w
unfolding meets
meets_not R W l w e f = rw (e, f) (sym (and_false (has R l)))

-- ---- the access that a thread stands at
module _ (code lengths at : List ℕ) (σ : State) (rests : Rests code lengths at σ) (t : ℕ) (h : t < 6) where
  pub stands_ended : get_or lengths t 0 ≤ get_or at t 0 → (0 ≡ place σ t) × (false ≡ may_write (thread_of σ t).local)
  unfolding place place_of may_write first_place first_may_write
  stands_ended l =
      let e = rests t h ∙ code_end code t (get_or lengths t 0) (get_or at t 0) l in
      (sym (ap first_place e), sym (ap first_may_write e))

  pub stands_at : get_or at t 0 < get_or lengths t 0 → (row : ℕ) → row ≡ t * 16 + get_or at t 0 →
      (first_place (instruction_at code row ∷ []) ≡ place σ t) × (first_may_write (instruction_at code row ∷ []) ≡ may_write (thread_of σ t).local)
  unfolding place place_of may_write
  stands_at l row er =
      let e = rests t h ∙ code_at_lem code t (get_or lengths t 0) (get_or at t 0) l in
      let q = ap (instruction_at code) er in (
        ap (λ (x : Instruction). first_place (x ∷ [])) q ∙ sym (ap first_place e ∙ place_first _ _),
        ap (λ (x : Instruction). first_may_write (x ∷ [])) q ∙ sym (ap first_may_write e ∙ writer_first _ _),
      )

  -- whether thread u is in the set or could not wake it
  pub quiet_held : (s u l : ℕ) (w : Bool) → u < 6 → l ≡ place σ t → w ≡ may_write (thread_of σ t).local →
      (has s u || not (meets (reads_left (drop (get_or at u 0) (thread_code code u (get_or lengths u 0)))) (writes_left (drop (get_or at u 0) (thread_code code u (get_or lengths u 0)))) l w))
      ≡ (has s u || not (wakes σ t u))
  unfolding wakes
  quiet_held s u l w i el ew =
      ap (λ (c : List Instruction). has s u || not (meets (reads_left c) (writes_left c) l w)) (sym (rests u i))
      ∙ ap₂ (λ (a : ℕ) (b : Bool). has s u || not (meets (reads_left (thread_of σ u).local.rest) (writes_left (thread_of σ u).local.rest) a b)) el ew

-- ---- a test over the numbers from d on, one at a time
module _ (f : ℕ → Bool) (d j : ℕ) where
  pub all_over : j ≡ 0 → all f (range d j) ≡ true
  all_over e = ap (all f) (range_none d j e) ∙ all_of f [] (λ x m. absurd (Memᴰ.not-nil m))

  pub all_further : 0 < j → f d ≡ true → all f (range d j) ≡ all f (range (d + 1) (j - 1))
  all_further h e = ap (all f) (range_more d j h) ∙ all_yes f d (range (d + 1) (j - 1)) e

  pub all_fails : 0 < j → f d ≡ false → all f (range d j) ≡ false
  all_fails h e = ap (all f) (range_more d j h) ∙ all_no f d (range (d + 1) (j - 1)) e

-- ---- the sets row by row, from the last row on
module _ (code lengths : List ℕ) where
  abbrev code_at : ℕ → List Instruction
  code_at t = thread_code code t (get_or lengths t 0)

  -- the rows from k on hold them
  abbrev pub From : ℕ → List ℕ → Type 0
  From k left =
      (t i : ℕ) → t < 6 → i < get_or lengths t 0 → get_or lengths t 0 ≤ 16 → k ≤ t * 16 + i
      → (get_or left (t * 16 + i) 0 ≡ reads_left (drop i (thread_code code t (get_or lengths t 0)))) × (get_or left (t * 16 + i + 96) 0 ≡ writes_left (drop i (thread_code code t (get_or lengths t 0))))

  pub rows_left : (left : List ℕ) → From 0 left → Left code lengths left
  rows_left left f = record { reads = λ t i h l n. (f t i h l n (omega arith)).0; writes = λ t i h l n. (f t i h l n (omega arith)).1 }

  module _ (k : ℕ) (below : k < 96) (left : List ℕ) (f : From (k + 1) left) where
    -- a row without an instruction
    pub rows_skip : (k % 16 < get_or lengths (k / 16) 0 → get_or lengths (k / 16) 0 ≤ 16 → ⊥) → From k left
    rows_skip none t i h l n b = go (ℕ_discrete (t * 16 + i) k)
      where
        go : Dec (t * 16 + i ≡ k) → (get_or left (t * 16 + i) 0 ≡ reads_left (drop i (code_at t))) × (get_or left (t * 16 + i + 96) 0 ≡ writes_left (drop i (code_at t)))
        go (no q) = f t i h l n (omega (arith, q))
        go (yes q) =
            let et : k / 16 ≡ t = omega arith in
            let ei : k % 16 ≡ i = omega arith in
            absurd (none (subst (λ (j : ℕ). k % 16 < get_or lengths j 0) (sym et) (omega (arith, ei, l))) (subst (λ (j : ℕ). get_or lengths j 0 ≤ 16) (sym et) n))

    -- what stands behind a row
    module _ (own : k % 16 < get_or lengths (k / 16) 0) (short : get_or lengths (k / 16) 0 ≤ 16) where
      pub reads_behind : (s : ℕ) → (k % 16 + 1 < get_or lengths (k / 16) 0 → s ≡ get_or left (k + 1) 0) → (get_or lengths (k / 16) 0 ≤ k % 16 + 1 → s ≡ 0)
          → s ≡ reads_left (drop (suc (k % 16)) (thread_code code (k / 16) (get_or lengths (k / 16) 0)))
      unfolding reads_left
      reads_behind s some none = go (dec_lt (k % 16 + 1) (get_or lengths (k / 16) 0))
        where
          go : Dec (k % 16 + 1 < get_or lengths (k / 16) 0) → s ≡ reads_left (drop (suc (k % 16)) (code_at (k / 16)))
          go (yes l) =
              let e : k / 16 * 16 + (k % 16 + 1) ≡ k + 1 = omega arith in
              let j : k % 16 + 1 ≡ suc (k % 16) = omega arith in
              some l ∙ ap (λ (n : ℕ). get_or left n 0) (sym e) ∙ (f (k / 16) (k % 16 + 1) (omega arith) l short (omega arith)).0 ∙ ap (λ (n : ℕ). reads_left (drop n (code_at (k / 16)))) j
          go (no l) = none (omega (arith, l)) ∙ sym (ap reads_left (code_end code (k / 16) (get_or lengths (k / 16) 0) (suc (k % 16)) (omega (arith, l))))

      pub writes_behind : (s : ℕ) → (k % 16 + 1 < get_or lengths (k / 16) 0 → s ≡ get_or left (k + 97) 0) → (get_or lengths (k / 16) 0 ≤ k % 16 + 1 → s ≡ 0)
          → s ≡ writes_left (drop (suc (k % 16)) (thread_code code (k / 16) (get_or lengths (k / 16) 0)))
      unfolding writes_left
      writes_behind s some none = go (dec_lt (k % 16 + 1) (get_or lengths (k / 16) 0))
        where
          go : Dec (k % 16 + 1 < get_or lengths (k / 16) 0) → s ≡ writes_left (drop (suc (k % 16)) (code_at (k / 16)))
          go (yes l) =
              let e : k / 16 * 16 + (k % 16 + 1) + 96 ≡ k + 97 = omega arith in
              let j : k % 16 + 1 ≡ suc (k % 16) = omega arith in
              some l ∙ ap (λ (n : ℕ). get_or left n 0) (sym e) ∙ (f (k / 16) (k % 16 + 1) (omega arith) l short (omega arith)).1 ∙ ap (λ (n : ℕ). writes_left (drop n (code_at (k / 16)))) j
          go (no l) = none (omega (arith, l)) ∙ sym (ap writes_left (code_end code (k / 16) (get_or lengths (k / 16) 0) (suc (k % 16)) (omega (arith, l))))

      -- a row with one
      pub rows_more : (r w : ℕ) → length left ≡ 192
          → r ≡ reads_left (instruction_at code k ∷ drop (suc (k % 16)) (thread_code code (k / 16) (get_or lengths (k / 16) 0)))
          → w ≡ writes_left (instruction_at code k ∷ drop (suc (k % 16)) (thread_code code (k / 16) (get_or lengths (k / 16) 0)))
          → From k (set (set left k r) (k + 96) w)
      rows_more r w size er ew t i h l n b = go (ℕ_discrete (t * 16 + i) k)
        where
          new : List ℕ
          new = set (set left k r) (k + 96) w

          first : get_or new k 0 ≡ r
          first = get_or-set_other (set left k r) (k + 96) k w 0 (λ e. omega (arith, e)) ∙ get_or-set_same left k r 0 (omega (arith, size))

          second : get_or new (k + 96) 0 ≡ w
          second = get_or-set_same (set left k r) (k + 96) w 0 (omega (arith, length-set left k r, size))

          row : k / 16 * 16 + k % 16 ≡ k
          row = omega arith

          whole : instruction_at code k ∷ drop (suc (k % 16)) (code_at (k / 16)) ≡ drop (k % 16) (code_at (k / 16))
          whole = sym (code_at_lem code (k / 16) (get_or lengths (k / 16) 0) (k % 16) own ∙ ap (λ (y : Instruction). y ∷ drop (suc (k % 16)) (code_at (k / 16))) (ap (instruction_at code) row))

          go : Dec (t * 16 + i ≡ k) → (get_or new (t * 16 + i) 0 ≡ reads_left (drop i (code_at t))) × (get_or new (t * 16 + i + 96) 0 ≡ writes_left (drop i (code_at t)))
          go (no q) =
              let o = f t i h l n (omega (arith, q)) in (
                get_or-set_other (set left k r) (k + 96) (t * 16 + i) w 0 (λ e. omega (arith, e)) ∙ get_or-set_other left k (t * 16 + i) r 0 q ∙ o.0,
                get_or-set_other (set left k r) (k + 96) (t * 16 + i + 96) w 0 (λ e. q (omega (arith, e))) ∙ get_or-set_other left k (t * 16 + i + 96) r 0 (λ e. omega (arith, e)) ∙ o.1,
              )
          go (yes q) =
              let et : k / 16 ≡ t = omega arith in
              let ei : k % 16 ≡ i = omega arith in (
                ap (λ (j : ℕ). get_or new j 0) q ∙ first ∙ er ∙ ap reads_left whole ∙ ap₂ (λ (a c : ℕ). reads_left (drop c (code_at a))) et ei,
                ap (λ (j : ℕ). get_or new (j + 96) 0) q ∙ second ∙ ew ∙ ap writes_left whole ∙ ap₂ (λ (a c : ℕ). writes_left (drop c (code_at a))) et ei,
              )

-- ---- whether a thread sleeps in the set
module _ (σ : State) (s t : ℕ) where
  pub sleeps_out : has s t ≡ false → false ≡ sleeps_in σ s t
  unfolding sleeps_in
  sleeps_out e = rw e

  pub sleeps_by : (b : Bool) → has s t ≡ true → all (λ u. has s u || not (wakes σ t u)) (range 0 6) ≡ b → b ≡ sleeps_in σ s t
  unfolding sleeps_in
  sleeps_by b e q = sym (rw (e, q))
