-- Rows that are accesses: by their first byte, whether one is locked, and where it goes.
use Prim.Native.Nat.{ℕ, ◌+◌, ◌*◌, ◌<◌, ◌≤◌}
use native.Mathlib.Omega.{arith}
use native.Mathlib.Decide.{dec_lt, ℕ_discrete}
use mathlib.Core.Path.{◌≡◌, refl, sym, ◌∙◌}
use mathlib.Core.Bool.{true, false, true≢false}
use mathlib.Core.List.{List, [], ◌∷◌}
use lib.Dec.{leb}
use lib.ListN.{get_or}
use borrow.Author.Tests.{le-leb, lt-leb}
use Rattle.file_rows.specs.Rows.{instruction_at}
use Rattle.file_rows.proofs.Rows.{row_store, row_load, row_fetch_add, row_compare_swap, row_no_access}
use Rattle.machine_local.proofs.HeldRows.{access_store, access_load, access_fetch_add, access_compare_swap, no_access}
use Rattle.spec_sc.specs.Local.{begins_with_access, first_place, access_place}
use Rattle.spec_tso.specs.State.{first_locks, access_locks}

module _ (code : List ℕ) (k : ℕ) (h : k < 96) where
  abbrev b : ℕ
  b = get_or code (k * 16) 0

  -- ---- one of four bytes, or none
  pub below_access : b < 0x10 → false ≡ begins_with_access (instruction_at code k ∷ [])
  below_access l = sym (no_access code k h (λ e. omega (arith, e, l)) (λ e. omega (arith, e, l)) (λ e. omega (arith, e, l)) (λ e. omega (arith, e, l)))

  pub from_access : 0x10 ≤ b → leb b 0x13 ≡ begins_with_access (instruction_at code k ∷ [])
  from_access l = go (dec_lt 0x13 b) (ℕ_discrete b 0x10) (ℕ_discrete b 0x11) (ℕ_discrete b 0x12)
    where
      go : Dec (0x13 < b) → Dec (b ≡ 0x10) → Dec (b ≡ 0x11) → Dec (b ≡ 0x12) → leb b 0x13 ≡ begins_with_access (instruction_at code k ∷ [])
      go (yes i) x y z = lt-leb b 0x13 i ∙ sym (no_access code k h (λ e. omega (arith, e, i)) (λ e. omega (arith, e, i)) (λ e. omega (arith, e, i)) (λ e. omega (arith, e, i)))
      go (no i) (yes e) y z = le-leb b 0x13 (omega (arith, i)) ∙ sym (access_store code k h e)
      go (no i) (no x) (yes e) z = le-leb b 0x13 (omega (arith, i)) ∙ sym (access_load code k h e)
      go (no i) (no x) (no y) (yes e) = le-leb b 0x13 (omega (arith, i)) ∙ sym (access_fetch_add code k h e)
      go (no i) (no x) (no y) (no z) = le-leb b 0x13 (omega (arith, i)) ∙ sym (access_compare_swap code k h (omega (arith, i, l, x, y, z)))

  -- ---- locked
  locks_not : (b ≡ 0x12 → ⊥) → (b ≡ 0x13 → ⊥) → first_locks (instruction_at code k ∷ []) ≡ false
  unfolding first_locks access_locks
  locks_not n12 n13 = go (ℕ_discrete b 0x10) (ℕ_discrete b 0x11)
    where
      go : Dec (b ≡ 0x10) → Dec (b ≡ 0x11) → first_locks (instruction_at code k ∷ []) ≡ false
      go (yes e) y = rw (row_store code k h e)
      go (no x) (yes e) = rw (row_load code k h e)
      go (no x) (no y) = row_no_access code k h (λ i. first_locks (i ∷ []) ≡ false) x y n12 n13 (λ o. refl)

  locks_add : b ≡ 0x12 → first_locks (instruction_at code k ∷ []) ≡ true
  unfolding first_locks access_locks
  locks_add e = rw (row_fetch_add code k h e)

  locks_swap : b ≡ 0x13 → first_locks (instruction_at code k ∷ []) ≡ true
  unfolding first_locks access_locks
  locks_swap e = rw (row_compare_swap code k h e)

  pub below_locked : b < 0x12 → false ≡ first_locks (instruction_at code k ∷ [])
  below_locked l = sym (locks_not (λ e. omega (arith, e, l)) (λ e. omega (arith, e, l)))

  pub from_locked : 0x12 ≤ b → leb b 0x13 ≡ first_locks (instruction_at code k ∷ [])
  from_locked l = go (dec_lt 0x13 b) (ℕ_discrete b 0x12)
    where
      go : Dec (0x13 < b) → Dec (b ≡ 0x12) → leb b 0x13 ≡ first_locks (instruction_at code k ∷ [])
      go (yes i) x = lt-leb b 0x13 i ∙ sym (locks_not (λ e. omega (arith, e, i)) (λ e. omega (arith, e, i)))
      go (no i) (yes e) = le-leb b 0x13 (omega (arith, i)) ∙ sym (locks_add e)
      go (no i) (no x) = le-leb b 0x13 (omega (arith, i)) ∙ sym (locks_swap (omega (arith, i, l, x)))

  -- ---- its location
  pub store_place : b ≡ 0x10 → begins_with_access (instruction_at code k ∷ []) ≡ true → get_or code (k * 16 + 1) 0 ≡ first_place (instruction_at code k ∷ [])
  unfolding first_place access_place
  store_place e q = rw (row_store code k h e)

  pub other_place : (b ≡ 0x10 → ⊥) → begins_with_access (instruction_at code k ∷ []) ≡ true → get_or code (k * 16 + 2) 0 ≡ first_place (instruction_at code k ∷ [])
  unfolding first_place access_place
  other_place n q = go (ℕ_discrete b 0x11) (ℕ_discrete b 0x12) (ℕ_discrete b 0x13)
    where
      go : Dec (b ≡ 0x11) → Dec (b ≡ 0x12) → Dec (b ≡ 0x13) → get_or code (k * 16 + 2) 0 ≡ first_place (instruction_at code k ∷ [])
      go (yes e) y z = rw (row_load code k h e)
      go (no x) (yes e) z = rw (row_fetch_add code k h e)
      go (no x) (no y) (yes e) = rw (row_compare_swap code k h e)
      go (no x) (no y) (no z) = absurd (true≢false (sym q ∙ no_access code k h n x y z))
