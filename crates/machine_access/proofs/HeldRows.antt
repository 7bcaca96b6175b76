-- What the functions that read an access off a row's bytes rest on: a row that is none, and whether an access writes.
use Rattle.std.proofs.Common.{◌≡◌, ℕ, ◌+◌, ◌*◌, ◌<◌, Bool, true, false, cond, not, eqb, List, get_or, refl}
use mathlib.Core.Option.{Option, none, some}
use native.Mathlib.Decide.{ℕ_discrete}
use Rattle.spec_file.specs.Frames.{operand}
use Rattle.file_rows.specs.Rows.{row_at, instruction_at}
use Rattle.file_rows.proofs.Rows.{row_store, row_load, row_fetch_add, row_compare_swap, row_no_access}
use Rattle.spec_sc.specs.Local.{eval, sum32, access_place, access_puts}
use Rattle.spec_sc.specs.Actions.{given}
use Rattle.machine_access.specs.CarriedOut.{accessing, value_in, access_of}
use Rattle.machine_access.specs.declared.accessing.Access.{Access}

-- row k of the code, where it is no access
module _ (code : List ℕ) (k : ℕ) (h : k < 96) where
  module _ (n10 : get_or code (k * 16) 0 ≡ 0x10 → ⊥) (n11 : get_or code (k * 16) 0 ≡ 0x11 → ⊥) (n12 : get_or code (k * 16) 0 ≡ 0x12 → ⊥) (n13 : get_or code (k * 16) 0 ≡ 0x13 → ⊥) where
    pub access_none : (rs m : List ℕ) → accessing 0 false rs false 0 ≡ access_of (instruction_at code k) rs m
    access_none rs m = row_no_access code k h (λ i. accessing 0 false rs false 0 ≡ access_of i rs m) n10 n11 n12 n13 (λ o. refl)

-- an access to l that reads, with these registers behind it, and what it wrote
abbrev pub reading : ℕ → List ℕ → Option ℕ → Access
reading l rs put = accessing l true rs (given put) (value_in put)

-- a load that writes v unless b is one that writes this or nothing
pub load_writes : (b : Bool) (l : ℕ) (rs : List ℕ) (v : ℕ) → cond b (accessing l true rs false 0) (accessing l true rs true v) ≡ reading l rs (cond b none (some v))
unfolding given
load_writes true l rs v = refl
load_writes false l rs v = refl

-- ---- whether an access writes
add_writes : (b : Bool) (v : ℕ) → not b ≡ given (cond b none (some v))
unfolding given
add_writes true v = refl
add_writes false v = refl

swap_writes : (b : Bool) (v : ℕ) → b ≡ given (cond b (some v) none)
unfolding given
swap_writes true v = refl
swap_writes false v = refl

module _ (code : List ℕ) (k : ℕ) (h : k < 96) (rs m : List ℕ) where
  pub writes_store : get_or code (k * 16) 0 ≡ 0x10 → true ≡ (access_of (instruction_at code k) rs m).writes
  unfolding access_puts given
  writes_store e = rw (row_store code k h e)

  -- a fetch and add, unless it adds zero
  pub writes_fetch_add : get_or code (k * 16) 0 ≡ 0x12 → not (eqb (eval rs (operand (row_at code k) 3)) 0) ≡ (access_of (instruction_at code k) rs m).writes
  unfolding access_place access_puts
  writes_fetch_add e =
      rw (row_fetch_add code k h e)
      (add_writes (eqb (eval rs (operand (row_at code k) 3)) 0) (sum32 (get_or m (get_or code (k * 16 + 2) 0) 0) (eval rs (operand (row_at code k) 3))))

  -- a compare and swap, where it finds what it expects
  pub writes_swap : get_or code (k * 16) 0 ≡ 0x13
      → eqb (get_or m (get_or code (k * 16 + 2) 0) 0) (eval rs (operand (row_at code k) 3)) ≡ (access_of (instruction_at code k) rs m).writes
  unfolding access_place access_puts
  writes_swap e = rw (row_compare_swap code k h e) (swap_writes (eqb (get_or m (get_or code (k * 16 + 2) 0) 0) (eval rs (operand (row_at code k) 3))) (eval rs (operand (row_at code k) 8)))

  -- a load, and what is no access
  pub writes_none : (get_or code (k * 16) 0 ≡ 0x10 → ⊥) → (get_or code (k * 16) 0 ≡ 0x12 → ⊥) → (get_or code (k * 16) 0 ≡ 0x13 → ⊥)
      → false ≡ (access_of (instruction_at code k) rs m).writes
  unfolding access_puts given
  writes_none n10 n12 n13 = go (ℕ_discrete (get_or code (k * 16) 0) 0x11)
    where
      go : Dec (get_or code (k * 16) 0 ≡ 0x11) → false ≡ (access_of (instruction_at code k) rs m).writes
      go (yes e) = rw (row_load code k h e)
      go (no n11) = row_no_access code k h (λ i. false ≡ (access_of i rs m).writes) n10 n11 n12 n13 (λ o. refl)
