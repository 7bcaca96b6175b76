-- What the access in a row does, as far as others have to wait for it, by the row's first byte.
use Prim.Native.Nat.{ℕ, ◌+◌, ◌*◌, ◌<◌, ◌≤◌}
use native.Mathlib.Omega.{arith}
use mathlib.Core.Path.{◌≡◌, refl, sym, ◌∙◌, ap}
use mathlib.Core.Logic.{◌≢◌}
use mathlib.Core.Bool.{Bool, true, false}
use mathlib.Core.List.{List, [], ◌∷◌}
use native.Mathlib.Decide.{ℕ_discrete}
use lib.ListN.{get_or}
use Rattle.spec_file.specs.declared.instruction.Operand.{Operand}
use Rattle.spec_file.specs.declared.instruction.Instruction.{Instruction}
use Rattle.spec_file.specs.declared.instruction.Instruction.TheVariants.{Memory, Alone}
use Rattle.spec_file.specs.Frames.{operand}
use Rattle.file_rows.specs.Rows.{row_at, instruction_at}
use Rattle.file_rows.proofs.Rows.{row_store, row_load, row_fetch_add, row_compare_swap, row_no_access}
use Rattle.machine_access.specs.CarriedOut.{access_of}
use Rattle.spec_sc.specs.Local.{access_place, first_place}
use Rattle.spec_sc.specs.Actions.{Action, conflict}
use Rattle.theory_search.specs.Ahead.{could_add, access_may_write, first_may_write}
use Rattle.spec_sc.proofs.Trails.{conflict_elsewhere, conflict_written, conflict_read}
use Rattle.search_place.specs.Steps.{accessing_at}

module _ (code : List ℕ) (k : ℕ) (h : k < 96) where
  pub place_store : get_or code (k * 16) 0 ≡ 0x10 → get_or code (k * 16 + 1) 0 ≡ first_place (instruction_at code k ∷ [])
  unfolding first_place access_place
  place_store e = rw (row_store code k h e)

  place_load : get_or code (k * 16) 0 ≡ 0x11 → get_or code (k * 16 + 2) 0 ≡ first_place (instruction_at code k ∷ [])
  unfolding first_place access_place
  place_load e = rw (row_load code k h e)

  place_fetch_add : get_or code (k * 16) 0 ≡ 0x12 → get_or code (k * 16 + 2) 0 ≡ first_place (instruction_at code k ∷ [])
  unfolding first_place access_place
  place_fetch_add e = rw (row_fetch_add code k h e)

  place_compare_swap : get_or code (k * 16) 0 ≡ 0x13 → get_or code (k * 16 + 2) 0 ≡ first_place (instruction_at code k ∷ [])
  unfolding first_place access_place
  place_compare_swap e = rw (row_compare_swap code k h e)

  -- the three that read
  pub place_read : 0x11 ≤ get_or code (k * 16) 0 → get_or code (k * 16) 0 ≤ 0x13 → get_or code (k * 16 + 2) 0 ≡ first_place (instruction_at code k ∷ [])
  place_read low high = go (ℕ_discrete (get_or code (k * 16) 0) 0x11) (ℕ_discrete (get_or code (k * 16) 0) 0x12)
    where
      go : Dec (get_or code (k * 16) 0 ≡ 0x11) → Dec (get_or code (k * 16) 0 ≡ 0x12) → get_or code (k * 16 + 2) 0 ≡ first_place (instruction_at code k ∷ [])
      go (yes e) d = place_load e
      go (no n) (yes e) = place_fetch_add e
      go (no n) (no m) = place_compare_swap (omega (arith, n, m, low, high))

  pub writer_store : get_or code (k * 16) 0 ≡ 0x10 → true ≡ first_may_write (instruction_at code k ∷ [])
  unfolding first_may_write access_may_write
  writer_store e = rw (row_store code k h e)

  pub writer_fetch_add : get_or code (k * 16) 0 ≡ 0x12 → (p : Operand) → p ≡ operand (row_at code k) 3 → (b : Bool) → b ≡ could_add p → b ≡ first_may_write (instruction_at code k ∷ [])
  unfolding first_may_write access_may_write
  writer_fetch_add e p ep b eb = eb ∙ ap could_add ep ∙ rw (row_fetch_add code k h e)

  pub writer_compare_swap : get_or code (k * 16) 0 ≡ 0x13 → true ≡ first_may_write (instruction_at code k ∷ [])
  unfolding first_may_write access_may_write
  writer_compare_swap e = rw (row_compare_swap code k h e)

  module _ (n10 : get_or code (k * 16) 0 ≡ 0x10 → ⊥) (n12 : get_or code (k * 16) 0 ≡ 0x12 → ⊥) (n13 : get_or code (k * 16) 0 ≡ 0x13 → ⊥) where
    pub place_none : (get_or code (k * 16) 0 ≡ 0x11 → ⊥) → 0 ≡ first_place (instruction_at code k ∷ [])
    unfolding first_place
    place_none n11 = row_no_access code k h (λ i. 0 ≡ first_place (i ∷ [])) n10 n11 n12 n13 (λ o. refl)

    pub writer_none : false ≡ first_may_write (instruction_at code k ∷ [])
    unfolding first_may_write access_may_write
    writer_none = go (ℕ_discrete (get_or code (k * 16) 0) 0x11)
      where
        go : Dec (get_or code (k * 16) 0 ≡ 0x11) → false ≡ first_may_write (instruction_at code k ∷ [])
        go (yes e) = rw (row_load code k h e)
        go (no n11) = row_no_access code k h (λ i. false ≡ first_may_write (i ∷ [])) n10 n11 n12 n13 (λ o. refl)

-- the code that is left begins with the row's instruction
pub place_first : (x : Instruction) (is : List Instruction) → first_place (x ∷ is) ≡ first_place (x ∷ [])
unfolding first_place
place_first (Memory a) is = refl
place_first (Alone o) is = refl

pub writer_first : (x : Instruction) (is : List Instruction) → first_may_write (x ∷ is) ≡ first_may_write (x ∷ [])
unfolding first_may_write
writer_first (Memory a) is = refl
writer_first (Alone o) is = refl

-- an access goes where its instruction says
access_place_lem : (x : Instruction) (rs m : List ℕ) → (access_of x rs m).location ≡ first_place (x ∷ [])
unfolding first_place
access_place_lem (Memory a) rs m = refl
access_place_lem (Alone o) rs m = refl

-- ---- whether it conflicts with an access at l that wrote (w) or not
module _ (code : List ℕ) (row : ℕ) (rs m : List ℕ) (l : ℕ) (w : Bool) (k : ℕ) (ek : k ≡ first_place (instruction_at code row ∷ [])) where
  abbrev here : Action
  here = record { thread = 0; location = l; wrote = w }

  abbrev there : Action
  there = accessing_at code row rs m

  there_at : there.location ≡ k
  there_at = access_place_lem (instruction_at code row) rs m ∙ sym ek

  pub apart_at : k ≢ l → false ≡ conflict (record { thread = 0; location = l; wrote = w }) (accessing_at code row rs m)
  apart_at n = sym (conflict_elsewhere here there (λ e. n (sym there_at ∙ sym e)))

  pub written_at : k ≡ l → w ≡ true → true ≡ conflict (record { thread = 0; location = l; wrote = w }) (accessing_at code row rs m)
  written_at e q = sym (conflict_written here there (sym e ∙ sym there_at) q)

  pub read_at : k ≡ l → w ≡ false → (b : Bool) → b ≡ (access_of (instruction_at code row) rs m).writes
      → b ≡ conflict (record { thread = 0; location = l; wrote = w }) (accessing_at code row rs m)
  read_at e q b eb = eb ∙ sym (conflict_read here there (sym e ∙ sym there_at) q)
