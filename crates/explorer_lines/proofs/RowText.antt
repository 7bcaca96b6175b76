-- Rows of listed schedules, and the frames that are printed of them.
use Prim.Native.Nat.{ℕ, suc, ◌+◌, ◌≤◌}
use mathlib.Core.Path.{◌≡◌, refl, sym, ap, ap₂, ◌∙◌}
use mathlib.Core.Bool.{Bool, true, false, cond}
use mathlib.Core.List.{List, ◌∷◌}
use native.Mathlib.Omega.{arith}
use lib.ListN.{length, get_or, set, take}
use Rattle.spec_file.specs.Program.{Program}
use Rattle.spec_schedules.specs.Order.{Schedule}
use Rattle.spec_model.specs.Model.{failing}
use Rattle.spec_sc.specs.Sequential.{sc}
use Rattle.spec_calls.specs.Rows as Pages
use Rattle.spec_calls.specs.Rows.{row_bytes}
use Rattle.spec_calls.specs.Printed.{flag, schedule_frame}
use Rattle.listing_cursor.proofs.RowsRead.{row_steps}

-- ---- one row
-- with 50 in place of the number of steps
pub row_frame : (s : Schedule) (f : Bool) (row : List ℕ) (n : ℕ) → row ≡ row_bytes 24 s f → length s ≤ 24 → n ≡ length s → take (n + 2) (set row 0 0x50) ≡ 0x50 ∷ cond f 1 0 ∷ s
unfolding Pages.row_bytes
row_frame s f row n e h c =
    let k : n + 2 ≡ suc (suc n) = omega arith in
    ap (λ (j : ℕ). take j (set row 0 0x50)) k
    ∙ ap₂ (λ (m : ℕ) (l : List ℕ). take (suc (suc m)) (set l 0 0x50)) c e
    ∙ ap (λ (l : List ℕ). 0x50 ∷ cond f 1 0 ∷ l) (row_steps 24 s f h)

-- whether the schedule fails
pub row_failed : (s : Schedule) (f : Bool) (row : List ℕ) → row ≡ row_bytes 24 s f → get_or row 1 0 ≡ cond f 1 0
unfolding Pages.row_bytes
row_failed s f row e = ap (λ (l : List ℕ). get_or l 1 0) e

flagged : (f : Bool) → flag f ≡ cond f 1 0
unfolding flag
flagged true = refl
flagged false = refl

pub frame_is : (p : Program) (s : Schedule) → 0x50 ∷ cond (failing sc p s) 1 0 ∷ s ≡ schedule_frame p s
unfolding schedule_frame
frame_is p s = ap (λ (b : ℕ). 0x50 ∷ b ∷ s) (sym (flagged (failing sc p s)))
