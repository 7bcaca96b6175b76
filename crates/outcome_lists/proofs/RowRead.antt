-- A row of a page read off: where it stands, how many steps it has, and what they are, in both memory models.
use Prim.Native.Nat.{ℕ, ◌+◌, ◌-◌, ◌*◌, ◌<◌, ◌≤◌}
use mathlib.Core.Path.{◌≡◌, sym, ap, ap₂, subst, ◌∙◌}
use mathlib.Core.List.{List, []}
use native.Mathlib.Omega.{arith}
use lib.ListN.{length, get_or, take, drop, length-drop}
use lib.Seq.{drop-drop, take_all}
use Rattle.spec_file.specs.Over.{over}
use Rattle.spec_file.specs.Program.{Program}
use Rattle.spec_file.proofs.Over.{take_over}
use Rattle.spec_schedules.specs.Order.{Schedule}
use Rattle.listing_model.specs.declared.memory.Model.{Model}
use Rattle.listing_model.specs.ModelOf.{model_of}
use Rattle.listing_model.proofs.ModelLaws.{need_48}
use Rattle.listing_pages.specs.Page.{Rows}
use Rattle.listing_pages.proofs.FirstOfRows.{row_here, row_count, row_short, row_steps}

module _ (m : Model) (p : Program) (ss : List Schedule) (rows : List ℕ) (n : ℕ) (r : Rows (model_of m) p ss rows n) (k : ℕ) (h : k < n) (w : ℕ) (e : w ≡ (model_of m).need) where
  -- the row lies within the rows
  pub row_place : (w ≤ 48) × (k * (w + 2) + (w + 2) ≤ length rows)
  row_place = (
    omega (arith, e, need_48 m),
    subst (λ (i : ℕ). k * (i + 2) + (i + 2) ≤ length rows) (sym e) (row_here (model_of m) p ss rows n r k h),
  )

  module _ (steps : ℕ) (q : steps ≡ get_or rows (k * (w + 2)) 0) where
    counted : steps ≡ length (get_or ss k [])
    counted = q ∙ ap (λ (i : ℕ). get_or rows (k * (i + 2)) 0) e ∙ row_count (model_of m) p ss rows n r k h

    few : steps ≤ w
    few = omega (arith, e, counted, row_short (model_of m) p ss rows n r k h)

    pub within_need : steps ≤ (model_of m).need
    within_need = omega (arith, e, few)

    abbrev behind : List ℕ
    behind = take (length rows - k * (w + 2)) (drop (k * (w + 2)) rows)

    whole_behind : behind ≡ drop (k * (w + 2)) rows
    whole_behind = take_all (length rows - k * (w + 2)) (drop (k * (w + 2)) rows) (omega (arith, length-drop (k * (w + 2)) rows))

    -- its steps are few, and stand in what is behind its beginning
    pub row_left : (steps ≤ 48) × (steps + 2 ≤ length behind)
    row_left = (
      omega (arith, few, row_place.0),
      omega (arith, few, row_place.1, ap length whole_behind, length-drop (k * (w + 2)) rows),
    )

    is : take steps (drop 2 behind) ≡ get_or ss k []
    is =
        ap₂ take counted (ap (drop 2) whole_behind ∙ drop-drop 2 (k * (w + 2)) rows) ∙ ap (λ (i : ℕ). take (length (get_or ss k [])) (drop (k * (i + 2) + 2) rows)) e
        ∙ row_steps (model_of m) p ss rows n r k h

    -- read back from where they were copied to
    pub steps_read : (held out : List ℕ) → out ≡ over (take steps (drop 2 behind)) held → take steps out ≡ get_or ss k []
    steps_read held out o =
        ap₂ take counted (o ∙ ap (λ (t : List ℕ). over t held) is) ∙ take_over (get_or ss k []) held
