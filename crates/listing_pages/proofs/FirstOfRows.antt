-- Rows of listed schedules read one after the other, in any memory model, for the first whose schedule passes a test: what is left of them
-- has it.
use Prim.Native.Nat.{ℕ, suc, ◌+◌, ◌*◌, ◌<◌, ◌≤◌}
use mathlib.Core.Path.{◌≡◌, refl, sym, ap, subst, ◌∙◌}
use mathlib.Core.Bool.{Bool, true, false}
use mathlib.Core.Option.{none, some}
use mathlib.Core.List.Memᴰ
use mathlib.Core.List.{List, [], Memᴰ}
use native.Mathlib.Nat.{le_trans}
use native.Mathlib.Omega.{arith}
use lib.ListN.{length, get_or, take, drop, drop_of_length-le}
use lib.Seq.{drop-cons, split_at}
use Rattle.spec_file.specs.Program.{Program}
use Rattle.spec_schedules.specs.Lists.{find}
use Rattle.spec_schedules.specs.Order.{Schedule}
use Rattle.spec_schedules.proofs.Lists.{find_yes, find_no}
use Rattle.spec_model.specs.Model.{Model, Full, failing}
use Rattle.spec_model.specs.Laws.{Laws}
use Rattle.spec_model.proofs.TheList.{list_exact}
use Rattle.spec_calls.specs.Rows.{row_size}
use Rattle.listing_cursor.proofs.AddedRows.{row_within}
use Rattle.listing_cursor.proofs.RowsRead.{shown_length, shown_steps}
use Rattle.listing_pages.specs.Page.{Rows}
use Rattle.listing_pages.proofs.FirstOfTwo.{find_empty}

module _ (M : Model) (p : Program) (ss : List Schedule) (rows : List ℕ) (n : ℕ) (r : Rows M p ss rows n) where
  module _ (k : ℕ) (h : k < n) where
    within : k < length ss
    within = omega (arith, h, r.shown.counted)

    member : Memᴰ (get_or ss k []) ss
    member = subst (Memᴰ (get_or ss k [])) (sym (split_at ss k [] within)) (Memᴰ.append_right (take k ss) (Memᴰ.head refl))

    pub row_full : Laws M → Full M p (get_or ss k [])
    row_full L = ((list_exact M L p (get_or ss k [])).0 (r.listed (get_or ss k []) member)).0

    pub row_short : length (get_or ss k []) ≤ M.need
    row_short = r.short (get_or ss k []) member

    -- the row lies within the buffer
    pub row_here : k * row_size M.need + row_size M.need ≤ length rows
    row_here = le_trans (row_within k n (row_size M.need) h) r.within

    -- its first byte says how many steps there are, and they stand behind two bytes
    pub row_count : get_or rows (k * row_size M.need) 0 ≡ length (get_or ss k [])
    row_count = shown_length M.need (failing M p) ss r.held rows n r.shown k h

    pub row_steps : take (length (get_or ss k [])) (drop (k * row_size M.need + 2) rows) ≡ get_or ss k []
    row_steps = shown_steps M.need (failing M p) ss r.held rows n r.shown k h row_short

  -- what is left has the first
  module _ (f : Schedule → Bool) (k : ℕ) where
    pub left_here : k < n → f (get_or ss k []) ≡ true → find f (drop k ss) ≡ some (get_or ss k [])
    left_here h e = ap (find f) (drop-cons ss k [] (within k h)) ∙ find_yes f (get_or ss k []) (drop (suc k) ss) e

    pub left_next : k < n → f (get_or ss k []) ≡ false → find f (drop k ss) ≡ find f (drop (k + 1) ss)
    left_next h e =
        let j : suc k ≡ k + 1 = omega arith in
        ap (find f) (drop-cons ss k [] (within k h)) ∙ find_no f (get_or ss k []) (drop (suc k) ss) e ∙ ap (λ (i : ℕ). find f (drop i ss)) j

    pub left_none : n ≤ k → find f (drop k ss) ≡ none
    left_none h = ap (find f) (drop_of_length-le ss {i = k} (omega (arith, h, r.shown.counted))) ∙ find_empty f
