-- What a search by the model leaves behind a cursor, as the code reads it: with rows of the model's width, counted by `rows`.
use Rattle.std.proofs.Common.{ℕ, ◌+◌, ◌-◌, ◌*◌, ◌/◌, ◌<◌, ◌≤◌, ◌≡◌, ◌≢◌, Bool, true, false, sym, subst, List, arith, length, get_or, take, drop}
use Rattle.spec_file.specs.Program.{Program}
use Rattle.spec_schedules.specs.Found.{after}
use Rattle.spec_model.specs.Model.{Model, failing}
use Rattle.spec_model.specs.Laws.{Admitted, Laws}
use Rattle.spec_model.specs.Search.{sought}
use Rattle.theory_search.proofs.ModelSearch.{sought_ascends}
use Rattle.spec_calls.specs.Rows.{row_size}
use Rattle.listing_cursor.specs.declared.cursor.Cursor.{Cursor}
use Rattle.listing_cursor.specs.Bounds.{bound_at}
use Rattle.listing_cursor.specs.Cursor.{bound_of, is_end}
use Rattle.listing_cursor.specs.ListRows.{Shown, Paged, remaining}
use Rattle.listing_cursor.proofs.AddedRows.{row_within}
use Rattle.listing_cursor.proofs.ListPages.{sought_fits}
use Rattle.listing_cursor.proofs.PageLaws as Laws

module _ (M : Model) (L : Laws M) (p : Program) (a : Admitted M p) (failures tight : Bool) (c : Cursor) (b held out : List ℕ) (rows row : ℕ) (row_is : row ≡ row_size M.need)
    (goes_on : is_end c ≡ false) (at : bound_at tight b 0 ≡ bound_of c)
    (found : Shown M p (take (length held / row_size M.need) (after (bound_at tight b 0) (sought M failures p))) held out rows) where
  -- fewer rows than there is room for
  pub page_ended : (e : Cursor) → is_end e ≡ true → rows < length out / row → Paged M p failures c held out (record { rows = rows; cursor = e })
  page_ended e q h =
      Laws.page_ended M.need (failing M p) (sought M failures p) (sought_ascends M L failures p) (sought_fits M L p a failures) tight c b held out rows goes_on at found e q
      (subst (λ (n : ℕ). rows < length out / n) row_is h)

  module _ (full : length out / row ≤ rows) where
    few : length out / row_size M.need ≤ rows
    few = subst (λ (n : ℕ). length out / n ≤ rows) row_is full

    -- the last row, and what is behind it
    module _ (some : rows ≢ 0) where
      pub last_within : ((rows - 1) * row + row ≤ length held) × (length out ≡ length held)
      last_within =
          let h = Laws.last_within M.need (failing M p) (sought M failures p) (sought_ascends M L failures p) (sought_fits M L p a failures) tight c b held out rows goes_on at found few some in
          (omega (arith, row_within (rows - 1) rows row (omega (arith, some)), subst (λ (n : ℕ). rows * n ≤ length held) (sym row_is) h.0), h.1)

      module _ (n : ℕ) (e : n ≡ get_or out ((rows - 1) * row) 0) where
        pub last_few : n ≤ M.need
        last_few =
            Laws.last_few M.need (failing M p) (sought M failures p) (sought_ascends M L failures p) (sought_fits M L p a failures) tight c b held out rows goes_on at found few some n
            (subst (λ (k : ℕ). n ≡ get_or out ((rows - 1) * k) 0) row_is e)

        pub page_full : (s : List ℕ) (z : Cursor) → s ≡ take ((rows - 1) * row + 2 + n - ((rows - 1) * row + 2)) (drop ((rows - 1) * row + 2) out)
            → remaining M p failures z ≡ after (Rattle.std.proofs.Math.Option.some s) (sought M failures p) → Paged M p failures c held out (record { rows = rows; cursor = z })
        page_full s z t r =
            Laws.page_full M.need (failing M p) (sought M failures p) (sought_ascends M L failures p) (sought_fits M L p a failures) tight c b held out rows goes_on at found few some n s z
            (subst (λ (k : ℕ). n ≡ get_or out ((rows - 1) * k) 0) row_is e)
            (subst (λ (k : ℕ). s ≡ take ((rows - 1) * k + 2 + n - ((rows - 1) * k + 2)) (drop ((rows - 1) * k + 2) out)) row_is t) r
