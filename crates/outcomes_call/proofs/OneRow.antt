-- A PAGE OF ONE ROW: 50 bytes have room for one in either memory model.
use Prim.Native.Nat.{ℕ, ◌/◌, ◌<◌, min}
use mathlib.Core.Path.{◌≡◌, refl, sym, ap, subst, ◌∙◌}
use mathlib.Core.Logic.{◌≢◌}
use mathlib.Core.Bool.{false}
use mathlib.Core.List.{List, [], ◌∷◌, Memᴰ}
use native.Mathlib.Omega.{arith}
use lib.ListN.{length, get_or, take, drop, length-take}
use lib.Seq.{drop-cons, get_or-take}
use Rattle.spec_file.specs.Program.{Program}
use Rattle.spec_schedules.specs.Order.{Schedule}
use Rattle.spec_model.specs.Model as Memory
use Rattle.spec_model.specs.Alike.{list_of}
use Rattle.spec_model.specs.Search.{sought}
use Rattle.spec_calls.specs.Rows.{row_size}
use Rattle.listing_cursor.specs.declared.cursor.Cursor.{Cursor}
use Rattle.listing_cursor.specs.declared.cursor.Page.{Page}
use Rattle.listing_cursor.specs.ListRows.{remaining, Paged}
use Rattle.listing_cursor.proofs.CursorLaws.{of_from}
use Rattle.listing_model.specs.declared.memory.Model.{Model}
use Rattle.listing_model.specs.declared.memory.Model.TheVariants.{Sequential, TotalStoreOrder}
use Rattle.listing_model.specs.ModelOf.{model_of}
use Rattle.listing_pages.proofs.FirstByPages.{here}
use Rattle.spec_outcomes.specs.Firsts.{firsts_of}
use Rattle.spec_outcomes.specs.OutcomesCall.{outcome_size, page_of}

pub sought_list : (M : Memory.Model) (p : Program) → sought M false p ≡ list_of M p
unfolding sought
sought_list M p = refl

pub page_is : (M : Memory.Model) (p : Program) (from room : ℕ) (out : List ℕ) → room ≡ length out / outcome_size M → take room (drop from (firsts_of M p)) ≡ page_of M p from out
unfolding page_of
page_is M p from room out e = ap (λ (n : ℕ). take n (drop from (firsts_of M p))) e

one_row : (m : Model) (n : ℕ) → n ≡ 50 → n / row_size (model_of m).need ≡ 1
one_row Sequential n e = omega (arith, e)
one_row TotalStoreOrder n e = omega (arith, e)

module _ (m : Model) (row : List ℕ) (fifty : length row ≡ 50) where
  pub some_room : 0 < length row / row_size (model_of m).need
  some_room = let z = one_row m (length row) fifty in omega (arith, z)

  module _ (p : Program) (c : Cursor) (row' : List ℕ) (r : Page) (page : Paged (model_of m) p false c row row' r) where
    abbrev l : List Schedule
    l = remaining (model_of m) p false c

    rows_count : r.rows ≡ min 1 (length l)
    rows_count = page.shown.counted ∙ length-take (length row / row_size (model_of m).need) l ∙ ap (λ (n : ℕ). min n (length l)) (one_row m (length row) fifty)

    -- no row: nothing is to come
    pub nothing_left : r.rows ≡ 0 → l ≡ []
    nothing_left e = go l (omega (arith, e, rows_count))
      where
        go : (xs : List Schedule) → length xs ≡ 0 → xs ≡ []
        go [] q = refl
        go (x ∷ xs) q = absurd (omega arith)

    -- a row: its schedule comes next
    module _ (some : r.rows ≢ 0) where
      pub one_here : 0 < r.rows
      one_here = omega (arith, some)

      long : 0 < length l
      long = omega (arith, some, rows_count)

      pub next_here : l ≡ get_or (here (model_of m) p c row row' r page) 0 [] ∷ remaining (model_of m) p false r.cursor
      next_here =
          let one : r.rows ≡ 1 = omega (arith, some, rows_count) in
          drop-cons l 0 [] long
          ∙ ap (λ (x : Schedule). x ∷ drop 1 l) (sym (get_or-take (length row / row_size (model_of m).need) l 0 [] some_room))
          ∙ ap (λ (t : List Schedule). get_or (here (model_of m) p c row row' r page) 0 [] ∷ t) (sym (page.rest ∙ ap (λ (n : ℕ). drop n l) one))

      pub listed_here : Memᴰ (get_or (here (model_of m) p c row row' r page) 0 []) (list_of (model_of m) p)
      unfolding sought
      listed_here =
          let s : Schedule = get_or (here (model_of m) p c row row' r page) 0 [] in
          of_from (sought (model_of m) false p) c s (subst (Memᴰ s) (sym next_here) (Memᴰ.head refl))
