-- A search over the next bytes in turn, for whatever it searches: what the bytes from t on add completes the whole. `K` are the cases that
-- the code's arrays may stand for; in each, `each` is what is found with one next byte and `whole` what is found behind the prefix.
use Prim.Native.Nat.{ℕ, ◌+◌, ◌-◌, ◌<◌, ◌≤◌}
use mathlib.Core.Path.{◌≡◌, sym, subst, ◌∙◌}
use mathlib.Core.Bool.{Bool}
use mathlib.Core.List.{List, []}
use lib.ListN.{length}
use Rattle.spec_schedules.specs.Order.{Schedule}
use Rattle.theory_search.specs.Found.{concat_range}
use Rattle.theory_search.proofs.Found.{concat_range_more, concat_range_over}
use Rattle.listing_cursor.specs.Walked.{Adds}
use Rattle.listing_cursor.proofs.AddedRows.{adds_none, adds_full, adds_more, adds_same}

module _ (w : ℕ) (K : Type 0) (fails : K → Schedule → Bool) (top room : ℕ) (each : K → ℕ → List Schedule) (whole : K → List Schedule) (out₀ : List ℕ) (rows : ℕ) where
  abbrev pub Rest : (out : List ℕ) (n t : ℕ) → Type 0
  Rest out n t = (k : K) (out' : List ℕ) (n' : ℕ) → Adds w (fails k) room (concat_range (each k) (top - t) t) out n out' n' → Adds w (fails k) room (whole k) out₀ rows out' n'

  pub rest_start : (t : ℕ) → ((k : K) → whole k ≡ concat_range (each k) (top - t) t) → Rest out₀ rows t
  rest_start t e k out' n' a = adds_same w (fails k) room _ _ out₀ out' rows n' (e k) a

  -- one byte more
  pub rest_next : (out out' : List ℕ) (n n' t : ℕ) → t < top → Rest out n t → ((k : K) → Adds w (fails k) room (each k t) out n out' n') → Rest out' n' (t + 1)
  rest_next out out' n n' t h rest adds k out'' n'' a =
      rest k out'' n''
      (adds_same w (fails k) room _ _ out out'' n n'' (concat_range_more (each k) top t h)
      (adds_more w (fails k) room (each k t) _ out out' out'' n n' n'' (adds k) a))

  -- an iteration of the loop, whether or not its byte is tried: what the code holds behind it
  abbrev Iterated : (out : List ℕ) (n t : ℕ) → Type 0
  Iterated out n t = (n ≤ room) × (length out ≡ length out₀) × Rest out n (t + 1)

  iterated_as : (out out' : List ℕ) (n n' t : ℕ) → out' ≡ out → n' ≡ n → Iterated out n t → Iterated out' n' t
  iterated_as out out' n n' t eo en h = subst (λ (l : List ℕ). Iterated l n' t) (sym eo) (subst (λ (k : ℕ). Iterated out k t) (sym en) h)

  pub iteration_tried : (out out' behind : List ℕ) (n n' k t : ℕ) → t < top → length out ≡ length out₀ → Rest out n t
      → n' ≤ room → length out' ≡ length out → ((k : K) → Adds w (fails k) room (each k t) out n out' n')
      → behind ≡ out' → k ≡ n' → (k ≤ room) × (length behind ≡ length out₀) × Rest behind k (t + 1)
  iteration_tried out out' behind n n' k t h same rest fits long adds eo en =
      iterated_as out' behind n' k t eo en (fits, long ∙ same, rest_next out out' n n' t h rest adds)

  -- with this byte nothing is found
  pub iteration_skipped : (out behind : List ℕ) (n k t : ℕ) → t < top → n ≤ room → length out ≡ length out₀ → Rest out n t → ((k : K) → each k t ≡ [])
      → behind ≡ out → k ≡ n → (k ≤ room) × (length behind ≡ length out₀) × Rest behind k (t + 1)
  iteration_skipped out behind n k t h fits same rest nothing eo en =
      iterated_as out behind n k t eo en (fits, same, rest_next out out n n t h rest (λ k. adds_none w (fails k) room _ out n (nothing k)))

  -- no byte is left
  pub rest_over : (out : List ℕ) (n t : ℕ) → top ≤ t → Rest out n t → (k : K) → Adds w (fails k) room (whole k) out₀ rows out n
  rest_over out n t h rest k = rest k out n (adds_none w (fails k) room _ out n (concat_range_over (each k) top t h))

  -- no room is left
  pub rest_full : (out : List ℕ) (n t : ℕ) → room ≤ n → Rest out n t → (k : K) → Adds w (fails k) room (whole k) out₀ rows out n
  rest_full out n t h rest k = rest k out n (adds_full w (fails k) room _ out n h)
