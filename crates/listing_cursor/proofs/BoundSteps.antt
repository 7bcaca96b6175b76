-- A search's bound behind one step more.
use Prim.Native.Nat.{ℕ, suc, ◌+◌, ◌<◌, ◌≤◌}
use mathlib.Core.Path.{◌≡◌, refl, sym, ap, ◌∙◌}
use mathlib.Core.Bool.{Bool, true, false}
use mathlib.Core.List.{List, ◌∷◌}
use mathlib.Core.Option.{some}
use native.Mathlib.Omega.{arith}
use lib.Dec.{eqb}
use lib.ListN.{length, get_or, drop, drop_of_length-le}
use lib.Seq.{drop-cons}
use borrow.Author.Tests.{eqb-true, eqb-false}
use Rattle.theory_search.specs.Search.{low, past}
use Rattle.theory_search.proofs.Found.{low_none, low_nil, low_cons, past_none, past_nil, past_same, past_other}
use Rattle.listing_cursor.specs.Bounds.{bound_at}

module _ (b : List ℕ) (k : ℕ) where
  pub low_tight : k < length b → low (bound_at true b k) ≡ get_or b k 0
  unfolding bound_at
  low_tight h = ap (λ (l : List ℕ). low (some l)) (drop-cons b k 0 h) ∙ low_cons (get_or b k 0) (drop (suc k) b)

  pub low_end : length b ≤ k → low (bound_at true b k) ≡ 0
  unfolding bound_at
  low_end h = ap (λ (l : List ℕ). low (some l)) (drop_of_length-le b h) ∙ low_nil

  pub low_apart : low (bound_at false b k) ≡ 0
  unfolding bound_at
  low_apart = low_none

  pub past_tight : (t : ℕ) → k < length b → bound_at (eqb (get_or b k 0) t) b (k + 1) ≡ past (bound_at true b k) t
  unfolding bound_at
  past_tight t h =
      let e : suc k ≡ k + 1 = omega arith in
      go (eqb (get_or b k 0) t) refl ∙ sym (ap (λ (l : List ℕ). past (some l) t) (drop-cons b k 0 h ∙ ap (λ (j : ℕ). get_or b k 0 ∷ drop j b) e))
    where
      go : (c : Bool) → eqb (get_or b k 0) t ≡ c → bound_at c b (k + 1) ≡ past (some (get_or b k 0 ∷ drop (k + 1) b)) t
      go true e = sym (past_same (get_or b k 0) (drop (k + 1) b) t (eqb-true (get_or b k 0) t e))
      go false e = sym (past_other (get_or b k 0) (drop (k + 1) b) t (eqb-false (get_or b k 0) t e))

  pub past_end : (t : ℕ) → length b ≤ k → bound_at false b (k + 1) ≡ past (bound_at true b k) t
  unfolding bound_at
  past_end t h = sym (ap (λ (l : List ℕ). past (some l) t) (drop_of_length-le b h) ∙ past_nil t)

  pub past_apart : (t : ℕ) → bound_at false b (k + 1) ≡ past (bound_at false b k) t
  unfolding bound_at
  past_apart t = sym (past_none t)
