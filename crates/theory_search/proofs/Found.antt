-- The bound behind one byte more, and all that the search finds, one turn at a time, for code that loops over the next bytes.
use mathlib.Core.Path.{◌≡◌, refl, sym, ap, ◌∙◌}
use mathlib.Core.Logic.{◌≢◌}
use mathlib.Core.Bool.{Bool, true, false}
use mathlib.Core.Option.{Option, none, some}
use mathlib.Core.List.{List, [], ◌∷◌, ◌++◌}
use Prim.Native.Nat.{ℕ, zero, suc, ◌+◌, ◌-◌, ◌<◌, ◌≤◌}
use native.Mathlib.Omega.{arith}
use native.Mathlib.Numerals.{sub-one}
use borrow.Author.Tests.{eq-eqb, ne_eqb}
use Rattle.spec_schedules.specs.Order.{Schedule}
use Rattle.spec_schedules.specs.System.{System, ended}
use Rattle.theory_search.specs.Search.{low, past}
use Rattle.theory_search.specs.Found.{concat_range, found_at, found_by, found_from}

-- the first byte to try
pub low_none : low none ≡ 0
unfolding low
low_none = refl

pub low_nil : low (some []) ≡ 0
unfolding low
low_nil = refl

pub low_cons : (b : ℕ) (bs : Schedule) → low (some (b ∷ bs)) ≡ b
unfolding low
low_cons b bs = refl

-- the bound behind a byte
pub past_none : (t : ℕ) → past none t ≡ none
unfolding past
past_none t = refl

pub past_nil : (t : ℕ) → past (some []) t ≡ none
unfolding past
past_nil t = refl

pub past_same : (b : ℕ) (bs : Schedule) (t : ℕ) → b ≡ t → past (some (b ∷ bs)) t ≡ some bs
unfolding past
past_same b bs t e = rw (eq-eqb b t e, past)

pub past_other : (b : ℕ) (bs : Schedule) (t : ℕ) → b ≢ t → past (some (b ∷ bs)) t ≡ none
unfolding past
past_other b bs t ne = rw (ne_eqb b t ne, past)

-- one behind the other, one at a time
concat_range_next : {A : Type 0} (f : ℕ → List A) (j i d : ℕ) → j ≡ suc i → concat_range f j d ≡ f d ++ concat_range f i (d + 1)
unfolding concat_range
concat_range_next f j i d e = rw e

pub concat_range_more : {A : Type 0} (f : ℕ → List A) (top t : ℕ) → t < top → concat_range f (top - t) t ≡ f t ++ concat_range f (top - (t + 1)) (t + 1)
concat_range_more f top t h = concat_range_next f (top - t) (top - (t + 1)) t (omega arith)

none_left : {A : Type 0} (f : ℕ → List A) (j d : ℕ) → j ≡ 0 → concat_range f j d ≡ []
unfolding concat_range
none_left f j d e = rw e

pub concat_range_over : {A : Type 0} (f : ℕ → List A) (top t : ℕ) → top ≤ t → concat_range f (top - t) t ≡ []
concat_range_over f top t h = none_left f (top - t) t (omega arith)

module _ (M : System) (top : ℕ) (cut : Schedule → M.State → ℕ → Bool) (listed : Schedule → Bool) where
  abbrev Finder : Type 0
  Finder = Option Schedule → Schedule → M.State → List Schedule

  -- at a full schedule: along the bound, listed, not listed
  pub at_bound : (b v : Schedule) → found_at M top cut listed (some b) v ≡ []
  unfolding found_at
  at_bound b v = refl

  pub at_listed : (v : Schedule) → listed v ≡ true → found_at M top cut listed none v ≡ v ∷ []
  unfolding found_at
  at_listed v e = rw (e, found_at)

  pub at_unlisted : (v : Schedule) → listed v ≡ false → found_at M top cut listed none v ≡ []
  unfolding found_at
  at_unlisted v e = rw (e, found_at)

  -- behind one next byte
  pub by_not : (f : Finder) (o : Option Schedule) (v : Schedule) (σ : M.State) (t : ℕ) → M.enabled σ t ≡ false → found_by M top cut listed f o v σ t ≡ []
  unfolding found_by
  by_not f o v σ t e = rw (e, found_by)

  pub by_cut : (f : Finder) (o : Option Schedule) (v : Schedule) (σ : M.State) (t : ℕ) → M.enabled σ t ≡ true → cut v σ t ≡ true → found_by M top cut listed f o v σ t ≡ []
  unfolding found_by
  by_cut f o v σ t e c = rw (e, c, found_by)

  pub by_live : (f : Finder) (o : Option Schedule) (v : Schedule) (σ : M.State) (t : ℕ) → M.enabled σ t ≡ true → cut v σ t ≡ false →
      found_by M top cut listed f o v σ t ≡ f (past o t) (v ++ (t ∷ [])) (M.step σ t)
  unfolding found_by
  by_live f o v σ t e c = rw (e, c, found_by)

  -- one turn of the search
  pub found_ended : (k : ℕ) (o : Option Schedule) (v : Schedule) (σ : M.State) → ended M σ ≡ true → found_from M top cut listed k o v σ ≡ found_at M top cut listed o v
  unfolding found_from
  found_ended zero o v σ e = rw (e, found_from)
  found_ended (suc k) o v σ e = rw (e, found_from)

  pub found_stuck : (k : ℕ) (o : Option Schedule) (v : Schedule) (σ : M.State) → ended M σ ≡ false → k ≡ 0 → found_from M top cut listed k o v σ ≡ []
  unfolding found_from
  found_stuck zero o v σ e z = rw (e, found_from)
  found_stuck (suc k) o v σ e z = absurd (omega arith)

  found_suc : (k : ℕ) (o : Option Schedule) (v : Schedule) (σ : M.State) → ended M σ ≡ false →
      found_from M top cut listed (suc k) o v σ ≡ concat_range (found_by M top cut listed (λ a b c. found_from M top cut listed k a b c) o v σ) (top - low o) (low o)
  unfolding found_from
  found_suc k o v σ e = rw (e, found_from)

  pub found_branches : (k : ℕ) (o : Option Schedule) (v : Schedule) (σ : M.State) → ended M σ ≡ false → 0 < k →
      found_from M top cut listed k o v σ ≡ concat_range (found_by M top cut listed (λ a b c. found_from M top cut listed (k - 1) a b c) o v σ) (top - low o) (low o)
  found_branches zero o v σ e h = absurd (omega arith)
  found_branches (suc k) o v σ e h =
      found_suc k o v σ e
      ∙ ap (λ (i : ℕ). concat_range (found_by M top cut listed (λ a b c. found_from M top cut listed i a b c) o v σ) (top - low o) (low o)) (sym (sub-one (suc k)))
