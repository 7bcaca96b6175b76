-- FROM A TRUE TABLE COUNTING GIVES THE NUMBERS, AND A TRUE TABLE, whatever is put and dropped on the way.
use Prim.Native.Nat.{ℕ, zero, suc, ◌+◌, ◌≤◌}
use mathlib.Core.Path.{◌≡◌, refl, sym, ap, ap₂, ◌∙◌}
use mathlib.Core.Bool.{Bool, true, false, cond}
use mathlib.Core.Option.{Option, none, some}
use mathlib.Core.List.{[], ◌∷◌, ◌++◌}
use native.Mathlib.Omega.{arith}
use Rattle.spec_schedules.specs.Order.{Schedule}
use Rattle.spec_schedules.specs.System.{System, Lawful, ended}
use Rattle.theory_states.specs.Positions.{GoesOn}
use Rattle.theory_states.specs.Numbers.{Numbers, nothing, one, plus, charged, sum_range, numbers, numbers_with}
use Rattle.theory_states.specs.SameKey.{Decides}
use Rattle.theory_states.specs.Memory.{Shared, Honest}
use Rattle.theory_states.specs.Counted.{counted_by, counted_over, recalled, counted_from, TrueNumbers}
use Rattle.theory_states.proofs.Numbers.{at_last, by_not, by_cut, by_live, numbers_ended, numbers_branches}
use Rattle.theory_states.proofs.SameKey.{same_key}
use Rattle.theory_states.proofs.Memory.{put_true}

module _ (M : System) (lawful : Lawful M) (top : ℕ) (cut : Schedule → M.State → ℕ → Bool) (breaks : M.State → ℕ → Bool) {K Entries : Type 0} (Fit : K → Type 0)
    (Met : Schedule → M.State → Type 0) (on : GoesOn M cut Met) (key : Schedule → M.State → K) (fit : (v : Schedule) (σ : M.State) → Met v σ → Fit (key v σ))
    (D : Decides M cut breaks Met key) (look : Entries → K → Option Numbers) (put : Entries → K → Numbers → Entries)
    (honest : (m : Entries) (k : K) (n : Numbers) → Honest Fit k n (λ j c. look m j ≡ some c) (λ j c. look (put m k n) j ≡ some c)) where
  abbrev N : Schedule → M.State → Numbers
  N = λ v σ. numbers M top cut breaks v σ

  abbrev OK : Entries → Type 0
  OK m = TrueNumbers M top cut breaks key look put Met m

  -- the right numbers, and a true table
  abbrev Right : Numbers → Numbers × Entries → Type 0
  Right n r = (r.0 ≡ n) × OK r.1

  -- what is put is right of every position with the key
  pub put_numbers : (m : Entries) → OK m → (v : Schedule) (σ : M.State) → Met v σ → OK (put m (key v σ) (N v σ))
  put_numbers m t v σ met = put_true (λ x. Met x.0 x.1) (λ x. key x.0 x.1) (λ x n. n ≡ N x.0 x.1) Fit (λ x. fit x.0 x.1)
      (λ x y a b e c r. r ∙ same_key M top cut breaks Met key lawful D x.0 x.1 y.0 y.1 a b e)
      (λ k n. look m k ≡ some n) (λ k n. look (put m (key v σ) (N v σ)) k ≡ some n) (v, σ) (N v σ) t met refl (honest m (key v σ) (N v σ))

  over_right : (f : Entries → ℕ → Numbers × Entries) (g : ℕ → Numbers) → ((m : Entries) (d : ℕ) → OK m → Right (g d) (f m d)) → (j d : ℕ) (m : Entries) → OK m →
      Right (sum_range g j d) (counted_over M top cut breaks key look put f j d m)
  unfolding counted_over sum_range
  over_right f g h zero d m t = (refl, t)
  over_right f g h (suc j) d m t =
      let a = h m d t in
      let b = over_right f g h j (d + 1) (f m d).1 a.1 in
      (ap₂ plus a.0 b.0, b.1)

  by_right : (f : Entries → Schedule → M.State → Numbers × Entries) (v : Schedule) (σ : M.State) (m : Entries) (t : ℕ) → OK m →
      (M.enabled σ t ≡ true → cut v σ t ≡ false → Right (N (v ++ (t ∷ [])) (M.step σ t)) (f m (v ++ (t ∷ [])) (M.step σ t))) →
      Right (numbers_with M top cut breaks v σ t) (counted_by M top cut breaks key look put f v σ m t)
  unfolding counted_by
  by_right f v σ m t ok h = go (M.enabled σ t) refl (cut v σ t) refl
    where
      go : (a : Bool) → M.enabled σ t ≡ a → (b : Bool) → cut v σ t ≡ b → Right (numbers_with M top cut breaks v σ t) (counted_by M top cut breaks key look put f v σ m t)
      go false e b c = rw e (sym (by_not M top cut breaks N v σ t e), ok)
      go true e true c = rw (e, c) (sym (by_cut M top cut breaks N v σ t e c), ok)
      go true e false c = let r = h e c in rw (e, c) (ap (charged (breaks σ t)) r.0 ∙ sym (by_live M top cut breaks N v σ t e c), r.1)

  recalled_right : (v : Schedule) (σ : M.State) → Met v σ → (m : Entries) → OK m → (r : Numbers × Entries) → Right (N v σ) r →
      Right (N v σ) (recalled M top cut breaks key look put m (key v σ) (look m (key v σ)) r)
  unfolding recalled
  recalled_right v σ met m t r h = go (look m (key v σ)) refl
    where
      go : (o : Option Numbers) → look m (key v σ) ≡ o → Right (N v σ) (recalled M top cut breaks key look put m (key v σ) o r)
      go (some n) q = (t (v, σ) met n q, t)
      go none q = (h.0, (rw h.0 (put_numbers r.1 h.1 v σ met)))

  -- THE NUMBERS, AND A TRUE TABLE
  pub counted_right : (k : ℕ) (m : Entries) (v : Schedule) (σ : M.State) → OK m → Met v σ → M.size σ ≤ k →
      ((counted_from M top cut breaks key look put k m v σ).0 ≡ numbers M top cut breaks v σ) × OK (counted_from M top cut breaks key look put k m v σ).1
  unfolding counted_from
  counted_right zero m v σ ok met h = let e = at_last M lawful σ (omega arith) in rw e (sym (numbers_ended M top cut breaks lawful v σ e), ok)
  counted_right (suc k) m v σ ok met h = go (ended M σ) refl
      (λ d t a e c. let n = lawful.falls σ t e in counted_right k d (v ++ (t ∷ [])) (M.step σ t) a (on v σ met t e c) (omega (arith, n)))
    where
      f : Entries → Schedule → M.State → Numbers × Entries
      f = λ d w τ. counted_from M top cut breaks key look put k d w τ

      go : (b : Bool) → ended M σ ≡ b → ((d : Entries) (t : ℕ) → OK d → M.enabled σ t ≡ true → cut v σ t ≡ false → Right (N (v ++ (t ∷ [])) (M.step σ t)) (f d (v ++ (t ∷ [])) (M.step σ t))) →
          Right (N v σ) (counted_from M top cut breaks key look put (suc k) m v σ)
      go true e ih = rw e (sym (numbers_ended M top cut breaks lawful v σ e), ok)
      go false e ih =
          let r = over_right (λ d t. counted_by M top cut breaks key look put f v σ d t) (numbers_with M top cut breaks v σ) (λ d t a. by_right f v σ d t a (ih d t a)) top 0 m ok in
          rw e (recalled_right v σ met m ok _ (r.0 ∙ sym (numbers_branches M top cut breaks lawful v σ e), r.1))
