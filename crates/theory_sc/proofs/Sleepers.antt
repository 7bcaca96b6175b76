-- R3 AS A SET IS SOUND: where late threads are left that nothing outside of them could wake, every full schedule has a smaller alike one. All of
-- them must step some time; the first of them that does is late still, since those before it could not conflict with it. What the rounds leave is
-- the greatest such set, so it has every circle of late threads that only wait for each other.
use Prim.Native.Nat.{ℕ, zero, suc, ◌<◌, ◌≤◌}
use mathlib.Core.Path.{◌≡◌, refl, sym, ap, subst, ◌∙◌}
use mathlib.Core.Logic.{◌≢◌, ◌⊎◌, inl, inr, ⊎_elim}
use mathlib.Core.Bool.{Bool, true, false, not, ◌||◌, true≢false, false≢true}
use mathlib.Core.List.{[], ◌∷◌, ◌++◌, Memᴰ}
use native.Mathlib.Omega.{arith}
use native.Mathlib.Decide.{dec_lt}
use lib.Dec.{eqb}
use borrow.Author.Tests.{eqb-true, eqb-false, eq-eqb, ne_eqb, not-true}
use Rattle.spec_file.specs.Program.{Program}
use Rattle.spec_file.specs.WellFormed.{WellFormed}
use Rattle.spec_file.proofs.DigitValues.{both}
use Rattle.spec_schedules.specs.Lists.{range, any}
use Rattle.spec_schedules.specs.Order.{Schedule}
use Rattle.spec_schedules.specs.System.{run, Allowed, FullFrom}
use Rattle.spec_schedules.proofs.Lists.{in_range_lem, of_range, all_at, all_of, any_yes, any_no}
use Rattle.spec_schedules.proofs.Runs.{full_split}
use Rattle.spec_sc.specs.State.{State, step, enabled, start, SC}
use Rattle.spec_sc.specs.Graph.{end_of, Full}
use Rattle.spec_sc.specs.Actions.{action}
use Rattle.spec_sc.proofs.Steps.{enabled_small}
use Rattle.spec_sc.proofs.Regular.{place_in, regular_start, regular_run}
use Rattle.spec_sc.proofs.Reading.{first_step_of}
use Rattle.theory_search.proofs.Remote.{Unmet, unmet_free}
use Rattle.spec_sc.proofs.Same.{both_and}
use Rattle.spec_model.specs.Alike.{Smaller}
use Rattle.spec_sc.specs.Sequential.{sc}
use Rattle.theory_sc.specs.Rules.{late, taken}
use Rattle.spec_model.proofs.Permitted.{or_left, or_right}
use Rattle.theory_sc.proofs.Late.{late_still_smaller}
use Rattle.spec_schedules.specs.Sets.{has}
use Rattle.theory_sc.specs.LateSet.{late_set}
use Rattle.theory_sc.specs.Sleepers.{wakes, sleeps_in, unwoken, settled, sleepers}
use Rattle.theory_sc.proofs.Sets.{has_none, set_below, set_has, set_less, set_none, set_own}
use Rattle.theory_sc.proofs.LateSet.{late_set_lem}
use Rattle.theory_sc.proofs.WhatIsLeft.{wakes_exact}

-- ---- the rounds
module _ (σ : State) where
  pub unwoken_has : (s t : ℕ) → t < 6 → has (unwoken σ s) t ≡ sleeps_in σ s t
  unfolding unwoken
  unwoken_has s t h = set_has (sleeps_in σ s) 6 t h

  -- threads that sleep in a set are of the set, and no thread outside could wake them
  sleeps_there : (s t : ℕ) → sleeps_in σ s t ≡ true → has s t ≡ true
  unfolding sleeps_in
  sleeps_there s t e = (both (has s t) _ e).0

  sleeps_on : (s t u : ℕ) → u < 6 → sleeps_in σ s t ≡ true → has s u ≡ false → wakes σ t u ≡ false
  unfolding sleeps_in
  sleeps_on s t u h e q =
      let k = all_at (λ u. has s u || not (wakes σ t u)) (range 0 6) u (both (has s t) _ e).1 (in_range_lem 0 6 u (omega arith) (omega arith)) in
      not-true (wakes σ t u) (rw q at k)

  pub unwoken_below : (s : ℕ) → unwoken σ s < 64
  unfolding unwoken
  unwoken_below s = set_below (sleeps_in σ s) 6

  -- each round lowers the number
  pub unwoken_falls : (s : ℕ) → s < 64 → unwoken σ s ≤ s
  unfolding unwoken
  unwoken_falls s h = omega (arith, set_less (sleeps_in σ s) (has s) 6 (λ t i e. sleeps_there s t e), set_own s h)

  still : (k s : ℕ) → unwoken σ s ≡ s → settled σ (suc k) s ≡ s
  unfolding settled
  still k s e = rw (eq-eqb (unwoken σ s) s e, settled)

  on : (k s : ℕ) → unwoken σ s ≢ s → settled σ (suc k) s ≡ settled σ k (unwoken σ s)
  unfolding settled
  on k s e = rw (ne_eqb (unwoken σ s) s e, settled)

  none : (s : ℕ) → settled σ 0 s ≡ 0
  unfolding settled
  none s = refl

  nothing_left : (k : ℕ) → settled σ k 0 ≡ 0
  nothing_left zero = none 0
  nothing_left (suc k) = still k 0 (omega (arith, unwoken_falls 0 (omega arith)))

  same_rounds : (s : ℕ) → Dec (unwoken σ s ≡ s)
  same_rounds s = go (eqb (unwoken σ s) s) refl
    where
      go : (b : Bool) → eqb (unwoken σ s) s ≡ b → Dec (unwoken σ s ≡ s)
      go true e = yes (eqb-true (unwoken σ s) s e)
      go false e = no (eqb-false (unwoken σ s) s e)

  pub sleepers_none : sleepers σ 0 ≡ 0
  unfolding sleepers
  sleepers_none = none 0

  -- as many rounds as the number says are enough
  enough : (k j s : ℕ) → s ≤ k → s ≤ j → s < 64 → settled σ k s ≡ settled σ j s
  enough zero j s a b h = none s ∙ sym (ap (settled σ j) (omega arith) ∙ nothing_left j)
  enough (suc k) zero s a b h = ap (settled σ (suc k)) (omega arith) ∙ nothing_left (suc k) ∙ sym (none s)
  enough (suc k) (suc j) s a b h = go (same_rounds s) (λ a b. enough k j (unwoken σ s) a b (unwoken_below s))
    where
      go : Dec (unwoken σ s ≡ s) → (unwoken σ s ≤ k → unwoken σ s ≤ j → settled σ k (unwoken σ s) ≡ settled σ j (unwoken σ s)) → settled σ (suc k) s ≡ settled σ (suc j) s
      go (yes e) ih = still k s e ∙ sym (still j s e)
      go (no e) ih = let f = unwoken_falls s h in let n : unwoken σ s < s = lower f e in on k s e ∙ ih (omega (arith, n, a)) (omega (arith, n, b)) ∙ sym (on j s e)
        where
          lower : unwoken σ s ≤ s → unwoken σ s ≢ s → unwoken σ s < s
          lower f n = at (dec_lt (unwoken σ s) s)
            where
              at : Dec (unwoken σ s < s) → unwoken σ s < s
              at (yes i) = i
              at (no i) = absurd (n (omega arith))

  -- one round, as a loop takes it
  pub sleepers_still : (s : ℕ) → unwoken σ s ≡ s → sleepers σ s ≡ s
  unfolding sleepers
  sleepers_still zero e = none 0
  sleepers_still (suc k) e = still k (suc k) e

  pub sleepers_on : (s : ℕ) → s < 64 → unwoken σ s ≢ s → sleepers σ s ≡ sleepers σ (unwoken σ s)
  unfolding sleepers
  sleepers_on zero h e = absurd (e (omega (arith, unwoken_falls 0 (omega arith))))
  sleepers_on (suc k) h e =
      on k (suc k) e
      ∙ enough k (unwoken σ (suc k)) (unwoken σ (suc k)) (at (dec_lt (unwoken σ (suc k)) (suc k)) (unwoken_falls (suc k) h)) (omega arith) (unwoken_below (suc k))
    where
      at : Dec (unwoken σ (suc k) < suc k) → unwoken σ (suc k) ≤ suc k → unwoken σ (suc k) ≤ k
      at (yes i) f = omega arith
      at (no i) f = absurd (e (omega arith))

  -- what the rounds leave: a part of the set that drops no more
  settled_part : (k s t : ℕ) → t < 6 → has (settled σ k s) t ≡ true → has s t ≡ true
  settled_part zero s t h e = absurd (false≢true (sym (ap (λ (n : ℕ). has n t) (none s) ∙ has_none t) ∙ e))
  settled_part (suc k) s t h e = go (same_rounds s) (settled_part k (unwoken σ s) t h)
    where
      go : Dec (unwoken σ s ≡ s) → (has (settled σ k (unwoken σ s)) t ≡ true → has (unwoken σ s) t ≡ true) → has s t ≡ true
      go (yes q) ih = sym (ap (λ (n : ℕ). has n t) (still k s q)) ∙ e
      go (no q) ih = sleeps_there s t (sym (unwoken_has s t h) ∙ ih (sym (ap (λ (n : ℕ). has n t) (on k s q)) ∙ e))

  settled_fixed : (k s : ℕ) → settled σ k s ≢ 0 → unwoken σ (settled σ k s) ≡ settled σ k s
  settled_fixed zero s n = absurd (n (none s))
  settled_fixed (suc k) s n = go (same_rounds s) (settled_fixed k (unwoken σ s))
    where
      go : Dec (unwoken σ s ≡ s) → (settled σ k (unwoken σ s) ≢ 0 → unwoken σ (settled σ k (unwoken σ s)) ≡ settled σ k (unwoken σ s)) → unwoken σ (settled σ (suc k) s) ≡ settled σ (suc k) s
      go (yes q) ih = ap (unwoken σ) (still k s q) ∙ q ∙ sym (still k s q)
      go (no q) ih = ap (unwoken σ) (on k s q) ∙ ih (λ z. n (on k s q ∙ z)) ∙ sym (on k s q)

  -- THE GREATEST SET: whatever part of the set nothing outside of it could wake is left, a circle of threads that wait for each other among them
  module _ (T : ℕ → Bool) (alone : (t u : ℕ) → t < 6 → u < 6 → T t ≡ true → T u ≡ false → wakes σ t u ≡ false) where
    stays : (s : ℕ) → ((t : ℕ) → t < 6 → T t ≡ true → has s t ≡ true) → (t : ℕ) → t < 6 → T t ≡ true → sleeps_in σ s t ≡ true
    unfolding sleeps_in
    stays s part t h e = both_and (part t h e) (all_of (λ u. has s u || not (wakes σ t u)) (range 0 6) (λ u m. let i : u < 6 = (of_range 0 6 u m).1 in at u i (T u) refl))
      where
        at : (u : ℕ) → u < 6 → (b : Bool) → T u ≡ b → (has s u || not (wakes σ t u)) ≡ true
        at u i true q = or_left (has s u) _ (part u i q)
        at u i false q = or_right (has s u) _ (ap not (alone t u h i e q))

    settled_greatest : (k s : ℕ) → s ≤ k → s < 64 → ((t : ℕ) → t < 6 → T t ≡ true → has s t ≡ true) → (t : ℕ) → t < 6 → T t ≡ true → has (settled σ k s) t ≡ true
    settled_greatest zero s b h part t i e = absurd (false≢true (sym (has_none t) ∙ ap (λ (n : ℕ). has n t) (omega arith) ∙ part t i e))
    settled_greatest (suc k) s b h part t i e = go (same_rounds s) (dec_lt (unwoken σ s) s) (λ l p. settled_greatest k (unwoken σ s) l (unwoken_below s) p t i e)
      where
        go : Dec (unwoken σ s ≡ s) → Dec (unwoken σ s < s) →
            (unwoken σ s ≤ k → ((t : ℕ) → t < 6 → T t ≡ true → has (unwoken σ s) t ≡ true) → has (settled σ k (unwoken σ s)) t ≡ true) → has (settled σ (suc k) s) t ≡ true
        go (yes q) d ih = ap (λ (n : ℕ). has n t) (still k s q) ∙ part t i e
        go (no q) (yes l) ih = ap (λ (n : ℕ). has n t) (on k s q) ∙ ih (omega (arith, l, b)) (λ u j f. unwoken_has s u j ∙ stays s part u j f)
        go (no q) (no l) ih = absurd (q (omega (arith, l, unwoken_falls s h)))

    pub sleepers_greatest : (s : ℕ) → s < 64 → ((t : ℕ) → t < 6 → T t ≡ true → has s t ≡ true) → (t : ℕ) → t < 6 → T t ≡ true → has (sleepers σ s) t ≡ true
    unfolding sleepers
    sleepers_greatest s h part t i e = settled_greatest s s (omega arith) h part t i e

-- a set that drops no more and is not empty has a member
member : (σ : State) (s : ℕ) → unwoken σ s ≡ s → s ≢ 0 → (t : ℕ) × (t < 6) × (has s t ≡ true)
unfolding unwoken
member σ s e n = go (any (has s) (range 0 6)) refl
  where
    out : (t : ℕ) → any (has s) (range 0 6) ≡ false → t < 6 → (b : Bool) → sleeps_in σ s t ≡ b → sleeps_in σ s t ≡ false
    out t q h true k = absurd (true≢false (sym (sleeps_there σ s t k) ∙ any_no (has s) (range 0 6) t q (in_range_lem 0 6 t (omega arith) (omega arith))))
    out t q h false k = k

    go : (b : Bool) → any (has s) (range 0 6) ≡ b → (t : ℕ) × (t < 6) × (has s t ≡ true)
    go true q = let r = any_yes (has s) (range 0 6) q in (r.0, (of_range 0 6 r.0 r.1).1, r.2)
    go false q = absurd (n (sym e ∙ set_none (sleeps_in σ s) 6 (λ t h. out t q h (sleeps_in σ s t) refl)))

-- the first of these steps that passes the test
first_of : (f : ℕ → Bool) (z : Schedule) (t : ℕ) → Memᴰ t z → f t ≡ true → (a : Schedule) × (c : ℕ) × (b : Schedule) × (z ≡ a ++ (c ∷ b)) × (f c ≡ true) × ((u : ℕ) → Memᴰ u a → f u ≡ false)
first_of f [] t m e = absurd (mathlib.Core.List.Memᴰ.not-nil m)
first_of f (x ∷ z) t m e = go (f x) refl (mathlib.Core.List.Memᴰ.cases_cons m) (λ k. first_of f z t k e)
  where
    go : (b : Bool) → f x ≡ b → (t ≡ x) ⊎ Memᴰ t z →
        (Memᴰ t z → (a : Schedule) × (c : ℕ) × (b : Schedule) × (z ≡ a ++ (c ∷ b)) × (f c ≡ true) × ((u : ℕ) → Memᴰ u a → f u ≡ false)) →
        (a : Schedule) × (c : ℕ) × (b : Schedule) × (x ∷ z ≡ a ++ (c ∷ b)) × (f c ≡ true) × ((u : ℕ) → Memᴰ u a → f u ≡ false)
    go true q d ih = ([], x, z, refl, q, λ u m. absurd (mathlib.Core.List.Memᴰ.not-nil m))
    go false q (inl i) ih = absurd (true≢false (sym e ∙ ap f i ∙ q))
    go false q (inr k) ih =
        let r = ih k in (
          x ∷ r.0,
          r.1,
          r.2,
          ap (λ (y : Schedule). x ∷ y) r.3,
          r.4,
          λ u m. ⊎_elim (λ (i : u ≡ x). ap f i ∙ q) (λ (j : Memᴰ u r.0). r.5 u j) (mathlib.Core.List.Memᴰ.cases_cons m),
        )

steps_small : (z : Schedule) (σ : State) → Allowed SC σ z → (u : ℕ) → Memᴰ u z → u < 6
steps_small [] σ a u k = absurd (mathlib.Core.List.Memᴰ.not-nil k)
steps_small (b ∷ z) σ a u k = ⊎_elim (λ (q : u ≡ b). subst (λ (x : ℕ). x < 6) (sym q) (enabled_small σ b a.0)) (λ (j : Memᴰ u z). steps_small z (step σ b) a.1 u j) (mathlib.Core.List.Memᴰ.cases_cons k)

module _ (p : Program) (w : WellFormed p) where
  -- late threads that none outside of them could wake
  pub record Asleep (v : Schedule) (S : ℕ → Bool) : Type 0 where
    pub late_all : (t : ℕ) → t < 6 → S t ≡ true → late (taken p v) (action (end_of p v) t) ≡ true
    pub unmet : (t u : ℕ) → t < 6 → u < 6 → S t ≡ true → S u ≡ false → Unmet (end_of p v) t u

  -- where one of them may step every full schedule has a smaller alike one
  pub asleep_set_smaller : (v z : Schedule) (S : ℕ → Bool) (t : ℕ) → Asleep v S → S t ≡ true → enabled (end_of p v) t ≡ true → Full p (v ++ z) → Smaller sc p (v ++ z)
  asleep_set_smaller v z S t a e m f =
      let σ : State = end_of p v in
      let s = full_split SC (start p) v z f in
      let h = first_step_of z σ t s.1 m in
      let here : Memᴰ t z = subst (Memᴰ t) (sym h.split) (mathlib.Core.List.Memᴰ.append_right h.front (mathlib.Core.List.Memᴰ.head refl)) in
      let r = first_of S z t here e in
      let y = full_split SC σ r.0 (r.1 ∷ r.2) (subst (FullFrom SC σ) r.3 s.1) in
      let c : r.1 < 6 = enabled_small (run SC σ r.0) r.1 y.1.0 in
      let free = unmet_free r.0 σ r.1 y.0 (λ u k. ((λ q. true≢false (sym r.4 ∙ ap S (sym q) ∙ r.5 u k)), a.unmet r.1 u c (steps_small r.0 σ y.0 u k) r.4 (r.5 u k))) in
      let eq = ap (λ (x : Schedule). v ++ x) r.3 in
      subst (Smaller sc p) (sym eq) (late_still_smaller p w v r.0 r.1 r.2 (a.late_all r.1 c r.4) free (subst (Full p) eq f))

  -- what the rounds leave of the late set is such a set
  sleepers_asleep : (v : Schedule) → Allowed SC (start p) v → (s : ℕ) → unwoken (end_of p v) s ≡ s → ((t : ℕ) → t < 6 → has s t ≡ true → has (late_set p v) t ≡ true) → Asleep v (has s)
  sleepers_asleep v a s fix part = record {
    late_all = λ t h e. (both (enabled (end_of p v) t) _ (sym (late_set_lem p v t) ∙ part t h e)).1;
    unmet = λ t u h i e q.
        let g = regular_run v (start p) (regular_start p w) a in
        let on = sleeps_on (end_of p v) s t u i (sym (unwoken_has (end_of p v) s t h) ∙ ap (λ (n : ℕ). has n t) fix ∙ e) q in
        sym (wakes_exact (end_of p v) t u (omega (arith, place_in (end_of p v) g t, g.eight))) ∙ on;
  }

  -- R3: behind a prefix that leaves some asleep for good
  pub sleepers_smaller : (v z : Schedule) → sleepers (end_of p v) (late_set p v) ≢ 0 → Full p (v ++ z) → Smaller sc p (v ++ z)
  unfolding sleepers
  sleepers_smaller v z n f =
      let σ : State = end_of p v in
      let k : ℕ = late_set p v in
      let s : ℕ = settled σ k k in
      let fix : unwoken σ s ≡ s = settled_fixed σ k k n in
      let x = member σ s fix n in
      let part = settled_part σ k k in
      asleep_set_smaller v z (has s) x.0 (sleepers_asleep v (full_split SC (start p) v z f).0 s fix part) x.2 (both (enabled σ x.0) _ (sym (late_set_lem p v x.0) ∙ part x.0 x.1 x.2)).0 f
