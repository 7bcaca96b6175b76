-- A TEST OF WHERE RUNS END IS A FAILURE OF THEIR LAST STEP; and what a search finds with a test is what passes of all that it finds.
use Prim.Native.Nat.{ℕ, zero, suc, ◌+◌}
use mathlib.Core.Path.{◌≡◌, refl, sym, ap, ap₂, subst, ◌∙◌}
use mathlib.Core.Bool.{Bool, true, false, cond, ◌||◌}
use mathlib.Core.Option.{Option, none}
use mathlib.Core.List.Memᴰ
use mathlib.Core.List.{List, [], ◌∷◌, ◌++◌, Memᴰ}
use Rattle.spec_schedules.specs.Lists.{filter}
use Rattle.spec_schedules.specs.Order.{Schedule}
use Rattle.spec_schedules.specs.System.{System, Lawful, ended}
use Rattle.spec_schedules.proofs.Kept.{filter_nil, filter_append, filter_none}
use Rattle.spec_schedules.proofs.Lists.{filter_yes, filter_no, in_filter}
use Rattle.spec_schedules.proofs.Runs.{not_ended}
use Rattle.theory_search.specs.Found.{concat_range, found_at, found_by, found_from}
use Rattle.theory_search.proofs.Found as Found
use Rattle.theory_states.specs.Positions.{Breaks}
use Rattle.theory_states.specs.SameKey.{Bisimulation}
use Rattle.theory_states.proofs.SameKey.{ended_agree}
use Rattle.theory_states.proofs.Found.{branches_all}
use Rattle.theory_outcomes.specs.Ending.{ends_so, ends_by}

module _ (M : System) (test : M.State → Bool) where
  pub ends_going : (σ : M.State) → ended M σ ≡ false → ends_so M test σ ≡ false
  unfolding ends_so
  ends_going σ e = rw e refl

  pub ends_at : (σ : M.State) → ended M σ ≡ true → ends_so M test σ ≡ test σ
  unfolding ends_so
  ends_at σ e = rw e refl

  -- THE LAST STEP BRINGS IT ABOUT
  pub ends_law : Lawful M → (cut : Schedule → M.State → ℕ → Bool) (Met : Schedule → M.State → Type 0) → Breaks M cut Met (ends_so M test) (ends_by M test)
  unfolding ends_by
  ends_law lawful cut Met v σ m t e c = sym (ap (λ (b : Bool). b || ends_so M test (M.step σ t)) (ends_going σ (not_ended M lawful σ t e)))

  -- positions behind which the search does the same, and that pass alike, end so by the same steps
  pub ends_alike : (cut : Schedule → M.State → ℕ → Bool) (breaks : M.State → ℕ → Bool) (R : Schedule → M.State → Schedule → M.State → Type 0) → Bisimulation M cut breaks R →
      ((v : Schedule) (σ : M.State) (w : Schedule) (τ : M.State) → R v σ w τ → test σ ≡ test τ) → Bisimulation M cut (ends_by M test) R
  unfolding ends_by ends_so
  ends_alike cut breaks R B same = record {
    enabled = B.enabled;
    cuts = B.cuts;
    fails = λ v σ w τ r t e c.
        let n = B.steps v σ w τ r t e c in
        ap₂ (λ (a b : Bool). cond a b false) (ended_agree M (M.step σ t) (M.step τ t) (B.enabled (v ++ (t ∷ [])) (M.step σ t) (w ++ (t ∷ [])) (M.step τ t) n))
        (same (v ++ (t ∷ [])) (M.step σ t) (w ++ (t ∷ [])) (M.step τ t) n);
    steps = B.steps;
  }

-- ---- those that pass
-- of lists one behind the other
pub passing_range : (test : Schedule → Bool) (f g : ℕ → List Schedule) → ((d : ℕ) → f d ≡ filter test (g d)) → (j d : ℕ) → concat_range f j d ≡ filter test (concat_range g j d)
unfolding concat_range
passing_range test f g h zero d = sym (filter_nil test)
passing_range test f g h (suc j) d =
    ap₂ (λ (a b : List Schedule). a ++ b) (h d) (passing_range test f g h j (d + 1)) ∙ sym (filter_append test (g d) (concat_range g j (d + 1)))

-- where nothing passes, nothing passes a test that fewer pass
pub passing_fewer : (test fewer : Schedule → Bool) → ((s : Schedule) → fewer s ≡ true → test s ≡ true) → (l : List Schedule) → filter test l ≡ [] → filter fewer l ≡ []
passing_fewer test fewer h l e = filter_none fewer l (λ s m. go s m (fewer s) refl)
  where
    go : (s : Schedule) → Memᴰ s l → (b : Bool) → fewer s ≡ b → fewer s ≡ false
    go s m false q = q
    go s m true q = absurd (Memᴰ.not-nil (subst (λ (k : List Schedule). Memᴰ s k) e (in_filter test l s m (h s q))))

module _ (M : System) (top : ℕ) (cut : Schedule → M.State → ℕ → Bool) (test every : Schedule → Bool) (all : (s : Schedule) → every s ≡ true) where
  abbrev F : (Schedule → Bool) → ℕ → Option Schedule → Schedule → M.State → List Schedule
  F f k = λ a b c. found_from M top cut f k a b c

  at_passing : (v : Schedule) → found_at M top cut test none v ≡ filter test (found_at M top cut every none v)
  at_passing v = go (test v) refl ∙ sym (ap (filter test) (Found.at_listed M top cut every v (all v)))
    where
      go : (b : Bool) → test v ≡ b → found_at M top cut test none v ≡ filter test (v ∷ [])
      go true e = Found.at_listed M top cut test v e ∙ sym (filter_yes test v [] e ∙ ap (λ (l : List Schedule). v ∷ l) (filter_nil test))
      go false e = Found.at_unlisted M top cut test v e ∙ sym (filter_no test v [] e ∙ filter_nil test)

  by_passing : (k : ℕ) (v : Schedule) (σ : M.State) (t : ℕ) → (F test k none (v ++ (t ∷ [])) (M.step σ t) ≡ filter test (F every k none (v ++ (t ∷ [])) (M.step σ t)))
      → found_by M top cut test (F test k) none v σ t ≡ filter test (found_by M top cut every (F every k) none v σ t)
  by_passing k v σ t ih = go (M.enabled σ t) refl (cut v σ t) refl
    where
      neither : found_by M top cut test (F test k) none v σ t ≡ [] → found_by M top cut every (F every k) none v σ t ≡ [] → found_by M top cut test (F test k) none v σ t ≡ filter test (found_by M top cut every (F every k) none v σ t)
      neither a b = a ∙ sym (ap (filter test) b ∙ filter_nil test)

      go : (a : Bool) → M.enabled σ t ≡ a → (b : Bool) → cut v σ t ≡ b → found_by M top cut test (F test k) none v σ t ≡ filter test (found_by M top cut every (F every k) none v σ t)
      go false e b c = neither (Found.by_not M top cut test (F test k) none v σ t e) (Found.by_not M top cut every (F every k) none v σ t e)
      go true e true c = neither (Found.by_cut M top cut test (F test k) none v σ t e c) (Found.by_cut M top cut every (F every k) none v σ t e c)
      go true e false c =
          Found.by_live M top cut test (F test k) none v σ t e c ∙ ap (λ (o : Option Schedule). F test k o (v ++ (t ∷ [])) (M.step σ t)) (Found.past_none t) ∙ ih
          ∙ ap (filter test) (sym (Found.by_live M top cut every (F every k) none v σ t e c ∙ ap (λ (o : Option Schedule). F every k o (v ++ (t ∷ [])) (M.step σ t)) (Found.past_none t)))

  -- WITH A TEST, WHAT PASSES OF ALL THAT IS FOUND
  pub found_passing : (k : ℕ) (v : Schedule) (σ : M.State) → found_from M top cut test k none v σ ≡ filter test (found_from M top cut every k none v σ)
  found_passing zero v σ = go (ended M σ) refl
    where
      go : (b : Bool) → ended M σ ≡ b → F test 0 none v σ ≡ filter test (F every 0 none v σ)
      go true e = Found.found_ended M top cut test 0 none v σ e ∙ at_passing v ∙ sym (ap (filter test) (Found.found_ended M top cut every 0 none v σ e))
      go false e = Found.found_stuck M top cut test 0 none v σ e refl ∙ sym (ap (filter test) (Found.found_stuck M top cut every 0 none v σ e refl) ∙ filter_nil test)
  found_passing (suc k) v σ = go (ended M σ) refl (λ t. found_passing k (v ++ (t ∷ [])) (M.step σ t))
    where
      go : (b : Bool) → ended M σ ≡ b → ((t : ℕ) → F test k none (v ++ (t ∷ [])) (M.step σ t) ≡ filter test (F every k none (v ++ (t ∷ [])) (M.step σ t))) → F test (suc k) none v σ ≡ filter test (F every (suc k) none v σ)
      go true e ih = Found.found_ended M top cut test (suc k) none v σ e ∙ at_passing v ∙ sym (ap (filter test) (Found.found_ended M top cut every (suc k) none v σ e))
      go false e ih =
          branches_all M top cut test k v σ e
          ∙ passing_range test (found_by M top cut test (F test k) none v σ) (found_by M top cut every (F every k) none v σ) (λ t. by_passing k v σ t (ih t)) top 0
          ∙ sym (ap (filter test) (branches_all M top cut every k v σ e))
