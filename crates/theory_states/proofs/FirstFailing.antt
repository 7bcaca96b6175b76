-- THE FIRST FAILING SCHEDULE IS THE SAME with true marks as without, and the marks stay true.
use Prim.Native.Nat.{ℕ, zero, suc, ◌+◌, ◌-◌, ◌≤◌}
use mathlib.Core.Path.{◌≡◌, refl, sym, ap, ap₂, ◌∙◌}
use mathlib.Core.Bool.{Bool, true, false, cond, not, ◌&&◌}
use mathlib.Core.Option.{Option, none, some}
use mathlib.Core.List.{List, [], ◌∷◌, ◌++◌}
use native.Mathlib.Omega.{arith}
use Rattle.spec_schedules.specs.Lists.{head_of}
use Rattle.spec_schedules.specs.Order.{Schedule}
use Rattle.spec_schedules.specs.System.{System, Lawful, ended}
use Rattle.theory_search.specs.Found.{concat_range, found_at, found_by, found_from}
use Rattle.theory_search.proofs.Found as Found
use Rattle.theory_states.specs.Positions.{GoesOn, Breaks}
use Rattle.theory_states.specs.Numbers.{Numbers, numbers}
use Rattle.theory_states.specs.SameKey.{Decides}
use Rattle.theory_states.specs.Memory.{Honest}
use Rattle.theory_states.specs.FirstFailing.{first_at, first_by, or_else, first_over, marked, first_from, TrueMarks}
use Rattle.theory_states.proofs.Numbers.{at_last}
use Rattle.theory_states.proofs.Found.{branches_all}
use Rattle.theory_states.proofs.Passing.{head_nil, clean_passed, clean_known}
use Rattle.theory_states.proofs.SameKey.{same_key}
use Rattle.theory_states.proofs.Memory.{put_true}

-- the first of two lists, one behind the other
unfoldable first : Option Schedule → Option Schedule → Option Schedule
first (some s) o = some s
first none o = o

head_append : (a b : List Schedule) → head_of (a ++ b) ≡ first (head_of a) (head_of b)
unfolding head_of first
head_append [] b = refl
head_append (s ∷ a) b = refl

module _ (M : System) (lawful : Lawful M) (top : ℕ) (cut : Schedule → M.State → ℕ → Bool) (Met : Schedule → M.State → Type 0) (on : GoesOn M cut Met)
    (fails : M.State → Bool) (breaks : M.State → ℕ → Bool) (law : Breaks M cut Met fails breaks) (test : Schedule → Bool)
    (agree : (v : Schedule) (σ : M.State) → Met v σ → test v ≡ fails σ) {K Entries : Type 0} (Fit : K → Type 0)
    (key : Schedule → M.State → K) (fit : (v : Schedule) (σ : M.State) → Met v σ → Fit (key v σ))
    (D : Decides M cut breaks Met key) (clean : Entries → K → Bool) (mark : Entries → K → Entries)
    (honest : (m : Entries) (k : K) → Honest {E = Unit {0}} Fit k tt (λ j c. clean m j ≡ true) (λ j c. clean (mark m k) j ≡ true)) where
  abbrev F : ℕ → Option Schedule → Schedule → M.State → List Schedule
  F k = λ a b c. found_from M top cut test k a b c

  abbrev OK : Entries → Type 0
  OK m = TrueMarks M top cut fails key clean mark breaks Met m

  -- the first of what is found, and true marks
  abbrev Right : List Schedule → Option Schedule × Entries → Type 0
  Right l r = (r.0 ≡ head_of l) × OK r.1

  pub mark_clean : (m : Entries) → OK m → (v : Schedule) (σ : M.State) → Met v σ → (numbers M top cut breaks v σ).failing ≡ 0 → OK (mark m (key v σ))
  mark_clean m t v σ met z = put_true {E = Unit {0}} (λ x. Met x.0 x.1) (λ x. key x.0 x.1) (λ x n. (numbers M top cut breaks x.0 x.1).failing ≡ 0) Fit (λ x. fit x.0 x.1)
      (λ x y a b e c r. sym (ap (λ (n : Numbers). n.failing) (same_key M top cut breaks Met key lawful D x.0 x.1 y.0 y.1 a b e)) ∙ r)
      (λ k n. clean m k ≡ true) (λ k n. clean (mark m (key v σ)) k ≡ true) (v, σ) tt t met z (honest m (key v σ))

  at_end : (v : Schedule) (σ : M.State) → Met v σ → first_at M top cut fails key clean mark v σ ≡ head_of (found_at M top cut test none v)
  unfolding first_at head_of
  at_end v σ met = go (fails σ) refl
    where
      same : (b : Bool) → fails σ ≡ b → test v ≡ b
      same b e = agree v σ met ∙ e

      go : (b : Bool) → fails σ ≡ b → first_at M top cut fails key clean mark v σ ≡ head_of (found_at M top cut test none v)
      go true e = rw e (sym (ap head_of (Found.at_listed M top cut test v (same true e))))
      go false e = rw e (sym (ap head_of (Found.at_unlisted M top cut test v (same false e))))

  over_right : (f : Entries → ℕ → Option Schedule × Entries) (g : ℕ → List Schedule) → ((m : Entries) (d : ℕ) → OK m → Right (g d) (f m d)) → (j d : ℕ) (m : Entries) → OK m →
      Right (concat_range g j d) (first_over M top cut fails key clean mark f j d m)
  unfolding first_over concat_range head_of or_else first
  over_right f g h zero d m t = (refl, t)
  over_right f g h (suc j) d m t = let a = h m d t in go (f m d).0 (f m d).1 a.0 a.1 (λ e i. over_right f g h j (d + 1) e i)
    where
      rest : List Schedule
      rest = concat_range g j (d + 1)

      both : (o : Option Schedule) → o ≡ head_of (g d) → head_of (g d ++ rest) ≡ first o (head_of rest)
      both o e = head_append (g d) rest ∙ ap (λ (q : Option Schedule). first q (head_of rest)) (sym e)

      go : (o : Option Schedule) (e : Entries) → o ≡ head_of (g d) → OK e → ((e : Entries) → OK e → Right rest (first_over M top cut fails key clean mark f j (d + 1) e)) →
          Right (g d ++ rest) (or_else M top cut fails key clean mark o e (λ e. first_over M top cut fails key clean mark f j (d + 1) e))
      go (some s) e i t ih = (sym (both (some s) i), t)
      go none e i t ih = let r = ih e t in (r.0 ∙ sym (both none i), r.1)

  by_right : (k : ℕ) (f : Entries → Schedule → M.State → Option Schedule × Entries) (v : Schedule) (σ : M.State) (m : Entries) (t : ℕ) → OK m →
      (M.enabled σ t ≡ true → cut v σ t ≡ false → Right (F k none (v ++ (t ∷ [])) (M.step σ t)) (f m (v ++ (t ∷ [])) (M.step σ t))) →
      Right (found_by M top cut test (F k) none v σ t) (first_by M top cut fails key clean mark f v σ m t)
  unfolding first_by
  by_right k f v σ m t ok h = go (M.enabled σ t) refl (cut v σ t) refl
    where
      go : (a : Bool) → M.enabled σ t ≡ a → (b : Bool) → cut v σ t ≡ b → Right (found_by M top cut test (F k) none v σ t) (first_by M top cut fails key clean mark f v σ m t)
      go false e b c = rw e (sym (head_nil (found_by M top cut test (F k) none v σ t) (Found.by_not M top cut test (F k) none v σ t e)), ok)
      go true e true c = rw (e, c) (sym (head_nil (found_by M top cut test (F k) none v σ t) (Found.by_cut M top cut test (F k) none v σ t e c)), ok)
      go true e false c =
          let r = h e c in
          let l : found_by M top cut test (F k) none v σ t ≡ F k none (v ++ (t ∷ [])) (M.step σ t) =
          Found.by_live M top cut test (F k) none v σ t e c ∙ ap (λ (o : Option Schedule). F k o (v ++ (t ∷ [])) (M.step σ t)) (Found.past_none t) in
          rw (e, c) (r.0 ∙ ap head_of (sym l), r.1)

  marked_right : (k : ℕ) (v : Schedule) (σ : M.State) → Met v σ → M.size σ ≤ k → (o : Option Schedule) (m : Entries) → Right (F k none v σ) (o, m) →
      Right (F k none v σ) (marked M top cut fails key clean mark (fails σ) (key v σ) o m)
  unfolding marked
  marked_right k v σ met h (some s) m r = r
  marked_right k v σ met h none m r = go (fails σ) refl
    where
      go : (b : Bool) → fails σ ≡ b → Right (F k none v σ) (marked M top cut fails key clean mark (fails σ) (key v σ) none m)
      go true e = rw e r
      go false e =
          rw e (r.0, mark_clean m r.1 v σ met (clean_known M lawful top cut Met on breaks fails law test agree k v σ met h e r.0))

  -- THE SAME FIRST, AND TRUE MARKS
  pub first_right : (k : ℕ) (m : Entries) (v : Schedule) (σ : M.State) → OK m → Met v σ → M.size σ ≤ k →
      ((first_from M top cut fails key clean mark k m v σ).0 ≡ head_of (found_from M top cut test k none v σ)) × OK (first_from M top cut fails key clean mark k m v σ).1
  unfolding first_from
  first_right zero m v σ ok met h =
      let e = at_last M lawful σ (omega arith) in
      rw e (at_end v σ met ∙ sym (ap head_of (Found.found_ended M top cut test 0 none v σ e)), ok)
  first_right (suc k) m v σ ok met h = go (ended M σ) refl (fails σ) refl (clean m (key v σ)) refl
      (λ d t a e c. let n = lawful.falls σ t e in first_right k d (v ++ (t ∷ [])) (M.step σ t) a (on v σ met t e c) (omega (arith, n)))
    where
      f : Entries → Schedule → M.State → Option Schedule × Entries
      f = λ d w τ. first_from M top cut fails key clean mark k d w τ

      Child : Type 0
      Child = (d : Entries) (t : ℕ) → OK d → M.enabled σ t ≡ true → cut v σ t ≡ false → Right (F k none (v ++ (t ∷ [])) (M.step σ t)) (f d (v ++ (t ∷ [])) (M.step σ t))

      walked : ended M σ ≡ false → Child → Right (F (suc k) none v σ) (let r : Option Schedule × Entries = first_over M top cut fails key clean mark (λ d t. first_by M top cut fails key clean mark f v σ d t) top 0 m in
          marked M top cut fails key clean mark (fails σ) (key v σ) r.0 r.1)
      walked e ih =
          let r = over_right (λ d t. first_by M top cut fails key clean mark f v σ d t) (found_by M top cut test (F k) none v σ) (λ d t a. by_right k f v σ d t a (ih d t a)) top 0 m ok in
          marked_right (suc k) v σ met h _ _ (r.0 ∙ ap head_of (sym (branches_all M top cut test k v σ e)), r.1)

      go : (b : Bool) → ended M σ ≡ b → (c : Bool) → fails σ ≡ c → (d : Bool) → clean m (key v σ) ≡ d → Child → Right (F (suc k) none v σ) (first_from M top cut fails key clean mark (suc k) m v σ)
      go true e c i d q ih = rw e (at_end v σ met ∙ sym (ap head_of (Found.found_ended M top cut test (suc k) none v σ e)), ok)
      go false e false i true q ih =
          rw (e, i, q) (clean_passed M lawful top cut Met on breaks fails law test agree (suc k) v σ met h i (ok (v, σ) met tt q), ok)
      go false e false i false q ih = rw (e, i, q) (rw i at (walked e ih))
      go false e true i d q ih = rw (e, i) (rw i at (walked e ih))
