-- WHERE ALL THREADS ARE OF ONE SIDE nobody stands in its way: it can force its end exactly where some full schedule ends so, and the other side exactly where
-- every full schedule does.
use Prim.Native.Nat.{ℕ, zero, suc, ◌+◌, ◌*◌, ◌≤◌}
use native.Mathlib.Omega.{arith}
use native.Mathlib.Nat.{le_refl}
use mathlib.Core.Path.{◌≡◌, refl, sym, ap, subst, ◌∙◌}
use mathlib.Core.Logic.{◌↔◌, ◌⊎◌, inl, inr, ⊎_elim}
use mathlib.Core.Bool.{Bool, true, false, true≢false}
use mathlib.Core.List.{[], ◌∷◌}
use Rattle.spec_schedules.specs.Lists.{any}
use Rattle.spec_schedules.specs.Order.{Schedule}
use Rattle.spec_schedules.specs.System.{Lawful, run, ended, FullFrom}
use Rattle.spec_schedules.proofs.Lists.{any_yes, any_of}
use Rattle.spec_schedules.proofs.Runs.{ended_none}
use Rattle.spec_force.specs.Game.{Side, hostile, friendly, other, same, Game, mine, able, mover, winner, Forces}
use Rattle.spec_force.proofs.Value.{keeps_by, best, value}
use Rattle.spec_force.proofs.Sides.{same_is, same_not, differ, mine_owned, mine_enabled, mine_of, able_some, some_thread, mover_steps}
use Rattle.spec_force.proofs.Against.{turn_behind}
use Rattle.spec_force.proofs.Determined.{best_some, best_no, keeps_wins, keeps_mine, keeps_of, value_ended, value_steps, value_forces, forces_value, exactly_one}

module _ (G : Game) (L : Lawful G.system) (y : Side) (P : G.system.State → Type 0)
    (owned : (σ : G.system.State) (t : ℕ) → P σ → G.system.enabled σ t ≡ true → G.owner t ≡ y)
    (kept : (σ : G.system.State) (t : ℕ) → P σ → G.system.enabled σ t ≡ true → P (G.system.step σ t)) where
  abbrev S : Type 0
  S = G.system.State

  -- some full schedule from here on ends as y wants
  abbrev pub SomeWins : S → Type 0
  SomeWins σ = (s : Schedule) × FullFrom G.system σ s × (winner G (run G.system σ s) ≡ y)

  -- the side that is to step is y
  mover_one : (x : Side) (σ : S) → P σ → ended G.system σ ≡ false → mover G x σ ≡ y
  mover_one x σ p e =
      let t = able_some G (mover G x σ) σ (mover_steps G L x σ e) in
      sym (mine_owned G (mover G x σ) σ t.0 t.1) ∙ owned σ t.0 p (mine_enabled G (mover G x σ) σ t.0 t.1)

  goes : (σ : S) (t : ℕ) → G.system.enabled σ t ≡ true → ended G.system σ ≡ false
  goes σ t h = go (ended G.system σ) refl
    where
      go : (b : Bool) → ended G.system σ ≡ b → ended G.system σ ≡ false
      go true e = absurd (true≢false (sym h ∙ ended_none G.system L σ t e))
      go false e = e

  -- a schedule that ends so shows that y wins
  value_of : (s : Schedule) (x : Side) (σ : S) (k : ℕ) → P σ → FullFrom G.system σ s → winner G (run G.system σ s) ≡ y → 2 * G.system.size σ + 1 ≤ k → value G k x σ ≡ y
  unfolding run
  value_of [] x σ k p f w h = value_ended G L k x σ f ∙ w
  value_of (t ∷ s) x σ k p f w h =
      let e = goes σ t f.0 in
      let m = mover_one x σ p e in
      let v = value_steps G L k x σ e h in
      let ahead : S → Side = λ τ. value G v.0 (turn_behind G x σ) τ in
      let mine_t : mine G (mover G x σ) σ t ≡ true = subst (λ (z : Side). mine G z σ t ≡ true) (owned σ t p f.0 ∙ sym m) (mine_of G σ t f.0) in
      let ih = value_of s (turn_behind G x σ) (G.system.step σ t) v.0 (kept σ t p f.0) f.1 w (omega (arith, v.1, L.falls σ t f.0)) in
      v.2
      ∙ best_some G ahead (mover G x σ) σ (any_of (keeps_by G ahead (mover G x σ) σ) G.system.names t (L.named σ t f.0) (keeps_of G ahead (mover G x σ) σ t mine_t (ih ∙ sym m)))
      ∙ m

  -- where y wins some schedule ends so
  at_end : (x : Side) (σ : S) (k : ℕ) → value G k x σ ≡ y → ended G.system σ ≡ true → SomeWins σ
  unfolding run
  at_end x σ k w e = ([], e, sym (value_ended G L k x σ e) ∙ w)

  some_of : (n : ℕ) (x : Side) (σ : S) (k : ℕ) → G.system.size σ ≤ n → P σ → 2 * G.system.size σ + 1 ≤ k → value G k x σ ≡ y → SomeWins σ
  unfolding run
  some_of zero x σ k b p h w = go (ended G.system σ) refl
    where
      go : (c : Bool) → ended G.system σ ≡ c → SomeWins σ
      go true e = at_end x σ k w e
      go false e = let t = some_thread G L σ e in absurd (omega (arith, b, L.falls σ t.0 t.1))
  some_of (suc n) x σ k b p h w = go (ended G.system σ) refl (λ z τ j. some_of n z τ j)
    where
      go : (c : Bool) → ended G.system σ ≡ c
          → ((z : Side) (τ : S) (j : ℕ) → G.system.size τ ≤ n → P τ → 2 * G.system.size τ + 1 ≤ j → value G j z τ ≡ y → SomeWins τ) → SomeWins σ
      go true e rec = at_end x σ k w e
      go false e rec = pick (any (keeps_by G ahead (mover G x σ) σ) G.system.names) refl
        where
          m : mover G x σ ≡ y
          m = mover_one x σ p e

          v : (j : ℕ) × (2 * G.system.size σ ≤ suc j) × (value G k x σ ≡ best G (λ τ. value G j (turn_behind G x σ) τ) (mover G x σ) σ)
          v = value_steps G L k x σ e h

          ahead : S → Side
          ahead τ = value G v.0 (turn_behind G x σ) τ

          pick : (c : Bool) → any (keeps_by G ahead (mover G x σ) σ) G.system.names ≡ c → SomeWins σ
          pick true q =
              let r = any_yes (keeps_by G ahead (mover G x σ) σ) G.system.names q in
              let on = mine_enabled G (mover G x σ) σ r.0 (keeps_mine G ahead (mover G x σ) σ r.0 r.2) in
              let falls = L.falls σ r.0 on in
              let s = rec (turn_behind G x σ) (G.system.step σ r.0) v.0 (omega (arith, b, falls)) (kept σ r.0 p on) (omega (arith, v.1, falls))
              (keeps_wins G ahead (mover G x σ) σ r.0 r.2 ∙ m) in
              (r.0 ∷ s.0, (on, s.1), s.2)
          pick false q = absurd (differ y (sym w ∙ v.2 ∙ best_no G ahead (mover G x σ) σ q ∙ ap other m))

  pub one_forces : (x : Side) (σ : S) → P σ → Forces G y x σ ↔ SomeWins σ
  one_forces x σ p =
      let k : ℕ = 2 * G.system.size σ + 1 in (
        (λ f. some_of (G.system.size σ) x σ k (le_refl (G.system.size σ)) p (le_refl k) (forces_value G L k x σ y (le_refl k) f)),
        λ s. subst (λ (z : Side). Forces G z x σ) (value_of s.0 x σ k p s.1 s.2 (le_refl k)) (value_forces G L k x σ (le_refl k)),
      )

  not_two : (x : Side) (σ : S) (z : Side) → Forces G z x σ → Forces G (other z) x σ → ⊥
  unfolding other
  not_two x σ hostile f g = (exactly_one G L x σ).not_both f g
  not_two x σ friendly f g = (exactly_one G L x σ).not_both g f

  one_of : (x : Side) (σ : S) (z : Side) → Forces G z x σ ⊎ Forces G (other z) x σ
  unfolding other
  one_of x σ hostile = (exactly_one G L x σ).one
  one_of x σ friendly = ⊎_elim inr inl (exactly_one G L x σ).one

  pub other_forces : (x : Side) (σ : S) → P σ → Forces G (other y) x σ ↔ ((s : Schedule) → FullFrom G.system σ s → winner G (run G.system σ s) ≡ other y)
  other_forces x σ p = (
    (λ f s g. all f s g (same (winner G (run G.system σ s)) y) refl),
    λ h. ⊎_elim (λ f. let s = (one_forces x σ p).0 f in absurd (differ y (sym s.2 ∙ h s.0 s.1))) (λ f. f) (one_of x σ y),
  )
    where
      all : Forces G (other y) x σ → (s : Schedule) → FullFrom G.system σ s → (b : Bool) → same (winner G (run G.system σ s)) y ≡ b
          → winner G (run G.system σ s) ≡ other y
      all f s g true e = absurd (not_two x σ y ((one_forces x σ p).1 (s, g, same_is (winner G (run G.system σ s)) y e)) f)
      all f s g false e = same_not (winner G (run G.system σ s)) y e
