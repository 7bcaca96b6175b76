-- Who wins by the recursion can force its end; so exactly one side can.
use Prim.Native.Nat.{ℕ, zero, suc, ◌+◌, ◌*◌, ◌<◌, ◌≤◌}
use mathlib.Core.Path.{◌≡◌, refl, sym, ap, subst, ◌∙◌}
use mathlib.Core.Logic.{◌⊎◌, inl, inr}
use mathlib.Core.Bool.{Bool, true, false, true≢false, false≢true}
use mathlib.Core.List.{List, [], ◌∷◌, ◌++◌, Memᴰ}
use native.Mathlib.Omega.{arith}
use native.Mathlib.Nat.{le_refl}
use Rattle.spec_schedules.specs.Lists.{both, any}
use Rattle.spec_schedules.specs.Order.{Schedule}
use Rattle.spec_schedules.specs.System.{Lawful, run, ended}
use Rattle.spec_schedules.proofs.Lists.{true_both, both_left, both_right, any_yes, any_of, any_no}
use Rattle.spec_force.specs.Game.{Side, hostile, friendly, other, same, Game, Strategy, mine, able, mover, winner, Play, FullPlay, stepper, IsStrategy, Follows, Forces, ExactlyOne}
use Rattle.spec_force.proofs.Value.{keeps_by, best, value}
use Rattle.spec_force.proofs.Sides.{same_is, same_not, same_self, differ, other_other, mine_enabled, mover_able, mover_passes, mover_steps, some_thread, ended_mine, ended_able}
use Rattle.spec_force.proofs.Against.{turn_behind, first_own, first_own_lem, not_both}
use Rattle.spec_force.proofs.Composed.{Behind, composed_forces}

module _ (G : Game) where
  abbrev S : Type 0
  S = G.system.State

  pub value_able : (k : ℕ) (x : Side) (σ : S) → able G x σ ≡ true → value G (suc k) x σ ≡ best G (λ τ. value G k (other x) τ) x σ
  unfolding value
  value_able k x σ e = rw (e, value)

  pub value_passes : (k : ℕ) (x : Side) (σ : S) → able G x σ ≡ false → value G (suc k) x σ ≡ value G k (other x) σ
  unfolding value
  value_passes k x σ e = rw (e, value)

  pub value_none : (x : Side) (σ : S) → value G zero x σ ≡ winner G σ
  unfolding value
  value_none x σ = refl

  pub best_some : (f : S → Side) (y : Side) (σ : S) → any (keeps_by G f y σ) G.system.names ≡ true → best G f y σ ≡ y
  unfolding best
  best_some f y σ e = rw (e, best)

  pub best_no : (f : S → Side) (y : Side) (σ : S) → any (keeps_by G f y σ) G.system.names ≡ false → best G f y σ ≡ other y
  unfolding best
  best_no f y σ e = rw (e, best)

  pub keeps_mine : (f : S → Side) (y : Side) (σ : S) (t : ℕ) → keeps_by G f y σ t ≡ true → mine G y σ t ≡ true
  unfolding keeps_by
  keeps_mine f y σ t e = both_left (mine G y σ t) (same (f (G.system.step σ t)) y) e

  pub keeps_wins : (f : S → Side) (y : Side) (σ : S) (t : ℕ) → keeps_by G f y σ t ≡ true → f (G.system.step σ t) ≡ y
  unfolding keeps_by
  keeps_wins f y σ t e = same_is (f (G.system.step σ t)) y (both_right (mine G y σ t) (same (f (G.system.step σ t)) y) e)

  pub keeps_not : (f : S → Side) (y : Side) (σ : S) (t : ℕ) → mine G y σ t ≡ true → keeps_by G f y σ t ≡ false → f (G.system.step σ t) ≡ other y
  unfolding keeps_by
  keeps_not f y σ t m e = same_not (f (G.system.step σ t)) y (sym (true_both (same (f (G.system.step σ t)) y)) ∙ ap (λ (b : Bool). both b (same (f (G.system.step σ t)) y)) (sym m) ∙ e)

  pub keeps_of : (f : S → Side) (y : Side) (σ : S) (t : ℕ) → mine G y σ t ≡ true → f (G.system.step σ t) ≡ y → keeps_by G f y σ t ≡ true
  unfolding keeps_by
  keeps_of f y σ t m e = rw (m, e, same_self y) (true_both true)

  module _ (L : Lawful G.system) where
    -- where all threads have ended nothing changes any more
    pub value_ended : (k : ℕ) (x : Side) (σ : S) → ended G.system σ ≡ true → value G k x σ ≡ winner G σ
    value_ended zero x σ e = value_none x σ
    value_ended (suc k) x σ e = value_passes k x σ (ended_able G L x σ e) ∙ value_ended k (other x) σ e

    -- of enough steps and passes one is a step, of the side that is to step
    pub value_steps : (k : ℕ) (x : Side) (σ : S) → ended G.system σ ≡ false → 2 * G.system.size σ + 1 ≤ k
        → (j : ℕ) × (2 * G.system.size σ ≤ suc j) × (value G k x σ ≡ best G (λ τ. value G j (turn_behind G x σ) τ) (mover G x σ) σ)
    value_steps zero x σ e h = absurd (omega arith)
    value_steps (suc zero) x σ e h = let t = some_thread G L σ e in absurd (omega (arith, L.falls σ t.0 t.1))
    value_steps (suc (suc k)) x σ e h = go (able G x σ) refl
      where
        go : (b : Bool) → able G x σ ≡ b
            → (j : ℕ) × (2 * G.system.size σ ≤ suc j) × (value G (suc (suc k)) x σ ≡ best G (λ τ. value G j (turn_behind G x σ) τ) (mover G x σ) σ)
        go true q = (suc k, omega arith, value_able (suc k) x σ q ∙ ap (λ (m : Side). best G (λ τ. value G (suc k) (other m) τ) m σ) (sym (mover_able G x σ q)))
        go false q =
            let p = mover_passes G x σ q in
            let a : able G (other x) σ ≡ true = subst (λ (m : Side). able G m σ ≡ true) p (mover_steps G L x σ e) in
            (k, omega arith, value_passes (suc k) x σ q ∙ value_able k (other x) σ a ∙ ap (λ (m : Side). best G (λ τ. value G k (other m) τ) m σ) (sym p))

    abbrev Enough : ℕ → Side → S → Type 0
    Enough k x σ = 2 * G.system.size σ + 1 ≤ k

    module _ (x : Side) (σ : S) where
      ended_forces : (y : Side) → ended G.system σ ≡ true → winner G σ ≡ y → Forces G y x σ
      unfolding run
      ended_forces y e w = record { strategy = λ v. 0; own = own; wins = wins }
        where
          own : IsStrategy G y x σ (λ v. 0)
          own [] p q k = absurd (true≢false (sym e ∙ q))
          own (t ∷ v) p q k = absurd (ended_mine G L (mover G x σ) σ t e p.0)

          wins : (s : Schedule) → FullPlay G x σ s → Follows G y x σ (λ v. 0) s → winner G (run G.system σ s) ≡ y
          wins [] p k = w
          wins (t ∷ s) p k = absurd (ended_mine G L (mover G x σ) σ t e p.0)

      module _ (going : ended G.system σ ≡ false) (j : ℕ)
          (ih : (t : ℕ) → mine G (mover G x σ) σ t ≡ true → Forces G (value G j (turn_behind G x σ) (G.system.step σ t)) (turn_behind G x σ) (G.system.step σ t)) where
        abbrev m : Side
        m = mover G x σ

        abbrev ahead : S → Side
        ahead τ = value G j (turn_behind G x σ) τ

        abbrev Good : Side → ℕ → Type 0
        Good y t = ahead (G.system.step σ t) ≡ y

        behind : (y : Side) (u : ℕ) → Behind G y x σ (Good y) u
        behind y u = go (mine G m σ u) refl (same (ahead (G.system.step σ u)) y) refl
          where
            go : (a : Bool) → mine G m σ u ≡ a → (b : Bool) → same (ahead (G.system.step σ u)) y ≡ b → Behind G y x σ (Good y) u
            go true q true k =
                let f : Forces G y (turn_behind G x σ) (G.system.step σ u) = subst (λ (z : Side). Forces G z (turn_behind G x σ) (G.system.step σ u)) (same_is _ y k) (ih u q) in
                record { strategy = f.strategy; own = λ i. f.own; wins = λ i g. f.wins }
            go true q false k = record {
              strategy = first_own G L y (G.system.step σ u);
              own = λ i. first_own_lem G L y (turn_behind G x σ) (G.system.step σ u);
              wins = λ i g. absurd (differ y (sym g ∙ same_not _ y k));
            }
            go false q b k = record {
              strategy = λ v. 0;
              own = λ i. absurd (true≢false (sym i ∙ q));
              wins = λ i g. absurd (true≢false (sym i ∙ q));
            }

        -- the side that is to step has a winning step
        mover_forces : any (keeps_by G ahead m σ) G.system.names ≡ true → Forces G m x σ
        mover_forces e =
            let r = any_yes (keeps_by G ahead m σ) G.system.names e in
            composed_forces G m x σ (Good m) (behind m) r.0 going (λ i. keeps_mine ahead m σ r.0 r.2)
            (λ t q k. ap (λ (u : ℕ). ahead (G.system.step σ u)) (k refl) ∙ keeps_wins ahead m σ r.0 r.2)

        -- the side has no step that keeps the win
        other_forces : any (keeps_by G ahead m σ) G.system.names ≡ false → Forces G (other m) x σ
        other_forces e =
            composed_forces G (other m) x σ (Good (other m)) (behind (other m)) 0 going (λ i. absurd (differ m i))
            (λ t q k. keeps_not ahead m σ t q (any_no (keeps_by G ahead m σ) G.system.names t e (L.named σ t (mine_enabled G m σ t q))))

        best_forces : Forces G (best G ahead m σ) x σ
        best_forces = go (any (keeps_by G ahead m σ) G.system.names) refl
          where
            go : (b : Bool) → any (keeps_by G ahead m σ) G.system.names ≡ b → Forces G (best G ahead m σ) x σ
            go true e = subst (λ (y : Side). Forces G y x σ) (sym (best_some ahead m σ e)) (mover_forces e)
            go false e = subst (λ (y : Side). Forces G y x σ) (sym (best_no ahead m σ e)) (other_forces e)

    forces_within : (n k : ℕ) (x : Side) (σ : S) → G.system.size σ ≤ n → Enough k x σ → Forces G (value G k x σ) x σ
    forces_within zero k x σ b h = go (ended G.system σ) refl
      where
        go : (c : Bool) → ended G.system σ ≡ c → Forces G (value G k x σ) x σ
        go true e = ended_forces x σ (value G k x σ) e (sym (value_ended k x σ e))
        go false e = let t = some_thread G L σ e in absurd (omega (arith, L.falls σ t.0 t.1))
    forces_within (suc n) k x σ b h = go (ended G.system σ) refl (λ j z τ c i. forces_within n j z τ c i)
      where
        go : (c : Bool) → ended G.system σ ≡ c
            → ((j : ℕ) (z : Side) (τ : S) → G.system.size τ ≤ n → Enough j z τ → Forces G (value G j z τ) z τ) → Forces G (value G k x σ) x σ
        go true e ih = ended_forces x σ (value G k x σ) e (sym (value_ended k x σ e))
        go false e ih =
            let r = value_steps k x σ e h in
            subst (λ (y : Side). Forces G y x σ) (sym r.2)
            (best_forces x σ e r.0 (λ t q.
            let less = L.falls σ t (mine_enabled G (mover G x σ) σ t q) in
            ih r.0 (turn_behind G x σ) (G.system.step σ t) (omega (arith, less)) (omega (arith, less, r.1))))

    -- WHO WINS BY THE RECURSION CAN FORCE
    pub value_forces : (k : ℕ) (x : Side) (σ : S) → 2 * G.system.size σ + 1 ≤ k → Forces G (value G k x σ) x σ
    value_forces k x σ h = forces_within (G.system.size σ) k x σ (le_refl (G.system.size σ)) h

    -- WHO CAN FORCE WINS BY THE RECURSION
    pub forces_value : (k : ℕ) (x : Side) (σ : S) (y : Side) → 2 * G.system.size σ + 1 ≤ k → Forces G y x σ → value G k x σ ≡ y
    forces_value k x σ y h f = go y f (value G k x σ) (value_forces k x σ h)
      where
        go : (a : Side) → Forces G a x σ → (b : Side) → Forces G b x σ → b ≡ a
        go hostile p hostile q = refl
        go hostile p friendly q = absurd (not_both G L x σ p q)
        go friendly p hostile q = absurd (not_both G L x σ q p)
        go friendly p friendly q = refl

    -- EXACTLY ONE SIDE CAN FORCE
    pub exactly_one : (x : Side) (σ : S) → ExactlyOne G x σ
    exactly_one x σ = record { one = go (value G (2 * G.system.size σ + 1) x σ) (value_forces (2 * G.system.size σ + 1) x σ (le_refl (2 * G.system.size σ + 1))); not_both = not_both G L x σ }
      where
        go : (y : Side) → Forces G y x σ → Forces G hostile x σ ⊎ Forces G friendly x σ
        go hostile f = inl f
        go friendly f = inr f
