-- Two sides, who steps, and plays.
use Prim.Native.Nat.{ℕ, zero, suc, ◌≤◌}
use mathlib.Core.Path.{◌≡◌, refl, sym, ap, subst, ◌∙◌}
use mathlib.Core.Logic.{◌⊎◌, inl, inr}
use mathlib.Core.Bool.{Bool, true, false, true≢false, false≢true}
use mathlib.Core.List.{List, [], ◌∷◌, ◌++◌, Memᴰ}
use native.Mathlib.Nat.{le_refl}
use Rattle.spec_schedules.specs.Lists.{both, any}
use Rattle.spec_schedules.specs.Order.{Schedule}
use Rattle.spec_schedules.specs.System.{System, Lawful, run, ended, FullFrom}
use Rattle.spec_schedules.proofs.Lists.{true_both, both_left, both_right, any_yes, any_of}
use Rattle.spec_schedules.proofs.Runs.{ended_none}
use Rattle.spec_schedules.proofs.SomeRun.{some_full}
use Rattle.spec_force.specs.Game.{Side, hostile, friendly, other, same, Game, mine, able, mover, winner, Play, FullPlay, stepper}

pub same_self : (y : Side) → same y y ≡ true
unfolding same
same_self hostile = refl
same_self friendly = refl

pub same_is : (a b : Side) → same a b ≡ true → a ≡ b
unfolding same
same_is hostile hostile e = refl
same_is hostile friendly e = absurd (false≢true e)
same_is friendly hostile e = absurd (false≢true e)
same_is friendly friendly e = refl

pub same_not : (a b : Side) → same a b ≡ false → a ≡ other b
unfolding same other
same_not hostile hostile e = absurd (true≢false e)
same_not hostile friendly e = refl
same_not friendly hostile e = refl
same_not friendly friendly e = absurd (true≢false e)

pub other_other : (y : Side) → other (other y) ≡ y
unfolding other
other_other hostile = refl
other_other friendly = refl

pub differ : (y : Side) → y ≡ other y → ⊥
unfolding other
differ hostile e = true≢false (ap (λ (s : Side). elim s [ hostile ↦ true | friendly ↦ false ]) e)
differ friendly e = false≢true (ap (λ (s : Side). elim s [ hostile ↦ true | friendly ↦ false ]) e)

module _ (G : Game) where
  abbrev S : Type 0
  S = G.system.State

  pub mine_enabled : (y : Side) (σ : S) (t : ℕ) → mine G y σ t ≡ true → G.system.enabled σ t ≡ true
  unfolding mine
  mine_enabled y σ t e = both_left (G.system.enabled σ t) (same (G.owner t) y) e

  pub mine_owned : (y : Side) (σ : S) (t : ℕ) → mine G y σ t ≡ true → G.owner t ≡ y
  unfolding mine
  mine_owned y σ t e = same_is (G.owner t) y (both_right (G.system.enabled σ t) (same (G.owner t) y) e)

  pub mine_of : (σ : S) (t : ℕ) → G.system.enabled σ t ≡ true → mine G (G.owner t) σ t ≡ true
  unfolding mine
  mine_of σ t e = rw (e, same_self (G.owner t)) (true_both true)

  pub mover_able : (x : Side) (σ : S) → able G x σ ≡ true → mover G x σ ≡ x
  unfolding mover
  mover_able x σ e = rw (e, mover)

  pub mover_passes : (x : Side) (σ : S) → able G x σ ≡ false → mover G x σ ≡ other x
  unfolding mover
  mover_passes x σ e = rw (e, mover)

  pub able_some : (y : Side) (σ : S) → able G y σ ≡ true → (t : ℕ) × (mine G y σ t ≡ true)
  unfolding able
  able_some y σ e = let r = any_yes (mine G y σ) G.system.names e in (r.0, r.2)

  -- a full play is a full schedule
  pub full_play : (s : Schedule) (x : Side) (σ : S) → FullPlay G x σ s → FullFrom G.system σ s
  full_play [] x σ f = f
  full_play (t ∷ s) x σ f = (mine_enabled (mover G x σ) σ t f.0, full_play s (other (mover G x σ)) (G.system.step σ t) f.1)

  module _ (L : Lawful G.system) where
    pub able_of : (y : Side) (σ : S) (t : ℕ) → mine G y σ t ≡ true → able G y σ ≡ true
    unfolding able
    able_of y σ t e = any_of (mine G y σ) G.system.names t (L.named σ t (mine_enabled y σ t e)) e

    pub some_thread : (σ : S) → ended G.system σ ≡ false → (t : ℕ) × (G.system.enabled σ t ≡ true)
    some_thread σ e = let r = some_full G.system L (G.system.size σ) σ (le_refl (G.system.size σ)) in go r.0 r.1
      where
        go : (s : Schedule) → FullFrom G.system σ s → (t : ℕ) × (G.system.enabled σ t ≡ true)
        go [] f = absurd (true≢false (sym f ∙ e))
        go (t ∷ s) f = (t, f.0)

    -- while the play has not ended the side that is to step has a step
    pub mover_steps : (x : Side) (σ : S) → ended G.system σ ≡ false → able G (mover G x σ) σ ≡ true
    mover_steps x σ e = go (able G x σ) refl (some_thread σ e)
      where
        go : (b : Bool) → able G x σ ≡ b → (t : ℕ) × (G.system.enabled σ t ≡ true) → able G (mover G x σ) σ ≡ true
        go true q r = ap (λ (y : Side). able G y σ) (mover_able x σ q) ∙ q
        go false q r = owned (same (G.owner r.0) x) refl
          where
            owned : (b : Bool) → same (G.owner r.0) x ≡ b → able G (mover G x σ) σ ≡ true
            owned true k = absurd (true≢false (sym (able_of x σ r.0 (subst (λ (y : Side). mine G y σ r.0 ≡ true) (same_is (G.owner r.0) x k) (mine_of σ r.0 r.1))) ∙ q))
            owned false k = ap (λ (y : Side). able G y σ) (mover_passes x σ q)
                ∙ able_of (other x) σ r.0 (subst (λ (y : Side). mine G y σ r.0 ≡ true) (same_not (G.owner r.0) x k) (mine_of σ r.0 r.1))

    -- nothing steps where the play has ended
    pub ended_mine : (y : Side) (σ : S) (t : ℕ) → ended G.system σ ≡ true → mine G y σ t ≡ true → ⊥
    ended_mine y σ t e k = true≢false (sym (mine_enabled y σ t k) ∙ ended_none G.system L σ t e)

    pub ended_able : (y : Side) (σ : S) → ended G.system σ ≡ true → able G y σ ≡ false
    ended_able y σ e = go (able G y σ) refl
      where
        go : (b : Bool) → able G y σ ≡ b → able G y σ ≡ false
        go true q = let r = able_some y σ q in absurd (ended_mine y σ r.0 e r.1)
        go false q = q
