-- What decides a game at once: a property that every step keeps, and by which a side wins.
use Prim.Native.Nat.{ℕ, zero, suc}
use mathlib.Core.Path.{◌≡◌, refl, sym, ap, subst, ◌∙◌}
use mathlib.Core.Bool.{Bool, true, false, true≢false}
use mathlib.Core.List.{Memᴰ}
use Rattle.spec_schedules.specs.Lists.{any}
use Rattle.spec_schedules.specs.System.{Lawful}
use Rattle.spec_schedules.proofs.Lists.{any_yes, any_of}
use Rattle.spec_force.specs.Game.{Side, hostile, friendly, other, same, Game, mine, able, winner}
use Rattle.spec_force.proofs.Value.{keeps_by, best, value}
use Rattle.spec_force.proofs.Sides.{same_is, same_not, differ, other_other, mine_enabled, able_some}
use Rattle.spec_force.proofs.Determined.{value_able, value_passes, value_none, best_some, best_no, keeps_mine, keeps_wins, keeps_of}

pub winner_fails : (G : Game) (σ : G.system.State) → G.fails σ ≡ true → winner G σ ≡ hostile
unfolding winner
winner_fails G σ e = rw (e, winner)

pub winner_passes : (G : Game) (σ : G.system.State) → G.fails σ ≡ false → winner G σ ≡ friendly
unfolding winner
winner_passes G σ e = rw (e, winner)

pub hostile_fails : (G : Game) (σ : G.system.State) → winner G σ ≡ hostile → G.fails σ ≡ true
unfolding other
hostile_fails G σ e = go (G.fails σ) refl
  where
    go : (b : Bool) → G.fails σ ≡ b → G.fails σ ≡ true
    go true q = q
    go false q = absurd (differ friendly (sym (winner_passes G σ q) ∙ e))

module _ (G : Game) (L : Lawful G.system) (y : Side) (P : G.system.State → Type 0)
    (won : (σ : G.system.State) → P σ → winner G σ ≡ y)
    (kept : (σ : G.system.State) (t : ℕ) → P σ → G.system.enabled σ t ≡ true → P (G.system.step σ t)) where
  -- behind any step y wins, so it wins here
  module _ (f : G.system.State → Side) (x : Side) (σ : G.system.State) (wins : (t : ℕ) → mine G x σ t ≡ true → f (G.system.step σ t) ≡ y) where
    best_decided : able G x σ ≡ true → best G f x σ ≡ y
    best_decided a = go (same x y) refl
      where
        go : (b : Bool) → same x y ≡ b → best G f x σ ≡ y
        go true e =
            let q = same_is x y e in
            let t = able_some G x σ a in
            best_some G f x σ (any_of (keeps_by G f x σ) G.system.names t.0 (L.named σ t.0 (mine_enabled G x σ t.0 t.1)) (keeps_of G f x σ t.0 t.1 (wins t.0 t.1 ∙ sym q))) ∙ q
        go false e = best_no G f x σ (none (any (keeps_by G f x σ) G.system.names) refl) ∙ ap other (same_not x y e) ∙ other_other y
          where
            none : (b : Bool) → any (keeps_by G f x σ) G.system.names ≡ b → any (keeps_by G f x σ) G.system.names ≡ false
            none true q =
                let r = any_yes (keeps_by G f x σ) G.system.names q in
                absurd (differ y (sym (wins r.0 (keeps_mine G f x σ r.0 r.2)) ∙ keeps_wins G f x σ r.0 r.2 ∙ same_not x y e))
            none false q = q

  pub decided : (k : ℕ) (x : Side) (σ : G.system.State) → P σ → value G k x σ ≡ y
  decided zero x σ p = value_none G x σ ∙ won σ p
  decided (suc k) x σ p = go (able G x σ) refl (λ z τ q. decided k z τ q)
    where
      go : (b : Bool) → able G x σ ≡ b → ((z : Side) (τ : G.system.State) → P τ → value G k z τ ≡ y) → value G (suc k) x σ ≡ y
      go true e ih =
          value_able G k x σ e
          ∙ best_decided (λ τ. value G k (other x) τ) x σ (λ t m. ih (other x) (G.system.step σ t) (kept σ t p (mine_enabled G x σ t m))) e
      go false e ih = value_passes G k x σ e ∙ ih (other x) σ p
