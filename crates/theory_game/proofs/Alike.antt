-- FROM STATES THAT GO ON ALIKE THE SAME SIDE WINS, by the same first steps, of any number of steps and passes.
use Prim.Native.Nat.{ℕ, zero, suc}
use mathlib.Core.Path.{◌≡◌, refl, sym, ap, ◌∙◌}
use mathlib.Core.Bool.{Bool, true, false}
use Rattle.spec_schedules.specs.Lists.{both, any}
use Rattle.spec_schedules.proofs.Lists.{false_both, true_both}
use Rattle.theory_sc.proofs.TwinWords.{any_same}
use Rattle.spec_force.specs.Game.{Side, hostile, friendly, other, same, Game, mine, able, winner}
use Rattle.spec_force.proofs.Value.{keeps_by, best, value}
use Rattle.spec_force.proofs.Sides.{mine_enabled}
use Rattle.spec_force.proofs.Determined.{value_able, value_passes, value_none}
use Rattle.theory_game.specs.Alike.{Alike}

module _ (G : Game) where
  abbrev S : Type 0
  S = G.system.State

  -- ---- one turn
  module _ (f g : S → Side) (y : Side) (σ τ : S) where
    pub keeps_alike : (t : ℕ) → mine G y σ t ≡ mine G y τ t → (mine G y σ t ≡ true → f (G.system.step σ t) ≡ g (G.system.step τ t)) → keeps_by G f y σ t ≡ keeps_by G g y τ t
    unfolding keeps_by
    keeps_alike t m e = go (mine G y σ t) refl
      where
        go : (b : Bool) → mine G y σ t ≡ b → both (mine G y σ t) (same (f (G.system.step σ t)) y) ≡ both (mine G y τ t) (same (g (G.system.step τ t)) y)
        go true q = ap (λ (b : Bool). both b (same (f (G.system.step σ t)) y)) m ∙ ap (λ (x : Side). both (mine G y τ t) (same x y)) (e q)
        go false q =
            let r = sym m ∙ q in
            ap (λ (b : Bool). both b (same (f (G.system.step σ t)) y)) q ∙ false_both (same (f (G.system.step σ t)) y)
            ∙ sym (ap (λ (b : Bool). both b (same (g (G.system.step τ t)) y)) r ∙ false_both (same (g (G.system.step τ t)) y))

    pub best_alike : ((t : ℕ) → mine G y σ t ≡ mine G y τ t) → ((t : ℕ) → mine G y σ t ≡ true → f (G.system.step σ t) ≡ g (G.system.step τ t)) → best G f y σ ≡ best G g y τ
    unfolding best
    best_alike m e =
        ap (λ (b : Bool). let x : Side = elim b [ true ↦ y | false ↦ other y ] in x)
        (any_same (keeps_by G f y σ) (keeps_by G g y τ) G.system.names (λ t i. keeps_alike t (m t) (e t)))

  -- ---- the whole game
  module _ (R : S → S → Type 0) (A : Alike G R) where
    pub mine_alike : (σ τ : S) → R σ τ → (y : Side) (t : ℕ) → mine G y σ t ≡ mine G y τ t
    unfolding mine
    mine_alike σ τ r y t = ap (λ (b : Bool). both b (same (G.owner t) y)) (A.enabled σ τ r t)

    able_alike : (σ τ : S) → R σ τ → (y : Side) → able G y σ ≡ able G y τ
    unfolding able
    able_alike σ τ r y = any_same (mine G y σ) (mine G y τ) G.system.names (λ t i. mine_alike σ τ r y t)

    winner_alike : (σ τ : S) → R σ τ → winner G σ ≡ winner G τ
    unfolding winner
    winner_alike σ τ r = ap (λ (b : Bool). let x : Side = elim b [ true ↦ hostile | false ↦ friendly ] in x) (A.fails σ τ r)

    pub value_alike : (k : ℕ) (x : Side) (σ τ : S) → R σ τ → value G k x σ ≡ value G k x τ
    value_alike zero x σ τ r = value_none G x σ ∙ winner_alike σ τ r ∙ sym (value_none G x τ)
    value_alike (suc k) x σ τ r = go (able G x σ) refl (λ y ρ π q. value_alike k y ρ π q)
      where
        go : (b : Bool) → able G x σ ≡ b → ((y : Side) (ρ π : S) → R ρ π → value G k y ρ ≡ value G k y π) → value G (suc k) x σ ≡ value G (suc k) x τ
        go true e ih =
            value_able G k x σ e
            ∙ best_alike (λ ρ. value G k (other x) ρ) (λ ρ. value G k (other x) ρ) x σ τ (mine_alike σ τ r x)
            (λ t m. ih (other x) (G.system.step σ t) (G.system.step τ t) (A.steps σ τ r t (mine_enabled G x σ t m)))
            ∙ sym (value_able G k x τ (sym (able_alike σ τ r x) ∙ e))
        go false e ih = value_passes G k x σ e ∙ ih (other x) σ τ r ∙ sym (value_passes G k x τ (sym (able_alike σ τ r x) ∙ e))
