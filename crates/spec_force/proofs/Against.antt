-- Strategies of both sides played against each other: there is a full play that follows both, so that not both sides can force.
use Prim.Native.Nat.{ℕ, zero, suc, ◌≤◌}
use mathlib.Core.Path.{◌≡◌, refl, sym, ap, subst, ◌∙◌}
use mathlib.Core.Bool.{Bool, true, false, true≢false, false≢true}
use mathlib.Core.List.{List, [], ◌∷◌, ◌++◌, tail}
use native.Mathlib.Omega.{arith}
use native.Mathlib.Nat.{le_refl}
use lib.ListN.{get_or}
use Rattle.spec_schedules.specs.Lists.{any}
use Rattle.spec_schedules.specs.Order.{Schedule}
use Rattle.spec_schedules.specs.System.{Lawful, run, ended}
use Rattle.spec_force.specs.Game.{Side, hostile, friendly, other, Game, Strategy, mine, able, mover, winner, Play, FullPlay, stepper, IsStrategy, Follows, Forces}
use Rattle.spec_force.proofs.Sides.{differ, mine_enabled, mover_steps}

-- the first number that passes the test
unfoldable pub first_of : (ℕ → Bool) → List ℕ → ℕ
first_of f [] = 0
first_of f (x ∷ l) = elim (f x) [ true ↦ x | false ↦ first_of f l ]

first_passes : (f : ℕ → Bool) (l : List ℕ) → any f l ≡ true → f (first_of f l) ≡ true
unfolding first_of any
first_passes f [] e = absurd (false≢true e)
first_passes f (x ∷ l) e = go (f x) refl (λ k. first_passes f l k)
  where
    go : (b : Bool) → f x ≡ b → (any f l ≡ true → f (first_of f l) ≡ true) → f (first_of f (x ∷ l)) ≡ true
    go true q ih = rw (q, first_of) q
    go false q ih = rw (q, first_of) (ih (rw (q, any) at e))

cons_head : (a b : ℕ) (s z : Schedule) → a ∷ s ≡ b ∷ z → a ≡ b
cons_head a b s z e = ap (λ (l : Schedule). get_or l 0 0) e

cons_tail : (a b : ℕ) (s z : Schedule) → a ∷ s ≡ b ∷ z → s ≡ z
cons_tail a b s z e = ap (λ (l : Schedule). tail l) e

cons_not : (a : ℕ) (s : Schedule) → [] ≡ a ∷ s → ⊥
cons_not a s e = true≢false (ap (λ (l : Schedule). elim l [ [] ↦ true | b ∷ z ↦ false ]) e)

nil_not : (v : Schedule) (t : ℕ) (z : Schedule) → [] ≡ v ++ (t ∷ z) → ⊥
nil_not [] t z e = cons_not t z e
nil_not (a ∷ v) t z e = cons_not a (v ++ (t ∷ z)) e

-- a strategy of each side
unfoldable pair : Strategy → Strategy → Side → Strategy
pair f g hostile = f
pair f g friendly = g

module _ (G : Game) where
  abbrev S : Type 0
  S = G.system.State

  -- behind a first step
  abbrev pub turn_behind : Side → S → Side
  turn_behind x σ = other (mover G x σ)

  -- a strategy goes on behind it
  pub later_strategy : (y x : Side) (σ : S) (f : Strategy) (t : ℕ) → IsStrategy G y x σ f → mine G (mover G x σ) σ t ≡ true
      → IsStrategy G y (turn_behind x σ) (G.system.step σ t) (λ v. f (t ∷ v))
  unfolding run stepper
  later_strategy y x σ f t i m v p e k = i (t ∷ v) (m, p) e k

  pub follows_nil : (y x : Side) (σ : S) (f : Strategy) → Follows G y x σ f []
  follows_nil y x σ f v t z e k = absurd (nil_not v t z e)

  pub follows_cons : (y x : Side) (σ : S) (f : Strategy) (t : ℕ) (s : Schedule) → (mover G x σ ≡ y → t ≡ f [])
      → Follows G y (turn_behind x σ) (G.system.step σ t) (λ v. f (t ∷ v)) s → Follows G y x σ f (t ∷ s)
  unfolding stepper
  follows_cons y x σ f t s h r [] u z e k = sym (cons_head t u s z e) ∙ h k
  follows_cons y x σ f t s h r (a ∷ v) u z e k =
      let q : t ≡ a = cons_head t a s (v ++ (u ∷ z)) e in
      r v u z (cons_tail t a s (v ++ (u ∷ z)) e) (subst (λ (b : ℕ). stepper G (turn_behind x σ) (G.system.step σ b) v ≡ y) (sym q) k) ∙ ap (λ (b : ℕ). f (b ∷ v)) q

  pub follows_head : (y x : Side) (σ : S) (f : Strategy) (t : ℕ) (s : Schedule) → Follows G y x σ f (t ∷ s) → mover G x σ ≡ y → t ≡ f []
  unfolding stepper
  follows_head y x σ f t s h k = h [] t s refl k

  pub follows_tail : (y x : Side) (σ : S) (f : Strategy) (t : ℕ) (s : Schedule) → Follows G y x σ f (t ∷ s)
      → Follows G y (turn_behind x σ) (G.system.step σ t) (λ v. f (t ∷ v)) s
  unfolding stepper
  follows_tail y x σ f t s h v u z e k = h (t ∷ v) u z (ap (λ (l : Schedule). t ∷ l) e) k

  module _ (L : Lawful G.system) where
    -- the side that is to step can, behind any beginning
    stepper_able : (v : Schedule) (x : Side) (σ : S) → ended G.system (run G.system σ v) ≡ false → able G (stepper G x σ v) (run G.system σ v) ≡ true
    unfolding run stepper
    stepper_able [] x σ e = mover_steps G L x σ e
    stepper_able (t ∷ v) x σ e = stepper_able v (turn_behind x σ) (G.system.step σ t) e

    -- some strategy: the first thread of one's own that has not ended
    abbrev pub first_own : Side → S → Strategy
    first_own y σ = λ v. first_of (mine G y (run G.system σ v)) G.system.names

    pub first_own_lem : (y x : Side) (σ : S) → IsStrategy G y x σ (first_own y σ)
    unfolding able
    first_own_lem y x σ v p e k =
        first_passes (mine G y (run G.system σ v)) G.system.names
        (subst (λ (s : Side). able G s (run G.system σ v) ≡ true) k (stepper_able v x σ e))

    -- a full play that follows a strategy of each side
    abbrev Both : Side → S → (Side → Strategy) → Type 0
    Both x σ h = (s : Schedule) × FullPlay G x σ s × ((y : Side) → Follows G y x σ (h y) s)

    against_step : (n : ℕ) (x : Side) (σ : S) (h : Side → Strategy) → ((y : Side) → IsStrategy G y x σ (h y)) → ended G.system σ ≡ false
        → mine G (mover G x σ) σ (h (mover G x σ) []) ≡ true
    unfolding run stepper
    against_step n x σ h i e = i (mover G x σ) [] tt e refl

    played : (n : ℕ) (x : Side) (σ : S) (h : Side → Strategy) → G.system.size σ ≤ n → ((y : Side) → IsStrategy G y x σ (h y)) → Both x σ h
    played zero x σ h b i = go (ended G.system σ) refl
      where
        go : (b : Bool) → ended G.system σ ≡ b → Both x σ h
        go true e = ([], e, λ y. follows_nil y x σ (h y))
        go false e = absurd (omega (arith, L.falls σ (h (mover G x σ) []) (mine_enabled G (mover G x σ) σ (h (mover G x σ) []) (against_step 0 x σ h i e))))
    played (suc n) x σ h b i = go (ended G.system σ) refl (λ τ k c j. played n (turn_behind x σ) τ k c j)
      where
        go : (b : Bool) → ended G.system σ ≡ b
            → ((τ : S) (k : Side → Strategy) → G.system.size τ ≤ n → ((y : Side) → IsStrategy G y (turn_behind x σ) τ (k y)) → Both (turn_behind x σ) τ k)
            → Both x σ h
        go true e ih = ([], e, λ y. follows_nil y x σ (h y))
        go false e ih =
            let m = mover G x σ in
            let t = h m [] in
            let own : mine G m σ t ≡ true = against_step n x σ h i e in
            let r = ih (G.system.step σ t) (λ y v. h y (t ∷ v)) (omega (arith, L.falls σ t (mine_enabled G m σ t own))) (λ y. later_strategy y x σ (h y) t (i y) own) in
            (t ∷ r.0, (own, r.1), λ y. follows_cons y x σ (h y) t r.0 (λ q. ap (λ (z : Side). h z []) q) (r.2 y))

    pub against : (x : Side) (σ : S) (h : Side → Strategy) → ((y : Side) → IsStrategy G y x σ (h y))
        → (s : Schedule) × FullPlay G x σ s × ((y : Side) → Follows G y x σ (h y) s)
    against x σ h i = played (G.system.size σ) x σ h (le_refl (G.system.size σ)) i

    legal : (x : Side) (σ : S) (f g : Strategy) → IsStrategy G hostile x σ f → IsStrategy G friendly x σ g → (y : Side) → IsStrategy G y x σ (pair f g y)
    unfolding pair
    legal x σ f g i j hostile = i
    legal x σ f g i j friendly = j

    -- NOT BOTH sides can force
    pub not_both : (x : Side) (σ : S) → Forces G hostile x σ → Forces G friendly x σ → ⊥
    unfolding pair other
    not_both x σ f g =
        let r = against x σ (pair f.strategy g.strategy) (legal x σ f.strategy g.strategy f.own g.own) in
        differ hostile (sym (f.wins r.0 r.1 (r.2 hostile)) ∙ g.wins r.0 r.1 (r.2 friendly))

    -- where a side can force there is a full play that ends so
    pub forced_play : (y x : Side) (σ : S) → Forces G y x σ → (s : Schedule) × FullPlay G x σ s × (winner G (run G.system σ s) ≡ y)
    unfolding pair
    forced_play hostile x σ f =
        let g = first_own friendly σ in
        let r = against x σ (pair f.strategy g) (legal x σ f.strategy g f.own (first_own_lem friendly x σ)) in
        (r.0, r.1, f.wins r.0 r.1 (r.2 hostile))
    forced_play friendly x σ f =
        let g = first_own hostile σ in
        let r = against x σ (pair g f.strategy) (legal x σ g f.strategy (first_own_lem hostile x σ) f.own) in
        (r.0, r.1, f.wins r.0 r.1 (r.2 friendly))
