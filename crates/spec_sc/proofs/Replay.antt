-- Replaying a schedule: it is whole exactly when it is full, refused by 20 exactly at the first byte that may not step, and by 21 exactly when
-- all its bytes may step but not all threads have ended behind them.
use Prim.Native.Nat.{ℕ, suc, ◌+◌}
use mathlib.Core.Path.{◌≡◌, refl, sym, ap, ◌∙◌}
use mathlib.Core.Logic.{◌↔◌}
use mathlib.Core.Bool.{Bool, true, false}
use mathlib.Core.List.{List, [], ◌∷◌, ◌++◌}
use native.Mathlib.Omega.{arith}
use lib.ListN.{length}
use Rattle.spec_file.specs.Program.{Program}
use Rattle.spec_schedules.specs.Order.{Schedule}
use Rattle.spec_schedules.specs.System.{run, ended, Allowed, FullFrom}
use Rattle.spec_sc.specs.State.{State, step, enabled, SC, start}
use Rattle.spec_sc.specs.Graph.{Full, end_of}
use Rattle.spec_sc.specs.Replay.{whole, refused, replay_from, replay}

-- the byte behind u is the first that may not step
abbrev pub StopsBehind : State → Schedule → Schedule → Type 0
StopsBehind σ u s = (t : ℕ) × (r : Schedule) × (s ≡ u ++ (t ∷ r)) × Allowed SC σ u × (enabled (run SC σ u) t ≡ false)

-- what a replay says, case by case
pub data Outcome (k : ℕ) (σ : State) (s : Schedule) : Type 0 where
  full : FullFrom SC σ s → replay_from k σ s ≡ whole (run SC σ s) → Outcome k σ s
  stops : (u : Schedule) → StopsBehind σ u s → replay_from k σ s ≡ refused 20 (k + length u) → Outcome k σ s
  short : Allowed SC σ s → ended SC (run SC σ s) ≡ false → replay_from k σ s ≡ refused 21 (k + length s) → Outcome k σ s

pub nil_full : (k : ℕ) (σ : State) → ended SC σ ≡ true → replay_from k σ [] ≡ whole σ
unfolding replay_from
nil_full k σ e = rw (e, replay_from)

pub nil_short : (k : ℕ) (σ : State) → ended SC σ ≡ false → replay_from k σ [] ≡ refused 21 k
unfolding replay_from
nil_short k σ e = rw (e, replay_from)

pub cons_goes : (k : ℕ) (σ : State) (t : ℕ) (s : Schedule) → enabled σ t ≡ true → replay_from k σ (t ∷ s) ≡ replay_from (suc k) (step σ t) s
unfolding replay_from
cons_goes k σ t s e = rw (e, replay_from)

pub cons_stops : (k : ℕ) (σ : State) (t : ℕ) (s : Schedule) → enabled σ t ≡ false → replay_from k σ (t ∷ s) ≡ refused 20 k
unfolding replay_from
cons_stops k σ t s e = rw (e, replay_from)

pub outcome : (s : Schedule) (k : ℕ) (σ : State) → Outcome k σ s
unfolding run
outcome [] k σ = go (ended SC σ) refl
  where
    same : k ≡ k + 0
    same = omega arith

    go : (b : Bool) → ended SC σ ≡ b → Outcome k σ []
    go true e = full e (nil_full k σ e)
    go false e = short tt e (nil_short k σ e ∙ ap (refused 21) same)
outcome (t ∷ s) k σ = go (enabled σ t) refl (outcome s (suc k) (step σ t))
  where
    more : (n : ℕ) → suc k + n ≡ k + suc n
    more n = omega arith

    here : k ≡ k + 0
    here = omega arith

    go : (b : Bool) → enabled σ t ≡ b → Outcome (suc k) (step σ t) s → Outcome k σ (t ∷ s)
    go false e o = stops [] (t, s, refl, tt, e) (cons_stops k σ t s e ∙ ap (refused 20) here)
    go true e (full f q) = full (e, f) (cons_goes k σ t s e ∙ q)
    go true e (stops u h q) = stops (t ∷ u) (h.0, h.1, ap {B = List ℕ} (λ z. t ∷ z) h.2, (e, h.3), h.4) (cons_goes k σ t s e ∙ q ∙ ap (refused 20) (more (length u)))
    go true e (short a d q) = short (e, a) d (cons_goes k σ t s e ∙ q ∙ ap (refused 21) (more (length s)))

-- a schedule that is full, stops or is short is replayed so
pub full_replayed : (s : Schedule) (k : ℕ) (σ : State) → FullFrom SC σ s → replay_from k σ s ≡ whole (run SC σ s)
unfolding run
full_replayed [] k σ f = nil_full k σ f
full_replayed (t ∷ s) k σ f = cons_goes k σ t s f.0 ∙ full_replayed s (suc k) (step σ t) f.1

pub stops_replayed : (u : Schedule) (k : ℕ) (σ : State) (t : ℕ) (r : Schedule) → Allowed SC σ u → enabled (run SC σ u) t ≡ false → replay_from k σ (u ++ (t ∷ r)) ≡ refused 20 (k + length u)
unfolding run
stops_replayed [] k σ t r a e = cons_stops k σ t r e ∙ ap (refused 20) (let z : k ≡ k + 0 = omega arith in z)
stops_replayed (b ∷ u) k σ t r a e = cons_goes k σ b (u ++ (t ∷ r)) a.0 ∙ stops_replayed u (suc k) (step σ b) t r a.1 e ∙ ap (refused 20) (let z : suc k + length u ≡ k + suc (length u) = omega arith in z)

pub short_replayed : (s : Schedule) (k : ℕ) (σ : State) → Allowed SC σ s → ended SC (run SC σ s) ≡ false → replay_from k σ s ≡ refused 21 (k + length s)
unfolding run
short_replayed [] k σ a e = nil_short k σ e ∙ ap (refused 21) (let z : k ≡ k + 0 = omega arith in z)
short_replayed (t ∷ s) k σ a e = cons_goes k σ t s a.0 ∙ short_replayed s (suc k) (step σ t) a.1 e ∙ ap (refused 21) (let z : suc k + length s ≡ k + suc (length s) = omega arith in z)

-- a schedule is whole exactly when it is full, and then the state is that at its end
pub replay_whole : (p : Program) (s : Schedule) (τ : State) → (replay p s ≡ whole τ) ↔ (Full p s × (τ ≡ end_of p s))
unfolding replay
replay_whole p s τ = (
  (λ e. go e (outcome s 0 (start p))),
  (λ h. full_replayed s 0 (start p) h.0 ∙ ap whole (sym h.1)),
)
  where
    go : replay_from 0 (start p) s ≡ whole τ → Outcome 0 (start p) s → Full p s × (τ ≡ end_of p s)
    go e (full f q) = let z : whole τ ≡ whole (end_of p s) = sym e ∙ q in (f, cc)
    go e (stops u h q) = let z : whole τ ≡ refused 20 (0 + length u) = sym e ∙ q in absurd (let y : ◌≡◌ {A = ℕ} 0 1 = cc in omega arith)
    go e (short a d q) = let z : whole τ ≡ refused 21 (0 + length s) = sym e ∙ q in absurd (let y : ◌≡◌ {A = ℕ} 0 1 = cc in omega arith)
