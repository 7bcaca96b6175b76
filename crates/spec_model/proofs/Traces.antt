-- The actions of a run: of one schedule behind another, and where one of them stands.
use Prim.Native.Nat.{ℕ}
use mathlib.Core.Path.{◌≡◌, refl, ap, ap₂, ◌∙◌}
use mathlib.Core.List.{List, [], ◌∷◌, ◌++◌, reverse, reverse-append}
use native.Mathlib.Omega.{arith}
use Rattle.spec_schedules.specs.Order.{Schedule}
use Rattle.spec_schedules.specs.System.{System, run}
use Rattle.spec_schedules.specs.Orders.{trace}

-- where an action stands in a run
pub record Stands (M : System) {D : Type 0} (act : M.State → ℕ → D) (σ : M.State) (v : Schedule) (front : List D) (d : D) (rest : List D) : Type 0 where
  pub before : Schedule
  pub byte : ℕ
  pub after : Schedule
  pub split : v ≡ before ++ (byte ∷ after)
  pub fronts : front ≡ trace M act σ before
  pub does : d ≡ act (run M σ before) byte
  pub rests : trace M act (run M σ before) (byte ∷ after) ≡ d ∷ rest

pub stands : (M : System) {D : Type 0} (act : M.State → ℕ → D) (v : Schedule) (σ : M.State) (front : List D) (d : D) (rest : List D) → trace M act σ v ≡ front ++ (d ∷ rest) → Stands M act σ v front d rest
unfolding trace run
stands M act [] σ [] d rest e = absurd (let z : ◌≡◌ {A = ℕ} 0 1 = cc in omega arith)
stands M act [] σ (x ∷ front) d rest e = absurd (let z : ◌≡◌ {A = ℕ} 0 1 = cc in omega arith)
stands M act (t ∷ v) σ [] d rest e = record { before = []; byte = t; after = v; split = refl; fronts = refl; does = cc; rests = e }
stands M {D} act (t ∷ v) σ (x ∷ front) d rest e =
    let i : trace M act (M.step σ t) v ≡ front ++ (d ∷ rest) = cc in
    let r = stands M act v (M.step σ t) front d rest i in
    let j : x ≡ act σ t = cc in
    record { before = t ∷ r.before; byte = r.byte; after = r.after; split = ap (λ (k : List ℕ). t ∷ k) r.split; fronts = ap₂ {C = List D} (λ y ys. y ∷ ys) j r.fronts; does = r.does; rests = r.rests }

pub trace_append : (M : System) {D : Type 0} (act : M.State → ℕ → D) (u s : Schedule) (σ : M.State) → trace M act σ (u ++ s) ≡ trace M act σ u ++ trace M act (run M σ u) s
unfolding trace run
trace_append M act [] s σ = refl
trace_append M {D} act (t ∷ u) s σ = ap (λ (k : List D). act σ t ∷ k) (trace_append M act u s (M.step σ t))

pub trace_cons : (M : System) {D : Type 0} (act : M.State → ℕ → D) (t : ℕ) (s : Schedule) (σ : M.State) → trace M act σ (t ∷ s) ≡ act σ t ∷ trace M act (M.step σ t) s
unfolding trace
trace_cons M act t s σ = refl

-- one step more, latest first
pub trace_snoc : (M : System) {D : Type 0} (act : M.State → ℕ → D) (v : Schedule) (b : ℕ) (σ : M.State) →
    reverse (trace M act σ (v ++ (b ∷ []))) ≡ act (run M σ v) b ∷ reverse (trace M act σ v)
unfolding trace
trace_snoc M {D} act v b σ = ap (λ (k : List D). reverse k) (trace_append M act v (b ∷ []) σ) ∙ reverse-append (trace M act σ v) (act (run M σ v) b ∷ [])
