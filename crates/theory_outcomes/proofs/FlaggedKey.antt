-- A KEY WITH WHETHER SOMETHING FAILED decides every outcome behind a position, in any memory model: where the key without it decides, positions with one
-- key have one memory, and its bit is free, positions with equal words have failed alike and stay so, so that where they end memory and failing are the same.
use Prim.Native.Nat.{ℕ, zero, suc, ◌+◌, ◌*◌, ◌%◌, ◌^◌, ◌<◌, ◌≤◌}
use mathlib.Core.Path.{◌≡◌, refl, sym, ap₂, ◌∙◌}
use mathlib.Core.Bool.{Bool, true, false, cond, ◌||◌}
use mathlib.Core.List.{List, [], ◌∷◌, ◌++◌}
use native.Mathlib.Omega.{arith}
use lib.ListN.{length, get_or, take, set}
use Rattle.spec_file.specs.Program.{Program}
use Rattle.spec_schedules.specs.Order.{Schedule}
use Rattle.spec_model.specs.Model.{Model}
use Rattle.spec_covers.specs.declared.outcome.Outcome.{Outcome}
use Rattle.theory_search.specs.ModelSearch.{Rule}
use Rattle.theory_states.specs.Positions.{Reached, Breaks}
use Rattle.theory_states.specs.SameKey.{Bisimulation, Decides}
use Rattle.theory_states.proofs.Positions.{reached_on}
use Rattle.theory_outcomes.specs.Ending.{ends_by}
use Rattle.theory_outcomes.specs.Outcomes.{flagged, Free, passes, flagged_key}
use Rattle.theory_outcomes.proofs.Ending.{ends_alike}

-- ---- words say whether something failed, and what they say without that
pub flagged_once : (b c : Bool) (k l : List ℕ) → Free k → Free l → flagged b k ≡ flagged c l → (b ≡ c) × (k ≡ l)
unfolding flagged
flagged_once b c [] l f g e = absurd f
flagged_once b c (x ∷ k) [] f g e = absurd g
flagged_once true true (x ∷ k) (y ∷ l) f g e =
    let q : x % 2 ^ 62 + 3 * 2 ^ 62 ≡ y % 2 ^ 62 + 3 * 2 ^ 62 = cc in
    let r : k ≡ l = cc in
    (refl, ap₂ (λ (z : ℕ) (m : List ℕ). z ∷ m) (omega (arith, q, f.0, f.1, g.0, g.1)) r)
flagged_once true false (x ∷ k) (y ∷ l) f g e =
    let q : x % 2 ^ 62 + 3 * 2 ^ 62 ≡ y = cc in
    absurd (omega (arith, q, g.1))
flagged_once false true (x ∷ k) (y ∷ l) f g e =
    let q : x ≡ y % 2 ^ 62 + 3 * 2 ^ 62 = cc in
    absurd (omega (arith, q, f.1))
flagged_once false false (x ∷ k) (y ∷ l) f g e = (refl, e)

-- as many
pub flagged_length : (b : Bool) (l : List ℕ) → length (flagged b l) ≡ length l
unfolding flagged
flagged_length b [] = refl
flagged_length b (x ∷ l) = refl

-- the first so many of words whose first is set so
pub flagged_front : (b : Bool) (n : ℕ) (k : List ℕ) → take n (set k 0 (cond b (get_or k 0 0 % 2 ^ 62 + 3 * 2 ^ 62) (get_or k 0 0))) ≡ flagged b (take n k)
unfolding flagged
flagged_front b zero k = refl
flagged_front b (suc n) [] = refl
flagged_front b (suc n) (x ∷ k) = refl

-- ---- one future, and failed alike
module _ (M : Model) (p : Program) (rule : Rule M) (breaks : M.system.State → ℕ → Bool) (law : Breaks M.system rule (Reached M.system (M.start p)) M.fails breaks)
    (R : Schedule → M.system.State → Schedule → M.system.State → Type 0) (B : Bisimulation M.system rule breaks R) where
  abbrev Met : Schedule → M.system.State → Type 0
  Met = Reached M.system (M.start p)

  abbrev Alike : Schedule → M.system.State → Schedule → M.system.State → Type 0
  Alike v σ x τ = Met v σ × Met x τ × R v σ x τ × (M.fails σ ≡ M.fails τ)

  alike : Bisimulation M.system rule breaks Alike
  alike = record {
    enabled = λ v σ x τ r. B.enabled v σ x τ r.2;
    cuts = λ v σ x τ r. B.cuts v σ x τ r.2;
    fails = λ v σ x τ r. B.fails v σ x τ r.2;
    steps = λ v σ x τ r t e c.
        let e' = sym (B.enabled v σ x τ r.2 t) ∙ e in
        let c' = sym (B.cuts v σ x τ r.2 t e) ∙ c in (
          reached_on M.system (M.start p) v σ r.0 t e,
          reached_on M.system (M.start p) x τ r.1 t e',
          B.steps v σ x τ r.2 t e c,
          law v σ r.0 t e c ∙ ap₂ (λ (a b : Bool). a || b) r.3 (B.fails v σ x τ r.2 t e c) ∙ sym (law x τ r.1 t e' c'),
        );
  }

  -- THE KEY DECIDES what ends with an outcome that passes, whatever the test is
  pub flagged_decides : (key : Schedule → M.system.State → List ℕ) →
      ((v : Schedule) (σ : M.system.State) (x : Schedule) (τ : M.system.State) → Reached M.system (M.start p) v σ → Reached M.system (M.start p) x τ → key v σ ≡ key x τ → R v σ x τ) →
      ((v : Schedule) (σ : M.system.State) → Reached M.system (M.start p) v σ → Free (key v σ)) →
      ((v : Schedule) (σ : M.system.State) (x : Schedule) (τ : M.system.State) → Reached M.system (M.start p) v σ → Reached M.system (M.start p) x τ → R v σ x τ → M.memory_of σ ≡ M.memory_of τ) →
      (test : Outcome → Bool) → Decides M.system rule (ends_by M.system (passes M test)) (Reached M.system (M.start p)) (flagged_key M key)
  flagged_decides key related free seen test = record {
    R = Alike;
    bisimulation = ends_alike M.system (passes M test) rule breaks Alike alike
        (λ v σ x τ r. ap₂ (λ (m : List ℕ) (f : Bool). test (record { memory = m; fails = f })) (seen v σ x τ r.0 r.1 r.2) r.3);
    related = λ v σ x τ a b e.
        let k = flagged_once (M.fails σ) (M.fails τ) (key v σ) (key x τ) (free v σ a) (free x τ b) e in
        (a, b, related v σ x τ a b k.1, k.0);
  }
