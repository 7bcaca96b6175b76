-- THE SET THAT IS CARRIED IS THE WALK BACK: a byte is in the set behind one step more exactly when it goes on from those that were in it and
-- those that begin there. A next step that need not stay behind the step just taken did not change while it waited.
use Prim.Native.Nat.{ℕ}
use mathlib.Core.Path.{◌≡◌, refl, sym, ap, ap₂, ◌∙◌}
use mathlib.Core.Bool.{Bool, true, false, not, ◌&&◌, ◌||◌}
use mathlib.Core.List.{List, [], ◌∷◌, ◌++◌, reverse}
use lib.Dec.{eqb, ltb}
use borrow.Author.Tests.{eqb-false}
use Rattle.spec_file.specs.Program.{Program}
use Rattle.spec_schedules.specs.Order.{Schedule}
use Rattle.spec_schedules.specs.Orders.{trace}
use Rattle.spec_schedules.proofs.Runs.{run_snoc}
use Rattle.spec_model.specs.Model.{Model, end_of}
use Rattle.spec_model.specs.Laws.{StepLaws}
use Rattle.theory_search.specs.Back.{back}
use Rattle.theory_search.specs.LateSet.{goes_on, back_at, late_at}
use Rattle.spec_model.proofs.Traces.{trace_snoc}
use Rattle.theory_search.proofs.Back.{back_next, back_same}
use Rattle.theory_search.proofs.Back.{and_false}

-- what is asked only where two tests fail: q the byte is the step's, w it must wait, x and y what is said of it
gated : (q w x y : Bool) → (q ≡ false → w ≡ false → x ≡ y) → (not q && (x && not w)) ≡ (not q && (y && not w))
gated true w x y h = refl
gated false true x y h = and_false x ∙ sym (and_false y)
gated false false x y h = ap (λ (z : Bool). z && true) (h refl refl)

module _ (M : Model) (L : StepLaws M) {D : Type 0} (at : M.system.State → ℕ → D) (does : D → M.Action) (who : D → ℕ) (starts : D → ℕ → Bool)
    (by : (σ : M.system.State) (b : ℕ) → who (at σ b) ≡ b) (is : (σ : M.system.State) (b : ℕ) → does (at σ b) ≡ M.act σ b) (p : Program) where
  abbrev State : Type 0
  State = M.system.State

  abbrev goes : List D → D → Bool
  goes = back who (λ e d. M.dependent (does e) (does d)) starts

  -- before the first step none is in it
  pub back_start : (c : ℕ) → back_at M at does who starts p [] c ≡ false
  unfolding back_at back trace
  back_start c = and_false (M.system.enabled (end_of M p []) c)

  -- ONE STEP
  module _ (v : Schedule) (b : ℕ) (m : M.system.enabled (end_of M p v) b ≡ true) where
    abbrev σ : State
    σ = end_of M p v

    abbrev τ : State
    τ = M.system.step (end_of M p v) b

    abbrev past : List D
    past = reverse (trace M.system at (M.start p) v)

    module _ (waits : ℕ → Bool) (exact : (c : ℕ) → M.dependent (M.act (end_of M p v) b) (M.act (M.system.step (end_of M p v) b) c) ≡ waits c) where
      here : (c : ℕ) (n : Bool) → M.system.enabled τ c ≡ n → (n && goes (at σ b ∷ past) (at τ c)) ≡ (n && (not (eqb b c) && ((starts (at σ b) c || back_at M at does who starts p v c) && not (waits c))))
      unfolding back_at
      here c false n = refl
      here c true n =
          back_next who (λ e d. M.dependent (does e) (does d)) starts (at σ b) past (at τ c)
          ∙ ap₂ (λ (x y : ℕ). not (eqb x y) && ((starts (at σ b) y || goes past (at τ c)) && not (M.dependent (does (at σ b)) (does (at τ c))))) (by σ b) (by τ c)
          ∙ ap (λ (w : Bool). not (eqb b c) && ((starts (at σ b) c || goes past (at τ c)) && not w)) (ap₂ M.dependent (is σ b) (is τ c) ∙ exact c)
          ∙ gated (eqb b c) (waits c) (starts (at σ b) c || goes past (at τ c)) (starts (at σ b) c || (M.system.enabled σ c && goes past (at σ c))) (λ q w. waited q (exact c ∙ w))
        where
          waited : eqb b c ≡ false → M.dependent (M.act σ b) (M.act τ c) ≡ false → (starts (at σ b) c || goes past (at τ c)) ≡ (starts (at σ b) c || (M.system.enabled σ c && goes past (at σ c)))
          waited q w =
              let ne = eqb-false b c q in
              let same : does (at τ c) ≡ does (at σ c) = is τ c ∙ (L.waits σ b c ne m n w).0 ∙ sym (is σ c) in
              ap (λ (z : Bool). starts (at σ b) c || z)
              (back_same who (λ e d. M.dependent (does e) (does d)) starts past (at τ c) (at σ c) (by τ c ∙ sym (by σ c)) (λ e. ap (M.dependent (does e)) same)
              ∙ sym (ap (λ (z : Bool). z && goes past (at σ c)) (L.swap σ b c ne m n w).0))

      pub back_more : (c : ℕ) → back_at M at does who starts p (v ++ (b ∷ [])) c ≡ goes_on (M.system.enabled (M.system.step (end_of M p v) b)) b (λ i. starts (at (end_of M p v) b) i || back_at M at does who starts p v i) waits c
      unfolding back_at
      back_more c =
          ap₂ (λ (ρ : State) (ds : List D). M.system.enabled ρ c && goes ds (at ρ c)) (run_snoc M.system (M.start p) v b) (trace_snoc M.system at v b (M.start p))
          ∙ here c (M.system.enabled τ c) refl

-- R1
module _ (M : Model) (L : StepLaws M) (p : Program) where
  pub late_start : (c : ℕ) → late_at M p [] c ≡ false
  late_start = back_start M L M.act (λ d. d) M.who (λ e c. ltb c (M.who e)) L.by (λ σ b. refl) p

  pub late_more : (v : Schedule) (b : ℕ) → M.system.enabled (end_of M p v) b ≡ true → (waits : ℕ → Bool)
      → ((c : ℕ) → M.dependent (M.act (end_of M p v) b) (M.act (M.system.step (end_of M p v) b) c) ≡ waits c)
      → (c : ℕ) → late_at M p (v ++ (b ∷ [])) c ≡ goes_on (M.system.enabled (M.system.step (end_of M p v) b)) b (λ i. ltb i b || late_at M p v i) waits c
  late_more v b m waits exact c =
      back_more M L M.act (λ d. d) M.who (λ e c. ltb c (M.who e)) L.by (λ σ b. refl) p v b m waits exact c
      ∙ ap (λ (x : ℕ). goes_on (M.system.enabled (M.system.step (end_of M p v) b)) b (λ i. ltb i x || late_at M p v i) waits c) (L.by (end_of M p v) b)
