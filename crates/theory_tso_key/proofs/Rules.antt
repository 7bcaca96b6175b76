-- THE RULES GO BY WHAT IS SEEN and by the sets that the search carries. Late bytes (R1) and far ones (R2 far) go on behind a step in one way, so the same
-- law keeps both; a byte is asleep (R3) where it is late and unwoken; twins (R2) are left to nearness.
use Prim.Native.Nat.{ℕ}
use mathlib.Core.Path.{◌≡◌, refl, sym, ap, ap₂, subst, ◌∙◌}
use mathlib.Core.Bool.{Bool, true, false, not, ◌&&◌, ◌||◌}
use mathlib.Core.List.{List, [], ◌∷◌, ◌++◌}
use lib.Dec.{eqb, ltb}
use Rattle.spec_file.specs.Program.{Program}
use Rattle.spec_file.specs.WellFormed.{WellFormed}
use Rattle.spec_schedules.specs.Lists.{any, range}
use Rattle.spec_schedules.specs.Order.{Schedule}
use Rattle.theory_search.specs.LateSet as LateSet
use Rattle.theory_search.specs.LateSet.{goes_on}
use Rattle.theory_sc.proofs.TwinWords.{any_same}
use Rattle.spec_tso.specs.State.{State, owner, step, enabled, TSO, start}
use Rattle.spec_tso.specs.Actions.{action}
use Rattle.spec_tso.proofs.Regular.{Regular, regular_start, regular_run}
use Rattle.theory_tso.specs.Rules.{late, taken, unwoken, asleep, twin}
use Rattle.theory_tso.specs.Far.{starts, far}
use Rattle.theory_tso.specs.Search.{given_up}
use Rattle.theory_tso.specs.Deeds.{deed, waits}
use Rattle.theory_tso.specs.LateBytes.{late_at, far_at}
use Rattle.theory_tso.proofs.LateBytes.{late_more, far_more}
use Rattle.theory_states.specs.Positions.{Reached}
use Rattle.theory_states.proofs.Positions.{reached_on}
use Rattle.theory_tso_key.specs.Views.{SameView}
use Rattle.theory_tso_key.proofs.Views.{enabled_view, step_view, unwoken_view}
use Rattle.theory_tso_key.proofs.Waits.{waits_view}

-- what the search meets
abbrev pub Met : Program → Schedule → State → Type 0
Met p = Reached TSO (start p)

pub met_regular : (p : Program) → WellFormed p → (v : Schedule) (σ : State) → Met p v σ → Regular σ
met_regular p w v σ r = subst Regular (sym r.0) (regular_run v (start p) (regular_start p w) r.1)

-- ---- CARRIED SETS: behind a step b those go on that were in the set or are taken in by it, unless they have to wait
abbrev Carried : Program → (Schedule → ℕ → Bool) → (State → ℕ → ℕ → Bool) → Type 0
Carried p set takesIn = (v : Schedule) (σ : State) → Met p v σ → (b : ℕ) → enabled σ b ≡ true → (c : ℕ) →
    set (v ++ (b ∷ [])) c ≡ goes_on (enabled (step σ b)) b (λ i. takesIn σ b i || set v i) (λ i. waits (deed σ b) (deed (step σ b) i)) c

module _ (p : Program) (w : WellFormed p) where
  late_carried : Carried p (late_at p) (λ σ b i. ltb i b)
  late_carried v σ r b m c = subst (λ (ρ : State). late_at p (v ++ (b ∷ [])) c ≡ goes_on (enabled (step ρ b)) b (λ i. ltb i b || late_at p v i) (λ i. waits (deed ρ b) (deed (step ρ b) i)) c) (sym r.0)
      (late_more p w v r.1 b (subst (λ (ρ : State). enabled ρ b ≡ true) r.0 m) c)

  far_carried : Carried p (far_at p) (λ σ b i. starts p (σ, b) i)
  far_carried v σ r b m c = subst (λ (ρ : State). far_at p (v ++ (b ∷ [])) c ≡ goes_on (enabled (step ρ b)) b (λ i. starts p (ρ, b) i || far_at p v i) (λ i. waits (deed ρ b) (deed (step ρ b) i)) c) (sym r.0)
      (far_more p w v r.1 b (subst (λ (ρ : State). enabled ρ b ≡ true) r.0 m) c)

  -- ---- two positions of which the same is seen, behind a step
  module _ (v : Schedule) (σ : State) (x : Schedule) (τ : State) (r : Met p v σ) (s : Met p x τ) (same : SameView σ τ) (b : ℕ) (m : enabled σ b ≡ true) where
    m' : enabled τ b ≡ true
    m' = sym (enabled_view σ τ same b) ∙ m

    behind : SameView (step σ b) (step τ b)
    behind = step_view σ τ same b m

    -- a carried set stays the same
    set_behind : (set : Schedule → ℕ → Bool) (takesIn : State → ℕ → ℕ → Bool) → Carried p set takesIn → (c : ℕ) → takesIn σ b c ≡ takesIn τ b c → set v c ≡ set x c →
        set (v ++ (b ∷ [])) c ≡ set (x ++ (b ∷ [])) c
    set_behind set takesIn law c taken_in before = law v σ r b m c ∙ go (enabled (step σ b) c) refl ∙ sym (law x τ s b m' c)
      where
        may : enabled (step σ b) c ≡ enabled (step τ b) c
        may = enabled_view (step σ b) (step τ b) behind c

        go : (n : Bool) → enabled (step σ b) c ≡ n →
            goes_on (enabled (step σ b)) b (λ i. takesIn σ b i || set v i) (λ i. waits (deed σ b) (deed (step σ b) i)) c
            ≡ goes_on (enabled (step τ b)) b (λ i. takesIn τ b i || set x i) (λ i. waits (deed τ b) (deed (step τ b) i)) c
        go false n = let k = sym may ∙ n in rw (n, k)
        go true n = ap₂ (λ (y z : Bool). y && (not (eqb b c) && z)) may (ap₂ (λ (y z : Bool). y && not z) (ap₂ (λ (y z : Bool). y || z) taken_in before)
            (waits_view σ τ same (met_regular p w v σ r) (met_regular p w x τ s) b m c n))

    -- THE SAME ARE LATE
    pub late_step : ((c : ℕ) → late_at p v c ≡ late_at p x c) → (c : ℕ) → late_at p (v ++ (b ∷ [])) c ≡ late_at p (x ++ (b ∷ [])) c
    late_step lates c = set_behind (late_at p) (λ σ b i. ltb i b) late_carried c refl (lates c)

    -- THE SAME ARE FAR, where the same are taken in
    pub far_step : ((c : ℕ) → starts p (σ, b) c ≡ starts p (τ, b) c) → ((c : ℕ) → far_at p v c ≡ far_at p x c) → (c : ℕ) → far_at p (v ++ (b ∷ [])) c ≡ far_at p (x ++ (b ∷ [])) c
    far_step begin fars c = set_behind (far_at p) (λ σ b i. starts p (σ, b) i) far_carried c (begin c) (fars c)

  -- ---- the rules of a position, by these sets
  late_rule : (v : Schedule) (σ : State) → Met p v σ → (b : ℕ) → enabled σ b ≡ true → late (taken p v) (action σ b) ≡ late_at p v b
  unfolding LateSet.back_at
  late_rule v σ r b m = ap (λ (y : Bool). y && late (taken p v) (action σ b)) (sym m) ∙ ap (λ (ρ : State). enabled ρ b && late (taken p v) (action ρ b)) r.0

  far_rule : (v : Schedule) (σ : State) → Met p v σ → (b : ℕ) → enabled σ b ≡ true → far p v σ b ≡ far_at p v b
  unfolding LateSet.back_at far
  far_rule v σ r b m = ap (λ (y : Bool). y && far p v σ b) (sym m) ∙ ap (λ (ρ : State). enabled ρ b && far p v ρ b) r.0

  asleep_rule : (v : Schedule) (σ : State) → Met p v σ → (c : ℕ) → asleep p v σ c ≡ (late_at p v c && unwoken σ c)
  unfolding asleep LateSet.back_at
  asleep_rule v σ r c = go (enabled σ c) (late (taken p v) (action σ c)) (unwoken σ c) ∙ ap (λ (ρ : State). (enabled ρ c && late (taken p v) (action ρ c)) && unwoken σ c) r.0
    where
      go : (x y z : Bool) → (x && (y && z)) ≡ ((x && y) && z)
      go true y z = refl
      go false y z = refl

  -- THE SAME IS GIVEN UP, where the same have smaller twins
  pub given_up_same : (v : Schedule) (σ : State) (x : Schedule) (τ : State) → Met p v σ → Met p x τ → SameView σ τ → (b : ℕ) → enabled σ b ≡ true →
      ((c : ℕ) → late_at p v c ≡ late_at p x c) → ((c : ℕ) → far_at p v c ≡ far_at p x c) → any (twin p σ (owner b)) (range 0 (owner b)) ≡ any (twin p τ (owner b)) (range 0 (owner b)) →
      given_up p v σ b ≡ given_up p x τ b
  unfolding given_up
  given_up_same v σ x τ r s same b m lates fars twins =
      let n = m' v σ x τ r s same b m in
      let rv = reached_on TSO (start p) v σ r b m in
      let rx = reached_on TSO (start p) x τ s b n in
      let sleepers : (c : ℕ) → asleep p (v ++ (b ∷ [])) (step σ b) c ≡ asleep p (x ++ (b ∷ [])) (step τ b) c = λ c.
      asleep_rule (v ++ (b ∷ [])) (step σ b) rv c
      ∙ ap₂ (λ (y z : Bool). y && z) (late_step v σ x τ r s same b m lates c) (unwoken_view (step σ b) (step τ b) (behind v σ x τ r s same b m) c)
      ∙ sym (asleep_rule (x ++ (b ∷ [])) (step τ b) rx c) in
      ap₂ (λ (y z : Bool). y || z) (late_rule v σ r b m ∙ lates b ∙ sym (late_rule x τ s b n))
      (ap₂ (λ (y z : Bool). y || z) twins (ap₂ (λ (y z : Bool). y || z)
      (any_same (asleep p (v ++ (b ∷ [])) (step σ b)) (asleep p (x ++ (b ∷ [])) (step τ b)) TSO.names (λ c i. sleepers c))
      (far_rule v σ r b m ∙ fars b ∙ sym (far_rule x τ s b n))))
