-- Greedy is least: where a fitting byte can always be taken first, with the same end, the walk that takes the least fitting byte at each
-- point is the least list of fitting bytes that ends in the goal, and all such lists end in the same state.
use mathlib.Core.Path.{◌≡◌, refl, sym, ap, subst, ◌∙◌}
use mathlib.Core.Logic.{◌≢◌, inl, inr, ⊎_elim, Ne-symm}
use mathlib.Core.Bool.{Bool, true, false, true≢false}
use mathlib.Core.Option.{Option, none, some}
use mathlib.Core.List.Memᴰ
use mathlib.Core.List.{List, [], ◌∷◌, Memᴰ}
use Prim.Native.Nat.{ℕ, zero, suc, ◌+◌, ◌<◌, ◌≤◌}
use native.Mathlib.Omega.{arith}
use native.Mathlib.Decide.{ℕ_discrete}
use lib.Dec.{ltb}
use lib.ListN.{length}
use borrow.Author.Tests.{ltb-true}
use Rattle.spec_schedules.specs.Lists.{find}
use Rattle.spec_file.specs.Lists.{Ascends}
use Rattle.spec_schedules.specs.Order.{Schedule}
use Rattle.spec_schedules.specs.System.{System, run}
use Rattle.spec_schedules.specs.Greedy.{greedy, Fitting}
use Rattle.spec_schedules.proofs.Order.{AtMost, at_most_front, less_heads, Compared, below, same, above, compared}
use Rattle.spec_schedules.proofs.Runs.{run_cons}

-- the first member of an ascending list that passes a test is the least one that does
pub data FindIs (f : ℕ → Bool) (l : List ℕ) : Option ℕ → Type 0 where
  found_at : {t : ℕ} → Memᴰ t l → f t ≡ true → ((u : ℕ) → Memᴰ u l → u < t → f u ≡ false) → FindIs f l (some t)
  nowhere : ((u : ℕ) → Memᴰ u l → f u ≡ false) → FindIs f l none

pub find_is : (f : ℕ → Bool) (l : List ℕ) → Ascends ltb l → FindIs f l (find f l)
unfolding find
find_is f [] a = nowhere (λ u m. absurd (Memᴰ.not-nil m))
find_is f (x ∷ l) a = go (f x) refl (find f l) (find_is f l a.1)
  where
    pass : (o : Option ℕ) → f x ≡ false → FindIs f l o → FindIs f (x ∷ l) o
    pass o e (found_at {t = t} m q low) = found_at {t = t} (Memᴰ.tail m) q
        (λ u n h. ⊎_elim (λ (i : u ≡ x). ap f i ∙ e) (λ (k : Memᴰ u l). low u k h) (Memᴰ.cases_cons n))
    pass o e (nowhere low) = nowhere (λ u n. ⊎_elim (λ (i : u ≡ x). ap f i ∙ e) (λ (k : Memᴰ u l). low u k) (Memᴰ.cases_cons n))

    go : (b : Bool) → f x ≡ b → (o : Option ℕ) → FindIs f l o → FindIs f (x ∷ l) (elim b [ true ↦ some x | false ↦ o ])
    go true e o r = found_at {t = x} (Memᴰ.head refl) e
        (λ u n h. ⊎_elim (λ (i : u ≡ x). absurd (omega arith)) (λ (k : Memᴰ u l). absurd (omega (arith, ltb-true x u (a.0 u k)))) (Memᴰ.cases_cons n))
    go false e o r = pass o e r

-- what the walk rests on, in states that satisfy `Inv`
pub record GreedyLaws (M : System) (fits : M.State → ℕ → Bool) (Goal Inv : M.State → Type 0) : Type 0 where
  pub ascending : Ascends ltb M.names
  pub named : (σ : M.State) (t : ℕ) → Inv σ → fits σ t ≡ true → Memᴰ t M.names
  pub kept : (σ : M.State) (t : ℕ) → Inv σ → fits σ t ≡ true → Inv (M.step σ t)
  -- at the goal nothing fits any more
  pub final : (σ : M.State) (t : ℕ) → Inv σ → Goal σ → fits σ t ≡ false
  -- a fitting byte can be taken first
  pub front : (σ : M.State) (t : ℕ) (s : Schedule) → Inv σ → fits σ t ≡ true → Fitting M fits Goal σ s →
      (r : Schedule) × (length s ≡ suc (length r)) × Fitting M fits Goal (M.step σ t) r × (run M (M.step σ t) r ≡ run M σ s)

module _ (M : System) (fits : M.State → ℕ → Bool) (Goal Inv : M.State → Type 0) (F : GreedyLaws M fits Goal Inv) where
  -- fitting as far as the goal, ends where s ends, and not above any other
  abbrev pub Least : M.State → Schedule → Schedule → Type 0
  Least σ s g = Fitting M fits Goal σ g × (run M σ g ≡ run M σ s) × ((r : Schedule) → Fitting M fits Goal σ r → AtMost g r)

  at_goal : (σ : M.State) (s : Schedule) → Inv σ → Goal σ → Fitting M fits Goal σ s → s ≡ []
  at_goal σ [] i o f = refl
  at_goal σ (t ∷ s) i o f = absurd (true≢false (sym f.0 ∙ F.final σ t i o))

  least_nil : (σ : M.State) (s : Schedule) → Inv σ → Goal σ → Fitting M fits Goal σ s → Least σ s []
  least_nil σ s i o f = (o, ap (run M σ) (sym (at_goal σ s i o f)), λ r h. inl (sym (at_goal σ r i o h)))

  least_cons : (σ : M.State) (s : Schedule) (t : ℕ) (g : Schedule) → Inv σ → fits σ t ≡ true → ((u : ℕ) → Memᴰ u M.names → u < t → fits σ u ≡ false) →
      (r : Schedule) → run M (M.step σ t) r ≡ run M σ s → Least (M.step σ t) r g → Least σ s (t ∷ g)
  least_cons σ s t g i e low r q b = ((e, b.0), run_cons M σ t g ∙ b.1 ∙ q, more)
    where
      more : (z : Schedule) → Fitting M fits Goal σ z → AtMost (t ∷ g) z
      more [] h = absurd (true≢false (sym e ∙ F.final σ t i h))
      more (a ∷ z) h = go (compared t a)
        where
          go : Compared t a → AtMost (t ∷ g) (a ∷ z)
          go (below k) = inr (less_heads t a g z k)
          go (same k) = subst (λ (x : ℕ). AtMost (t ∷ g) (x ∷ z)) k (at_most_front t g z (b.2 z (subst (λ (x : ℕ). Fitting M fits Goal (M.step σ x) z) (sym k) h.1)))
          go (above k) = absurd (true≢false (sym h.0 ∙ low a (F.named σ a i h.0) k))

  -- GREEDY IS LEAST
  pub greedy_least : (k : ℕ) (σ : M.State) (s : Schedule) → length s ≤ k → Inv σ → Fitting M fits Goal σ s → Least σ s (greedy M fits k σ)
  unfolding greedy
  greedy_least zero σ [] h i f = least_nil σ [] i f f
  greedy_least zero σ (a ∷ s) h i f = absurd (omega arith)
  greedy_least (suc k) σ s h i f = go (find (fits σ) M.names) (find_is (fits σ) M.names F.ascending) refl s h f (λ τ r j q w. greedy_least k τ r j q w)
    where
      go : (o : Option ℕ) → FindIs (fits σ) M.names o → find (fits σ) M.names ≡ o → (s : Schedule) → length s ≤ suc k → Fitting M fits Goal σ s →
          ((τ : M.State) (r : Schedule) → length r ≤ k → Inv τ → Fitting M fits Goal τ r → Least τ r (greedy M fits k τ)) → Least σ s (greedy M fits (suc k) σ)
      go o (nowhere low) q [] h f ih = rw (q, greedy) (least_nil σ [] i f f)
      go o (nowhere low) q (a ∷ s) h f ih = absurd (true≢false (sym f.0 ∙ low a (F.named σ a i f.0)))
      go o (found_at {t = t} m e low) q s h f ih =
          let r = F.front σ t s i e f in
          rw (q, greedy) (least_cons σ s t (greedy M fits k (M.step σ t)) i e low r.0 r.3 (ih (M.step σ t) r.0 (omega (arith, r.1)) (F.kept σ t i e) r.2))

  -- all such lists end in one state
  pub one_end : (σ : M.State) (s r : Schedule) → Inv σ → Fitting M fits Goal σ s → Fitting M fits Goal σ r → run M σ s ≡ run M σ r
  one_end σ s r i f g = sym (greedy_least (length s + length r) σ s (omega arith) i f).1 ∙ (greedy_least (length s + length r) σ r (omega arith) i g).1

-- where fitting bytes commute and stay fitting, a fitting byte can be taken first
module _ (M : System) (fits : M.State → ℕ → Bool) (Goal Inv : M.State → Type 0)
    (kept : (σ : M.State) (t : ℕ) → Inv σ → fits σ t ≡ true → Inv (M.step σ t))
    (final : (σ : M.State) (t : ℕ) → Inv σ → Goal σ → fits σ t ≡ false)
    (commute : (σ : M.State) (a b : ℕ) → Inv σ → a ≢ b → fits σ a ≡ true → fits σ b ≡ true → M.step (M.step σ a) b ≡ M.step (M.step σ b) a)
    (stays : (σ : M.State) (a b : ℕ) → Inv σ → a ≢ b → fits σ a ≡ true → fits σ b ≡ true → fits (M.step σ a) b ≡ true) where
  abbrev Front : M.State → ℕ → Schedule → Type 0
  Front σ t s = (r : Schedule) × (length s ≡ suc (length r)) × Fitting M fits Goal (M.step σ t) r × (run M (M.step σ t) r ≡ run M σ s)

  commuting_front : (σ : M.State) (t : ℕ) (s : Schedule) → Inv σ → fits σ t ≡ true → Fitting M fits Goal σ s → Front σ t s
  commuting_front σ t [] i e f = absurd (true≢false (sym e ∙ final σ t i f))
  commuting_front σ t (a ∷ s) i e f = go (ℕ_discrete a t) (λ ne. commuting_front (M.step σ a) t s (kept σ a i f.0) (stays σ a t i ne f.0 e) f.1)
    where
      go : Dec (a ≡ t) → ((a ≢ t) → Front (M.step σ a) t s) → Front σ t (a ∷ s)
      go (yes q) ih = (s, refl, subst (λ (x : ℕ). Fitting M fits Goal (M.step σ x) s) q f.1, ap (λ (x : ℕ). run M (M.step σ x) s) (sym q) ∙ sym (run_cons M σ a s))
      go (no ne) ih =
          let r = ih ne in
          let c = commute σ a t i ne f.0 e in (
            a ∷ r.0,
            ap suc r.1,
            (stays σ t a i (Ne-symm ne) e f.0, subst (λ (τ : M.State). Fitting M fits Goal τ r.0) c r.2),
            run_cons M (M.step σ t) a r.0 ∙ ap (λ (τ : M.State). run M τ r.0) (sym c) ∙ r.3 ∙ sym (run_cons M σ a s),
          )

  pub commuting : Ascends ltb M.names → ((σ : M.State) (t : ℕ) → Inv σ → fits σ t ≡ true → Memᴰ t M.names) → GreedyLaws M fits Goal Inv
  commuting a n = record { ascending = a; named = n; kept = kept; final = final; front = commuting_front }
