-- Any order of a run's actions that keeps dependent ones in order is a full schedule with the same end, and `least_order` is the least.
use mathlib.Core.Path.{◌≡◌, refl, sym, ap, ap₂, subst, ◌∙◌}
use mathlib.Core.Logic.{◌≢◌, ⊎_elim}
use mathlib.Core.Bool.{Bool, true, false}
use mathlib.Core.Option.{some}
use mathlib.Core.List.Memᴰ
use mathlib.Core.List.{List, [], ◌∷◌, Memᴰ}
use Prim.Native.Nat.{ℕ, suc}
use native.Mathlib.Omega.{arith}
use native.Mathlib.Decide.{ℕ_discrete}
use lib.Dec.{ltb}
use lib.ListN.{length}
use Rattle.spec_file.specs.Lists.{Ascends}
use Rattle.spec_schedules.specs.Order.{Schedule}
use Rattle.spec_schedules.specs.System.{System, Lawful, run, FullFrom}
use Rattle.spec_schedules.specs.Orders.{trace, next_of, clear, take_out, OrderOf}
use Rattle.spec_schedules.proofs.Front.{Commute}
use Rattle.spec_schedules.proofs.Remaining.{out_same, out_other, next_same, next_other, clear_same, clear_other, ready_at, at_ready}

-- at a step system whose steps are noted: independent steps can be turned round, and both actions stay what they are
module _ (M : System) (L : Lawful M) (asc : Ascends ltb M.names) {D : Type 0} (who : D → ℕ) (dependent : D → D → Bool) (act : M.State → ℕ → D)
    (by : (σ : M.State) (t : ℕ) → who (act σ t) ≡ t)
    (swap : (σ : M.State) (a t : ℕ) → a ≢ t → M.enabled σ a ≡ true → M.enabled (M.step σ a) t ≡ true → dependent (act σ a) (act (M.step σ a) t) ≡ false →
    Commute M σ a t × (act (M.step σ a) t ≡ act σ t) × (act (M.step σ t) a ≡ act σ a)) where
  -- the first step of t, if it waits for none, can be taken first
  abbrev Pulled : M.State → Schedule → ℕ → D → Type 0
  Pulled σ w t d = (r : Schedule) × FullFrom M σ (t ∷ r) × (run M σ (t ∷ r) ≡ run M σ w) × (trace M act (M.step σ t) r ≡ take_out who dependent (trace M act σ w) t) × (act σ t ≡ d)

  pub pulled : (w : Schedule) (σ : M.State) (t : ℕ) (d : D) → FullFrom M σ w → next_of who dependent (trace M act σ w) t ≡ some d → clear who dependent (trace M act σ w) t d ≡ true → Pulled σ w t d
  unfolding trace next_of run
  pulled [] σ t d f e c = absurd (let z : ◌≡◌ {A = ℕ} 0 1 = cc in omega arith)
  pulled (a ∷ w) σ t d f e c = go (ℕ_discrete a t) (λ q r. pulled w (M.step σ a) t d f.1 q r)
    where
      T : List D
      T = trace M act (M.step σ a) w

      there : a ≢ t → dependent (act σ a) d ≡ false → Pulled (M.step σ a) w t d → Pulled σ (a ∷ w) t d
      there ne m p =
          let s = swap σ a t ne f.0 p.1.0 (subst (λ (x : D). dependent (act σ a) x ≡ false) (sym p.4) m) in
          let c = s.0 in (
            a ∷ p.0,
            (c.0, (c.1, subst (λ (τ : M.State). FullFrom M τ p.0) c.2 p.1.1)),
            ap (λ (τ : M.State). run M τ p.0) (sym c.2) ∙ p.2,
            ap₂ {C = List D} (λ x y. x ∷ y) s.2 (ap (λ (τ : M.State). trace M act τ p.0) (sym c.2) ∙ p.3) ∙ sym (out_other who dependent (act σ a) T t (λ q. ne (sym (by σ a) ∙ q))),
            sym s.1 ∙ p.4,
          )

      go : Dec (a ≡ t) → (next_of who dependent T t ≡ some d → clear who dependent T t d ≡ true → Pulled (M.step σ a) w t d) → Pulled σ (a ∷ w) t d
      go (yes q) ih =
          let k = by σ a ∙ q in
          let i : act σ a ≡ d = let z : some (act σ a) ≡ some d = sym (next_same who dependent (act σ a) T t k) ∙ e in cc in (
            w,
            subst (λ (x : ℕ). FullFrom M σ (x ∷ w)) q f,
            ap (λ (x : ℕ). run M (M.step σ x) w) (sym q),
            ap (λ (x : ℕ). trace M act (M.step σ x) w) (sym q) ∙ sym (out_same who dependent (act σ a) T t k),
            ap (act σ) (sym q) ∙ i,
          )
      go (no ne) ih =
          let k : who (act σ a) ≢ t = λ q. ne (sym (by σ a) ∙ q) in
          let r = clear_other who dependent (act σ a) T t d k c in
          there ne r.0 (ih (sym (next_other who dependent (act σ a) T t k) ∙ e) r.1)

  -- EVERY ORDER of a full schedule's actions that keeps dependent ones in order is a full schedule with the same end
  pub order_full : (v w : Schedule) (σ : M.State) → FullFrom M σ w → OrderOf who dependent M.names (trace M act σ w) v → FullFrom M σ v × (run M σ v ≡ run M σ w)
  unfolding trace run
  order_full [] [] σ f o = (f, refl)
  order_full [] (a ∷ w) σ f o = absurd (let z : ◌≡◌ {A = ℕ} 0 1 = cc in omega arith)
  order_full (t ∷ v) w σ f o =
      let k = ready_at who dependent (trace M act σ w) t o.0 in
      let p = pulled w σ t k.0 f k.1 k.2 in
      let r = order_full v p.0 (M.step σ t) p.1.1 (subst (λ (ds : List D). OrderOf who dependent M.names ds v) (sym p.3) o.1) in
      ((p.1.0, r.0), r.1 ∙ p.2)

  -- a run's own order is an order of its actions
  pub own_order : (w : Schedule) (σ : M.State) → OrderOf who dependent M.names (trace M act σ w) w
  unfolding trace
  own_order [] σ = refl
  own_order (a ∷ w) σ =
      let T = trace M act (M.step σ a) w in (
        at_ready who dependent (act σ a ∷ T) a (act σ a) (next_same who dependent (act σ a) T a (by σ a)) (clear_same who dependent (act σ a) T a (act σ a) (by σ a)),
        subst (λ (ds : List D). OrderOf who dependent M.names ds w) (sym (out_same who dependent (act σ a) T a (by σ a))) (own_order w (M.step σ a)),
      )

  pub length_trace : (w : Schedule) (σ : M.State) → length (trace M act σ w) ≡ length w
  unfolding trace
  length_trace [] σ = refl
  length_trace (a ∷ w) σ = ap suc (length_trace w (M.step σ a))

  pub trace_named : (w : Schedule) (σ : M.State) → FullFrom M σ w → (d : D) → Memᴰ d (trace M act σ w) → Memᴰ (who d) M.names
  unfolding trace
  trace_named [] σ f d m = absurd (Memᴰ.not-nil m)
  trace_named (a ∷ w) σ f d m = ⊎_elim (λ (e : d ≡ act σ a). subst (λ (x : ℕ). Memᴰ x M.names) (sym (ap who e ∙ by σ a)) (L.named σ a f.0))
      (λ (k : Memᴰ d (trace M act (M.step σ a) w)). trace_named w (M.step σ a) f.1 d k) (Memᴰ.cases_cons m)
