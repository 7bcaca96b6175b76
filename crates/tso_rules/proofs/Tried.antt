-- R1, R2 and R2 far as the code asks them: one law for each answer.
use Prim.Native.Nat.{ℕ, ◌+◌, ◌<◌, ◌≤◌}
use mathlib.Core.Path.{◌≡◌, refl, sym, ap, ap₂, ◌∙◌}
use mathlib.Core.Bool.{Bool, true, false, not, ◌&&◌}
use mathlib.Core.List.{List, Memᴰ}
use native.Mathlib.Omega.{arith}
use lib.Dec.{eqb}
use lib.ListN.{get_or}
use Rattle.spec_file.specs.Program.{Program}
use Rattle.spec_file.proofs.DigitValues.{both}
use Rattle.spec_file.proofs.Tests.{equal_tests}
use Rattle.spec_schedules.specs.Lists.{range, any}
use Rattle.spec_schedules.specs.Order.{Schedule}
use Rattle.spec_schedules.proofs.Lists.{of_range, any_yes, any_of}
use Rattle.spec_model.specs.Exchange.{together}
use Rattle.spec_schedules.specs.Sets.{has}
use Rattle.spec_tso.specs.State.{State, access, move, owner, byte_for, enabled}
use Rattle.spec_tso.specs.Graph.{end_of}
use Rattle.spec_tso.specs.Actions.{action}
use Rattle.spec_tso.proofs.Bytes.{ByteCase, of_access, of_move, byte_case, kind_low, owner_for}
use Rattle.spec_tso.proofs.Steps.{enabled_small}
use Rattle.theory_tso.specs.Rules.{late, taken, twin}
use Rattle.theory_tso.specs.Far.{far}
use Rattle.theory_tso.proofs.Far.{far_access}
use Rattle.theory_search.specs.LateSet.{back_at}
use Rattle.theory_tso.specs.LateBytes.{late_at, far_at}
use Rattle.theory_tso.proofs.TwinWords.{twin_by_word_lem}
use Rattle.tso_place.specs.Reached.{Reached}
use Rattle.tso_place.specs.declared.place.Place as Held
use Rattle.theory_sc.proofs.Sets.{has_none}
use Rattle.tso_order.specs.declared.sets.Sets.{Sets}
use Rattle.tso_order.proofs.Choices.{bytes_has}
use Rattle.tso_rules.specs.Tried.{tried}

any_same : (f g : ℕ → Bool) (l : List ℕ) → ((u : ℕ) → Memᴰ u l → f u ≡ g u) → any f l ≡ any g l
any_same f g l e = equal_tests (any f l) (any g l)
    (λ q. let r = any_yes f l q in any_of g l r.0 r.1 (sym (e r.0 r.1) ∙ r.2)) (λ q. let r = any_yes g l q in any_of f l r.0 r.1 (e r.0 r.1 ∙ r.2))

-- ---- the answers: whether it may step, is late, is far, and has a smaller twin
module _ (p : Program) (v : Schedule) (b : ℕ) where
  pub not_enabled : enabled (end_of p v) b ≡ false → false ≡ tried p v b
  unfolding tried
  not_enabled e = sym (rw e)

  free_is : (m l f w : Bool) → enabled (end_of p v) b ≡ m → late_at p v b ≡ l → (m ≡ true → far p v (end_of p v) b ≡ f) → any (twin p (end_of p v) (owner b)) (range 0 (owner b)) ≡ w
      → ((m && (not l && not f)) && not w) ≡ tried p v b
  unfolding tried back_at
  free_is false l f w em el ef ew = not_enabled em
  free_is true true f w em el ef ew = let y = (both (enabled (end_of p v) b) _ el).1 in sym (rw (em, y))
  free_is true false f w em el ef ew =
      let y : late (taken p v) (action (end_of p v) b) ≡ false = sym (ap (λ (x : Bool). x && late (taken p v) (action (end_of p v) b)) em) ∙ el in
      sym (rw (em, y, ef refl, ew) (turned (not w) (not f)))
    where
      turned : (x y : Bool) → (x && y) ≡ (y && x)
      turned true true = refl
      turned true false = refl
      turned false true = refl
      turned false false = refl

module _ (code lengths class : List ℕ) (threads groups : ℕ) (x : Held.Place) (p : Program) (v : Schedule) (r : Reached code lengths class threads groups x p v) (t : ℕ) (h : t < 6) where
  twins : any (λ u. together p.groups u t && eqb (get_or x.words u 0) (get_or x.words t 0)) (range 0 t) ≡ any (twin p (end_of p v) t) (range 0 t)
  twins = any_same (λ u. together p.groups u t && eqb (get_or x.words u 0) (get_or x.words t 0)) (twin p (end_of p v) t) (range 0 t) (λ u m.
      let i = (of_range 0 t u m).1 in
      ap₂ (λ (y z : ℕ). together p.groups u t && eqb y z) (r.words u (omega (arith, i, h))) (r.words t h)
      ∙ twin_by_word_lem p r.loaded.well_formed r.few v r.allowed u t (λ q. omega (arith, i, q)) (omega (arith, i, h)) h)

  pub live_has : (s : ℕ) → x.sets.live ≡ s → has s t ≡ enabled (end_of p v) t
  unfolding byte_for
  live_has s e = ap (λ (i : ℕ). has i t) (sym e ∙ r.sets.live) ∙ bytes_has (enabled (end_of p v)) access t h

  pub late_has : (s : ℕ) → x.sets.late ≡ s → has s t ≡ late_at p v t
  unfolding byte_for
  late_has s e = ap (λ (i : ℕ). has i t) (sym e ∙ r.sets.late) ∙ bytes_has (late_at p v) access t h

  pub moving_has : (s : ℕ) → x.sets.moving ≡ s → has s t ≡ enabled (end_of p v) (t + 16)
  unfolding byte_for
  moving_has s e = ap (λ (i : ℕ). has i t) (sym e ∙ r.sets.moving) ∙ bytes_has (enabled (end_of p v)) move t h

  pub overdue_has : (s : ℕ) → x.sets.overdue ≡ s → has s t ≡ late_at p v (t + 16)
  unfolding byte_for
  overdue_has s e = ap (λ (i : ℕ). has i t) (sym e ∙ r.sets.overdue) ∙ bytes_has (late_at p v) move t h

  pub far_has : (s : ℕ) → x.sets.far ≡ s → has s t ≡ far_at p v (t + 16)
  unfolding byte_for
  far_has s e = ap (λ (i : ℕ). has i t) (sym e ∙ r.sets.far) ∙ bytes_has (far_at p v) move t h

  abbrev shares : List ℕ → Bool
  shares ws = any (λ u. together p.groups u t && eqb (get_or ws u 0) (get_or ws t 0)) (range 0 t)

  by_twins : (b : ℕ) → owner b ≡ t → (ws : List ℕ) → x.words ≡ ws → any (twin p (end_of p v) (owner b)) (range 0 (owner b)) ≡ shares ws
  by_twins b e ws ew = ap (λ (i : ℕ). any (twin p (end_of p v) i) (range 0 i)) e ∙ sym twins ∙ ap shares ew

  module _ (s : Sets) (es : x.sets ≡ s) (ws : List ℕ) (ew : x.words ≡ ws) where
    pub access_free : ((has s.live t && (not (has s.late t) && not (has 0 t))) && not (any (λ u. together p.groups u t && eqb (get_or ws u 0) (get_or ws t 0)) (range 0 t))) ≡ tried p v t
    unfolding byte_for
    access_free = free_is p v t (has s.live t) (has s.late t) (has 0 t) (shares ws)
        (sym (live_has s.live (ap (λ (y : Sets). y.live) es))) (sym (late_has s.late (ap (λ (y : Sets). y.late) es)))
        (λ e. far_access p v t (kind_low t (omega (arith, h))) ∙ sym (has_none t)) (by_twins t (owner_for access t (omega (arith, h))) ws ew)

    pub move_free : ((has s.moving t && (not (has s.overdue t) && not (has s.far t))) && not (any (λ u. together p.groups u t && eqb (get_or ws u 0) (get_or ws t 0)) (range 0 t))) ≡ tried p v (t + 16)
    unfolding byte_for back_at far
    move_free =
        let may = moving_has s.moving (ap (λ (y : Sets). y.moving) es) in
        free_is p v (t + 16) (has s.moving t) (has s.overdue t) (has s.far t) (shares ws)
        (sym may) (sym (overdue_has s.overdue (ap (λ (y : Sets). y.overdue) es)))
        (λ e. sym (ap (λ (y : Bool). y && far p v (end_of p v) (t + 16)) (sym may ∙ e)) ∙ sym (far_has s.far (ap (λ (y : Sets). y.far) es))) (by_twins (t + 16) (owner_for move t (omega (arith, h))) ws ew)

-- a byte of no thread
pub nobody : (σ : State) (b : ℕ) → (owner b < 6 → ⊥) → enabled σ b ≡ false
nobody σ b n = go (enabled σ b) refl
  where
    go : (y : Bool) → enabled σ b ≡ y → enabled σ b ≡ false
    go true e = absurd (n (enabled_small σ b e))
    go false e = e

pub low_nobody : (b : ℕ) → 6 ≤ b → b < 16 → owner b < 6 → ⊥
low_nobody b h l o = go (byte_case b)
  where
    go : ByteCase b → ⊥
    go (of_access i k e) = omega (arith, h, o, e)
    go (of_move i k e) = omega (arith, l, i)

pub high_nobody : (b : ℕ) → 22 ≤ b → owner b < 6 → ⊥
high_nobody b h o = go (byte_case b)
  where
    go : ByteCase b → ⊥
    go (of_access i k e) = omega (arith, h, i)
    go (of_move i k e) = omega (arith, h, o, e)
