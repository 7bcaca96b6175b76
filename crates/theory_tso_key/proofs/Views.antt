-- STATES OF WHICH THE SAME IS SEEN: the same bytes may step, and do the same but for numbers; the same are unwoken, and the same is seen behind a step.
use Prim.Native.Nat.{ℕ}
use mathlib.Core.Path.{◌≡◌, refl, sym, ap, ap₂, subst, ◌∙◌}
use mathlib.Core.Bool.{Bool, true, false, not, ◌&&◌, ◌||◌}
use mathlib.Core.Option.{Option}
use mathlib.Core.List.{List, [], ◌∷◌, map}
use native.Mathlib.Decide.{ℕ_discrete}
use lib.Dec.{eqb, ltb}
use lib.ListN.{length, length-map, get_or, set, get_or-map}
use Rattle.spec_schedules.specs.Lists.{all, range}
use Rattle.spec_sc.specs.State.{fresh_cell, value_of}
use Rattle.spec_sc.specs.Actions.{given}
use Rattle.spec_sc.proofs.Exchange.{map_set}
use Rattle.spec_tso.specs.State.{Thread, State, Kind, access, move, thread_of, cell_of, target, number_of, reaches, thread_behind, cell_behind, place, step_of, able, kind_of, owner, step, enabled}
use Rattle.spec_tso.specs.Actions.{moving, locking}
use Rattle.spec_tso.proofs.Steps.{enabled_able, able_range, able_pending, thread_own, thread_other, putting}
use Rattle.theory_tso.specs.Rules.{fears, wakes, unwoken}
use Rattle.theory_tso.specs.Deeds.{looking, deed_of, deed}
use Rattle.theory_tso.specs.declared.deed.Deed.{Deed}
use Rattle.theory_tso_key.specs.Views.{Alike, SameView, breaks_by, breaks}
use Rattle.theory_tso_key.proofs.Threads.{able_alike, target_alike, locking_alike, looking_alike, fears_alike, wakes_alike, reaches_alike, behind_alike, cell_alike, failing_alike, alike_back}

pub view_back : (σ τ : State) → SameView σ τ → SameView τ σ
view_back σ τ same = record { threads = λ t. alike_back (thread_of σ t) (thread_of τ t) (same.threads t); memory = sym same.memory }

-- what a step does, with another number
unfoldable pub renumbered : ℕ → Deed → Deed
renumbered n d = record { thread = d.thread; number = n; location = d.location; moves = d.moves; locks = d.locks; looks = d.looks; puts = d.puts }

module _ (σ τ : State) (same : SameView σ τ) where
  as_many : length σ.cells ≡ length τ.cells
  as_many = sym (length-map σ.cells value_of) ∙ ap length same.memory ∙ length-map τ.cells value_of

  value_at : (l : ℕ) → (cell_of σ l).value ≡ (cell_of τ l).value
  unfolding cell_of value_of fresh_cell
  value_at l = sym (get_or-map value_of σ.cells l (fresh_cell 0)) ∙ ap (λ (vs : List ℕ). get_or vs l 0) same.memory ∙ get_or-map value_of τ.cells l (fresh_cell 0)

  -- ---- A STEP of kind k of thread t
  module _ (k : Kind) (t : ℕ) where
    able_view : able k (thread_of σ t) (length σ.cells) ≡ able k (thread_of τ t) (length τ.cells)
    able_view = able_alike (thread_of σ t) (thread_of τ t) (same.threads t) k (length σ.cells) ∙ ap (able k (thread_of τ t)) as_many

    pub place_view : place σ k t ≡ place τ k t
    unfolding place
    place_view = target_alike (thread_of σ t) (thread_of τ t) (same.threads t) k

    meets : (cell_of σ (place σ k t)).value ≡ (cell_of τ (place τ k t)).value
    meets = value_at (place σ k t) ∙ ap (λ (l : ℕ). (cell_of τ l).value) place_view

    pub putting_view : putting σ k t ≡ putting τ k t
    putting_view = reaches_alike (thread_of σ t) (thread_of τ t) (same.threads t) t t (cell_of σ (place σ k t)) (cell_of τ (place τ k t)) meets k

    -- its location behind it, and its thread
    memory_behind : map value_of (step_of σ k t).cells ≡ map value_of (step_of τ k t).cells
    unfolding step_of
    memory_behind =
        sym (map_set value_of σ.cells (place σ k t) (cell_behind k t (thread_of σ t) (cell_of σ (place σ k t))))
        ∙ ap₂ (λ (l x : ℕ). set (map value_of σ.cells) l x) place_view (cell_alike (thread_of σ t) (thread_of τ t) (same.threads t) t t (cell_of σ (place σ k t)) (cell_of τ (place τ k t)) meets k)
        ∙ ap (λ (vs : List ℕ). set vs (place τ k t) (value_of (cell_behind k t (thread_of τ t) (cell_of τ (place τ k t))))) same.memory
        ∙ map_set value_of τ.cells (place τ k t) (cell_behind k t (thread_of τ t) (cell_of τ (place τ k t)))

    thread_behind_lem : able k (thread_of σ t) (length σ.cells) ≡ true → (u : ℕ) → Dec (u ≡ t) → Alike (thread_of (step_of σ k t) u) (thread_of (step_of τ k t) u)
    thread_behind_lem m u (no ne) =
        let both : thread_of (step_of σ k t) u ≡ thread_of σ u = thread_other σ k t u ne in
        subst (λ (h : Thread). Alike h (thread_of (step_of τ k t) u)) (sym both) (subst (Alike (thread_of σ u)) (sym (thread_other τ k t u ne)) (same.threads u))
    thread_behind_lem m u (yes q) =
        let mine = thread_own σ k t (able_range σ k t (length σ.cells) m) in
        let theirs = thread_own τ k t (able_range τ k t (length τ.cells) (sym able_view ∙ m)) in
        let alike = behind_alike (thread_of σ t) (thread_of τ t) (same.threads t) t t (cell_of σ (place σ k t)) (cell_of τ (place τ k t)) meets k in
        subst (λ (i : ℕ). Alike (thread_of (step_of σ k t) i) (thread_of (step_of τ k t) i)) (sym q)
        (subst (λ (h : Thread). Alike h (thread_of (step_of τ k t) t)) (sym mine) (subst (Alike (thread_behind k t (thread_of σ t) (cell_of σ (place σ k t)))) (sym theirs) alike))

  -- ---- THE STEP OF A BYTE
  pub enabled_view : (b : ℕ) → enabled σ b ≡ enabled τ b
  unfolding enabled
  enabled_view b = ap (λ (x : Bool). ltb (owner b) 6 && x) (able_view (kind_of b) (owner b))

  pub deed_view : (b : ℕ) → deed σ b ≡ renumbered (deed σ b).number (deed τ b)
  unfolding deed deed_of renumbered
  deed_view b =
      let k = kind_of b in
      let h = thread_of σ (owner b) in
      let i = thread_of τ (owner b) in
      let a = same.threads (owner b) in
      let made : ℕ → Bool → Bool → Bool → Deed = λ l x y z. record { thread = owner b; number = number_of (kind_of b) (thread_of σ (owner b)); location = l; moves = moving (kind_of b); locks = x; looks = y; puts = z } in
      ap₂ (λ (l : ℕ) (z : Bool). made l (locking k h) (looking k h) z) (target_alike h i a k) (ap given (putting_view k (owner b)))
      ∙ ap₂ (λ (x y : Bool). made (target k i) x y (given (putting τ k (owner b)))) (locking_alike h i a k) (looking_alike h i a k)

  pub breaks_view : (b : ℕ) → enabled σ b ≡ true → breaks σ b ≡ breaks τ b
  unfolding breaks breaks_by
  breaks_view b m = go (kind_of b) (enabled_able σ b m)
    where
      go : (k : Kind) → able k (thread_of σ (owner b)) (length σ.cells) ≡ true → breaks_by k σ (owner b) ≡ breaks_by k τ (owner b)
      go access e = let t = owner b in failing_alike (thread_of σ t) (thread_of τ t) (same.threads t) t t (cell_of σ (place σ access t)) (cell_of τ (place τ access t)) (meets access t)
          (able_pending (thread_of σ t) (length σ.cells) e)
      go move e = refl

  -- THE SAME IS SEEN BEHIND IT
  pub step_view : (b : ℕ) → enabled σ b ≡ true → SameView (step σ b) (step τ b)
  unfolding step
  step_view b m = record {
    threads = λ u. thread_behind_lem (kind_of b) (owner b) (enabled_able σ b m) u (ℕ_discrete u (owner b));
    memory = memory_behind (kind_of b) (owner b);
  }

  -- ---- WHO IS UNWOKEN
  all_view : (o : Option Bool) (l t : ℕ) (us : List ℕ) → all (λ u. eqb u t || not (wakes o l (thread_of σ u))) us ≡ all (λ u. eqb u t || not (wakes o l (thread_of τ u))) us
  unfolding all
  all_view o l t [] = refl
  all_view o l t (u ∷ us) = ap₂ (λ (x y : Bool). elim (eqb u t || not x) [ true ↦ y | false ↦ false ]) (wakes_alike (thread_of σ u) (thread_of τ u) (same.threads u) o l) (all_view o l t us)

  pub unwoken_view : (c : ℕ) → unwoken σ c ≡ unwoken τ c
  unfolding unwoken
  unwoken_view c =
      let t = owner c in
      all_view (fears (kind_of c) (thread_of σ t)) (place σ (kind_of c) t) t (range 0 6)
      ∙ ap₂ (λ (o : Option Bool) (l : ℕ). all (λ u. eqb u t || not (wakes o l (thread_of τ u))) (range 0 6)) (fears_alike (thread_of σ t) (thread_of τ t) (same.threads t) (kind_of c)) (place_view (kind_of c) t)
