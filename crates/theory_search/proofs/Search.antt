-- The search finds exactly the listed full schedules above the bound, in order, whatever is cut soundly.
use mathlib.Core.Path.{◌≡◌, refl, sym, ap, ap₂, subst, ◌∙◌}
use mathlib.Core.Bool.{Bool, true, false}
use mathlib.Core.Option.{Option, none, some}
use mathlib.Core.List.{List, [], ◌∷◌, ◌++◌, append_assoc, append-nil, map, map-append, flat_map, Memᴰ}
use Prim.Native.Nat.{ℕ, zero, suc, ◌+◌, ◌-◌, ◌<◌, ◌≤◌}
use native.Mathlib.Omega.{arith}
use native.Mathlib.Numerals.{sub-one}
use lib.Dec.{eqb, ltb, leb}
use borrow.Author.Tests.{eqb-true, eqb-false, leb-true, leb-false}
use Rattle.spec_schedules.specs.Lists.{range, both, filter}
use Rattle.spec_file.specs.Lists.{Ascends}
use Rattle.spec_schedules.specs.Order.{Schedule, less}
use Rattle.spec_schedules.specs.System.{System, Lawful, run, ended, Allowed, FullFrom}
use Rattle.spec_schedules.specs.Fulls.{fronts, branch, fulls_from, fulls}
use Rattle.theory_search.specs.Search.{low, past, SoundCut}
use Rattle.spec_schedules.specs.Found.{after}
use Rattle.theory_search.specs.Found.{concat_range, found_at, found_by, found_from}
use Rattle.spec_schedules.proofs.Order.{less_front, less_heads, more_heads, less_nil, nil_less}
use Rattle.spec_schedules.proofs.Lists.{both_false, in_range_lem, of_range, range_ascends, filter_yes, filter_no}
use Rattle.spec_schedules.proofs.Runs.{run_nil, run_snoc, full_join, allowed_join}
use Rattle.spec_schedules.proofs.Fulls.{of_fronts, branch_enabled, branch_not, fulls_ended, fulls_none, fulls_branch, fulls_sound, fulls_enough}
use Rattle.theory_search.proofs.Found.{by_not, by_cut, by_live, found_ended, found_stuck, found_branches}
use Rattle.spec_schedules.proofs.Kept.{filter_append, filter_none, filter_filter, flat_same, flat_two, flat_through}
use Rattle.theory_search.proofs.Kept.{concat_range_flat}

-- above the bound
unfoldable pub above : Option Schedule → Schedule → Bool
above none s = true
above (some b) s = less b s

-- the bound, one step on
above_past : (o : Option Schedule) (t : ℕ) (s : Schedule) → low o ≤ t → above o (t ∷ s) ≡ above (past o t) s
unfolding low past above
above_past none t s h = refl
above_past (some []) t s h = nil_less t s
above_past (some (b ∷ bs)) t s h = go (eqb b t) refl
  where
    go : (c : Bool) → eqb b t ≡ c → less (b ∷ bs) (t ∷ s) ≡ above (past (some (b ∷ bs)) t) s
    go true e = rw (e, past) (ap (λ (x : ℕ). less (b ∷ bs) (x ∷ s)) (sym (eqb-true b t e)) ∙ less_front b bs s)
    go false e = let ne = eqb-false b t e in rw (e, past) (less_heads b t bs s (omega (arith, ne)))

-- below the bound nothing is above it
above_low : (o : Option Schedule) (t : ℕ) (s : Schedule) → t < low o → above o (t ∷ s) ≡ false
unfolding low above
above_low none t s h = absurd (omega arith)
above_low (some []) t s h = absurd (omega arith)
above_low (some (b ∷ bs)) t s h = more_heads b t bs s h

module _ (M : System) (top : ℕ) (cut : Schedule → M.State → ℕ → Bool) (listed : Schedule → Bool) where
  -- what is looked for behind the prefix v
  unfoldable pub good : Option Schedule → Schedule → Schedule → Bool
  good o v s = both (above o s) (listed (v ++ s))

  good_step : (o : Option Schedule) (v : Schedule) (t : ℕ) (s : Schedule) → low o ≤ t → good (past o t) (v ++ (t ∷ [])) s ≡ good o v (t ∷ s)
  unfolding good
  good_step o v t s h = ap₂ both (sym (above_past o t s h)) (ap listed (append_assoc v (t ∷ []) s))

  good_low : (o : Option Schedule) (v : Schedule) (t : ℕ) (s : Schedule) → t < low o → good o v (t ∷ s) ≡ false
  unfolding good both
  good_low o v t s h = ap (λ (b : Bool). both b (listed (v ++ (t ∷ s)))) (above_low o t s h)

  good_unlisted : (o : Option Schedule) (v s : Schedule) → listed (v ++ s) ≡ false → good o v s ≡ false
  unfolding good
  good_unlisted o v s e = ap (both (above o s)) e ∙ both_false (above o s)

  -- behind the beginning v, those that are looked for
  unfoldable picked : Option Schedule → Schedule → List Schedule → List Schedule
  picked o v l = map (λ s. v ++ s) (filter (good o v) l)

  picked_nil : (o : Option Schedule) (v : Schedule) → picked o v [] ≡ []
  unfolding picked filter
  picked_nil o v = refl

  picked_append : (o : Option Schedule) (v : Schedule) (a b : List Schedule) → picked o v (a ++ b) ≡ picked o v a ++ picked o v b
  unfolding picked
  picked_append o v a b = ap (map (λ s. v ++ s)) (filter_append (good o v) a b) ∙ map-append (λ s. v ++ s) (filter (good o v) a) (filter (good o v) b)

  picked_none : (o : Option Schedule) (v : Schedule) (l : List Schedule) → ((s : Schedule) → Memᴰ s l → good o v s ≡ false) → picked o v l ≡ []
  unfolding picked
  picked_none o v l h = ap (map (λ s. v ++ s)) (filter_none (good o v) l h)

  -- one step on
  picked_fronts : (o : Option Schedule) (v : Schedule) (t : ℕ) (l : List Schedule) → low o ≤ t → picked (past o t) (v ++ (t ∷ [])) l ≡ picked o v (fronts t l)
  unfolding picked fronts filter
  picked_fronts o v t [] h = refl
  picked_fronts o v t (s ∷ l) h = go (good o v (t ∷ s)) refl (picked_fronts o v t l h)
    where
      go : (b : Bool) → good o v (t ∷ s) ≡ b → picked (past o t) (v ++ (t ∷ [])) l ≡ picked o v (fronts t l) → picked (past o t) (v ++ (t ∷ [])) (s ∷ l) ≡ picked o v (fronts t (s ∷ l))
      go true e ih =
          ap (map (λ s. (v ++ (t ∷ [])) ++ s)) (filter_yes (good (past o t) (v ++ (t ∷ []))) s l (good_step o v t s h ∙ e))
          ∙ ap₂ {C = List Schedule} (λ x xs. x ∷ xs) (append_assoc v (t ∷ []) s) ih
          ∙ sym (ap (map (λ s. v ++ s)) (filter_yes (good o v) (t ∷ s) (fronts t l) e))
      go false e ih =
          ap (map (λ s. (v ++ (t ∷ [])) ++ s)) (filter_no (good (past o t) (v ++ (t ∷ []))) s l (good_step o v t s h ∙ e))
          ∙ ih ∙ sym (ap (map (λ s. v ++ s)) (filter_no (good o v) (t ∷ s) (fronts t l) e))

  -- at a full schedule
  at_is : (o : Option Schedule) (v : Schedule) → found_at M top cut listed o v ≡ picked o v ([] ∷ [])
  unfolding found_at picked filter good both above
  at_is none v = go (listed v) refl
    where
      go : (c : Bool) → listed v ≡ c → found_at M top cut listed none v ≡ picked none v ([] ∷ [])
      go true e = rw (append-nil, e, found_at, filter) (ap {B = List Schedule} (λ x. x ∷ []) (sym (append-nil v)))
      go false e = rw (append-nil, e, found_at, filter)
  at_is (some b) v = sym (ap (map (λ s. v ++ s)) (filter_no (good (some b) v) [] [] (ap (λ (c : Bool). both c (listed (v ++ []))) (less_nil b))))

  -- what lies behind the step t
  unfoldable behind : (M.State → List Schedule) → M.State → ℕ → List Schedule
  behind F σ t = elim (M.enabled σ t) [ true ↦ fronts t (F (M.step σ t)) | false ↦ [] ]

  behind_enabled : (F : M.State → List Schedule) (σ : M.State) (t : ℕ) → M.enabled σ t ≡ true → behind F σ t ≡ fronts t (F (M.step σ t))
  unfolding behind
  behind_enabled F σ t e = rw (e, behind)

  behind_not : (F : M.State → List Schedule) (σ : M.State) (t : ℕ) → M.enabled σ t ≡ false → behind F σ t ≡ []
  unfolding behind
  behind_not F σ t e = rw (e, behind)

  branch_flat : (F : M.State → List Schedule) (σ : M.State) (ts : List ℕ) → branch M F σ ts ≡ flat_map (behind F σ) ts
  unfolding branch flat_map
  branch_flat F σ [] = refl
  branch_flat F σ (t ∷ ts) = go (M.enabled σ t) refl (branch_flat F σ ts)
    where
      go : (b : Bool) → M.enabled σ t ≡ b → branch M F σ ts ≡ flat_map (behind F σ) ts → branch M F σ (t ∷ ts) ≡ behind F σ t ++ flat_map (behind F σ) ts
      go true e ih = branch_enabled M F σ t ts e ∙ ap₂ (λ (a b : List Schedule). a ++ b) (sym (behind_enabled F σ t e)) ih
      go false e ih = branch_not M F σ t ts e ∙ ih ∙ sym (ap (λ (a : List Schedule). a ++ flat_map (behind F σ) ts) (behind_not F σ t e))

  module _ (L : Lawful M) (asc : Ascends ltb M.names) (bounded : (σ : M.State) (t : ℕ) → M.enabled σ t ≡ true → t < top)
      (ρ : M.State) (sound : SoundCut M ρ cut listed) where
    -- the search stands at σ, behind the prefix v
    abbrev At : Schedule → M.State → Type 0
    At v σ = Allowed M ρ v × (run M ρ v ≡ σ)

    at_next : (v : Schedule) (σ : M.State) (t : ℕ) → At v σ → M.enabled σ t ≡ true → At (v ++ (t ∷ [])) (M.step σ t)
    at_next v σ t at e = (
      allowed_join M ρ v (t ∷ []) at.0 (ap (λ (τ : M.State). M.enabled τ t) at.1 ∙ e, tt),
      run_snoc M ρ v t ∙ ap (λ (τ : M.State). M.step τ t) at.1,
    )

    safe : (v : Schedule) (σ : M.State) (t : ℕ) (z : Schedule) → At v σ → cut v σ t ≡ true → M.enabled σ t ≡ true → FullFrom M (M.step σ t) z → listed (v ++ (t ∷ z)) ≡ false
    safe v σ t z at c e f = sound v t z (ap (λ (τ : M.State). cut v τ t) at.1 ∙ c) (full_join M ρ v (t ∷ z) at.0 (subst (λ (τ : M.State). FullFrom M τ (t ∷ z)) (sym at.1) (e, f)))

    abbrev Finds : ℕ → Type 0
    Finds k = (o : Option Schedule) (v : Schedule) (σ : M.State) → At v σ → found_from M top cut listed k o v σ ≡ picked o v (fulls_from M k σ)

    module _ (k : ℕ) (ih : Finds k) (o : Option Schedule) (v : Schedule) (σ : M.State) (at : At v σ) where
      abbrev F : M.State → List Schedule
      F τ = fulls_from M k τ

      abbrev on : Option Schedule → Schedule → M.State → List Schedule
      on = λ a b c. found_from M top cut listed k a b c

      abbrev child : ℕ → List Schedule
      child = found_by M top cut listed on o v σ

      child_is : (t : ℕ) → low o ≤ t → child t ≡ picked o v (behind F σ t)
      child_is t h = go (M.enabled σ t) refl (cut v σ t) refl
        where
          none_good : (x : Schedule) → cut v σ t ≡ true → M.enabled σ t ≡ true → Memᴰ x (fronts t (F (M.step σ t))) → good o v x ≡ false
          none_good x c e m =
              let r = of_fronts t x (F (M.step σ t)) m in
              rw r.1 (good_unlisted o v (t ∷ r.0) (safe v σ t r.0 at c e (fulls_sound M k (M.step σ t) r.0 r.2)))

          go : (b : Bool) → M.enabled σ t ≡ b → (c : Bool) → cut v σ t ≡ c → child t ≡ picked o v (behind F σ t)
          go false e c d = by_not M top cut listed on o v σ t e ∙ sym (ap (picked o v) (behind_not F σ t e) ∙ picked_nil o v)
          go true e true d =
              by_cut M top cut listed on o v σ t e d
              ∙ sym (ap (picked o v) (behind_enabled F σ t e) ∙ picked_none o v (fronts t (F (M.step σ t))) (λ x m. none_good x d e m))
          go true e false d =
              by_live M top cut listed on o v σ t e d ∙ ih (past o t) (v ++ (t ∷ [])) (M.step σ t) (at_next v σ t at e)
              ∙ picked_fronts o v t (F (M.step σ t)) h ∙ sym (ap (picked o v) (behind_enabled F σ t e))

      -- what has a member is among the names and among the bytes tried
      tried : (t : ℕ) → (picked o v (behind F σ t) ≡ [] → ⊥) → Memᴰ t (range (low o) (top - low o)) × Memᴰ t M.names
      tried t q = go (M.enabled σ t) refl (leb (low o) t) refl
        where
          go : (b : Bool) → M.enabled σ t ≡ b → (c : Bool) → leb (low o) t ≡ c → Memᴰ t (range (low o) (top - low o)) × Memᴰ t M.names
          go false e c d = absurd (q (ap (picked o v) (behind_not F σ t e) ∙ picked_nil o v))
          go true e true d = (in_range_lem (low o) (top - low o) t (leb-true (low o) t d) (omega (arith, bounded σ t e, leb-true (low o) t d)), L.named σ t e)
          go true e false d = absurd (q (ap (picked o v) (behind_enabled F σ t e) ∙ picked_none o v (fronts t (F (M.step σ t)))
              (λ y m. let r = of_fronts t y (F (M.step σ t)) m in rw r.1 (good_low o v t r.0 (leb-false (low o) t d)))))

      all_children : concat_range child (top - low o) (low o) ≡ picked o v (branch M F σ M.names)
      all_children =
          concat_range_flat child (top - low o) (low o)
          ∙ flat_same child (λ t. picked o v (behind F σ t)) (range (low o) (top - low o)) (λ t m. child_is t (of_range (low o) (top - low o) t m).0)
          ∙ flat_two (λ t. picked o v (behind F σ t)) (range (low o) (top - low o)) M.names (range_ascends (low o) (top - low o)) asc tried
          ∙ sym (flat_through (picked o v) (picked_nil o v) (picked_append o v) (behind F σ) M.names) ∙ ap (picked o v) (sym (branch_flat F σ M.names))

    -- behind any prefix: the listed completions above the bound
    finds : (k : ℕ) → Finds k
    finds zero o v σ at = go (ended M σ) refl
      where
        go : (b : Bool) → ended M σ ≡ b → found_from M top cut listed zero o v σ ≡ picked o v (fulls_from M zero σ)
        go true e = found_ended M top cut listed zero o v σ e ∙ at_is o v ∙ ap (picked o v) (sym (fulls_ended M zero σ e))
        go false e = found_stuck M top cut listed zero o v σ e refl ∙ sym (ap (picked o v) (fulls_none M σ e) ∙ picked_nil o v)
    finds (suc k) o v σ at = go (ended M σ) refl (finds k)
      where
        go : (b : Bool) → ended M σ ≡ b → Finds k → found_from M top cut listed (suc k) o v σ ≡ picked o v (fulls_from M (suc k) σ)
        go true e ih = found_ended M top cut listed (suc k) o v σ e ∙ at_is o v ∙ ap (picked o v) (sym (fulls_ended M (suc k) σ e))
        go false e ih =
            found_branches M top cut listed (suc k) o v σ e (omega arith)
            ∙ ap (λ (i : ℕ). concat_range (found_by M top cut listed (λ a b c. found_from M top cut listed i a b c) o v σ) (top - low o) (low o)) (sub-one (suc k))
            ∙ all_children k ih o v σ at ∙ ap (picked o v) (sym (fulls_branch M k σ e))

    picked_all : (o : Option Schedule) (l : List Schedule) → picked o [] l ≡ filter (good o []) l
    unfolding picked
    picked_all o l = map_id (filter (good o []) l)
      where
        map_id : (k : List Schedule) → map (λ (s : Schedule). s) k ≡ k
        map_id [] = refl
        map_id (x ∷ k) = ap {B = List Schedule} (λ r. x ∷ r) (map_id k)

    root_good : (o : Option Schedule) (l : List Schedule) → filter (good o []) l ≡ after o (filter listed l)
    unfolding after good both above
    root_good none l = refl
    root_good (some b) l = sym (filter_filter listed (less b) l)

    -- THE SEARCH from the root finds the listed ones among all full schedules that are above the bound, in order
    pub found_above : (k : ℕ) (o : Option Schedule) → M.size ρ ≤ k → found_from M top cut listed k o [] ρ ≡ after o (filter listed (fulls M ρ))
    found_above k o h =
        finds k o [] ρ (tt, run_nil M ρ) ∙ picked_all o (fulls_from M k ρ) ∙ root_good o (fulls_from M k ρ)
        ∙ ap (λ (l : List Schedule). after o (filter listed l)) (fulls_enough M L asc k ρ h)
