-- HOW MANY of what is found behind a prefix ARE SMALLER than a schedule that goes on behind it, by numbers alone: all with a smaller next byte
-- than its own, and with its own those that are smaller than the rest of it. Where its own next byte is cut there are no others; at its
-- end there are none.
use Prim.Native.Nat.{ℕ, zero, suc, ◌+◌, ◌-◌, ◌<◌, ◌≤◌}
use mathlib.Core.Path.{◌≡◌, refl, sym, ap, ap₂, ◌∙◌}
use mathlib.Core.Bool.{Bool, true, false}
use mathlib.Core.Option.{Option, none}
use mathlib.Core.List.{List, [], ◌∷◌, ◌++◌, append_assoc, append-nil}
use native.Mathlib.Omega.{arith}
use lib.ListN.{length, length-append}
use Rattle.spec_schedules.specs.Lists.{filter}
use Rattle.spec_schedules.specs.Order.{Schedule, less}
use Rattle.spec_schedules.specs.System.{System, ended}
use Rattle.spec_schedules.proofs.Kept.{filter_nil, filter_append, filter_none, filter_whole, filter_same}
use Rattle.spec_schedules.proofs.Lists.{filter_yes, filter_no}
use Rattle.spec_schedules.proofs.Order.{less_behind, less_heads, more_heads, less_nil}
use Rattle.theory_search.specs.Found.{concat_range, found_at, found_by, found_from}
use Rattle.theory_search.proofs.Found as Found
use Rattle.theory_states.specs.Positions.{GoesOn}
use Rattle.theory_states.specs.Numbers.{Numbers, sum_range, numbers_by, numbers_from}
use Rattle.theory_states.specs.Ranked.{rank}
use Rattle.theory_states.proofs.Found.{branches_all, with_listed}

-- ---- lists one behind the other
concat_split : {A : Type 0} (f : ℕ → List A) (i j d : ℕ) → concat_range f (i + j) d ≡ concat_range f i d ++ concat_range f j (d + i)
unfolding concat_range
concat_split f zero j d =
    let e : 0 + j ≡ j = omega arith in
    let q : d ≡ d + 0 = omega arith in
    ap₂ (λ (m n : ℕ). concat_range f m n) e q
concat_split {A} f (suc i) j d =
    let e : suc i + j ≡ suc (i + j) = omega arith in
    let q : d + 1 + i ≡ d + suc i = omega arith in
    ap (λ (m : ℕ). concat_range f m d) e
    ∙ ap {B = List A} (λ r. f d ++ r) (concat_split f i j (d + 1) ∙ ap (λ (n : ℕ). concat_range f i (d + 1) ++ concat_range f j n) q)
    ∙ sym (append_assoc (f d) (concat_range f i (d + 1)) (concat_range f j (d + suc i)))

-- two tests that agree on each list agree on all of them
range_agree : {A : Type 0} (g h : A → Bool) (f : ℕ → List A) → ((t : ℕ) → filter g (f t) ≡ filter h (f t)) → (j d : ℕ) → filter g (concat_range f j d) ≡ filter h (concat_range f j d)
unfolding concat_range
range_agree g h f e zero d = filter_nil g ∙ sym (filter_nil h)
range_agree {A} g h f e (suc j) d =
    filter_append g (f d) (concat_range f j (d + 1))
    ∙ ap₂ (λ (a b : List A). a ++ b) (e d) (range_agree g h f e j (d + 1))
    ∙ sym (filter_append h (f d) (concat_range f j (d + 1)))

rank_append : (s : Schedule) (a b : List Schedule) → rank s (a ++ b) ≡ rank s a + rank s b
rank_append s a b = ap length (filter_append (λ w. less w s) a b) ∙ length-append (filter (λ w. less w s) a) (filter (λ w. less w s) b)

rank_nil : (s : Schedule) → rank s [] ≡ 0
rank_nil s = ap length (filter_nil (λ w. less w s))

module _ (M : System) (top : ℕ) (cut : Schedule → M.State → ℕ → Bool) (test : Schedule → Bool) where
  abbrev F : ℕ → Option Schedule → Schedule → M.State → List Schedule
  F k = λ a b c. found_from M top cut test k a b c

  -- what is found with t as the next step
  abbrev By : ℕ → Schedule → M.State → ℕ → List Schedule
  By k v σ = found_by M top cut test (F k) none v σ

  -- ---- ALL THAT IS FOUND BEHIND A PREFIX BEGINS WITH IT: tests that agree on whatever does keep the same of it
  abbrev Agree : (Schedule → Bool) → (Schedule → Bool) → Schedule → Type 0
  Agree g h v = (z : Schedule) → g (v ++ z) ≡ h (v ++ z)

  on_one : (g h : Schedule → Bool) (v : Schedule) → g v ≡ h v → filter g (v ∷ []) ≡ filter h (v ∷ [])
  on_one g h v e = go (h v) refl
    where
      go : (c : Bool) → h v ≡ c → filter g (v ∷ []) ≡ filter h (v ∷ [])
      go true q = filter_yes g v [] (e ∙ q) ∙ ap (λ (r : List Schedule). v ∷ r) (filter_nil g ∙ sym (filter_nil h)) ∙ sym (filter_yes h v [] q)
      go false q = filter_no g v [] (e ∙ q) ∙ filter_nil g ∙ sym (filter_nil h) ∙ sym (filter_no h v [] q)

  kept_nothing : (g h : Schedule → Bool) (l : List Schedule) → l ≡ [] → filter g l ≡ filter h l
  kept_nothing g h l e = ap (filter g) e ∙ filter_nil g ∙ sym (filter_nil h) ∙ sym (ap (filter h) e)

  kept_at : (g h : Schedule → Bool) (v : Schedule) → Agree g h v → filter g (found_at M top cut test none v) ≡ filter h (found_at M top cut test none v)
  kept_at g h v a = go (test v) refl
    where
      there : g v ≡ h v
      there = ap g (sym (append-nil v)) ∙ a [] ∙ ap h (append-nil v)

      go : (c : Bool) → test v ≡ c → filter g (found_at M top cut test none v) ≡ filter h (found_at M top cut test none v)
      go true e = let q = Found.at_listed M top cut test v e in ap (filter g) q ∙ on_one g h v there ∙ sym (ap (filter h) q)
      go false e = kept_nothing g h (found_at M top cut test none v) (Found.at_unlisted M top cut test v e)

  kept_by : (k : ℕ) (g h : Schedule → Bool) (v : Schedule) (σ : M.State) (t : ℕ) →
      filter g (F k none (v ++ (t ∷ [])) (M.step σ t)) ≡ filter h (F k none (v ++ (t ∷ [])) (M.step σ t)) → filter g (By k v σ t) ≡ filter h (By k v σ t)
  kept_by k g h v σ t ih = go (M.enabled σ t) refl (cut v σ t) refl
    where
      go : (a : Bool) → M.enabled σ t ≡ a → (b : Bool) → cut v σ t ≡ b → filter g (By k v σ t) ≡ filter h (By k v σ t)
      go false e b c = kept_nothing g h (By k v σ t) (Found.by_not M top cut test (F k) none v σ t e)
      go true e true c = kept_nothing g h (By k v σ t) (Found.by_cut M top cut test (F k) none v σ t e c)
      go true e false c =
          let q = Found.by_live M top cut test (F k) none v σ t e c ∙ ap (λ (o : Option Schedule). F k o (v ++ (t ∷ [])) (M.step σ t)) (Found.past_none t) in
          ap (filter g) q ∙ ih ∙ sym (ap (filter h) q)

  -- behind one byte more
  agree_on : (g h : Schedule → Bool) (v : Schedule) (t : ℕ) → ((z : Schedule) → g (v ++ (t ∷ z)) ≡ h (v ++ (t ∷ z))) → Agree g h (v ++ (t ∷ []))
  agree_on g h v t a z = let q = append_assoc v (t ∷ []) z in ap g q ∙ a z ∙ sym (ap h q)

  kept_same : (k : ℕ) (g h : Schedule → Bool) (v : Schedule) (σ : M.State) → Agree g h v → filter g (F k none v σ) ≡ filter h (F k none v σ)
  kept_same zero g h v σ a = go (ended M σ) refl
    where
      go : (b : Bool) → ended M σ ≡ b → filter g (F 0 none v σ) ≡ filter h (F 0 none v σ)
      go true e = let q = Found.found_ended M top cut test 0 none v σ e in ap (filter g) q ∙ kept_at g h v a ∙ sym (ap (filter h) q)
      go false e = kept_nothing g h (F 0 none v σ) (Found.found_stuck M top cut test 0 none v σ e refl)
  kept_same (suc k) g h v σ a = go (ended M σ) refl (λ t. kept_same k g h (v ++ (t ∷ [])) (M.step σ t) (agree_on g h v t (λ z. a (t ∷ z))))
    where
      go : (b : Bool) → ended M σ ≡ b → ((t : ℕ) → filter g (F k none (v ++ (t ∷ [])) (M.step σ t)) ≡ filter h (F k none (v ++ (t ∷ [])) (M.step σ t))) → filter g (F (suc k) none v σ) ≡ filter h (F (suc k) none v σ)
      go true e ih = let q = Found.found_ended M top cut test (suc k) none v σ e in ap (filter g) q ∙ kept_at g h v a ∙ sym (ap (filter h) q)
      go false e ih = let q = branches_all M top cut test k v σ e in
          ap (filter g) q ∙ range_agree g h (By k v σ) (λ t. kept_by k g h v σ t (ih t)) top 0 ∙ sym (ap (filter h) q)

  -- AT ITS END no others are smaller
  pub rank_end : (k : ℕ) (v : Schedule) (σ : M.State) → rank (v ++ []) (F k none v σ) ≡ 0
  rank_end k v σ = ap length (kept_same k (λ w. less w (v ++ [])) (λ w. false) v σ (λ z. less_behind v z [] ∙ less_nil z) ∙ filter_none (λ w. false) (F k none v σ) (λ x m. refl))

  -- ---- with one next byte, of which all are smaller or none is
  by_all : (k b : ℕ) (s v : Schedule) (σ : M.State) (t : ℕ) (c : Bool) → ((z : Schedule) → less (t ∷ z) (b ∷ s) ≡ c) → filter (λ w. less w (v ++ (b ∷ s))) (By k v σ t) ≡ filter (λ w. c) (By k v σ t)
  by_all k b s v σ t c e = kept_by k (λ w. less w (v ++ (b ∷ s))) (λ w. c) v σ t
      (kept_same k (λ w. less w (v ++ (b ∷ s))) (λ w. c) (v ++ (t ∷ [])) (M.step σ t) (agree_on (λ w. less w (v ++ (b ∷ s))) (λ w. c) v t (λ z. less_behind v (t ∷ z) (b ∷ s) ∙ e z)))

  -- those with a greater byte are not
  after : (k b : ℕ) (s v : Schedule) (σ : M.State) (j d : ℕ) → b < d → rank (v ++ (b ∷ s)) (concat_range (By k v σ) j d) ≡ 0
  unfolding concat_range
  after k b s v σ zero d h = rank_nil (v ++ (b ∷ s))
  after k b s v σ (suc j) d h =
      rank_append (v ++ (b ∷ s)) (By k v σ d) (concat_range (By k v σ) j (d + 1))
      ∙ ap₂ (λ (x y : ℕ). x + y) (ap length (by_all k b s v σ d false (λ z. more_heads d b z s h) ∙ filter_none (λ w. false) (By k v σ d) (λ x m. refl))) (after k b s v σ j (d + 1) (omega arith))

  -- WITH ITS OWN BYTE, which is not cut: those smaller than the rest of it
  pub rank_live : (k b : ℕ) (s v : Schedule) (σ : M.State) → M.enabled σ b ≡ true → cut v σ b ≡ false →
      rank (v ++ (b ∷ s)) (By k v σ b) ≡ rank ((v ++ (b ∷ [])) ++ s) (F k none (v ++ (b ∷ [])) (M.step σ b))
  rank_live k b s v σ e c =
      ap₂ rank (sym (append_assoc v (b ∷ []) s))
      (Found.by_live M top cut test (F k) none v σ b e c ∙ ap (λ (o : Option Schedule). F k o (v ++ (b ∷ [])) (M.step σ b)) (Found.past_none b))

  -- which is cut: none
  pub rank_cut : (k b : ℕ) (s v : Schedule) (σ : M.State) → M.enabled σ b ≡ true → cut v σ b ≡ true → rank (v ++ (b ∷ s)) (By k v σ b) ≡ 0
  rank_cut k b s v σ e c = ap (rank (v ++ (b ∷ s))) (Found.by_cut M top cut test (F k) none v σ b e c) ∙ rank_nil (v ++ (b ∷ s))

  module _ (Met : Schedule → M.State → Type 0) (on : GoesOn M cut Met) (breaks : M.State → ℕ → Bool) (all : (w : Schedule) → test w ≡ true) where
    abbrev N : ℕ → Schedule → M.State → ℕ → Numbers
    N k v σ = numbers_by M top cut breaks (λ w τ. numbers_from M top cut breaks k w τ) v σ

    -- those with a smaller byte all are
    before : (k b : ℕ) (s v : Schedule) (σ : M.State) → Met v σ → (j d : ℕ) → d + j ≤ b → rank (v ++ (b ∷ s)) (concat_range (By k v σ) j d) ≡ (sum_range (N k v σ) j d).listed
    unfolding concat_range sum_range
    before k b s v σ m zero d h = rank_nil (v ++ (b ∷ s))
    before k b s v σ m (suc j) d h =
        rank_append (v ++ (b ∷ s)) (By k v σ d) (concat_range (By k v σ) j (d + 1))
        ∙ ap₂ (λ (x y : ℕ). x + y)
        (ap length (by_all k b s v σ d true (λ z. less_heads d b z s (omega arith)) ∙ filter_whole (λ w. true) (By k v σ d) (λ x i. refl)) ∙ with_listed M top cut Met on breaks test all k v σ m d)
        (before k b s v σ m j (d + 1) (omega arith))

    -- HOW MANY ARE SMALLER: all with a smaller next byte, and with its own those that are
    pub rank_turn : (k b : ℕ) (s v : Schedule) (σ : M.State) → Met v σ → ended M σ ≡ false → b < top →
        rank (v ++ (b ∷ s)) (F (suc k) none v σ) ≡ (sum_range (N k v σ) b 0).listed + rank (v ++ (b ∷ s)) (By k v σ b)
    rank_turn k b s v σ m e h =
        let u : Schedule = v ++ (b ∷ s) in
        let rest : List Schedule = concat_range (By k v σ) (top - (b + 1)) (b + 1) in
        ap (rank u) (branches_all M top cut test k v σ e ∙ ap (λ (n : ℕ). concat_range (By k v σ) n 0) (let q : top ≡ b + (top - b) = omega arith in q)
        ∙ concat_split (By k v σ) b (top - b) 0
        ∙ ap (λ (n : ℕ). concat_range (By k v σ) b 0 ++ concat_range (By k v σ) (top - b) n) (let q : 0 + b ≡ b = omega arith in q)
        ∙ ap (λ (r : List Schedule). concat_range (By k v σ) b 0 ++ r) (Found.concat_range_more (By k v σ) top b h))
        ∙ rank_append u (concat_range (By k v σ) b 0) (By k v σ b ++ rest)
        ∙ ap₂ (λ (x y : ℕ). x + y) (before k b s v σ m b 0 (omega arith))
        (rank_append u (By k v σ b) rest ∙ ap (λ (n : ℕ). rank u (By k v σ b) + n) (after k b s v σ (top - (b + 1)) (b + 1) (omega arith)) ∙ (let q : rank u (By k v σ b) + 0 ≡ rank u (By k v σ b) = omega arith in q))
