-- AS CODE GOES: with one next byte; and over the next bytes in turn, with a table that stays true. A case is whatever the code's arrays may stand for; of each case
-- there is a whole, what each next byte gives of it, and what a true table is.
use Prim.Native.Nat.{ℕ, ◌+◌, ◌-◌, ◌%◌, ◌^◌, ◌<◌, ◌≤◌}
use mathlib.Core.Path.{◌≡◌, sym, ap, subst, ◌∙◌}
use mathlib.Core.Bool.{Bool, true, false, cond}
use mathlib.Core.Option.{none, some}
use mathlib.Core.List.{List, [], ◌∷◌, ◌++◌}
use lib.ListN.{get_or}
use Rattle.spec_schedules.specs.Lists.{head_of}
use Rattle.spec_schedules.specs.Order.{Schedule}
use Rattle.spec_schedules.specs.System.{System, Lawful, ended}
use Rattle.theory_search.specs.Found.{concat_range}
use Rattle.theory_states.specs.Numbers.{Numbers, nothing, sum_range, numbers, numbers_with}
use Rattle.theory_states.specs.Wrapped.{Wrapped, Completes, TrueEntries}
use Rattle.theory_states.proofs.Numbers.{by_cut, by_live, numbers_ended}
use Rattle.theory_states.proofs.Passing.{Seeks, seek_start, seek_found, seek_next, seek_over}
use Rattle.theory_states.proofs.Wrapped.{charged_wrapped, rest_start, rest_more, rest_same, rest_over}

-- equal numbers have the same words
same_wrapped : (n m : Numbers) → n ≡ m → (l f : ℕ) → Wrapped n l f → Wrapped m l f
same_wrapped n m e l f w = subst (λ (k : Numbers). Wrapped k l f) e w

-- ---- with one next byte
module _ (M : System) (top : ℕ) (cut : Schedule → M.State → ℕ → Bool) (breaks : M.State → ℕ → Bool) (v : Schedule) (σ : M.State) where
  abbrev N : Schedule → M.State → Numbers
  N w τ = numbers M top cut breaks w τ

  -- nobody may step
  pub ended_wrapped : Lawful M → ended M σ ≡ true → Wrapped (numbers M top cut breaks v σ) 1 0
  ended_wrapped lawful e =
      let q = numbers_ended M top cut breaks lawful v σ e in
      (ap (λ (n : Numbers). n.listed % 2 ^ 64) (sym q), ap (λ (n : Numbers). n.failing % 2 ^ 64) (sym q))

  -- the step is given up
  pub cut_wrapped : (t : ℕ) → M.enabled σ t ≡ true → cut v σ t ≡ true → Wrapped (numbers_with M top cut breaks v σ t) 0 0
  cut_wrapped t m c =
      let q = by_cut M top cut breaks N v σ t m c in
      (ap (λ (n : Numbers). n.listed % 2 ^ 64) (sym q), ap (λ (n : Numbers). n.failing % 2 ^ 64) (sym q))

  -- it is not: what is behind it, where all fail if the step did
  pub live_wrapped : (t : ℕ) → M.enabled σ t ≡ true → cut v σ t ≡ false → (b : Bool) → b ≡ breaks σ t → (l f l' f' : ℕ) →
      Wrapped (numbers M top cut breaks (v ++ (t ∷ [])) (M.step σ t)) l f → l' ≡ l → f' ≡ cond b l f → Wrapped (numbers_with M top cut breaks v σ t) l' f'
  live_wrapped t m c b eb l f l' f' w el ef =
      let n : Numbers = numbers M top cut breaks (v ++ (t ∷ [])) (M.step σ t) in
      let r = charged_wrapped (breaks σ t) n l f f' w (ef ∙ ap (λ (d : Bool). cond d l f) eb) in
      same_wrapped _ _ (sym (by_live M top cut breaks N v σ t m c)) l' f' (el ∙ r.0, r.1)

  -- what a true table says of the key are the numbers
  pub said_wrapped : (Met : Schedule → M.State → Type 0) (key : Schedule → M.State → List ℕ) (Says : List ℕ → List ℕ → Type 0) → TrueEntries M top cut breaks Met key Says →
      Met v σ → (l f : ℕ) → Says (key v σ) (l ∷ f ∷ []) → Wrapped (numbers M top cut breaks v σ) l f
  said_wrapped Met key Says true-table met l f s =
      let q = true-table (v, σ) met (l ∷ f ∷ []) s in
      (ap (λ (z : List ℕ). get_or z 0 0) q, ap (λ (z : List ℕ). get_or z 1 0) q)

-- ---- over the next bytes in turn
module _ (Case : Type 0) (top : ℕ) (True : Case → List ℕ → Type 0) (table₀ : List ℕ) where
  -- ADDING UP: what the bytes from t on give completes the whole
  module _ (each : Case → ℕ → Numbers) (whole : Case → Numbers) where
    abbrev pub Adding : List ℕ → ℕ → ℕ → ℕ → Type 0
    Adding table l f t = (c : Case) → True c table₀ → Completes (whole c) (sum_range (each c) (top - t) t) l f × True c table

    pub adding_start : ((c : Case) → whole c ≡ sum_range (each c) top 0) → Adding table₀ 0 0 0
    adding_start e c ok = (rest_start (each c) top (whole c) (e c), ok)

    -- with t
    pub adding_more : (table table' behind : List ℕ) (l f a b l' f' t : ℕ) → t < top → Adding table l f t → ((c : Case) → True c table → Wrapped (each c t) a b × True c table') →
        behind ≡ table' → l' ≡ (l + a) % 2 ^ 64 → f' ≡ (f + b) % 2 ^ 64 → Adding behind l' f' (t + 1)
    adding_more table table' behind l f a b l' f' t h so visited eb el ef c ok =
        let before = so c ok in
        let r = visited c before.1 in
        (rest_more (each c) top (whole c) t l f a b l' f' h before.0 r.0 el ef, subst (True c) (sym eb) r.1)

    -- with t, which gives nothing
    pub adding_same : (table behind : List ℕ) (l f l' f' t : ℕ) → t < top → Adding table l f t → ((c : Case) → each c t ≡ nothing) → behind ≡ table → l' ≡ l → f' ≡ f → Adding behind l' f' (t + 1)
    adding_same table behind l f l' f' t h so none_there eb el ef c ok =
        let before = so c ok in (
          subst (λ (i : ℕ). Completes (whole c) (sum_range (each c) (top - (t + 1)) (t + 1)) i f') (sym el)
              (subst (λ (j : ℕ). Completes (whole c) (sum_range (each c) (top - (t + 1)) (t + 1)) l j) (sym ef) (rest_same (each c) top (whole c) t l f h before.0 (none_there c))),
          subst (True c) (sym eb) before.1,
        )

    -- none is left
    pub adding_over : (table : List ℕ) (l f t : ℕ) → top ≤ t → l < 2 ^ 64 → f < 2 ^ 64 → Adding table l f t → (c : Case) → True c table₀ → Wrapped (whole c) l f × True c table
    adding_over table l f t h hl hf so c ok = let before = so c ok in (rest_over (each c) top (whole c) t l f h hl hf before.0, before.1)

  -- SEEKING THE FIRST: none with a byte before t is it
  module _ (each : Case → ℕ → List Schedule) (whole : Case → List Schedule) where
    abbrev pub Seeking : List ℕ → ℕ → Type 0
    Seeking table t = (c : Case) → True c table₀ → Seeks (each c) top (whole c) t × True c table

    pub seeking_start : (d : ℕ) → d ≡ 0 → ((c : Case) → whole c ≡ concat_range (each c) (top - d) d) → Seeking table₀ 0
    seeking_start d z e c ok = (seek_start (each c) top (whole c) d z (e c), ok)

    -- one with t
    pub seeking_found : (table table' : List ℕ) (t : ℕ) → t < top → Seeking table t → (s : Schedule) → ((c : Case) → True c table → (some s ≡ head_of (each c t)) × True c table') →
        (c : Case) → True c table₀ → (some s ≡ head_of (whole c)) × True c table'
    seeking_found table table' t h so s visited c ok =
        let before = so c ok in
        let q = visited c before.1 in
        (seek_found (each c) top (whole c) t h before.0 s q.0, q.1)

    -- none with t
    pub seeking_none : (table table' behind : List ℕ) (t : ℕ) → t < top → Seeking table t → ((c : Case) → True c table → (none ≡ head_of (each c t)) × True c table') → behind ≡ table' → Seeking behind (t + 1)
    seeking_none table table' behind t h so visited eb c ok =
        let before = so c ok in
        let q = visited c before.1 in
        (seek_next (each c) top (whole c) t h before.0 q.0, subst (True c) (sym eb) q.1)

    -- none at all
    pub seeking_over : (table : List ℕ) (t : ℕ) → top ≤ t → Seeking table t → (c : Case) → True c table₀ → (none ≡ head_of (whole c)) × True c table
    seeking_over table t h so c ok = let before = so c ok in (seek_over (each c) top (whole c) t h before.0, before.1)
