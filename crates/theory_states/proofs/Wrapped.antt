-- ADDING UP MODULO 2^64, one next byte at a time; and a table of words stays true.
use Prim.Native.Nat.{ℕ, ◌+◌, ◌-◌, ◌%◌, ◌^◌, ◌<◌, ◌≤◌}
use mathlib.Core.Path.{◌≡◌, refl, sym, ap, ◌∙◌}
use mathlib.Core.Bool.{Bool, true, false, cond}
use mathlib.Core.List.{List, [], ◌∷◌, ◌++◌}
use native.Mathlib.Nat.{mod-add-mod, mod-eq_of_lt}
use native.Mathlib.Omega.{arith}
use Rattle.spec_schedules.specs.Order.{Schedule}
use Rattle.spec_schedules.specs.System.{System, Lawful, ended}
use Rattle.theory_states.specs.Numbers.{Numbers, nothing, one, plus, charged, sum_range, numbers, numbers_with}
use Rattle.theory_states.specs.SameKey.{Decides}
use Rattle.theory_states.specs.Memory.{Honest}
use Rattle.theory_states.specs.Wrapped.{entry_of, Wrapped, Completes, TrueEntries, CleanKeys}
use Rattle.theory_states.proofs.Numbers.{sum_more, sum_over, by_not, by_cut, by_live, numbers_ended, numbers_branches}
use Rattle.theory_states.proofs.SameKey.{same_key}
use Rattle.theory_states.proofs.Memory.{nothing_true, put_true}

-- ---- adding up
-- one number more, on what was cut off already
pub add_on : (l a part rest k : ℕ) → a ≡ part % 2 ^ 64 → k ≡ (l + a) % 2 ^ 64 → (k + rest) % 2 ^ 64 ≡ (l + (part + rest)) % 2 ^ 64
add_on l a part rest k ea ek =
    let p : l + a + rest ≡ a + (l + rest) = omega arith in
    let q : part + (l + rest) ≡ l + (part + rest) = omega arith in
    ap (λ (x : ℕ). (x + rest) % 2 ^ 64) ek ∙ mod-add-mod (l + a) (2 ^ 64) rest ∙ ap (λ (x : ℕ). x % 2 ^ 64) p
    ∙ ap (λ (x : ℕ). (x + (l + rest)) % 2 ^ 64) ea ∙ mod-add-mod part (2 ^ 64) (l + rest) ∙ ap (λ (x : ℕ). x % 2 ^ 64) q

-- nothing is left to add
pub last_on : (l rest whole : ℕ) → rest ≡ 0 → l < 2 ^ 64 → (l + rest) % 2 ^ 64 ≡ whole % 2 ^ 64 → l ≡ whole % 2 ^ 64
last_on l rest whole e h c = let q : l ≡ l + rest = omega (arith, e) in sym (mod-eq_of_lt h) ∙ ap (λ (x : ℕ). x % 2 ^ 64) q ∙ c

pub completes_start : (whole : Numbers) → Completes whole whole 0 0
completes_start whole = (ap (λ (x : ℕ). x % 2 ^ 64) (let e : 0 + whole.listed ≡ whole.listed = omega arith in e), ap (λ (x : ℕ). x % 2 ^ 64) (let e : 0 + whole.failing ≡ whole.failing = omega arith in e))

-- behind a step that fails all fail, also modulo 2^64
pub charged_wrapped : (b : Bool) (n : Numbers) (l f k : ℕ) → Wrapped n l f → k ≡ cond b l f → Wrapped (charged b n) l k
charged_wrapped true n l f k w e = (w.0, e ∙ w.0)
charged_wrapped false n l f k w e = (w.0, e ∙ w.1)

-- ---- over the next bytes in turn
module _ (f : ℕ → Numbers) (top : ℕ) (whole : Numbers) where
  -- what the bytes from t on give completes the whole
  abbrev Rest : ℕ → ℕ → ℕ → Type 0
  Rest t l k = Completes whole (sum_range f (top - t) t) l k

  pub rest_start : whole ≡ sum_range f top 0 → Rest 0 0 0
  rest_start e = go (sum_range f (top - 0) 0) (e ∙ ap (λ (j : ℕ). sum_range f j 0) (let q : top ≡ top - 0 = omega arith in q))
    where
      go : (n : Numbers) → whole ≡ n → Completes whole n 0 0
      go n q = (ap (λ (m : Numbers). (0 + m.listed) % 2 ^ 64) (sym q) ∙ (completes_start whole).0, ap (λ (m : Numbers). (0 + m.failing) % 2 ^ 64) (sym q) ∙ (completes_start whole).1)

  -- with t
  pub rest_more : (t l k a b l' k' : ℕ) → t < top → Rest t l k → Wrapped (f t) a b → l' ≡ (l + a) % 2 ^ 64 → k' ≡ (k + b) % 2 ^ 64 → Rest (t + 1) l' k'
  rest_more t l k a b l' k' h rest w el ek =
      let e = sum_more f top t h in
      let r : Numbers = sum_range f (top - (t + 1)) (t + 1) in (
        add_on l a (f t).listed r.listed l' w.0 el ∙ ap (λ (n : Numbers). (l + n.listed) % 2 ^ 64) (sym e) ∙ rest.0,
        add_on k b (f t).failing r.failing k' w.1 ek ∙ ap (λ (n : Numbers). (k + n.failing) % 2 ^ 64) (sym e) ∙ rest.1,
      )

  -- with t, which gives nothing
  pub rest_same : (t l k : ℕ) → t < top → Rest t l k → f t ≡ nothing → Rest (t + 1) l k
  rest_same t l k h rest z =
      let r : Numbers = sum_range f (top - (t + 1)) (t + 1) in
      let e = sum_more f top t h ∙ ap (λ (n : Numbers). plus n r) z in
      let x : r.listed ≡ 0 + r.listed = omega arith in
      let y : r.failing ≡ 0 + r.failing = omega arith in (
        ap (λ (i : ℕ). (l + i) % 2 ^ 64) x ∙ ap (λ (n : Numbers). (l + n.listed) % 2 ^ 64) (sym e) ∙ rest.0,
        ap (λ (i : ℕ). (k + i) % 2 ^ 64) y ∙ ap (λ (n : Numbers). (k + n.failing) % 2 ^ 64) (sym e) ∙ rest.1,
      )

  -- none is left
  pub rest_over : (t l k : ℕ) → top ≤ t → l < 2 ^ 64 → k < 2 ^ 64 → Rest t l k → Wrapped whole l k
  rest_over t l k h hl hk rest =
      let e = sum_over f top t h in
      (last_on l (sum_range f (top - t) t).listed whole.listed (ap (λ (n : Numbers). n.listed) e) hl rest.0, last_on k (sum_range f (top - t) t).failing whole.failing (ap (λ (n : Numbers). n.failing) e) hk rest.1)

-- ---- A TABLE OF WORDS STAYS TRUE
module _ (M : System) (lawful : Lawful M) (top : ℕ) (cut : Schedule → M.State → ℕ → Bool) (breaks : M.State → ℕ → Bool) (Met : Schedule → M.State → Type 0)
    (key : Schedule → M.State → List ℕ) (Says Says' : List ℕ → List ℕ → Type 0) where
  -- one that says nothing
  pub entries_none : ((k c : List ℕ) → Says k c → ⊥) → TrueEntries M top cut breaks Met key Says
  entries_none h = nothing_true (λ x. Met x.0 x.1) (λ x. key x.0 x.1) (λ x e. e ≡ entry_of (numbers M top cut breaks x.0 x.1)) Says h

  pub clean_none : ((k c : List ℕ) → Says k c → ⊥) → CleanKeys M top cut breaks Met key Says
  clean_none h = nothing_true (λ x. Met x.0 x.1) (λ x. key x.0 x.1) (λ x e. (numbers M top cut breaks x.0 x.1).failing ≡ 0) Says h

  module _ (Fit : List ℕ → Type 0) (fit : (v : Schedule) (σ : M.State) → Met v σ → Fit (key v σ)) (D : Decides M cut breaks Met key) where
    -- one that has taken up the numbers of a position
    pub entries_put : (v : Schedule) (σ : M.State) → Met v σ → (e : List ℕ) → e ≡ entry_of (numbers M top cut breaks v σ) → Honest Fit (key v σ) e Says Says' →
        TrueEntries M top cut breaks Met key Says → TrueEntries M top cut breaks Met key Says'
    entries_put v σ met e right honest t = put_true (λ x. Met x.0 x.1) (λ x. key x.0 x.1) (λ x e. e ≡ entry_of (numbers M top cut breaks x.0 x.1)) Fit (λ x. fit x.0 x.1)
        (λ x y a b q c r. r ∙ ap entry_of (same_key M top cut breaks Met key lawful D x.0 x.1 y.0 y.1 a b q)) Says Says' (v, σ) e t met right honest

    -- one that has marked a key behind which no step fails
    pub clean_put : (v : Schedule) (σ : M.State) → Met v σ → (e : List ℕ) → (numbers M top cut breaks v σ).failing ≡ 0 → Honest Fit (key v σ) e Says Says' →
        CleanKeys M top cut breaks Met key Says → CleanKeys M top cut breaks Met key Says'
    clean_put v σ met e right honest t = put_true (λ x. Met x.0 x.1) (λ x. key x.0 x.1) (λ x e. (numbers M top cut breaks x.0 x.1).failing ≡ 0) Fit (λ x. fit x.0 x.1)
        (λ x y a b q c r. sym (ap (λ (n : Numbers). n.failing) (same_key M top cut breaks Met key lawful D x.0 x.1 y.0 y.1 a b q)) ∙ r) Says Says' (v, σ) e t met right honest
