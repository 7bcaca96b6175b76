-- The list of full schedules holds exactly the full schedules, ascends, and is not longer than a power of the number of names.
use mathlib.Core.Path.{◌≡◌, refl, sym, ap, subst, ◌∙◌}
use mathlib.Core.Logic.{◌⊎◌, inl, inr, ⊎_elim, ◌↔◌}
use mathlib.Core.Bool.{Bool, true, false, true≢false}
use mathlib.Core.List.Memᴰ
use mathlib.Core.List.{List, [], ◌∷◌, ◌++◌, Memᴰ}
use Prim.Native.Nat.{ℕ, zero, suc, ◌+◌, ◌*◌, ◌^◌, ◌<◌, ◌≤◌}
use native.Mathlib.Omega.{arith}
use native.Mathlib.Nat.{le_trans, le_of_eq, pow-le-pow_right, pow-suc, mul_comm, mul-le-mul_right, suc-mul, one-le-pow}
use lib.Dec.{ltb}
use lib.ListN.{length, length-append}
use borrow.Author.Tests.{ltb-true}
use Rattle.spec_file.specs.Lists.{Ascends}
use Rattle.spec_schedules.specs.Order.{Schedule, less}
use Rattle.spec_schedules.specs.System.{System, Lawful, ended, FullFrom}
use Rattle.spec_schedules.specs.Fulls.{fronts, branch, fulls_from, fulls}
use Rattle.spec_schedules.proofs.Order.{less_front, less_heads, less_irreflexive, less_asymmetric}
use Rattle.spec_schedules.proofs.Lists.{ascends_append, ascends_unique}
use Rattle.spec_schedules.proofs.Runs.{not_ended, full_length}

-- a byte in front of each
pub in_fronts : (t : ℕ) (s : Schedule) (ss : List Schedule) → Memᴰ s ss → Memᴰ (t ∷ s) (fronts t ss)
unfolding fronts
in_fronts t s ss (Memᴰ.head e) = Memᴰ.head (ap (λ (k : Schedule). t ∷ k) e)
in_fronts t s ss (Memᴰ.tail {xs = ks} m) = Memᴰ.tail (in_fronts t s ks m)

pub of_fronts : (t : ℕ) (s : Schedule) (ss : List Schedule) → Memᴰ s (fronts t ss) → (r : Schedule) × (s ≡ t ∷ r) × Memᴰ r ss
unfolding fronts
of_fronts t s [] m = absurd (Memᴰ.not-nil m)
of_fronts t s (l ∷ ss) m = go (Memᴰ.cases_cons m) (λ k. of_fronts t s ss k)
  where
    go : (s ≡ t ∷ l) ⊎ Memᴰ s (fronts t ss) → (Memᴰ s (fronts t ss) → (r : Schedule) × (s ≡ t ∷ r) × Memᴰ r ss) → (r : Schedule) × (s ≡ t ∷ r) × Memᴰ r (l ∷ ss)
    go (inl e) ih = (l, e, Memᴰ.head refl)
    go (inr k) ih = let r = ih k in (r.0, r.1, Memᴰ.tail r.2)

pub fronts_ascends : (t : ℕ) (ss : List Schedule) → Ascends less ss → Ascends less (fronts t ss)
unfolding fronts
fronts_ascends t [] a = tt
fronts_ascends t (s ∷ ss) a = (
  (λ y m. let r = of_fronts t y ss m in rw r.1 (less_front t s r.0 ∙ a.0 r.0 r.2)),
  fronts_ascends t ss a.1,
)

length_fronts : (t : ℕ) (ss : List Schedule) → length (fronts t ss) ≡ length ss
unfolding fronts
length_fronts t [] = refl
length_fronts t (s ∷ ss) = ap suc (length_fronts t ss)

module _ (M : System) where
  -- one byte of a branching
  pub branch_enabled : (f : M.State → List Schedule) (σ : M.State) (t : ℕ) (ts : List ℕ) → M.enabled σ t ≡ true → branch M f σ (t ∷ ts) ≡ fronts t (f (M.step σ t)) ++ branch M f σ ts
  unfolding branch
  branch_enabled f σ t ts e = rw (e, branch)

  pub branch_not : (f : M.State → List Schedule) (σ : M.State) (t : ℕ) (ts : List ℕ) → M.enabled σ t ≡ false → branch M f σ (t ∷ ts) ≡ branch M f σ ts
  unfolding branch
  branch_not f σ t ts e = rw (e, branch)

  -- a member of a branching: its first byte is one of those tried and may step, and the rest is a member behind it
  abbrev pub Branched : (M.State → List Schedule) → M.State → List ℕ → Schedule → Type 0
  Branched f σ ts s = (t : ℕ) × (r : Schedule) × (s ≡ t ∷ r) × Memᴰ t ts × (M.enabled σ t ≡ true) × Memᴰ r (f (M.step σ t))

  pub of_branch : (f : M.State → List Schedule) (σ : M.State) (ts : List ℕ) (s : Schedule) → Memᴰ s (branch M f σ ts) → Branched f σ ts s
  unfolding branch
  of_branch f σ [] s m = absurd (Memᴰ.not-nil m)
  of_branch f σ (t ∷ ts) s m = go (M.enabled σ t) refl (λ k. of_branch f σ ts s k)
    where
      on : Branched f σ ts s → Branched f σ (t ∷ ts) s
      on h = (h.0, h.1, h.2, Memᴰ.tail h.3, h.4, h.5)

      go : (b : Bool) → M.enabled σ t ≡ b → (Memᴰ s (branch M f σ ts) → Branched f σ ts s) → Branched f σ (t ∷ ts) s
      go true e ih = ⊎_elim (λ (k : Memᴰ s (fronts t (f (M.step σ t)))). let r = of_fronts t s (f (M.step σ t)) k in (t, r.0, r.1, Memᴰ.head refl, e, r.2))
          (λ (k : Memᴰ s (branch M f σ ts)). on (ih k)) (Memᴰ.append_cases (fronts t (f (M.step σ t))) (rw (e, branch) at m))
      go false e ih = on (ih (rw (e, branch) at m))

  pub in_branch : (f : M.State → List Schedule) (σ : M.State) (ts : List ℕ) (t : ℕ) (r : Schedule) → Memᴰ t ts → M.enabled σ t ≡ true → Memᴰ r (f (M.step σ t)) → Memᴰ (t ∷ r) (branch M f σ ts)
  in_branch f σ [] t r m e k = absurd (Memᴰ.not-nil m)
  in_branch f σ (u ∷ ts) t r m e k = go (M.enabled σ u) refl (Memᴰ.cases_cons m) (λ n. in_branch f σ ts t r n e k)
    where
      go : (b : Bool) → M.enabled σ u ≡ b → (t ≡ u) ⊎ Memᴰ t ts → (Memᴰ t ts → Memᴰ (t ∷ r) (branch M f σ ts)) → Memᴰ (t ∷ r) (branch M f σ (u ∷ ts))
      go true q (inl i) ih = rw (branch_enabled f σ u ts q) (Memᴰ.append_left {s = fronts u (f (M.step σ u))} (branch M f σ ts) (rw (← i) (in_fronts t r (f (M.step σ t)) k)))
      go true q (inr n) ih = rw (branch_enabled f σ u ts q) (Memᴰ.append_right (fronts u (f (M.step σ u))) (ih n))
      go false q (inl i) ih = absurd (true≢false (sym e ∙ ap (M.enabled σ) i ∙ q))
      go false q (inr n) ih = rw (branch_not f σ u ts q) (ih n)

  branch_ascends : (f : M.State → List Schedule) (σ : M.State) (ts : List ℕ) → Ascends ltb ts → ((τ : M.State) → Ascends less (f τ)) → Ascends less (branch M f σ ts)
  unfolding branch
  branch_ascends f σ [] a h = tt
  branch_ascends f σ (t ∷ ts) a h = go (M.enabled σ t) refl (branch_ascends f σ ts a.1 h)
    where
      go : (b : Bool) → M.enabled σ t ≡ b → Ascends less (branch M f σ ts) → Ascends less (branch M f σ (t ∷ ts))
      go true e ih = rw (e, branch) (ascends_append less (fronts t (f (M.step σ t))) (branch M f σ ts) (fronts_ascends t (f (M.step σ t)) (h (M.step σ t))) ih
          (λ x y k m. let r = of_fronts t x (f (M.step σ t)) k in let q = of_branch f σ ts y m in
          rw (r.1, q.2) (less_heads t q.0 r.0 q.1 (ltb-true t q.0 (a.0 q.0 q.3)))))
      go false e ih = rw (e, branch) ih

  branch_length : (f : M.State → List Schedule) (σ : M.State) (n : ℕ) → ((τ : M.State) → length (f τ) ≤ n) → (ts : List ℕ) → length (branch M f σ ts) ≤ length ts * n
  unfolding branch
  branch_length f σ n h [] = omega arith
  branch_length f σ n h (t ∷ ts) = go (M.enabled σ t) refl (branch_length f σ n h ts)
    where
      more : length ts * n + n ≡ suc (length ts) * n
      more = sym (suc-mul (length ts) n)

      go : (b : Bool) → M.enabled σ t ≡ b → length (branch M f σ ts) ≤ length ts * n → length (branch M f σ (t ∷ ts)) ≤ suc (length ts) * n
      go true e ih = rw (e, branch, length-append, length_fronts) (omega (arith, more, h (M.step σ t)))
      go false e ih = rw (e, branch) (omega (arith, more))

  -- what has ended has one full schedule, the empty one
  pub fulls_ended : (k : ℕ) (σ : M.State) → ended M σ ≡ true → fulls_from M k σ ≡ [] ∷ []
  unfolding fulls_from
  fulls_ended zero σ e = rw (e, fulls_from)
  fulls_ended (suc k) σ e = rw (e, fulls_from)

  pub fulls_none : (σ : M.State) → ended M σ ≡ false → fulls_from M zero σ ≡ []
  unfolding fulls_from
  fulls_none σ e = rw (e, fulls_from)

  pub fulls_branch : (k : ℕ) (σ : M.State) → ended M σ ≡ false → fulls_from M (suc k) σ ≡ branch M (λ τ. fulls_from M k τ) σ M.names
  unfolding fulls_from
  fulls_branch k σ e = rw (e, fulls_from)

  -- each member is full
  only_nil : (σ : M.State) (s : Schedule) → ended M σ ≡ true → Memᴰ s ([] ∷ []) → FullFrom M σ s
  only_nil σ s e m = subst (FullFrom M σ) (sym (Memᴰ.eq_of_singleton m)) e

  pub fulls_sound : (k : ℕ) (σ : M.State) (s : Schedule) → Memᴰ s (fulls_from M k σ) → FullFrom M σ s
  fulls_sound zero σ s m = go (ended M σ) refl
    where
      go : (b : Bool) → ended M σ ≡ b → FullFrom M σ s
      go true e = only_nil σ s e (rw (fulls_ended zero σ e) at m)
      go false e = absurd (Memᴰ.not-nil (rw (fulls_none σ e) at m))
  fulls_sound (suc k) σ s m = go (ended M σ) refl (λ τ r n. fulls_sound k τ r n)
    where
      go : (b : Bool) → ended M σ ≡ b → ((τ : M.State) (r : Schedule) → Memᴰ r (fulls_from M k τ) → FullFrom M τ r) → FullFrom M σ s
      go true e ih = only_nil σ s e (rw (fulls_ended (suc k) σ e) at m)
      go false e ih =
          let h = of_branch (λ τ. fulls_from M k τ) σ M.names s (rw (fulls_branch k σ e) at m) in
          subst (FullFrom M σ) (sym h.2) (h.4, ih (M.step σ h.0) h.1 h.5)

  pub fulls_ascend_from : Ascends ltb M.names → (k : ℕ) (σ : M.State) → Ascends less (fulls_from M k σ)
  fulls_ascend_from a zero σ = go (ended M σ) refl
    where
      go : (b : Bool) → ended M σ ≡ b → Ascends less (fulls_from M zero σ)
      go true e = rw (fulls_ended zero σ e) ((λ y m. absurd (Memᴰ.not-nil m)), tt)
      go false e = rw (fulls_none σ e) tt
  fulls_ascend_from a (suc k) σ = go (ended M σ) refl (λ τ. fulls_ascend_from a k τ)
    where
      go : (b : Bool) → ended M σ ≡ b → ((τ : M.State) → Ascends less (fulls_from M k τ)) → Ascends less (fulls_from M (suc k) σ)
      go true e ih = rw (fulls_ended (suc k) σ e) ((λ y m. absurd (Memᴰ.not-nil m)), tt)
      go false e ih = rw (fulls_branch k σ e) (branch_ascends (λ τ. fulls_from M k τ) σ M.names a ih)

  -- at most n bytes to choose from at each of at most k steps: at most n ^ k lists
  pub fulls_length_from : (n : ℕ) → length M.names ≤ n → 0 < n → (k : ℕ) (σ : M.State) → length (fulls_from M k σ) ≤ n ^ k
  fulls_length_from n h p zero σ = go (ended M σ) refl
    where
      go : (b : Bool) → ended M σ ≡ b → length (fulls_from M zero σ) ≤ n ^ zero
      go true e = rw (fulls_ended zero σ e) (one-le-pow zero n p)
      go false e = rw (fulls_none σ e) (omega arith)
  fulls_length_from n h p (suc k) σ = go (ended M σ) refl (λ τ. fulls_length_from n h p k τ)
    where
      go : (b : Bool) → ended M σ ≡ b → ((τ : M.State) → length (fulls_from M k τ) ≤ n ^ k) → length (fulls_from M (suc k) σ) ≤ n ^ suc k
      go true e ih = rw (fulls_ended (suc k) σ e) (one-le-pow (suc k) n p)
      go false e ih =
          rw (fulls_branch k σ e)
          (le_trans (branch_length (λ τ. fulls_from M k τ) σ (n ^ k) ih M.names) (le_trans (mul-le-mul_right (n ^ k) h) (le_of_eq (mul_comm n (n ^ k) ∙ sym (pow-suc n k)))))

  module _ (L : Lawful M) where
    -- each full schedule that is short enough is a member
    pub fulls_complete : (k : ℕ) (σ : M.State) (s : Schedule) → FullFrom M σ s → length s ≤ k → Memᴰ s (fulls_from M k σ)
    fulls_complete k σ [] f h = rw (fulls_ended k σ f) (Memᴰ.head refl)
    fulls_complete zero σ (t ∷ r) f h = absurd (omega arith)
    fulls_complete (suc k) σ (t ∷ r) f h =
        rw (fulls_branch k σ (not_ended M L σ t f.0))
        (in_branch (λ τ. fulls_from M k τ) σ M.names t r (L.named σ t f.0) f.0 (fulls_complete k (M.step σ t) r f.1 (omega arith)))

    -- THE LIST OF FULL SCHEDULES is exact
    pub fulls_exact : (σ : M.State) (s : Schedule) → Memᴰ s (fulls M σ) ↔ FullFrom M σ s
    unfolding fulls
    fulls_exact σ s = ((λ m. fulls_sound (M.size σ) σ s m), λ f. fulls_complete (M.size σ) σ s f (full_length M L σ s f))

    -- at most n ^ k members, for n names and at most k steps
    pub fulls_length : (σ : M.State) (n k : ℕ) → length M.names ≤ n → 0 < n → M.size σ ≤ k → length (fulls M σ) ≤ n ^ k
    unfolding fulls
    fulls_length σ n k h p b = le_trans (fulls_length_from n h p (M.size σ) σ) (pow-le-pow_right p b)

    module _ (asc : Ascends ltb M.names) where
      -- the list of full schedules ascends
      pub fulls_ascend : (σ : M.State) → Ascends less (fulls M σ)
      unfolding fulls
      fulls_ascend σ = fulls_ascend_from asc (M.size σ) σ

      -- any bound on the steps gives the same list
      pub fulls_enough : (k : ℕ) (σ : M.State) → M.size σ ≤ k → fulls_from M k σ ≡ fulls M σ
      fulls_enough k σ h =
          ascends_unique less less_irreflexive less_asymmetric (fulls_from M k σ) (fulls M σ) (fulls_ascend_from asc k σ) (fulls_ascend σ)
          (λ s m. (fulls_exact σ s).1 (fulls_sound k σ s m))
          (λ s m. let f = (fulls_exact σ s).0 m in fulls_complete k σ s f (omega (arith, full_length M L σ s f)))
