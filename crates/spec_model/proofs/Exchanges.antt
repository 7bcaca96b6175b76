-- The permitted exchanges of threads are a group: the identity, the inverse of one and two after each other. The last is where it counts
-- that no thread stands in two `02` lines.
use Prim.Native.Nat.{ℕ, ◌<◌}
use mathlib.Core.Path.{◌≡◌, refl, sym, ap, subst, ◌∙◌}
use mathlib.Core.Logic.{◌⊎◌, inl, inr, ⊎_elim}
use mathlib.Core.List.Memᴰ
use mathlib.Core.List.{List, [], ◌∷◌, Memᴰ}
use native.Mathlib.Omega.{arith}
use native.Mathlib.Decide.{dec_lt}
use lib.ListN.{length}
use Rattle.spec_file.specs.Program.{Program, code_of}
use Rattle.spec_file.specs.WellFormed.{Everywhere, Group, WellFormed, Apart}
use Rattle.spec_file.proofs.Everywhere.{everywhere_at}
use Rattle.spec_model.specs.Exchange.{Permutation, Together, Permitted, Exchange}

-- a permutation moves no two threads to one
pub injective : (π : ℕ → ℕ) → Permutation π → (t u : ℕ) → π t ≡ π u → t ≡ u
injective π q t u e = sym (q.inverse_after t) ∙ ap q.inverse e ∙ q.inverse_after u

identity : Permutation (λ t. t)
identity = record { inverse = λ t. t; inverse_after = λ t. refl; after_inverse = λ t. refl; below = λ t h. h; stays = λ t h. refl }

inverted : (π : ℕ → ℕ) (q : Permutation π) → Permutation q.inverse
inverted π q = record { inverse = π; inverse_after = q.after_inverse; after_inverse = q.inverse_after; below = λ t h. low t h (dec_lt (q.inverse t) 6); stays = λ t h. ap q.inverse (sym (q.stays t h)) ∙ q.inverse_after t }
  where
    low : (t : ℕ) → t < 6 → Dec (q.inverse t < 6) → q.inverse t < 6
    low t h (yes k) = k
    low t h (no k) = absurd (let e = sym (q.stays (q.inverse t) (omega arith)) ∙ q.after_inverse t in omega arith)

composed : (ρ π : ℕ → ℕ) → Permutation ρ → Permutation π → Permutation (λ t. ρ (π t))
composed ρ π r q = record {
  inverse = λ t. q.inverse (r.inverse t);
  inverse_after = λ t. ap q.inverse (r.inverse_after (π t)) ∙ q.inverse_after t;
  after_inverse = λ t. ap ρ (q.after_inverse (r.inverse t)) ∙ r.after_inverse t;
  below = λ t h. r.below (π t) (q.below t h);
  stays = λ t h. ap ρ (q.stays t h) ∙ r.stays t h;
}

-- no thread stands in two groups: two groups with a common member are one
apart_at : (g : List ℕ) (gs : List (List ℕ)) (h : List ℕ) (t : ℕ) → Everywhere (λ k. (t : ℕ) → Memᴰ t g → Memᴰ t k → ⊥) gs → Memᴰ h gs → Memᴰ t g → Memᴰ t h → ⊥
apart_at g [] h t a m i j = Memᴰ.not-nil m
apart_at g (k ∷ gs) h t a m i j = ⊎_elim (λ (e : h ≡ k). a.0 t i (subst (Memᴰ t) e j)) (λ (n : Memᴰ h gs). apart_at g gs h t a.1 n i j) (Memᴰ.cases_cons m)

pub one_group : (gs : List (List ℕ)) → Apart gs → (g h : List ℕ) (t : ℕ) → Memᴰ g gs → Memᴰ h gs → Memᴰ t g → Memᴰ t h → g ≡ h
one_group [] a g h t m n i j = absurd (Memᴰ.not-nil m)
one_group (k ∷ gs) a g h t m n i j = go (Memᴰ.cases_cons m) (Memᴰ.cases_cons n) (λ x y. one_group gs a.1 g h t x y i j)
  where
    go : (g ≡ k) ⊎ Memᴰ g gs → (h ≡ k) ⊎ Memᴰ h gs → (Memᴰ g gs → Memᴰ h gs → g ≡ h) → g ≡ h
    go (inl e) (inl f) ih = e ∙ sym f
    go (inl e) (inr y) ih = absurd (apart_at k gs h t a.0 y (subst (Memᴰ t) e i) j)
    go (inr x) (inl f) ih = absurd (apart_at k gs g t a.0 x (subst (Memᴰ t) f j) i)
    go (inr x) (inr y) ih = ih x y

module _ (p : Program) where
  pub exchange_none : Exchange p (λ t. t)
  exchange_none = (identity, λ t. inl refl)

  pub exchange_back : (π : ℕ → ℕ) (x : Exchange p π) → Exchange p x.0.inverse
  exchange_back π x = (inverted π x.0, λ t. go t (x.1 (x.0.inverse t)))
    where
      back : ℕ → ℕ
      back = x.0.inverse

      go : (t : ℕ) → (π (back t) ≡ back t) ⊎ Together p (back t) (π (back t)) → (back t ≡ t) ⊎ Together p t (back t)
      go t (inl e) = inl (sym e ∙ x.0.after_inverse t)
      go t (inr k) = inr (k.0, k.1, subst (λ (u : ℕ). Memᴰ u k.0) (x.0.after_inverse t) k.3, k.2)

  pub exchange_both : WellFormed p → (ρ π : ℕ → ℕ) → Exchange p ρ → Exchange p π → Exchange p (λ t. ρ (π t))
  exchange_both w ρ π y x = (composed ρ π y.0 x.0, λ t. go t (x.1 t) (y.1 (π t)))
    where
      go : (t : ℕ) → (π t ≡ t) ⊎ Together p t (π t) → (ρ (π t) ≡ π t) ⊎ Together p (π t) (ρ (π t)) → (ρ (π t) ≡ t) ⊎ Together p t (ρ (π t))
      go t (inl e) (inl f) = inl (f ∙ e)
      go t (inl e) (inr k) = inr (k.0, k.1, subst (λ (u : ℕ). Memᴰ u k.0) e k.2, k.3)
      go t (inr k) (inl f) = inr (k.0, k.1, k.2, subst (λ (u : ℕ). Memᴰ u k.0) (sym f) k.3)
      go t (inr k) (inr l) = inr (k.0, k.1, k.2, subst (Memᴰ (ρ (π t))) (sym (one_group p.groups w.apart k.0 l.0 (π t) k.1 l.1 k.3 l.2)) l.3)

-- with no `02` line only the identity is permitted
pub only_identity : (p : Program) (π : ℕ → ℕ) → p.groups ≡ [] → Permitted p π → (t : ℕ) → π t ≡ t
only_identity p π e m t = go (m t)
  where
    go : (π t ≡ t) ⊎ Together p t (π t) → π t ≡ t
    go (inl i) = i
    go (inr k) = absurd (Memᴰ.not-nil (subst (Memᴰ k.0) e k.1))

-- two members of one `02` line exist and have one code
pub members : (p : Program) → WellFormed p → (u t : ℕ) → Together p u t → (u < length p.threads) × (t < length p.threads) × (code_of p u ≡ code_of p t)
members p w u t k =
    let g = everywhere_at (Group p) k.1 w.groups in (
      everywhere_at (λ x. x < length p.threads) k.2 g.exist,
      everywhere_at (λ x. x < length p.threads) k.3 g.exist,
      g.equal u t k.2 k.3,
    )
