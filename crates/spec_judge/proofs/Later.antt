-- Remaining later in a list whose last member stands first, over `++`, and lists in which nothing stands twice.
use Prim.Native.Nat.{ℕ, ◌<◌}
use mathlib.Core.Path.{◌≡◌, sym, subst}
use mathlib.Core.Logic.{◌⊎◌, inl, inr, ⊎_elim}
use mathlib.Core.List.Memᴰ
use mathlib.Core.List.{List, [], ◌∷◌, ◌++◌, Memᴰ}
use Rattle.spec_sc.specs.State.{Event}
use Rattle.spec_judge.specs.Consistent.{Later, Descends}
use Rattle.spec_schedules.specs.Lists.{Distinct}

module _ {A : Type 0} where
  pub later_in : (ws : List A) (y x : A) → Later ws y x → Memᴰ y ws × Memᴰ x ws
  later_in [] y x f = absurd f
  later_in (w ∷ ws) y x (inl q) = (Memᴰ.head q.0, Memᴰ.tail q.1)
  later_in (w ∷ ws) y x (inr f) = let r = later_in ws y x f in (Memᴰ.tail r.0, Memᴰ.tail r.1)

  -- behind the head
  pub later_tail : (w : A) (ws : List A) (y x : A) → Later (w ∷ ws) y x → Memᴰ x ws
  later_tail w ws y x (inl q) = q.1
  later_tail w ws y x (inr f) = (later_in ws y x f).1

  pub later_right : (front ws : List A) (y x : A) → Later ws y x → Later (front ++ ws) y x
  later_right [] ws y x f = f
  later_right (w ∷ front) ws y x f = inr (later_right front ws y x f)

  pub later_across : (front ws : List A) (y x : A) → Memᴰ y front → Memᴰ x ws → Later (front ++ ws) y x
  later_across [] ws y x m k = absurd (Memᴰ.not-nil m)
  later_across (w ∷ front) ws y x m k = ⊎_elim (λ (q : y ≡ w). inl (q, Memᴰ.append_right front k))
      (λ (j : Memᴰ y front). inr (later_across front ws y x j k)) (Memᴰ.cases_cons m)

  pub later_cases : (front ws : List A) (y x : A) → Later (front ++ ws) y x → Memᴰ y front ⊎ Later ws y x
  later_cases [] ws y x f = inr f
  later_cases (w ∷ front) ws y x (inl q) = inl (Memᴰ.head q.0)
  later_cases (w ∷ front) ws y x (inr f) = ⊎_elim (λ (k : Memᴰ y front). inl (Memᴰ.tail k)) (λ (k : Later ws y x). inr k) (later_cases front ws y x f)

-- nothing comes later than itself
pub distinct_later : (ws : List Event) (x : Event) → Distinct ws → Later ws x x → ⊥
distinct_later [] x d f = f
distinct_later (w ∷ ws) x d (inl q) = d.0 (subst (λ (e : Event). Memᴰ e ws) q.0 q.1)
distinct_later (w ∷ ws) x d (inr f) = distinct_later ws x d.1 f

-- nothing stands in both parts
pub distinct_apart : (front ws : List Event) (x : Event) → Distinct (front ++ ws) → Memᴰ x front → Memᴰ x ws → ⊥
distinct_apart front ws x d m k = distinct_later (front ++ ws) x d (later_across front ws x x m k)

pub distinct_right : (front ws : List Event) → Distinct (front ++ ws) → Distinct ws
distinct_right [] ws d = d
distinct_right (w ∷ front) ws d = distinct_right front ws d.1

-- what is behind a read has a smaller number, so that a number stands once
pub descends_later : (rs : List (ℕ × Event)) (y x : ℕ × Event) → Descends rs → Later rs y x → x.0 < y.0
descends_later [] y x d f = absurd f
descends_later (r ∷ rs) y x d (inl q) = subst (λ (k : ℕ × Event). x.0 < k.0) (sym q.0) (d.0 x q.1)
descends_later (r ∷ rs) y x d (inr f) = descends_later rs y x d.1 f

pub distinct_snoc : (ws : List Event) (x : Event) → Distinct ws → (Memᴰ x ws → ⊥) → Distinct (ws ++ (x ∷ []))
distinct_snoc [] x d n = ((λ k. Memᴰ.not-nil k), tt)
distinct_snoc (w ∷ ws) x d n = (
  (λ k. ⊎_elim (λ (j : Memᴰ w ws). d.0 j) (λ (j : Memᴰ w (x ∷ [])). n (Memᴰ.head (sym (Memᴰ.eq_of_singleton j)))) (Memᴰ.append_cases ws k)),
  distinct_snoc ws x d.1 (λ k. n (Memᴰ.tail k)),
)
