-- An array made by calls of a closure that changes nothing: what every call gives stands at its index.
use Rattle.std.proofs.Common.{ℕ, zero, suc, ◌+◌, ◌<◌, ◌≤◌, ◌≡◌, List, get_or, sym, subst, arith}
use denote.Param.Members.{Mut}
use Rattle.std.specs.Fn.{Called}
use Rattle.std.specs.Array.{IsFromFnResultFrom}
use Rattle.std.proofs.Math.Nat.{eq-or-lt_of_le}
use Rattle.std.proofs.Math.Logic.{⊎_elim}

module _ {F X : Type 0} (g : Mut F (ℕ × Unit {0}) X) (P : ℕ → X → Type 0) (f : F) (ys : List X) (m : ℕ)
    (gives : (j : ℕ) (y : X) (q : F) → j < m → Called g f (j, tt) y q → (q ≡ f) × P j y) where
  pub made_at : (i n : ℕ) → i + n ≡ m → IsFromFnResultFrom g f ys i n → (k : ℕ) → i ≤ k → k < m → (d : X) → P k (get_or ys k d)
  made_at i zero e h k a b d = absurd (omega arith)
  made_at i (suc n) e h k a b d =
      let first = gives i h.1 h.0 (omega arith) h.3 in
      let rest : IsFromFnResultFrom g f ys (i + 1) n = subst (λ (q : F). IsFromFnResultFrom g q ys (i + 1) n) first.0 h.4 in
      ⊎_elim (λ (s : i ≡ k). subst (λ (j : ℕ). P j (get_or ys j d)) s (subst (P i) (sym (h.2.1 d)) first.1))
      (λ (l : i < k). made_at (i + 1) n (omega arith) rest k (omega arith) b d) (eq-or-lt_of_le a)
