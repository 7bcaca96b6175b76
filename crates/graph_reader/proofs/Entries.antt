-- Tables of pairs: what an entry is once one has been put.
use Prim.Native.Nat.{ℕ, ◌+◌, ◌*◌, ◌<◌, ◌≤◌}
use mathlib.Core.Path.{◌≡◌, refl, sym, subst, ◌∙◌}
use mathlib.Core.Logic.{◌≢◌, ◌⊎◌, inl, inr}
use mathlib.Core.List.{List}
use native.Mathlib.Omega.{arith}
use native.Mathlib.Decide.{ℕ_discrete}
use lib.ListN.{length, get_or, set, length-set, replicate, get_or-replicate}
use lib.Seq.{get_or-set_same, get_or-set_other}
use Rattle.spec_sc.specs.State.{Event}
use Rattle.graph_reader.specs.Held.{no_line, Entry, put, Ordered}

module _ (table : List ℕ) (k a b : ℕ) where
  pub length_put : length (put table k a b) ≡ length table
  length_put = length-set (set table (k * 2) a) (k * 2 + 1) b ∙ length-set table (k * 2) a

  pub entry_put : k * 2 + 1 < length table → Entry (put table k a b) k (a, b)
  entry_put h = (
    get_or-set_other (set table (k * 2) a) (k * 2 + 1) (k * 2) b 0 (λ q. omega arith) ∙ get_or-set_same table (k * 2) a 0 (omega arith),
    get_or-set_same (set table (k * 2) a) (k * 2 + 1) b 0 (let e = length-set table (k * 2) a in omega arith),
  )

  pub entry_kept : (j : ℕ) (e : Event) → j ≢ k → Entry table j e → Entry (put table k a b) j e
  entry_kept j e n E = (kept (j * 2) (λ q. n (omega arith)) (λ q. omega arith) ∙ E.0, kept (j * 2 + 1) (λ q. omega arith) (λ q. n (omega arith)) ∙ E.1)
    where
      kept : (i : ℕ) → i ≢ k * 2 → i ≢ k * 2 + 1 → get_or (put table k a b) i 0 ≡ get_or table i 0
      kept i p q = get_or-set_other (set table (k * 2) a) (k * 2 + 1) i b 0 q ∙ get_or-set_other table (k * 2) i a 0 p

-- an entry of the table before anything is read
pub unset : (j : ℕ) → j < 288 → Entry (replicate 576 254) j (254, 254)
unset j h = (get_or-replicate 576 (j * 2) 254 0 (omega arith), get_or-replicate 576 (j * 2 + 1) 254 0 (omega arith))

-- ---- the 24 entries of a location, one after the other
module _ (old : List ℕ) (l : ℕ) (ws : List Event) where
  pub ordered_none : length old ≡ 576 → Ordered old l ws 0 old
  ordered_none n = record { size = n; inside = λ q h. absurd (omega arith); outside = λ j h. (refl, refl) }

  pub ordered_more : (k a b : ℕ) (p : List ℕ) → Ordered old l ws k p → k < 24 → l < 8 → get_or ws k no_line ≡ (a, b) → Ordered old l ws (k + 1) (put p (96 + (l * 24 + k)) a b)
  ordered_more k a b p O h c e = record {
    size = length_put p (96 + (l * 24 + k)) a b ∙ O.size;
    inside = λ q i. go q i (ℕ_discrete q k);
    outside = λ j i. entry_kept p (96 + (l * 24 + k)) a b j _ (λ q. apart j q i) (O.outside j i);
  }
    where
      apart : (j : ℕ) → j ≡ 96 + (l * 24 + k) → (j < 96 + l * 24) ⊎ (96 + (l * 24 + 24) ≤ j) → ⊥
      apart j q (inl i) = omega arith
      apart j q (inr i) = omega arith

      go : (q : ℕ) → q < k + 1 → Dec (q ≡ k) → Entry (put p (96 + (l * 24 + k)) a b) (96 + (l * 24 + q)) (get_or ws q no_line)
      go q i (yes z) = rw z (subst (Entry (put p (96 + (l * 24 + k)) a b) (96 + (l * 24 + k))) (sym e) (entry_put p (96 + (l * 24 + k)) a b (let n = O.size in omega arith)))
      go q i (no z) = entry_kept p (96 + (l * 24 + k)) a b (96 + (l * 24 + q)) (get_or ws q no_line) (λ w. z (omega arith)) (O.inside q (omega (arith, z)))
