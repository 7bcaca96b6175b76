-- Where an instruction stands: thread t and place i, whose row is t * 16 + i; and what stands at each place once a thread has an instruction more.
use Prim.Native.Nat.{ℕ, zero, suc, ◌+◌, ◌*◌, ◌<◌}
use native.Mathlib.Omega.{arith}
use mathlib.Core.Path.{◌≡◌, refl, ap}
use mathlib.Core.Logic.{◌⊎◌, inl, inr}
use mathlib.Core.Bool.{Bool, true, false}
use mathlib.Core.List.{List, [], ◌∷◌, ◌++◌}
use lib.ListN.{length, get_or, set, length-append}
use lib.Seq.{get_or-set_same, get_or-set_other, get_or-append_seam}
use lib.Dec.{eqb, ltb}
use borrow.Author.Tests.{eqb-true, eqb-false, ltb-true, ltb-false}
use Rattle.spec_file.specs.Decode.{Placed}

-- ---- two places: the same, or of different rows
module _ (t i a b : ℕ) where
  abbrev pub Here : Type 0
  Here = (t ≡ a) × (i ≡ b)

  pub place : Here ⊎ (Here → ⊥)
  place = go (eqb t a) refl (eqb i b) refl
    where
      go : (x : Bool) → eqb t a ≡ x → (y : Bool) → eqb i b ≡ y → Here ⊎ (Here → ⊥)
      go true p true q = inl (eqb-true t a p, eqb-true i b q)
      go true p false q = inr (λ h. eqb-false i b q h.1)
      go false p y q = inr (λ h. eqb-false t a p h.0)

  pub apart : (Here → ⊥) → i < 16 → b < 16 → (t * 16 + i < a * 16 + b) ⊎ (a * 16 + b < t * 16 + i)
  apart h hi hb = go (ltb (t * 16 + i) (a * 16 + b)) refl (ltb (a * 16 + b) (t * 16 + i)) refl
    where
      go : (x : Bool) → ltb (t * 16 + i) (a * 16 + b) ≡ x → (y : Bool) → ltb (a * 16 + b) (t * 16 + i) ≡ y
          → (t * 16 + i < a * 16 + b) ⊎ (a * 16 + b < t * 16 + i)
      go true p y q = inl (ltb-true (t * 16 + i) (a * 16 + b) p)
      go false p true q = inr (ltb-true (a * 16 + b) (t * 16 + i) q)
      go false p false q =
          let u = ltb-false (t * 16 + i) (a * 16 + b) p in
          let v = ltb-false (a * 16 + b) (t * 16 + i) q in
          absurd (h (omega arith, omega arith))

  pub same_row : (Here → ⊥) → i < 16 → b < 16 → t * 16 + i ≡ a * 16 + b → ⊥
  same_row h hi hb e = h (omega arith, omega arith)

-- ---- one thread with one instruction more
snoc_other : (xs : List Placed) (x d : Placed) (i : ℕ) → (i ≡ length xs → ⊥) → get_or (xs ++ (x ∷ [])) i d ≡ get_or xs i d
snoc_other [] x d zero h = absurd (h refl)
snoc_other [] x d (suc i) h = refl
snoc_other (y ∷ ys) x d zero h = refl
snoc_other (y ∷ ys) x d (suc i) h = snoc_other ys x d i (λ e. h (ap suc e))

module _ (cs : List (List Placed)) (a : ℕ) (inside : a < length cs) (x : Placed) where
  abbrev last : List Placed
  last = get_or cs a []

  abbrev longer : List (List Placed)
  longer = set cs a (last ++ (x ∷ []))

  last_longer : get_or longer a [] ≡ last ++ (x ∷ [])
  last_longer = get_or-set_same cs a (last ++ (x ∷ [])) [] inside

  pub placed_new : (d : Placed) → get_or (get_or longer a []) (length last) d ≡ x
  placed_new d = rw last_longer (get_or-append_seam last x [] d)

  pub placed_before : (t i : ℕ) (d : Placed) → (((t ≡ a) × (i ≡ length last)) → ⊥) → get_or (get_or longer t []) i d ≡ get_or (get_or cs t []) i d
  placed_before t i d h = go (eqb t a) refl
    where
      same : t ≡ a → get_or (get_or longer t []) i d ≡ get_or (get_or cs t []) i d
      same e = rw (e, last_longer) (snoc_other last x d i (λ q. h (e, q)))

      go : (b : Bool) → eqb t a ≡ b → get_or (get_or longer t []) i d ≡ get_or (get_or cs t []) i d
      go true p = same (eqb-true t a p)
      go false p = ap (λ (c : List Placed). get_or c i d) (get_or-set_other cs a t (last ++ (x ∷ [])) [] (eqb-false t a p))

  pub length_new : length (get_or longer a []) ≡ length last + 1
  length_new = rw last_longer (length-append last (x ∷ []))

  pub length_before : (t : ℕ) → (t ≡ a → ⊥) → length (get_or longer t []) ≡ length (get_or cs t [])
  length_before t h = ap (λ (c : List Placed). length c) (get_or-set_other cs a t (last ++ (x ∷ [])) [] h)
