-- What the slot at a place says of a key, by its three tests; zeros say nothing.
use Rattle.std.proofs.Common.{◌≡◌, ℕ, ◌+◌, ◌<◌, ◌≤◌, Bool, true, false, eqb, leb, ◌≢◌, List, [], ◌∷◌, length, get_or, drop, replicate, sym, refl, ap, ◌∙◌, arith, get_or-drop, get_or-take, eq-eqb, ne_eqb, eqb-true, le-leb, leb-true}
use mathlib.Core.Option.{Option, none, some}
use borrow.Author.Tests.{eqb-false}
use lib.ListN.{length-replicate, get_or-replicate}
use Rattle.spec_file.specs.Lists.{same_list}
use Rattle.spec_file.proofs.Lists.{same_list_lem, same_list_is}
use Rattle.table.specs.Said.{part, said_at}

-- two lists of words are the same where the test says so
pub words_same : (a b : List ℕ) → same_list eqb a b ≡ true → a ≡ b
words_same a b e = same_list_is eqb (λ x y h. eqb-true x y h) a b e

pub same_words : (a b : List ℕ) → a ≡ b → same_list eqb a b ≡ true
same_words a b e = rw e (same_list_lem eqb (λ x. eq-eqb x x refl) b)

module _ (at width : ℕ) (m k : List ℕ) where
  pub said_unmarked : get_or k 0 0 ≡ 0 → said_at at width m k ≡ none
  unfolding said_at
  said_unmarked e = rw (eq-eqb (get_or k 0 0) 0 e)

  pub said_outside : leb (at + (length k + width)) (length m) ≡ false → said_at at width m k ≡ none
  unfolding said_at
  said_outside e = go (eqb (get_or k 0 0) 0) refl
    where
      go : (b : Bool) → eqb (get_or k 0 0) 0 ≡ b → said_at at width m k ≡ none
      go true u = rw u
      go false u = rw (u, e)

  pub said_other : same_list eqb (part m at (length k)) k ≡ false → said_at at width m k ≡ none
  unfolding said_at
  said_other e = go (eqb (get_or k 0 0) 0) (leb (at + (length k + width)) (length m)) refl refl
    where
      go : (b d : Bool) → eqb (get_or k 0 0) 0 ≡ b → leb (at + (length k + width)) (length m) ≡ d → said_at at width m k ≡ none
      go true d u v = rw u
      go false true u v = rw (u, v, e)
      go false false u v = rw (u, v)

  pub said_found : get_or k 0 0 ≢ 0 → leb (at + (length k + width)) (length m) ≡ true → same_list eqb (part m at (length k)) k ≡ true
      → said_at at width m k ≡ some (part m (at + length k) width)
  unfolding said_at
  said_found n f e = rw (ne_eqb (get_or k 0 0) 0 n, f, e)

  -- what it says is that the key stands in it, and behind the key these words
  pub said_some : (c : List ℕ) → said_at at width m k ≡ some c
      → (get_or k 0 0 ≢ 0) × (at + (length k + width) ≤ length m) × (part m at (length k) ≡ k) × (part m (at + length k) width ≡ c)
  said_some c s = go (eqb (get_or k 0 0) 0) (leb (at + (length k + width)) (length m)) (same_list eqb (part m at (length k)) k) refl refl refl
    where
      nothing : said_at at width m k ≡ none → ⊥
      nothing e = let z : ◌≡◌ {A = ℕ} 0 1 = cc in omega arith

      go : (b d f : Bool) → eqb (get_or k 0 0) 0 ≡ b → leb (at + (length k + width)) (length m) ≡ d → same_list eqb (part m at (length k)) k ≡ f
          → (get_or k 0 0 ≢ 0) × (at + (length k + width) ≤ length m) × (part m at (length k) ≡ k) × (part m (at + length k) width ≡ c)
      go true d f u v w = absurd (nothing (said_unmarked (eqb-true (get_or k 0 0) 0 u)))
      go false false f u v w = absurd (nothing (said_outside v))
      go false true false u v w = absurd (nothing (said_other w))
      go false true true u v w =
          let n : get_or k 0 0 ≢ 0 = eqb-false (get_or k 0 0) 0 u in
          let e : some (part m (at + length k) width) ≡ some c = sym (said_found n v w) ∙ s in
          (n, leb-true (at + (length k + width)) (length m) v, words_same (part m at (length k)) k w, (cc))

  pub said_is : (c : List ℕ) → get_or k 0 0 ≢ 0 → at + (length k + width) ≤ length m → part m at (length k) ≡ k → part m (at + length k) width ≡ c
      → said_at at width m k ≡ some c
  said_is c n f e g = said_found n (le-leb (at + (length k + width)) (length m) f) (same_words (part m at (length k)) k e) ∙ ap some g

-- a key that can stand in a slot has a word
marked_long : (k : List ℕ) → get_or k 0 0 ≢ 0 → 0 < length k
marked_long [] n = absurd (n refl)
marked_long (w ∷ k) n = omega arith

-- zeros say nothing of any key
pub said_zeros : (n at width : ℕ) (k : List ℕ) → said_at at width (replicate n 0) k ≡ none
said_zeros n at width k = go (said_at at width (replicate n 0) k) refl
  where
    go : (o : Option (List ℕ)) → said_at at width (replicate n 0) k ≡ o → said_at at width (replicate n 0) k ≡ none
    go none e = e
    go (some c) e =
        let s = said_some at width (replicate n 0) k c e in
        let h : at + (length k + width) ≤ n = rw length-replicate at s.1 in
        let l : 0 < length k = marked_long k s.0 in
        let z : get_or (part (replicate n 0) at (length k)) 0 0 ≡ 0 =
        get_or-take (length k) (drop at (replicate n 0)) 0 0 l ∙ get_or-drop at (replicate n 0) 0 0 ∙ get_or-replicate n (at + 0) 0 0 (omega arith) in
        absurd (s.0 (ap (λ (l : List ℕ). get_or l 0 0) (sym s.2) ∙ z))
