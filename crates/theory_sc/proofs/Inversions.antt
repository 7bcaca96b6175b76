-- What a permutation of six moves, the pairs that it turns round tie together: t and where t goes are turned round with each other, or both with
-- some third of t's cycle. One computed test over the 720.
use Prim.Native.Nat.{ℕ, zero, suc, ◌<◌}
use mathlib.Core.Path.{◌≡◌, refl, sym, subst}
use mathlib.Core.Logic.{◌⊎◌, inl, inr}
use mathlib.Core.Bool.{Bool, true, ◌&&◌, ◌||◌}
use mathlib.Core.List.{List, Memᴰ}
use native.Mathlib.Omega.{arith}
use native.Mathlib.Decide.{dec_lt}
use lib.Dec.{eqb, ltb}
use borrow.Author.Tests.{eqb-true, ltb-true}
use Rattle.spec_file.proofs.DigitValues.{both}
use Rattle.spec_file.proofs.Tests.{either}
use Rattle.spec_schedules.specs.Lists.{range, any, all}
use Rattle.spec_schedules.specs.Permutations.{permutations, perms_of, each, without, moved}
use Rattle.spec_schedules.specs.Fulls.{fronts}
use Rattle.spec_schedules.proofs.Lists.{in_range_lem, any_yes, all_at}
use Rattle.spec_schedules.proofs.Group.{moved_above}

-- where so many turns of π take t
unfoldable pub taking : List ℕ → ℕ → ℕ → ℕ
taking π zero t = t
taking π (suc k) t = moved π (taking π k t)

-- π turns a and b round
unfoldable inverted : List ℕ → ℕ → ℕ → Bool
inverted π a b = (ltb a b && ltb (moved π b) (moved π a)) || (ltb b a && ltb (moved π a) (moved π b))

-- t stays, or is turned round with where it goes, or both with one of t's cycle
unfoldable tied : List ℕ → ℕ → Bool
tied π t = eqb (moved π t) t || (inverted π t (moved π t) || any (λ k. inverted π t (taking π k t) && inverted π (taking π k t) (moved π t)) (range 0 6))

all_tied : all (λ π. all (tied π) (range 0 6)) permutations ≡ true
unfolding taking inverted tied range any all permutations perms_of each without fronts
all_tied = refl

-- what the test says
inverted_is : (π : List ℕ) (a b : ℕ) → inverted π a b ≡ true → ((a < b) × (moved π b < moved π a)) ⊎ ((b < a) × (moved π a < moved π b))
unfolding inverted
inverted_is π a b e = go (either (ltb a b && ltb (moved π b) (moved π a)) (ltb b a && ltb (moved π a) (moved π b)) e)
  where
    go : ((ltb a b && ltb (moved π b) (moved π a)) ≡ true) ⊎ ((ltb b a && ltb (moved π a) (moved π b)) ≡ true) → ((a < b) × (moved π b < moved π a)) ⊎ ((b < a) × (moved π a < moved π b))
    go (inl q) = let k = both (ltb a b) (ltb (moved π b) (moved π a)) q in inl (ltb-true a b k.0, ltb-true (moved π b) (moved π a) k.1)
    go (inr q) = let k = both (ltb b a) (ltb (moved π a) (moved π b)) q in inr (ltb-true b a k.0, ltb-true (moved π a) (moved π b) k.1)

-- a relation that holds of the pairs that π turns round within lines that π keeps holds between each number and where it goes
module _ (π : List ℕ) (m : Memᴰ π permutations) (Line Tied : ℕ → ℕ → Type 0)
    (line-refl : (t : ℕ) → Line t t) (line_sym : (a b : ℕ) → Line a b → Line b a) (line_trans : (a b c : ℕ) → Line a b → Line b c → Line a c) (line_moved : (t : ℕ) → Line t (moved π t))
    (tied-refl : (t : ℕ) → Tied t t) (tied_sym : (a b : ℕ) → Tied a b → Tied b a) (tied_trans : (a b c : ℕ) → Tied a b → Tied b c → Tied a c)
    (tied_inverted : (a b : ℕ) → a < b → moved π b < moved π a → Line a b → Tied a b) where
  line_taking : (k t : ℕ) → Line t (taking π k t)
  unfolding taking
  line_taking zero t = line-refl t
  line_taking (suc k) t = line_trans t (taking π k t) (moved π (taking π k t)) (line_taking k t) (line_moved (taking π k t))

  by_inversion : (a b : ℕ) → Line a b → inverted π a b ≡ true → Tied a b
  by_inversion a b l e = go (inverted_is π a b e)
    where
      go : ((a < b) × (moved π b < moved π a)) ⊎ ((b < a) × (moved π a < moved π b)) → Tied a b
      go (inl k) = tied_inverted a b k.0 k.1 l
      go (inr k) = tied_sym b a (tied_inverted b a k.0 k.1 (line_sym a b l))

  ties_below : (t : ℕ) → tied π t ≡ true → Tied t (moved π t)
  unfolding tied
  ties_below t e = go (either (eqb (moved π t) t) _ e)
    where
      more : (inverted π t (moved π t) ≡ true) ⊎ (any (λ k. inverted π t (taking π k t) && inverted π (taking π k t) (moved π t)) (range 0 6) ≡ true) → Tied t (moved π t)
      more (inl q) = by_inversion t (moved π t) (line_moved t) q
      more (inr q) =
          let r = any_yes (λ k. inverted π t (taking π k t) && inverted π (taking π k t) (moved π t)) (range 0 6) q in
          let x : ℕ = taking π r.0 t in
          let k = both (inverted π t x) (inverted π x (moved π t)) r.2 in
          let l = line_taking r.0 t in
          tied_trans t x (moved π t) (by_inversion t x l k.0) (by_inversion x (moved π t) (line_trans x t (moved π t) (line_sym t x l) (line_moved t)) k.1)

      go : (eqb (moved π t) t ≡ true) ⊎ ((inverted π t (moved π t) || any (λ k. inverted π t (taking π k t) && inverted π (taking π k t) (moved π t)) (range 0 6)) ≡ true) → Tied t (moved π t)
      go (inl q) = subst (Tied t) (sym (eqb-true (moved π t) t q)) (tied-refl t)
      go (inr q) = more (either (inverted π t (moved π t)) _ q)

  pub ties : (t : ℕ) → Tied t (moved π t)
  ties t = go (dec_lt t 6)
    where
      go : Dec (t < 6) → Tied t (moved π t)
      go (yes h) = ties_below t (all_at (tied π) (range 0 6) t (all_at (λ π. all (tied π) (range 0 6)) permutations π all_tied m) (in_range_lem 0 6 t (omega arith) h))
      go (no h) = subst (Tied t) (sym (moved_above π m t (omega arith))) (tied-refl t)
