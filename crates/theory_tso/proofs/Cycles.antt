-- Where a permutation of six takes a number up, one of its cycle above it comes down to it or below; where it takes one down, one of its cycle not above
-- the place where it comes goes up over that place. One computed test over the 720.
use Prim.Native.Nat.{ℕ, zero, suc, ◌<◌, ◌≤◌}
use mathlib.Core.Path.{◌≡◌, refl, sym, ap, ◌∙◌}
use mathlib.Core.Logic.{◌⊎◌, inl, inr}
use mathlib.Core.Bool.{Bool, true, ◌&&◌, ◌||◌, not, false≢true}
use mathlib.Core.List.{List, Memᴰ}
use native.Mathlib.Omega.{arith}
use native.Mathlib.Decide.{dec_lt}
use lib.Dec.{ltb}
use borrow.Author.Tests.{ltb-true, lt-ltb}
use Rattle.spec_file.proofs.DigitValues.{both}
use Rattle.spec_file.proofs.Tests.{either}
use Rattle.spec_schedules.specs.Lists.{range, any, all}
use Rattle.spec_schedules.specs.Permutations.{permutations, perms_of, each, without, moved}
use Rattle.spec_schedules.specs.Fulls.{fronts}
use Rattle.spec_schedules.proofs.Lists.{in_range_lem, any_yes, all_at}
use Rattle.spec_schedules.proofs.Group.{moved_above}
use Rattle.theory_sc.proofs.Inversions.{taking}

-- a stays or comes down, or some of its cycle above it comes to it or below
unfoldable ups : List ℕ → ℕ → Bool
ups π a = not (ltb a (moved π a)) || any (λ k. ltb a (taking π k a) && ltb (moved π (taking π k a)) (suc a)) (range 0 6)

-- a stays or goes up, or some of its cycle, not above where a comes, goes over that place
unfoldable downs : List ℕ → ℕ → Bool
downs π a = not (ltb (moved π a) a) || any (λ k. ltb (taking π k a) (suc (moved π a)) && ltb (moved π a) (moved π (taking π k a))) (range 0 6)

all_up : all (λ π. all (ups π) (range 0 6)) permutations ≡ true
unfolding taking ups range any all permutations perms_of each without fronts
all_up = refl

all_down : all (λ π. all (downs π) (range 0 6)) permutations ≡ true
unfolding taking downs range any all permutations perms_of each without fronts
all_down = refl

not_lt : (a b : ℕ) → a < b → not (ltb a b) ≡ true → ⊥
not_lt a b h e = false≢true (sym (ap not (lt-ltb a b h)) ∙ e)

module _ (π : List ℕ) (m : Memᴰ π permutations) (Line : ℕ → ℕ → Type 0)
    (line-refl : (t : ℕ) → Line t t) (line_sym : (a b : ℕ) → Line a b → Line b a) (line_trans : (a b c : ℕ) → Line a b → Line b c → Line a c) (line_moved : (t : ℕ) → Line t (moved π t)) where
  line_taking : (k t : ℕ) → Line t (taking π k t)
  unfolding taking
  line_taking zero t = line-refl t
  line_taking (suc k) t = line_trans t (taking π k t) (moved π (taking π k t)) (line_taking k t) (line_moved (taking π k t))

  pub goes_up : (a : ℕ) → a < moved π a → (b : ℕ) × (a < b) × (moved π b ≤ a) × Line a b
  unfolding ups
  goes_up a h = go (dec_lt a 6)
    where
      at : (not (ltb a (moved π a)) ≡ true) ⊎ (any (λ k. ltb a (taking π k a) && ltb (moved π (taking π k a)) (suc a)) (range 0 6) ≡ true) → (b : ℕ) × (a < b) × (moved π b ≤ a) × Line a b
      at (inl q) = absurd (not_lt a (moved π a) h q)
      at (inr q) =
          let r = any_yes (λ k. ltb a (taking π k a) && ltb (moved π (taking π k a)) (suc a)) (range 0 6) q in
          let k = both (ltb a (taking π r.0 a)) (ltb (moved π (taking π r.0 a)) (suc a)) r.2 in
          let i = ltb-true a (taking π r.0 a) k.0 in
          let j = ltb-true (moved π (taking π r.0 a)) (suc a) k.1 in
          (taking π r.0 a, i, omega (arith, j), line_taking r.0 a)

      go : Dec (a < 6) → (b : ℕ) × (a < b) × (moved π b ≤ a) × Line a b
      go (yes s) = at (either (not (ltb a (moved π a))) _ (all_at (ups π) (range 0 6) a (all_at (λ ρ. all (ups ρ) (range 0 6)) permutations π all_up m) (in_range_lem 0 6 a (omega arith) (omega (arith, s)))))
      go (no s) = absurd (omega (arith, h, moved_above π m a (omega (arith, s))))

  pub goes_down : (a : ℕ) → moved π a < a → (b : ℕ) × (b ≤ moved π a) × (moved π a < moved π b) × Line b a
  unfolding downs
  goes_down a h = go (dec_lt a 6)
    where
      at : (not (ltb (moved π a) a) ≡ true) ⊎ (any (λ k. ltb (taking π k a) (suc (moved π a)) && ltb (moved π a) (moved π (taking π k a))) (range 0 6) ≡ true) → (b : ℕ) × (b ≤ moved π a) × (moved π a < moved π b) × Line b a
      at (inl q) = absurd (not_lt (moved π a) a h q)
      at (inr q) =
          let r = any_yes (λ k. ltb (taking π k a) (suc (moved π a)) && ltb (moved π a) (moved π (taking π k a))) (range 0 6) q in
          let k = both (ltb (taking π r.0 a) (suc (moved π a))) (ltb (moved π a) (moved π (taking π r.0 a))) r.2 in
          let i = ltb-true (taking π r.0 a) (suc (moved π a)) k.0 in
          let j = ltb-true (moved π a) (moved π (taking π r.0 a)) k.1 in
          (taking π r.0 a, omega (arith, i), j, line_sym a (taking π r.0 a) (line_taking r.0 a))

      go : Dec (a < 6) → (b : ℕ) × (b ≤ moved π a) × (moved π a < moved π b) × Line b a
      go (yes s) = at (either (not (ltb (moved π a) a)) _ (all_at (downs π) (range 0 6) a (all_at (λ ρ. all (downs ρ) (range 0 6)) permutations π all_down m) (in_range_lem 0 6 a (omega arith) (omega (arith, s)))))
      go (no s) = absurd (omega (arith, h, moved_above π m a (omega (arith, s))))
