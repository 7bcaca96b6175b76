-- WAYS AS CODE CARRIES THEM: zeros at the start, then step by step; six numbers below 2^36. The test by words goes read by read.
use Prim.Native.Nat.{ℕ, zero, suc, ◌+◌, ◌/◌, ◌%◌, ◌^◌, ◌<◌}
use mathlib.Core.Path.{◌≡◌, refl, ap, ◌∙◌}
use mathlib.Core.Logic.{◌≢◌}
use mathlib.Core.Bool.{Bool, true, false, ◌&&◌, ◌||◌}
use mathlib.Core.List.{List, [], ◌∷◌, ◌++◌}
use native.Mathlib.Omega.{arith}
use native.Mathlib.Nat.{pow-suc}
use lib.Dec.{eqb}
use lib.ListN.{length, length-set, get_or}
use borrow.Author.Tests.{eq-eqb, ne_eqb}
use Rattle.spec_file.specs.Program.{Program}
use Rattle.spec_file.specs.WellFormed.{Everywhere}
use Rattle.spec_file.proofs.Everywhere.{everywhere_set}
use Rattle.spec_schedules.specs.Order.{Schedule}
use Rattle.spec_schedules.specs.System.{run}
use Rattle.spec_sc.specs.State.{State, place, step, SC, start}
use Rattle.spec_sc.specs.Graph.{end_of}
use Rattle.theory_sc_key.specs.Ways.{way_behind, ways_behind, ways_after, no_ways, ways_of, comes_back}

-- ---- STEP BY STEP
pub ways_start : (p : Program) → ways_of p [] ≡ no_ways
unfolding ways_of ways_after
ways_start p = refl

after_more : (v : Schedule) (σ : State) (ways : List ℕ) (t : ℕ) → ways_after σ ways (v ++ (t ∷ [])) ≡ ways_behind (run SC σ v) (ways_after σ ways v) t
unfolding ways_after run
after_more [] σ ways t = refl
after_more (s ∷ v) σ ways t = after_more v (step σ s) (ways_behind σ ways s) t

pub ways_more : (p : Program) (v : Schedule) (t : ℕ) → ways_of p (v ++ (t ∷ [])) ≡ ways_behind (end_of p v) (ways_of p v) t
unfolding ways_of
ways_more p v t = after_more v (start p) no_ways t

-- ---- SIX NUMBERS BELOW 2^36
after_six : (v : Schedule) (σ : State) (ways : List ℕ) → length (ways_after σ ways v) ≡ length ways
unfolding ways_after ways_behind
after_six [] σ ways = refl
after_six (t ∷ v) σ ways = after_six v (step σ t) (ways_behind σ ways t) ∙ length-set ways t _

pub ways_six : (p : Program) (v : Schedule) → length (ways_of p v) ≡ 6
unfolding ways_of no_ways
ways_six p v = after_six v (start p) no_ways

pub way_below : (way l : ℕ) → way_behind way l < 2 ^ 36
unfolding way_behind
way_below way l = omega arith

abbrev Below : List ℕ → Type 0
Below = Everywhere (λ n. n < 2 ^ 36)

after_below : (v : Schedule) (σ : State) (ways : List ℕ) → Below ways → Below (ways_after σ ways v)
unfolding ways_after ways_behind
after_below [] σ ways b = b
after_below (t ∷ v) σ ways b = after_below v (step σ t) (ways_behind σ ways t)
    (everywhere_set (λ n. n < 2 ^ 36) ways t (way_behind (get_or ways t 0) (place σ t)) b (way_below (get_or ways t 0) (place σ t)))

pub ways_below : (p : Program) (v : Schedule) → Everywhere (λ n. n < 2 ^ 36) (ways_of p v)
unfolding ways_of no_ways
ways_below p v = let low : 0 < 2 ^ 36 = omega arith in after_below v (start p) no_ways (low, (low, (low, (low, (low, (low, tt))))))

-- ---- READ BY READ
-- no more reads can be taken off a word than it has digits
enough : (n : ℕ) (stamps : List ℕ) (x y way : ℕ) → y < 32 ^ n → comes_back n stamps x y way ≡ comes_back (suc n) stamps x y way
unfolding comes_back
enough zero stamps x y way h =
    let none : eqb (get_or stamps (way % 8) 0 + 1) (y % 32) ≡ false = ne_eqb (get_or stamps (way % 8) 0 + 1) (y % 32) (λ e. omega arith) in
    rw none (go (eqb y x))
  where
    go : (b : Bool) → b ≡ (b || false)
    go true = refl
    go false = refl
enough (suc n) stamps x y way h =
    ap (λ (b : Bool). eqb y x || (eqb (get_or stamps (way % 8) 0 + 1) (y % 32) && b)) (enough n stamps x (y / 32) (way / 8) (omega (arith, h, pow-suc 32 n)))

-- a word comes back to itself
pub comes_back_at : (stamps : List ℕ) (x y way : ℕ) → y ≡ x → comes_back 12 stamps x y way ≡ true
unfolding comes_back
comes_back_at stamps x y way e = let q = eq-eqb y x e in rw q refl

-- any other comes back if its latest read is of the last write there and the word without it comes back
pub comes_back_on : (stamps : List ℕ) (x y way : ℕ) → y ≢ x → y < 2 ^ 60 →
    comes_back 12 stamps x y way ≡ (eqb (get_or stamps (way % 8) 0 + 1) (y % 32) && comes_back 12 stamps x (y / 32) (way / 8))
unfolding comes_back
comes_back_on stamps x y way ne h =
    let q = ne_eqb y x ne in
    let c : 32 ^ 11 ≡ 2 ^ 55 = refl in
    let e = enough 11 stamps x (y / 32) (way / 8) (omega (arith, c, h)) in
    rw q (ap (λ (b : Bool). eqb (get_or stamps (way % 8) 0 + 1) (y % 32) && b) e)
