-- A WAY AS FAR AS EIGHT ACCESSES GO serves as well as the whole, and so do last writes of the eight locations.
use Prim.Native.Nat.{ℕ, zero, suc, ◌/◌, ◌%◌, ◌^◌, ◌<◌}
use mathlib.Core.Path.{◌≡◌, refl, sym, ap, ap₂, subst, ◌∙◌}
use mathlib.Core.Bool.{Bool, ◌&&◌, ◌||◌}
use native.Mathlib.Omega.{arith}
use lib.Dec.{eqb, ltb}
use Rattle.theory_tso_key.specs.Ways.{again, becomes, near_by_word}

-- the same in the last n places of three bits
abbrev Low : ℕ → ℕ → ℕ → Type 0
Low zero w v = Unit {0}
Low (suc n) w v = (w % 8 ≡ v % 8) × Low n (w / 8) (v / 8)

again_low : (f g : ℕ → ℕ) (d k l : ℕ) → k ≡ l → f l ≡ g l → again f d k ≡ again g d l
unfolding again
again_low f g d k l e q = ap (λ (z : ℕ). eqb d 1 || ((ltb 2 d && ltb d 19) || eqb d z)) (ap f e ∙ q)

becomes_low : (f g : ℕ → ℕ) → ((l : ℕ) → l < 8 → f l ≡ g l) → (n x y w v : ℕ) → Low n w v → becomes f n x y w ≡ becomes g n x y v
unfolding becomes
becomes_low f g e zero x y w v h = refl
becomes_low f g e (suc n) x y w v h = ap₂ (λ (a b : Bool). eqb y x || (a && b)) (again_low f g (y % 128) (w % 8) (v % 8) h.0 (e (v % 8) (omega arith))) (becomes_low f g e n x (y / 128) (w / 8) (v / 8) h.1)

low_0 : (w : ℕ) → Low 1 (w % 2 ^ 3) w
low_0 w = (omega arith, tt)

low_1 : (w : ℕ) → Low 2 (w % 2 ^ 6) w
low_1 w = let e : w % 2 ^ 6 / 8 ≡ w / 8 % 2 ^ 3 = omega arith in (omega arith, subst (λ (z : ℕ). Low 1 z (w / 8)) (sym e) (low_0 (w / 8)))

low_2 : (w : ℕ) → Low 3 (w % 2 ^ 9) w
low_2 w = let e : w % 2 ^ 9 / 8 ≡ w / 8 % 2 ^ 6 = omega arith in (omega arith, subst (λ (z : ℕ). Low 2 z (w / 8)) (sym e) (low_1 (w / 8)))

low_3 : (w : ℕ) → Low 4 (w % 2 ^ 12) w
low_3 w = let e : w % 2 ^ 12 / 8 ≡ w / 8 % 2 ^ 9 = omega arith in (omega arith, subst (λ (z : ℕ). Low 3 z (w / 8)) (sym e) (low_2 (w / 8)))

low_4 : (w : ℕ) → Low 5 (w % 2 ^ 15) w
low_4 w = let e : w % 2 ^ 15 / 8 ≡ w / 8 % 2 ^ 12 = omega arith in (omega arith, subst (λ (z : ℕ). Low 4 z (w / 8)) (sym e) (low_3 (w / 8)))

low_5 : (w : ℕ) → Low 6 (w % 2 ^ 18) w
low_5 w = let e : w % 2 ^ 18 / 8 ≡ w / 8 % 2 ^ 15 = omega arith in (omega arith, subst (λ (z : ℕ). Low 5 z (w / 8)) (sym e) (low_4 (w / 8)))

low_6 : (w : ℕ) → Low 7 (w % 2 ^ 21) w
low_6 w = let e : w % 2 ^ 21 / 8 ≡ w / 8 % 2 ^ 18 = omega arith in (omega arith, subst (λ (z : ℕ). Low 6 z (w / 8)) (sym e) (low_5 (w / 8)))

low_7 : (w : ℕ) → Low 8 (w % 2 ^ 24) w
low_7 w = let e : w % 2 ^ 24 / 8 ≡ w / 8 % 2 ^ 21 = omega arith in (omega arith, subst (λ (z : ℕ). Low 7 z (w / 8)) (sym e) (low_6 (w / 8)))

pub near_low : (f g : ℕ → ℕ) → ((l : ℕ) → l < 8 → f l ≡ g l) → (x y w : ℕ) → near_by_word f x y (w % 2 ^ 24) ≡ near_by_word g x y w
unfolding near_by_word
near_low f g e x y w = ap (λ (b : Bool). ltb x (2 ^ 60) && (ltb y (2 ^ 60) && b)) (becomes_low f g e 8 x y (w % 2 ^ 24) w (low_7 w))
