-- Nearness from arrays, test by test as the code asks.
use Prim.Native.Nat.{ℕ, zero, suc, ◌-◌, ◌/◌, ◌%◌, ◌^◌, ◌<◌, ◌≤◌}
use mathlib.Core.Path.{◌≡◌, refl, sym, ap, ◌∙◌}
use mathlib.Core.Logic.{◌≢◌}
use mathlib.Core.Bool.{Bool, true, false, not, ◌&&◌, ◌||◌}
use mathlib.Core.List.{List}
use native.Mathlib.Omega.{arith}
use lib.Dec.{eqb, ltb}
use lib.ListN.{get_or}
use borrow.Author.Tests.{eq-eqb, ne_eqb, lt-ltb, le-ltb}
use Rattle.spec_file.specs.Program.{Program}
use Rattle.spec_model.specs.Exchange.{together}
use Rattle.machine.specs.declared.state.LastWrite.{LastWrite}
use Rattle.search_place.specs.ClassGroups.{Lined}
use Rattle.search_place.proofs.ClassGroups.{together_known, alone_known}
use Rattle.theory_sc.specs.Sets.{set_of}
use Rattle.theory_sc.proofs.Sets.{set_none}
use Rattle.theory_tso_key.specs.Ways.{again, becomes, near_by_word}
use Rattle.tso_key.specs.Carried.{last_as, carried_near}

-- ---- one access
pub own_no : (d : ℕ) → d ≤ 2 → false ≡ (ltb 2 d && ltb d 19)
own_no d h = let q = le-ltb 2 d h in sym (rw q)

pub own_maybe : (d : ℕ) → (d ≤ 2 → ⊥) → ltb d 19 ≡ (ltb 2 d && ltb d 19)
own_maybe d h = let q = lt-ltb 2 d (omega (arith, h)) in sym (rw q)

module _ (last : ℕ → ℕ) (d l : ℕ) where
  pub again_store : d ≡ 1 → true ≡ again last d l
  unfolding again
  again_store e = let q = eq-eqb d 1 e in rw q

  pub again_own : (b : Bool) → b ≡ (ltb 2 d && ltb d 19) → b ≡ true → true ≡ again last d l
  unfolding again
  again_own b e f = let q : (ltb 2 d && ltb d 19) ≡ true = sym e ∙ f in sym (rw q (go (eqb d 1)))
    where
      go : (x : Bool) → (x || true) ≡ true
      go true = refl
      go false = refl

  pub again_read : d ≢ 1 → (b : Bool) → b ≡ (ltb 2 d && ltb d 19) → b ≡ false → (s : ℕ) → s ≡ last l → eqb d s ≡ again last d l
  unfolding again
  again_read n b e f s i = let q = ne_eqb d 1 n in let z : (ltb 2 d && ltb d 19) ≡ false = sym e ∙ f in ap (eqb d) i ∙ sym (rw (q, z))

-- ---- access by access
module _ (last : ℕ → ℕ) (n x y w : ℕ) where
  pub led_here : y ≡ x → true ≡ becomes last n x y w
  unfolding becomes
  led_here e = go n
    where
      same : eqb y x ≡ true
      same = eq-eqb y x e

      go : (k : ℕ) → true ≡ becomes last k x y w
      go zero = sym same
      go (suc k) = let q = same in rw q

  pub led_last : n ≡ 0 → eqb y x ≡ becomes last n x y w
  unfolding becomes
  led_last e = sym (ap (λ (k : ℕ). becomes last k x y w) e)

  pub led_off : n ≢ 0 → y ≢ x → (b : Bool) → b ≡ again last (y % 128) (w % 8) → b ≡ false → false ≡ becomes last n x y w
  unfolding becomes
  led_off z ne b e f = go n z
    where
      go : (k : ℕ) → k ≢ 0 → false ≡ becomes last k x y w
      go zero i = absurd (i refl)
      go (suc k) i = let q = ne_eqb y x ne in let a : again last (y % 128) (w % 8) ≡ false = sym e ∙ f in sym (rw (q, a))

  pub led_on : n ≢ 0 → y ≢ x → (b : Bool) → b ≡ again last (y % 128) (w % 8) → b ≡ true → becomes last n x y w ≡ becomes last (n - 1) x (y / 128) (w / 8)
  unfolding becomes
  led_on z ne b e f = go n z
    where
      go : (k : ℕ) → k ≢ 0 → becomes last k x y w ≡ becomes last (k - 1) x (y / 128) (w / 8)
      go zero i = absurd (i refl)
      go (suc k) i =
          let q = ne_eqb y x ne in
          let a : again last (y % 128) (w % 8) ≡ true = sym e ∙ f in
          let down : suc k - 1 ≡ k = omega arith in
          rw (q, a) (ap (λ (j : ℕ). becomes last j x (y / 128) (w / 8)) (sym down))

-- ---- two words
module _ (last : ℕ → ℕ) (x y w : ℕ) where
  pub word_lone : 2 ^ 60 ≤ x → false ≡ near_by_word last x y w
  unfolding near_by_word
  word_lone h = let q = le-ltb x (2 ^ 60) h in sym (rw q)

  pub from_lone : x < 2 ^ 60 → 2 ^ 60 ≤ y → false ≡ near_by_word last x y w
  unfolding near_by_word
  from_lone i h = let p = lt-ltb x (2 ^ 60) i in let q = le-ltb y (2 ^ 60) h in sym (rw (p, q))

  pub both_plain : x < 2 ^ 60 → y < 2 ^ 60 → (b : Bool) → b ≡ becomes last 8 x y w → b ≡ near_by_word last x y w
  unfolding near_by_word
  both_plain i h b e = let p = lt-ltb x (2 ^ 60) i in let q = lt-ltb y (2 ^ 60) h in e ∙ sym (rw (p, q))

-- ---- two threads
module _ (class : List ℕ) (groups : ℕ) (p : Program) (lines : Lined class groups p) (last : List LastWrite) (words ways : List ℕ) (t u : ℕ) where
  pub near_self : t ≡ u → false ≡ carried_near p last words ways t u
  unfolding carried_near
  near_self e = let q = eq-eqb t u e in sym (rw q)

  apart : together p.groups u t ≡ false → carried_near p last words ways t u ≡ false
  unfolding carried_near
  apart e = rw e (go (not (eqb t u)))
    where
      go : (b : Bool) → (b && false) ≡ false
      go true = refl
      go false = refl

  pub near_alone : get_or class t 0 ≡ 0 → carried_near p last words ways t u ≡ false
  near_alone e = apart (ap (λ (g : List (List ℕ)). together g u t) lines.same ∙ alone_known class groups u t e)

  module _ (h : t < 6) (i : u < 6) (some : get_or class t 0 ≢ 0) where
    lined : eqb (get_or class u 0) (get_or class t 0) ≡ together p.groups u t
    lined = together_known class groups u t lines.known i h some ∙ ap (λ (g : List (List ℕ)). together g u t) (sym lines.same)

    pub near_other : get_or class u 0 ≢ get_or class t 0 → false ≡ carried_near p last words ways t u
    near_other n = sym (apart (sym lined ∙ ne_eqb _ _ n))

    pub near_behind : t ≢ u → get_or class u 0 ≡ get_or class t 0 → (b : Bool) → b ≡ near_by_word (last_as last) (get_or words t 0) (get_or words u 0) (get_or ways u 0) → b ≡ carried_near p last words ways t u
    unfolding carried_near
    near_behind n e b q =
        let x = ne_eqb t u n in
        let y : together p.groups u t ≡ true = sym lined ∙ eq-eqb _ _ e in
        q ∙ sym (rw (x, y))

-- one of no class is near none
pub set_alone : (class : List ℕ) (groups : ℕ) (p : Program) → Lined class groups p → (last : List LastWrite) (words ways : List ℕ) (t : ℕ) → get_or class t 0 ≡ 0 → 0 ≡ set_of (carried_near p last words ways t) 6
set_alone class groups p lines last words ways t e = sym (set_none (carried_near p last words ways t) 6 (λ u h. near_alone class groups p lines last words ways t u e))
