-- Who is near whom, test by test as the code asks.
use Prim.Native.Nat.{ℕ, ◌/◌, ◌%◌, ◌^◌, ◌+◌, ◌<◌, ◌≤◌}
use mathlib.Core.Path.{◌≡◌, refl, sym, ap, ◌∙◌}
use mathlib.Core.Bool.{Bool, true, false, cond, not, ◌&&◌}
use mathlib.Core.List.{List}
use native.Mathlib.Omega.{arith}
use lib.Dec.{eqb, ltb}
use lib.ListN.{get_or}
use borrow.Author.Tests.{eq-eqb, ne_eqb}
use Rattle.spec_file.specs.Program.{Program}
use Rattle.spec_model.specs.Exchange.{together}
use Rattle.search_place.specs.ClassGroups.{Lined}
use Rattle.search_place.proofs.ClassGroups.{together_class, not_together, together_known, alone_known}
use Rattle.theory_sc.specs.ReadWords.{Words}
use Rattle.theory_sc.specs.Sets.{set_of}
use Rattle.theory_sc.proofs.Sets.{set_none}
use Rattle.theory_sc_key.specs.Ways.{comes_back, near_by_word}
use Rattle.theory_sc_key.proofs.Ways.{comes_back_on}

-- ---- a word that comes back, read by read
module _ (stamps : List ℕ) (x y way s : ℕ) (stamp : s ≡ get_or stamps (way % 8) 0) where
  pub back_not : (y ≡ x → ⊥) → y < 2 ^ 60 → (s + 1 ≡ y % 32 → ⊥) → comes_back 12 stamps x y way ≡ false
  back_not ne h d =
      let q : eqb (get_or stamps (way % 8) 0 + 1) (y % 32) ≡ false = ne_eqb (get_or stamps (way % 8) 0 + 1) (y % 32) (λ e. d (ap (λ (k : ℕ). k + 1) stamp ∙ e)) in
      comes_back_on stamps x y way ne h ∙ rw q

  pub back_on : (y ≡ x → ⊥) → y < 2 ^ 60 → s + 1 ≡ y % 32 → comes_back 12 stamps x y way ≡ comes_back 12 stamps x (y / 32) (way / 8)
  back_on ne h d =
      let q : eqb (get_or stamps (way % 8) 0 + 1) (y % 32) ≡ true = eq-eqb (get_or stamps (way % 8) 0 + 1) (y % 32) (sym (ap (λ (k : ℕ). k + 1) stamp) ∙ d) in
      comes_back_on stamps x y way ne h ∙ rw q

  -- while reads are taken off something is left
  pub back_less : s + 1 ≡ y % 32 → y / 32 < y
  back_less d = omega arith

-- ---- two threads
module _ (class : List ℕ) (groups : ℕ) (p : Program) (lines : Lined class groups p) (m : Words) (ways : List ℕ) (t u : ℕ) where
  abbrev whole : Bool
  whole = near_by_word p m ways t u

  pub near_self : t ≡ u → false ≡ near_by_word p m ways t u
  unfolding near_by_word
  near_self e = let q = eq-eqb t u e in rw q

  apart : together p.groups t u ≡ false → near_by_word p m ways t u ≡ false
  unfolding near_by_word
  apart e = rw e (go (not (eqb t u)))
    where
      go : (b : Bool) → (b && false) ≡ false
      go true = refl
      go false = refl

  pub near_alone : get_or class u 0 ≡ 0 → false ≡ near_by_word p m ways t u
  near_alone e = sym (apart (ap (λ (g : List (List ℕ)). together g t u) lines.same ∙ alone_known class groups t u e))

  pub near_unlined : get_or class t 0 ≡ 0 → near_by_word p m ways t u ≡ false
  near_unlined e = apart (ap (λ (g : List (List ℕ)). together g t u) lines.same ∙ not_together class groups t u (λ k. let q = (together_class class groups t u k).1 in omega (arith, q, e)))

  module _ (h : t < 6) (i : u < 6) (some : get_or class u 0 ≡ 0 → ⊥) where
    lined : eqb (get_or class t 0) (get_or class u 0) ≡ together p.groups t u
    lined = together_known class groups t u lines.known h i some ∙ ap (λ (g : List (List ℕ)). together g t u) (sym lines.same)

    pub near_other : (get_or class t 0 ≡ get_or class u 0 → ⊥) → false ≡ near_by_word p m ways t u
    near_other n = sym (apart (sym lined ∙ ne_eqb _ _ n))

    pub near_behind : (t ≡ u → ⊥) → get_or class t 0 ≡ get_or class u 0
        → (ltb (get_or m.words t 0) (2 ^ 60) && (ltb (get_or m.words u 0) (2 ^ 60) && comes_back 12 m.stamps (get_or m.words t 0) (get_or m.words u 0) (get_or ways u 0))) ≡ near_by_word p m ways t u
    unfolding near_by_word
    near_behind n e =
        let a = ne_eqb t u n in
        let b : together p.groups t u ≡ true = sym lined ∙ eq-eqb _ _ e in
        sym (rw (a, b))

-- one of no class is near none
pub set_unlined : (class : List ℕ) (groups : ℕ) (p : Program) → Lined class groups p → (m : Words) (ways : List ℕ) (t : ℕ) → get_or class t 0 ≡ 0 → 0 ≡ set_of (near_by_word p m ways t) 6
set_unlined class groups p lines m ways t e = sym (set_none (near_by_word p m ways t) 6 (λ u h. near_unlined class groups p lines m ways t u e))

-- a number that is chosen, or none
pub within : (b : Bool) (k r : ℕ) → r ≡ cond b k 0 → r ≤ k
within true k r e = omega (arith, e)
within false k r e = omega (arith, e)
