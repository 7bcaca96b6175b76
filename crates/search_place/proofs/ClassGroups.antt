-- Two threads stand in one `02` line exactly if they have its number as their class.
use Prim.Native.Nat.{ℕ, zero, suc, ◌+◌, ◌-◌, ◌<◌, ◌≤◌}
use mathlib.Core.Path.{◌≡◌, refl, sym, ap, ap₂, ◌∙◌, subst}
use mathlib.Core.Bool.{Bool, true, false}
use mathlib.Core.List.{List, [], ◌∷◌, Memᴰ}
use native.Mathlib.Omega.{arith}
use native.Mathlib.Decide.{dec_lt}
use lib.Dec.{eqb}
use lib.ListN.{get_or}
use borrow.Author.Tests.{eqb-true, eqb-false, ne_eqb}
use Rattle.file_decoder.specs.declared.file.Compiled.{Compiled}
use Rattle.spec_file.specs.Program.{Program}
use Rattle.file_decoder.specs.Compiled.{select, members_of, program_of}
use Rattle.spec_file.specs.Tabulate.{tabulate}
use Rattle.file_rows.proofs.Tabulate.{in_tabulate, of_tabulate}
use Rattle.file_decoder.proofs.Classes.{in_members, of_members}
use Rattle.file_decoder.proofs.Decoded.{decoded_groups}
use Rattle.spec_model.specs.Exchange.{together}
use Rattle.search_place.specs.ClassGroups.{groups_of}
use Rattle.spec_model.proofs.Permitted.{together_true, true_together}

-- the groups of a decoded program
pub program_groups : (c : Compiled) → (program_of c).groups ≡ groups_of c.class c.groups
unfolding groups_of
program_groups c = decoded_groups c

-- ---- one line
module _ (class : List ℕ) (n t u : ℕ) where
  abbrev grouped : Program
  grouped = record { threads = []; groups = groups_of class n; starting = [] }

  pub together_class : together (groups_of class n) t u ≡ true → (u < 6) × (0 < get_or class t 0) × (get_or class t 0 ≤ n) × (get_or class u 0 ≡ get_or class t 0)
  unfolding groups_of
  together_class e =
      let k = together_true grouped t u e in
      let r = of_tabulate (λ k. members_of class (k + 1)) n k.0 k.1 in
      let a = of_members class (r.0 + 1) t (subst (λ (l : List ℕ). Memᴰ t l) r.2 k.2) in
      let b = of_members class (r.0 + 1) u (subst (λ (l : List ℕ). Memᴰ u l) r.2 k.3) in
      (b.0, omega (arith, a.1), omega (arith, a.1, r.1), b.1 ∙ sym a.1)

  pub class_together : t < 6 → u < 6 → 0 < get_or class t 0 → get_or class t 0 ≤ n → get_or class u 0 ≡ get_or class t 0 → together (groups_of class n) t u ≡ true
  unfolding groups_of
  class_together h i pos le e =
      let q : get_or class t 0 ≡ get_or class t 0 - 1 + 1 = omega arith in
      true_together grouped t u (
        members_of class (get_or class t 0 - 1 + 1),
        in_tabulate (λ k. members_of class (k + 1)) n (get_or class t 0 - 1) (omega arith),
        in_members class (get_or class t 0 - 1 + 1) t h q,
        in_members class (get_or class t 0 - 1 + 1) u i (e ∙ q),
      )

  pub not_together : (together (groups_of class n) t u ≡ true → ⊥) → together (groups_of class n) t u ≡ false
  not_together nope = go (together (groups_of class n) t u) refl
    where
      go : (b : Bool) → together (groups_of class n) t u ≡ b → together (groups_of class n) t u ≡ false
      go true e = absurd (nope e)
      go false e = e

  pub together_test : t < 6 → u < 6 → 0 < get_or class t 0 → get_or class t 0 ≤ n → eqb (get_or class u 0) (get_or class t 0) ≡ together (groups_of class n) t u
  together_test h i pos le = go (eqb (get_or class u 0) (get_or class t 0)) refl
    where
      go : (b : Bool) → eqb (get_or class u 0) (get_or class t 0) ≡ b → eqb (get_or class u 0) (get_or class t 0) ≡ together (groups_of class n) t u
      go true e = e ∙ sym (class_together h i pos le (eqb-true (get_or class u 0) (get_or class t 0) e))
      go false e = e ∙ sym (not_together (λ k. eqb-false (get_or class u 0) (get_or class t 0) e (together_class k).3))

-- ---- classes of which each names a group or none
-- where t has a class, the same class is the same line
pub together_known : (class : List ℕ) (n u t : ℕ) → ((x : ℕ) → x < 6 → get_or class x 0 ≤ n) → u < 6 → t < 6 → (get_or class t 0 ≡ 0 → ⊥) → eqb (get_or class u 0) (get_or class t 0) ≡ together (groups_of class n) u t
together_known class n u t known h i some = go (eqb (get_or class u 0) (get_or class t 0)) refl
  where
    go : (b : Bool) → eqb (get_or class u 0) (get_or class t 0) ≡ b → eqb (get_or class u 0) (get_or class t 0) ≡ together (groups_of class n) u t
    go true e = let q = eqb-true (get_or class u 0) (get_or class t 0) e in e ∙ sym (class_together class n u t h i (omega (arith, q, some)) (known u h) (sym q))
    go false e = e ∙ sym (not_together class n u t (λ k. eqb-false (get_or class u 0) (get_or class t 0) e (sym (together_class class n u t k).3)))

-- a thread without a class stands in no line
pub alone_known : (class : List ℕ) (n u t : ℕ) → get_or class t 0 ≡ 0 → together (groups_of class n) u t ≡ false
alone_known class n u t e = not_together class n u t (λ k. let r = together_class class n u t k in omega (arith, r.1, r.3, e))

-- ---- groups go by the classes that name one
select_same : (f g : ℕ → Bool) (k n : ℕ) → ((t : ℕ) → k ≤ t → t < k + n → f t ≡ g t) → select f k n ≡ select g k n
unfolding select
select_same f g k zero h = refl
select_same f g k (suc n) h = go (f k) refl (select_same f g (suc k) n (λ t a b. h t (omega arith) (omega arith)))
  where
    go : (b : Bool) → f k ≡ b → select f (suc k) n ≡ select g (suc k) n → select f k (suc n) ≡ select g k (suc n)
    go true e ih = let q = sym (h k (omega arith) (omega arith)) ∙ e in rw (e, q, select) (ap (λ (l : List ℕ). k ∷ l) ih)
    go false e ih = let q = sym (h k (omega arith) (omega arith)) ∙ e in rw (e, q, select) ih

tabulate_same : {A : Type 0} (f g : ℕ → A) (n : ℕ) → ((k : ℕ) → k < n → f k ≡ g k) → tabulate f n ≡ tabulate g n
unfolding tabulate
tabulate_same f g zero h = refl
tabulate_same {A} f g (suc n) h = ap₂ (λ (x : A) (l : List A). x ∷ l) (h 0 (omega arith)) (tabulate_same (λ i. f (suc i)) (λ i. g (suc i)) n (λ k i. h (suc k) (omega arith)))

pub groups_same : (class class' : List ℕ) (n : ℕ) → ((t g : ℕ) → t < 6 → 0 < g → g ≤ n → eqb (get_or class' t 0) g ≡ eqb (get_or class t 0) g) → groups_of class' n ≡ groups_of class n
unfolding groups_of members_of
groups_same class class' n h =
    tabulate_same (λ k. members_of class' (k + 1)) (λ k. members_of class (k + 1)) n
    (λ k i. select_same (λ t. eqb (get_or class' t 0) (k + 1)) (λ t. eqb (get_or class t 0) (k + 1)) 0 6 (λ t a b. h t (k + 1) (omega arith) (omega arith) (omega arith)))

-- classes, each itself where it names a group and else none
abbrev pub Kept : ℕ → ℕ → ℕ → Type 0
Kept n g r = (r ≤ n) × (g ≤ n → r ≡ g) × (n < g → r ≡ 0)

module _ (class known : List ℕ) (n : ℕ) (each : (t : ℕ) → t < 6 → Kept n (get_or class t 0) (get_or known t 0)) where
  same_test : (x r g : ℕ) → Kept n x r → 0 < g → g ≤ n → eqb r g ≡ eqb x g
  same_test x r g k h i = go (dec_lt n x)
    where
      go : Dec (n < x) → eqb r g ≡ eqb x g
      go (yes l) = let q = k.2 l in ne_eqb r g (λ z. omega (arith, q, z)) ∙ sym (ne_eqb x g (λ z. omega (arith, l, z)))
      go (no l) = ap (λ (y : ℕ). eqb y g) (k.1 (omega (arith, l)))

  pub all_known : ((t : ℕ) → t < 6 → get_or known t 0 ≤ n) × (groups_of known n ≡ groups_of class n)
  all_known = (λ t h. (each t h).0, groups_same class known n (λ t g h i j. same_test (get_or class t 0) (get_or known t 0) g (each t h) i j))
