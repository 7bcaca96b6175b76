-- Permutations by where each number may go: a table of six times six, one row after the other; and the permutations of a table counted.
use Prim.Native.Nat.{ℕ, suc, ◌+◌, ◌*◌, ◌/◌, ◌%◌, ◌<◌}
use native.Mathlib.Omega.{arith}
use mathlib.Core.Path.{◌≡◌, refl, sym, ap, subst, ◌∙◌}
use mathlib.Core.Bool.{Bool, true, false, true≢false}
use mathlib.Core.List.{List, [], ◌∷◌, map, Memᴰ}
use lib.ListN.{length, get_or, drop, length-map, get_or-map, drop_of_length-le}
use lib.Seq.{drop-cons}
use Rattle.spec_file.proofs.Tests.{equal_tests}
use Rattle.spec_schedules.specs.Lists.{range, all, filter}
use Rattle.spec_schedules.specs.Permutations.{permutations, permutation_of, moved, unpacked}
use Rattle.spec_schedules.proofs.Lists.{in_range_lem, of_range, all_at, all_of, filter_yes, filter_no}
use Rattle.spec_schedules.proofs.Numbered.{permutations_length}
use Rattle.spec_schedules.proofs.Group.{get_d_any, member_permutation, moved_below, numbered_member}
use Rattle.class_size.specs.Moves.{goes_by, goes_where}

-- tests that agree on the members of a list
all_same : {A : Type 0} (f g : A → Bool) (l : List A) → ((x : A) → Memᴰ x l → f x ≡ g x) → all f l ≡ all g l
all_same f g l h = equal_tests (all f l) (all g l)
    (λ e. all_of g l (λ x m. sym (h x m) ∙ all_at f l x e m))
    (λ e. all_of f l (λ x m. h x m ∙ all_at g l x e m))

pub filter_agree : {A : Type 0} (f g : A → Bool) (l : List A) → ((x : A) → Memᴰ x l → f x ≡ g x) → filter f l ≡ filter g l
unfolding filter
filter_agree f g [] h = refl
filter_agree {A} f g (x ∷ l) h = go (g x) refl (filter_agree f g l (λ y m. h y (Memᴰ.tail m)))
  where
    go : (b : Bool) → g x ≡ b → filter f l ≡ filter g l → filter f (x ∷ l) ≡ filter g (x ∷ l)
    go true e ih = filter_yes f x l (h x (Memᴰ.head refl) ∙ e) ∙ ap (λ (r : List A). x ∷ r) ih ∙ sym (filter_yes g x l e)
    go false e ih = filter_no f x l (h x (Memᴰ.head refl) ∙ e) ∙ ih ∙ sym (filter_no g x l e)

-- where a number goes, as the code reads it
abbrev place : List Bool → List ℕ → ℕ → Bool
place may π t = get_or may (t * 6 + get_or π t 0) false

module _ (may : List Bool) (π : List ℕ) (six : length π ≡ 6) where
  place_is : (t : ℕ) → t < 6 → place may π t ≡ get_or may (t * 6 + moved π t) false
  place_is t h = ap (λ (u : ℕ). get_or may (t * 6 + u) false) (get_d_any π t 0 t (omega arith))

  pub goes_not : (t : ℕ) → t < 6 → place may π t ≡ false → false ≡ goes_by may π
  unfolding goes_by
  goes_not t h e = go (goes_by may π) refl
    where
      go : (b : Bool) → goes_by may π ≡ b → false ≡ goes_by may π
      go false q = sym q
      go true q = absurd (true≢false (sym (all_at (λ u. get_or may (u * 6 + moved π u) false) (range 0 6) t q (in_range_lem 0 6 t (omega arith) h)) ∙ sym (place_is t h) ∙ e))

  pub goes_all : ((t : ℕ) → t < 6 → place may π t ≡ true) → true ≡ goes_by may π
  unfolding goes_by
  goes_all h = sym (all_of (λ u. get_or may (u * 6 + moved π u) false) (range 0 6) (λ t m. let b = (of_range 0 6 t m).1 in sym (place_is t b) ∙ h t b))

-- ---- the table of permutations
module _ (table : List ℕ) (tabled : map unpacked table ≡ permutations) where
  pub row_is : (k : ℕ) → k < 720 → get_or permutations k [] ≡ unpacked (get_or table k 0)
  row_is k h =
      let n : length table ≡ 720 = sym (length-map table unpacked) ∙ ap length tabled ∙ permutations_length in
      ap (λ (l : List (List ℕ)). get_or l k []) (sym tabled) ∙ get_d_any (map unpacked table) k [] (unpacked 0) (omega (arith, length-map table unpacked)) ∙ get_or-map unpacked table k 0

  pub row_in : (k : ℕ) → k < 720 → Memᴰ (unpacked (get_or table k 0)) permutations
  unfolding permutation_of
  row_in k h = let e : k % 720 ≡ k = omega arith in subst (λ (π : List ℕ). Memᴰ π permutations) (ap (λ (j : ℕ). get_or permutations j []) e ∙ row_is k h) (numbered_member k)

  -- the digits of a row are below six
  pub row_below : (k : ℕ) → k < 720 → (t : ℕ) → t < 6 → get_or (unpacked (get_or table k 0)) t 0 < 6
  row_below k h t i =
      let π = unpacked (get_or table k 0) in
      let m = row_in k h in
      subst (λ (x : ℕ). x < 6) (get_d_any π t t 0 (omega (arith, (member_permutation π m).six))) (moved_below π m t i)

  -- the permutations from row k on
  pub rows_next : (k : ℕ) → k < 720 → drop k permutations ≡ unpacked (get_or table k 0) ∷ drop (k + 1) permutations
  rows_next k h =
      let s : suc k ≡ k + 1 = omega arith in
      drop-cons permutations k [] (omega (arith, permutations_length)) ∙ ap (λ (π : List ℕ). π ∷ drop (suc k) permutations) (row_is k h)
      ∙ ap (λ (j : ℕ). unpacked (get_or table k 0) ∷ drop j permutations) s

  module _ (f : List ℕ → Bool) (k n : ℕ) (h : k < 720) (so_far : n + length (filter f (drop k permutations)) ≡ length (filter f permutations)) where
    pub count_yes : f (unpacked (get_or table k 0)) ≡ true → n + 1 + length (filter f (drop (k + 1) permutations)) ≡ length (filter f permutations)
    count_yes e =
        let q = ap (λ (l : List (List ℕ)). length (filter f l)) (rows_next k h) ∙ ap length (filter_yes f (unpacked (get_or table k 0)) (drop (k + 1) permutations) e) in
        omega (arith, q, so_far)

    pub count_no : f (unpacked (get_or table k 0)) ≡ false → n + length (filter f (drop (k + 1) permutations)) ≡ length (filter f permutations)
    count_no e =
        let q = ap (λ (l : List (List ℕ)). length (filter f l)) (rows_next k h) ∙ ap length (filter_no f (unpacked (get_or table k 0)) (drop (k + 1) permutations) e) in
        omega (arith, q, so_far)

-- behind the last row there is none
pub none_left : (f : List ℕ → Bool) (n : ℕ) → n + length (filter f (drop 720 permutations)) ≡ length (filter f permutations) → n ≡ length (filter f permutations)
unfolding filter
none_left f n e =
    let z : drop 720 permutations ≡ [] = drop_of_length-le permutations {i = 720} (omega (arith, permutations_length)) in
    let q : length (filter f (drop 720 permutations)) ≡ 0 = ap (λ (l : List (List ℕ)). length (filter f l)) z in
    omega (arith, e, q)

-- ---- a table that says what a test says
pub goes_where_lem : (may : List Bool) (test : ℕ → ℕ → Bool) → ((k : ℕ) → k < 36 → get_or may k false ≡ test (k / 6) (k % 6)) → (π : List ℕ) → Memᴰ π permutations → goes_by may π ≡ goes_where test π
unfolding goes_by goes_where
goes_where_lem may test h π m = all_same (λ t. get_or may (t * 6 + moved π t) false) (λ t. test t (moved π t)) (range 0 6)
    (λ t i. let b = (of_range 0 6 t i).1 in let u = moved_below π m t b in
    let d : (t * 6 + moved π t) / 6 ≡ t = omega (arith, u) in
    let r : (t * 6 + moved π t) % 6 ≡ moved π t = omega (arith, u) in
    h (t * 6 + moved π t) (omega (arith, b, u)) ∙ ap (λ (x : ℕ). test x ((t * 6 + moved π t) % 6)) d ∙ ap (test t) r)
