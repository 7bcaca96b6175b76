-- The number that each thread has as its class gives the groups back: `select` finds the members of each, which are the threads with its number.
use Prim.Native.Nat.{ℕ, zero, suc, ◌+◌, ◌≤◌, ◌<◌}
use native.Mathlib.Omega.{arith}
use native.Mathlib.Nat.{eq-or-lt_of_le}
use mathlib.Core.Path.{◌≡◌, refl, sym, ap, subst, ◌∙◌}
use mathlib.Core.Logic.{◌⊎◌, inl, inr, ⊎_elim}
use mathlib.Core.Bool.{Bool, true, false, cond, ◌||◌, false≢true}
use mathlib.Core.List.Memᴰ
use mathlib.Core.List.{List, [], ◌∷◌, Memᴰ}
use borrow.Author.Tests.{ltb-true, eqb-true, eqb-false, eq-eqb, ne_eqb}
use lib.Dec.{eqb, ltb}
use Rattle.spec_file.specs.Lists.{Ascends}
use lib.ListN.{get_or}
use Rattle.spec_file.specs.WellFormed.{Everywhere, Apart}
use Rattle.spec_file.specs.Decode.{among}
use Rattle.file_decoder.specs.Compiled.{select, members_of}
use Rattle.file_refusals.specs.Held.{class_from}
use Rattle.spec_file.proofs.Everywhere.{everywhere_all, everywhere_weaken, everywhere_get_d}
use Rattle.spec_file.proofs.InstructionFrames.{among_member}

-- ---- what `select` finds
-- one number more, found or not
select_with : (f : ℕ → Bool) (k n : ℕ) → f k ≡ true → select f k (suc n) ≡ k ∷ select f (suc k) n
unfolding select
select_with f k n e = rw (e, select)

select_without : (f : ℕ → Bool) (k n : ℕ) → f k ≡ false → select f k (suc n) ≡ select f (suc k) n
unfolding select
select_without f k n e = rw (e, select)

-- a number below all of a list is not in it
among_above : (t : ℕ) (g : List ℕ) → Everywhere (λ u. t < u) g → among t g ≡ false
unfolding among
among_above t [] h = refl
among_above t (u ∷ us) h = rw (ne_eqb t u (λ e. omega (arith, h.0))) (among_above t us h.1)

-- the first of an ascending list is below the others
below_all : (t : ℕ) (ts : List ℕ) → Ascends ltb (t ∷ ts) → Everywhere (λ u. t < u) ts
below_all t ts a = everywhere_all (λ u. t < u) ts (λ u m. ltb-true t u (a.0 u m))

-- a test that says which numbers from k on stand in an ascending list finds that list
abbrev pub Finds : (ℕ → Bool) → ℕ → ℕ → List ℕ → Type 0
Finds f k n g =
    Ascends ltb g → Everywhere (λ t. k ≤ t) g → Everywhere (λ t. t < k + n) g → ((t : ℕ) → k ≤ t → t < k + n → f t ≡ among t g) → select f k n ≡ g

finds_more : (f : ℕ → Bool) (k n t : ℕ) (ts : List ℕ) → ((g : List ℕ) → Finds f (suc k) n g) → (b : Bool) → eqb k t ≡ b → Finds f k (suc n) (t ∷ ts)
unfolding among
finds_more f k n t ts next true e a low high h =
    let q : k ≡ t = eqb-true k t e in
    let found : f k ≡ true = h k (omega arith) (omega arith) ∙ ap (λ (b : Bool). b || among k ts) e in
    let low' = everywhere_weaken (λ u. t < u) (λ u. suc k ≤ u) (λ u b. omega arith) ts (below_all t ts a) in
    let high' = everywhere_weaken (λ u. u < k + suc n) (λ u. u < suc k + n) (λ u b. omega arith) ts high.1 in
    let tests : (u : ℕ) → suc k ≤ u → u < suc k + n → f u ≡ among u ts =
    λ u b c. h u (omega arith) (omega arith) ∙ ap (λ (x : Bool). x || among u ts) (ne_eqb u t (λ p. omega arith)) in
    let later : select f (suc k) n ≡ ts = next ts a.1 low' high' tests in
    select_with f k n found ∙ (λ i. q i ∷ later i)
finds_more f k n t ts next false e a low high h =
    let less : k < t = omega (arith, eqb-false k t e, low.0) in
    let above : Everywhere (λ u. k < u) (t ∷ ts) = (less, everywhere_weaken (λ u. t < u) (λ u. k < u) (λ u b. omega arith) ts (below_all t ts a)) in
    let high' = everywhere_weaken (λ u. u < k + suc n) (λ u. u < suc k + n) (λ u b. omega arith) (t ∷ ts) high in
    select_without f k n (h k (omega arith) (omega arith) ∙ among_above k (t ∷ ts) above)
    ∙ next (t ∷ ts) a above high' (λ u b c. h u (omega arith) (omega arith))

pub select_members : (f : ℕ → Bool) (k n : ℕ) (g : List ℕ) → Finds f k n g
unfolding select among
select_members f k zero [] a low high h = refl
select_members f k zero (t ∷ ts) a low high h = absurd (omega (arith, low.0, high.0))
select_members f k (suc n) [] a low high h =
    select_without f k n (h k (omega arith) (omega arith))
    ∙ select_members f (suc k) n [] tt tt tt (λ t b c. h t (omega arith) (omega arith))
select_members f k (suc n) (t ∷ ts) a low high h = finds_more f k n t ts (select_members f (suc k) n) (eqb k t) refl a low high h

-- the numbers found are those that pass
pub in_select : (f : ℕ → Bool) (k n t : ℕ) → k ≤ t → t < k + n → f t ≡ true → Memᴰ t (select f k n)
in_select f k zero t l h e = absurd (omega arith)
in_select f k (suc n) t l h e = go (f k) refl (eq-or-lt_of_le l) (λ g. in_select f (suc k) n t g (omega arith) e)
  where
    go : (b : Bool) → f k ≡ b → (k ≡ t) ⊎ (suc k ≤ t) → (suc k ≤ t → Memᴰ t (select f (suc k) n)) → Memᴰ t (select f k (suc n))
    go true q (inl i) ih = rw (select_with f k n q) (Memᴰ.head (sym i))
    go true q (inr g) ih = rw (select_with f k n q) (Memᴰ.tail (ih g))
    go false q (inl i) ih = absurd (false≢true (sym q ∙ ap f i ∙ e))
    go false q (inr g) ih = rw (select_without f k n q) (ih g)

pub of_select : (f : ℕ → Bool) (k n t : ℕ) → Memᴰ t (select f k n) → (k ≤ t) × (t < k + n) × (f t ≡ true)
unfolding select
of_select f k zero t m = absurd (Memᴰ.not-nil m)
of_select f k (suc n) t m = go (f k) refl (λ j. of_select f (suc k) n t j)
  where
    further : (suc k ≤ t) × (t < suc k + n) × (f t ≡ true) → (k ≤ t) × (t < k + suc n) × (f t ≡ true)
    further r = (omega (arith, r.0), omega (arith, r.1), r.2)

    go : (b : Bool) → f k ≡ b → (Memᴰ t (select f (suc k) n) → (suc k ≤ t) × (t < suc k + n) × (f t ≡ true)) → (k ≤ t) × (t < k + suc n) × (f t ≡ true)
    go true q ih =
        ⊎_elim (λ (i : t ≡ k). (omega arith, omega arith, ap f i ∙ q)) (λ (j : Memᴰ t (select f (suc k) n)). further (ih j))
        (Memᴰ.cases_cons (subst (Memᴰ t) (select_with f k n q) m))
    go false q ih = further (ih (subst (Memᴰ t) (select_without f k n q) m))

-- the members of a group are the threads that have its number as their class
pub in_members : (class : List ℕ) (g t : ℕ) → t < 6 → get_or class t 0 ≡ g → Memᴰ t (members_of class g)
unfolding members_of
in_members class g t h e = in_select (λ t. eqb (get_or class t 0) g) 0 6 t (omega arith) h (eq-eqb (get_or class t 0) g e)

pub of_members : (class : List ℕ) (g t : ℕ) → Memᴰ t (members_of class g) → (t < 6) × (get_or class t 0 ≡ g)
unfolding members_of
of_members class g t m = let r = of_select (λ t. eqb (get_or class t 0) g) 0 6 t m in (r.1, eqb-true (get_or class t 0) g r.2)

-- ---- the class of a thread
-- 0, or the number of a group
class_range : (k t : ℕ) (gs : List (List ℕ)) → (class_from k t gs ≡ 0) ⊎ (k ≤ class_from k t gs)
unfolding class_from
class_range k t [] = inl refl
class_range k t (g ∷ gs) = go (among t g) (class_range (suc k) t gs) where
  go : (b : Bool) {c : ℕ} → (c ≡ 0) ⊎ (suc k ≤ c) → (cond b k c ≡ 0) ⊎ (k ≤ cond b k c)
  go true later = inr (omega arith)
  go false (inl z) = inl z
  go false (inr h) = inr (omega arith)

-- a member of one group stands in none of those apart from it
apart_among : (t : ℕ) (g : List ℕ) (gs : List (List ℕ)) (j : ℕ) → among t g ≡ true
    → Everywhere (λ h. (t : ℕ) → Memᴰ t g → Memᴰ t h → ⊥) gs → among t (get_or gs j []) ≡ false
apart_among t g gs j e a = go (among t (get_or gs j [])) refl where
  go : (b : Bool) → among t (get_or gs j []) ≡ b → among t (get_or gs j []) ≡ false
  go true d =
      absurd (everywhere_get_d (λ h. (t : ℕ) → Memᴰ t g → Memᴰ t h → ⊥) gs j [] a (λ u m n. Memᴰ.not-nil n)
      t (among_member t g e) (among_member t (get_or gs j []) d))
  go false d = d

-- a thread has the number of group j exactly if it stands there
pub class_among : (k t : ℕ) (gs : List (List ℕ)) (j : ℕ) → 0 < k → Apart gs → eqb (class_from k t gs) (j + k) ≡ among t (get_or gs j [])
unfolding class_from among
class_among k t [] j p a = ne_eqb 0 (j + k) (λ e. omega arith)
class_among k t (g ∷ gs) j p a = go (among t g) refl j (λ i. class_among (suc k) t gs i (omega arith) a.1) where
  go : (b : Bool) → among t g ≡ b → (j : ℕ) → ((i : ℕ) → eqb (class_from (suc k) t gs) (i + suc k) ≡ among t (get_or gs i []))
      → eqb (class_from k t (g ∷ gs)) (j + k) ≡ among t (get_or (g ∷ gs) j [])
  go true e zero later = rw (e, eq-eqb k (0 + k) (omega arith))
  go true e (suc j) later = rw (e, ne_eqb k (suc j + k) (λ q. omega arith)) (sym (apart_among t g gs j e a.0))
  go false e zero later =
      rw (e, ne_eqb (class_from (suc k) t gs) (0 + k) (λ q. elim (class_range (suc k) t gs) [ inl z ↦ omega (arith, q, z, p) | inr b ↦ omega (arith, q, b) ]))
  go false e (suc j) later =
      let n : suc j + k ≡ j + suc k = omega arith in
      rw (e, n) (later j)
