-- What a test keeps of a list, also of a mapped one, and lists one behind the other, one for each number.
use mathlib.Core.Path.{◌≡◌, refl, sym, ap, ap₂, ◌∙◌}
use mathlib.Core.Bool.{Bool, true, false, false≢true}
use mathlib.Core.List.{List, [], ◌∷◌, ◌++◌, map, flat_map, Memᴰ}
use Prim.Native.Nat.{ℕ, ◌≤◌}
use native.Mathlib.Omega.{arith}
use lib.Dec.{ltb}
use lib.ListN.{length}
use borrow.Author.Tests.{ltb-true, le-ltb}
use Rattle.spec_schedules.specs.Lists.{both, all, filter}
use Rattle.spec_file.specs.Lists.{Ascends}
use Rattle.spec_schedules.proofs.Lists.{filter_yes, filter_no, in_filter, of_filter, ascends_filter, ascends_unique}

module _ {A : Type 0} where
  -- nothing of nothing, and no more than there is
  pub filter_nil : (f : A → Bool) → filter f [] ≡ []
  unfolding filter
  filter_nil f = refl

  pub filter_length : (f : A → Bool) (l : List A) → length (filter f l) ≤ length l
  filter_length f [] = let y = ap length (filter_nil f) in omega (arith, y)
  filter_length f (x ∷ l) = go (filter_length f l) (f x) refl
    where
      go : length (filter f l) ≤ length l → (b : Bool) → f x ≡ b → length (filter f (x ∷ l)) ≤ length (x ∷ l)
      go h true e = let y = ap length (filter_yes f x l e) in omega (arith, y, h)
      go h false e = let y = ap length (filter_no f x l e) in omega (arith, y, h)

  pub filter_append : (f : A → Bool) (a b : List A) → filter f (a ++ b) ≡ filter f a ++ filter f b
  unfolding filter
  filter_append f [] b = refl
  filter_append f (x ∷ a) b = go (f x) refl (filter_append f a b)
    where
      go : (c : Bool) → f x ≡ c → filter f (a ++ b) ≡ filter f a ++ filter f b → filter f (x ∷ (a ++ b)) ≡ filter f (x ∷ a) ++ filter f b
      go true e ih = rw (e, filter) (ap {B = List A} (λ l. x ∷ l) ih)
      go false e ih = rw (e, filter) ih

  -- none passes, all pass
  pub filter_none : (f : A → Bool) (l : List A) → ((x : A) → Memᴰ x l → f x ≡ false) → filter f l ≡ []
  unfolding filter
  filter_none f [] h = refl
  filter_none f (x ∷ l) h = filter_no f x l (h x (Memᴰ.head refl)) ∙ filter_none f l (λ y m. h y (Memᴰ.tail m))

  pub filter_whole : (f : A → Bool) (l : List A) → ((x : A) → Memᴰ x l → f x ≡ true) → filter f l ≡ l
  unfolding filter
  filter_whole f [] h = refl
  filter_whole f (x ∷ l) h = filter_yes f x l (h x (Memᴰ.head refl)) ∙ ap {B = List A} (λ k. x ∷ k) (filter_whole f l (λ y m. h y (Memᴰ.tail m)))

  -- two tests that agree, and one behind the other
  pub filter_agree : (f g : A → Bool) (l : List A) → ((x : A) → Memᴰ x l → f x ≡ g x) → filter f l ≡ filter g l
  unfolding filter
  filter_agree f g [] h = refl
  filter_agree f g (x ∷ l) h = go (g x) refl (h x (Memᴰ.head refl)) (filter_agree f g l (λ y m. h y (Memᴰ.tail m)))
    where
      go : (c : Bool) → g x ≡ c → f x ≡ g x → filter f l ≡ filter g l → filter f (x ∷ l) ≡ filter g (x ∷ l)
      go true e q ih = filter_yes f x l (q ∙ e) ∙ ap {B = List A} (λ k. x ∷ k) ih ∙ sym (filter_yes g x l e)
      go false e q ih = filter_no f x l (q ∙ e) ∙ ih ∙ sym (filter_no g x l e)

  pub filter_same : (f g : A → Bool) (l : List A) → ((x : A) → f x ≡ g x) → filter f l ≡ filter g l
  filter_same f g l h = filter_agree f g l (λ x m. h x)

  pub filter_filter : (f g : A → Bool) (l : List A) → filter g (filter f l) ≡ filter (λ x. both (g x) (f x)) l
  unfolding filter both
  filter_filter f g [] = refl
  filter_filter f g (x ∷ l) = go (f x) refl (g x) refl (filter_filter f g l)
    where
      go : (b : Bool) → f x ≡ b → (c : Bool) → g x ≡ c → filter g (filter f l) ≡ filter (λ x. both (g x) (f x)) l → filter g (filter f (x ∷ l)) ≡ filter (λ x. both (g x) (f x)) (x ∷ l)
      go true e true q ih = rw (e, filter, q) (ap {B = List A} (λ k. x ∷ k) ih)
      go true e false q ih = rw (e, filter, q) ih
      go false e true q ih = rw (e, filter, q) ih
      go false e false q ih = rw (e, filter, q) ih

  pub flat_same : (f g : ℕ → List A) (ts : List ℕ) → ((t : ℕ) → Memᴰ t ts → f t ≡ g t) → flat_map f ts ≡ flat_map g ts
  unfolding flat_map
  flat_same f g [] h = refl
  flat_same f g (t ∷ ts) h = ap₂ (λ (a b : List A). a ++ b) (h t (Memᴰ.head refl)) (flat_same f g ts (λ u m. h u (Memᴰ.tail m)))

  abbrev there : List A → Bool
  there [] = false
  there (x ∷ l) = true

  -- numbers without a member can be left out
  flat_filter : (f : ℕ → List A) (ts : List ℕ) → flat_map f ts ≡ flat_map f (filter (λ t. there (f t)) ts)
  unfolding flat_map filter
  flat_filter f [] = refl
  flat_filter f (t ∷ ts) = go (f t) refl (flat_filter f ts)
    where
      rest : List ℕ
      rest = filter (λ u. there (f u)) ts

      go : (l : List A) → f t ≡ l → flat_map f ts ≡ flat_map f rest → f t ++ flat_map f ts ≡ flat_map f (filter (λ u. there (f u)) (t ∷ ts))
      go [] e ih = ap (λ (l : List A). l ++ flat_map f ts) e ∙ ih ∙ sym (ap (flat_map f) (filter_no (λ u. there (f u)) t ts (ap there e)))
      go (x ∷ l) e ih = ap (λ (l : List A). f t ++ l) ih ∙ sym (ap (flat_map f) (filter_yes (λ u. there (f u)) t ts (ap there e)))

  -- two ascending lists that both have every number with a member give the same
  pub flat_two : (f : ℕ → List A) (ts us : List ℕ) → Ascends ltb ts → Ascends ltb us → ((t : ℕ) → (f t ≡ [] → ⊥) → Memᴰ t ts × Memᴰ t us) → flat_map f ts ≡ flat_map f us
  flat_two f ts us a b h = flat_filter f ts ∙ ap (flat_map f) same ∙ sym (flat_filter f us)
    where
      test : ℕ → Bool
      test t = there (f t)

      in_both : (t : ℕ) → there (f t) ≡ true → Memᴰ t ts × Memᴰ t us
      in_both t q = h t (λ e. false≢true (sym (ap there e) ∙ q))

      same : filter test ts ≡ filter test us
      same = ascends_unique ltb (λ n. le-ltb n n (omega arith)) (λ m n e. le-ltb n m (omega (arith, ltb-true m n e))) (filter test ts) (filter test us) (ascends_filter ltb test ts a) (ascends_filter ltb test us b)
          (λ t m. let r = of_filter test ts t m in in_filter test us t (in_both t r.1).1 r.1)
          (λ t m. let r = of_filter test us t m in in_filter test ts t (in_both t r.1).0 r.1)

-- a mapped list
pub filter_map : {A B : Type 0} (f : B → Bool) (g : A → B) (l : List A) → filter f (map g l) ≡ map g (filter (λ x. f (g x)) l)
filter_map f g [] = filter_nil f ∙ sym (ap (map g) (filter_nil (λ x. f (g x))))
filter_map {A} {B} f g (x ∷ l) = go (f (g x)) refl (filter_map f g l)
  where
    go : (b : Bool) → f (g x) ≡ b → filter f (map g l) ≡ map g (filter (λ x. f (g x)) l) → filter f (g x ∷ map g l) ≡ map g (filter (λ x. f (g x)) (x ∷ l))
    go true e ih = filter_yes f (g x) (map g l) e ∙ ap {B = List B} (λ k. g x ∷ k) ih ∙ sym (ap (map g) (filter_yes (λ x. f (g x)) x l e))
    go false e ih = filter_no f (g x) (map g l) e ∙ ih ∙ sym (ap (map g) (filter_no (λ x. f (g x)) x l e))

pub all_map : {A B : Type 0} (f : B → Bool) (g : A → B) (l : List A) → all f (map g l) ≡ all (λ x. f (g x)) l
unfolding all
all_map f g [] = refl
all_map f g (x ∷ l) = go (f (g x)) refl (all_map f g l)
  where
    go : (b : Bool) → f (g x) ≡ b → all f (map g l) ≡ all (λ x. f (g x)) l → all f (g x ∷ map g l) ≡ all (λ x. f (g x)) (x ∷ l)
    go true e ih = rw (e, all) ih
    go false e ih = rw (e, all)

-- what goes through lists one behind the other goes through all of them
pub flat_through : {A B : Type 0} (φ : List A → List B) → φ [] ≡ [] → ((a b : List A) → φ (a ++ b) ≡ φ a ++ φ b) → (f : ℕ → List A) (ts : List ℕ) → φ (flat_map f ts) ≡ flat_map (λ t. φ (f t)) ts
unfolding flat_map
flat_through φ n h f [] = n
flat_through {A} {B} φ n h f (t ∷ ts) = h (f t) (flat_map f ts) ∙ ap (λ (l : List B). φ (f t) ++ l) (flat_through φ n h f ts)
