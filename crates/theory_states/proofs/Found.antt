-- THE NUMBERS ARE THE LENGTHS OF WHAT THE SEARCH FINDS: of all, and of those that fail. So what is behind a state where no step fails is passed
-- over by a search for failing schedules, unless something has failed already.
use Prim.Native.Nat.{ℕ, zero, suc, ◌+◌, ◌-◌}
use mathlib.Core.Path.{◌≡◌, refl, sym, ap, ap₂, ◌∙◌}
use mathlib.Core.Bool.{Bool, true, false, cond, ◌||◌}
use mathlib.Core.Option.{Option, none}
use mathlib.Core.List.{List, [], ◌∷◌, ◌++◌}
use native.Mathlib.Omega.{arith}
use lib.ListN.{length, length-append}
use Rattle.spec_schedules.specs.Order.{Schedule}
use Rattle.spec_schedules.specs.System.{System, ended}
use Rattle.theory_search.specs.Found.{concat_range, found_at, found_by, found_from}
use Rattle.theory_search.proofs.Found as Found
use Rattle.theory_states.specs.Positions.{GoesOn, Breaks}
use Rattle.theory_states.specs.Numbers.{Numbers, nothing, one, plus, charged, sum_range, numbers_by, numbers_from}
use Rattle.theory_states.proofs.Numbers.{by_not, by_cut, by_live, from_ended, from_stuck, from_branches}

-- what is found where somebody may step: with each next byte in turn
pub branches_all : (M : System) (top : ℕ) (cut : Schedule → M.State → ℕ → Bool) (test : Schedule → Bool) (k : ℕ) (v : Schedule) (σ : M.State) → ended M σ ≡ false →
    found_from M top cut test (suc k) none v σ ≡ concat_range (found_by M top cut test (λ a b c. found_from M top cut test k a b c) none v σ) top 0
branches_all M top cut test k v σ e =
    let by : ℕ → ℕ → List Schedule = λ i. found_by M top cut test (λ a b c. found_from M top cut test i a b c) none v σ in
    Found.found_branches M top cut test (suc k) none v σ e (omega arith)
    ∙ ap₂ (λ (i j : ℕ). concat_range (by i) (top - j) j) (omega arith) Found.low_none
    ∙ ap (λ (j : ℕ). concat_range (by k) j 0) (omega arith)

-- how a number is read off at a state, so that it goes along with the sum and with each step
pub record Reads (M : System) (cut : Schedule → M.State → ℕ → Bool) (Met : Schedule → M.State → Type 0) (breaks : M.State → ℕ → Bool) (listed : M.State → Bool)
    (reads : M.State → Numbers → ℕ) : Type 0 where
  pub at_nothing : (σ : M.State) → reads σ nothing ≡ 0
  pub at_one : (σ : M.State) → reads σ one ≡ cond (listed σ) 1 0
  pub at_plus : (σ : M.State) (a b : Numbers) → reads σ (plus a b) ≡ reads σ a + reads σ b
  pub at_step : (v : Schedule) (σ : M.State) → Met v σ → (t : ℕ) → M.enabled σ t ≡ true → cut v σ t ≡ false → (n : Numbers) → reads σ (charged (breaks σ t) n) ≡ reads (M.step σ t) n

-- all; and those that fail, of which one that has failed already is
pub reads_all : (M : System) (cut : Schedule → M.State → ℕ → Bool) (Met : Schedule → M.State → Type 0) (breaks : M.State → ℕ → Bool) →
    Reads M cut Met breaks (λ σ. true) (λ σ n. n.listed)
reads_all M cut Met breaks = record { at_nothing = λ σ. refl; at_one = λ σ. refl; at_plus = λ σ a b. refl; at_step = λ v σ m t e c n. refl }

pub reads_failing : (M : System) (cut : Schedule → M.State → ℕ → Bool) (Met : Schedule → M.State → Type 0) (fails : M.State → Bool) (breaks : M.State → ℕ → Bool) →
    Breaks M cut Met fails breaks → Reads M cut Met breaks fails (λ σ n. (charged (fails σ) n).failing)
reads_failing M cut Met fails breaks law = record {
  at_nothing = λ σ. zeros (fails σ);
  at_one = λ σ. refl;
  at_plus = λ σ a b. sums (fails σ) a b;
  at_step = λ v σ m t e c n. twice (fails σ) (breaks σ t) n ∙ ap (λ (b : Bool). (charged b n).failing) (sym (law v σ m t e c));
}
  where
    zeros : (b : Bool) → (charged b nothing).failing ≡ 0
    zeros true = refl
    zeros false = refl

    sums : (b : Bool) (x y : Numbers) → (charged b (plus x y)).failing ≡ (charged b x).failing + (charged b y).failing
    sums true x y = refl
    sums false x y = refl

    twice : (a b : Bool) (n : Numbers) → (charged a (charged b n)).failing ≡ (charged (a || b) n).failing
    twice true b n = refl
    twice false b n = refl

module _ (M : System) (top : ℕ) (cut : Schedule → M.State → ℕ → Bool) (Met : Schedule → M.State → Type 0) (on : GoesOn M cut Met) (breaks : M.State → ℕ → Bool)
    (test : Schedule → Bool) (listed : M.State → Bool) (agree : (v : Schedule) (σ : M.State) → Met v σ → test v ≡ listed σ) (reads : M.State → Numbers → ℕ)
    (A : Reads M cut Met breaks listed reads) where
  abbrev F : ℕ → Option Schedule → Schedule → M.State → List Schedule
  F k = λ a b c. found_from M top cut test k a b c

  abbrev N : ℕ → Schedule → M.State → Numbers
  N k = λ w τ. numbers_from M top cut breaks k w τ

  sum_length : (σ : M.State) (f : ℕ → List Schedule) (g : ℕ → Numbers) → ((d : ℕ) → length (f d) ≡ reads σ (g d)) → (j d : ℕ) → length (concat_range f j d) ≡ reads σ (sum_range g j d)
  unfolding concat_range sum_range
  sum_length σ f g h zero d = sym (A.at_nothing σ)
  sum_length σ f g h (suc j) d = length-append (f d) (concat_range f j (d + 1)) ∙ ap₂ (λ (a b : ℕ). a + b) (h d) (sum_length σ f g h j (d + 1)) ∙ sym (A.at_plus σ (g d) (sum_range g j (d + 1)))

  at_end : (v : Schedule) (σ : M.State) → Met v σ → length (found_at M top cut test none v) ≡ reads σ one
  at_end v σ m = go (listed σ) refl ∙ sym (A.at_one σ)
    where
      same : (b : Bool) → listed σ ≡ b → test v ≡ b
      same b e = agree v σ m ∙ e

      go : (b : Bool) → listed σ ≡ b → length (found_at M top cut test none v) ≡ cond (listed σ) 1 0
      go true e = rw e (ap length (Found.at_listed M top cut test v (same true e)))
      go false e = rw e (ap length (Found.at_unlisted M top cut test v (same false e)))

  by_length : (k : ℕ) (v : Schedule) (σ : M.State) → Met v σ → (t : ℕ) →
      (M.enabled σ t ≡ true → cut v σ t ≡ false → length (F k none (v ++ (t ∷ [])) (M.step σ t)) ≡ reads (M.step σ t) (N k (v ++ (t ∷ [])) (M.step σ t))) →
      length (found_by M top cut test (F k) none v σ t) ≡ reads σ (numbers_by M top cut breaks (N k) v σ t)
  by_length k v σ m t ih = go (M.enabled σ t) refl (cut v σ t) refl
    where
      none_there : found_by M top cut test (F k) none v σ t ≡ [] → numbers_by M top cut breaks (N k) v σ t ≡ nothing → length (found_by M top cut test (F k) none v σ t) ≡ reads σ (numbers_by M top cut breaks (N k) v σ t)
      none_there a b = ap length a ∙ sym (ap (reads σ) b ∙ A.at_nothing σ)

      go : (a : Bool) → M.enabled σ t ≡ a → (b : Bool) → cut v σ t ≡ b → length (found_by M top cut test (F k) none v σ t) ≡ reads σ (numbers_by M top cut breaks (N k) v σ t)
      go false e b c = none_there (Found.by_not M top cut test (F k) none v σ t e) (by_not M top cut breaks (N k) v σ t e)
      go true e true c = none_there (Found.by_cut M top cut test (F k) none v σ t e c) (by_cut M top cut breaks (N k) v σ t e c)
      go true e false c =
          ap length (Found.by_live M top cut test (F k) none v σ t e c ∙ ap (λ (o : Option Schedule). F k o (v ++ (t ∷ [])) (M.step σ t)) (Found.past_none t))
          ∙ ih e c ∙ sym (ap (reads σ) (by_live M top cut breaks (N k) v σ t e c) ∙ A.at_step v σ m t e c (N k (v ++ (t ∷ [])) (M.step σ t)))

  -- THE LENGTH OF WHAT IS FOUND
  pub found_length : (k : ℕ) (v : Schedule) (σ : M.State) → Met v σ → length (F k none v σ) ≡ reads σ (N k v σ)
  found_length zero v σ m = go (ended M σ) refl
    where
      go : (b : Bool) → ended M σ ≡ b → length (F 0 none v σ) ≡ reads σ (N 0 v σ)
      go true e = ap length (Found.found_ended M top cut test 0 none v σ e) ∙ at_end v σ m ∙ sym (ap (reads σ) (from_ended M top cut breaks 0 v σ e))
      go false e = ap length (Found.found_stuck M top cut test 0 none v σ e refl) ∙ sym (ap (reads σ) (from_stuck M top cut breaks v σ e) ∙ A.at_nothing σ)
  found_length (suc k) v σ m = go (ended M σ) refl (λ t e c. found_length k (v ++ (t ∷ [])) (M.step σ t) (on v σ m t e c))
    where
      go : (b : Bool) → ended M σ ≡ b → ((t : ℕ) → M.enabled σ t ≡ true → cut v σ t ≡ false → length (F k none (v ++ (t ∷ [])) (M.step σ t)) ≡ reads (M.step σ t) (N k (v ++ (t ∷ [])) (M.step σ t))) → length (F (suc k) none v σ) ≡ reads σ (N (suc k) v σ)
      go true e ih = ap length (Found.found_ended M top cut test (suc k) none v σ e) ∙ at_end v σ m ∙ sym (ap (reads σ) (from_ended M top cut breaks (suc k) v σ e))
      go false e ih =
          ap length (branches_all M top cut test k v σ e) ∙ sum_length σ (found_by M top cut test (F k) none v σ) (numbers_by M top cut breaks (N k) v σ) (λ t. by_length k v σ m t (ih t)) top 0
          ∙ sym (ap (reads σ) (from_branches M top cut breaks k v σ e))

no_length : {A : Type 0} (l : List A) → length l ≡ 0 → l ≡ []
no_length [] e = refl
no_length (x ∷ l) e = absurd (omega arith)

module _ (M : System) (top : ℕ) (cut : Schedule → M.State → ℕ → Bool) (Met : Schedule → M.State → Type 0) (on : GoesOn M cut Met) (breaks : M.State → ℕ → Bool) where
  -- ALL that is found, and those of it that fail: where something has failed already, all; else those in which a step behind the prefix does
  pub found_listed : (test : Schedule → Bool) → ((w : Schedule) → test w ≡ true) → (k : ℕ) (v : Schedule) (σ : M.State) → Met v σ →
      length (found_from M top cut test k none v σ) ≡ (numbers_from M top cut breaks k v σ).listed
  found_listed test agree k v σ m = found_length M top cut Met on breaks test (λ τ. true) (λ w τ i. agree w) (λ τ n. n.listed) (reads_all M cut Met breaks) k v σ m

  -- and of these, those with t as the next step
  pub with_listed : (test : Schedule → Bool) → ((w : Schedule) → test w ≡ true) → (k : ℕ) (v : Schedule) (σ : M.State) → Met v σ → (t : ℕ) →
      length (found_by M top cut test (λ a b c. found_from M top cut test k a b c) none v σ t) ≡ (numbers_by M top cut breaks (λ w τ. numbers_from M top cut breaks k w τ) v σ t).listed
  with_listed test agree k v σ m t =
      by_length M top cut Met on breaks test (λ τ. true) (λ w τ i. agree w) (λ τ n. n.listed) (reads_all M cut Met breaks) k v σ m t
      (λ e c. found_listed test agree k (v ++ (t ∷ [])) (M.step σ t) (on v σ m t e c))

  module _ (fails : M.State → Bool) (law : Breaks M cut Met fails breaks) (test : Schedule → Bool) (agree : (v : Schedule) (σ : M.State) → Met v σ → test v ≡ fails σ) where
    pub found_failing : (k : ℕ) (v : Schedule) (σ : M.State) → Met v σ → length (found_from M top cut test k none v σ) ≡ (charged (fails σ) (numbers_from M top cut breaks k v σ)).failing
    found_failing k v σ m =
        found_length M top cut Met on breaks test fails agree (λ τ n. (charged (fails τ) n).failing) (reads_failing M cut Met fails breaks law) k v σ m

    -- PASSED OVER: nothing has failed and no step behind fails
    pub passed_over : (k : ℕ) (v : Schedule) (σ : M.State) → Met v σ → fails σ ≡ false → (numbers_from M top cut breaks k v σ).failing ≡ 0 → found_from M top cut test k none v σ ≡ []
    passed_over k v σ m e z = no_length (found_from M top cut test k none v σ) (found_failing k v σ m ∙ rw e z)

    -- and where nothing has failed and nothing failing is found, no step behind fails
    pub none_failing : (k : ℕ) (v : Schedule) (σ : M.State) → Met v σ → fails σ ≡ false → found_from M top cut test k none v σ ≡ [] → (numbers_from M top cut breaks k v σ).failing ≡ 0
    none_failing k v σ m e z = sym (rw e at (found_failing k v σ m)) ∙ ap length z
