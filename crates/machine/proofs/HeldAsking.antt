-- What may be asked of a state, read off the machine: who may step, whether all have ended, whether an assertion failed.
use Prim.Native.Nat.{ℕ, suc, ◌+◌, ◌<◌, ◌≤◌}
use native.Mathlib.Omega.{arith}
use native.Mathlib.Decide.{dec_lt, ℕ_discrete}
use mathlib.Core.Path.{◌≡◌, refl, sym, ap, subst, ◌∙◌}
use mathlib.Core.Bool.{Bool, true, false, not, ◌&&◌, ◌||◌, true≢false}
use mathlib.Core.List.{List, [], ◌∷◌}
use lib.Dec.{ltb}
use lib.ListN.{length, get_or}
use borrow.Author.Tests.{lt-ltb, le-ltb, not-true}
use Rattle.std.specs.List.{list_any, list_all, range_with_len}
use Rattle.spec_schedules.specs.Lists.{any, all, range}
use Rattle.spec_schedules.specs.System.{ended}
use Rattle.spec_schedules.proofs.Lists.{any_of, any_yes, all_of, all_at, in_range_lem, of_range}
use Rattle.spec_schedules.proofs.Runs.{ended_of, ended_none}
use Rattle.machine_access.specs.declared.thread.ThreadState.{ThreadState}
use Rattle.machine.specs.declared.state.Machine.{Machine}
use Rattle.spec_sc.specs.State.{State, no_thread, thread_of, enabled, SC, failed_of, fails}
use Rattle.machine.specs.Held.{idle, thread_at, Holds, Ready}
use Rattle.machine.specs.Asked.{enabled_by, ended_by, some_failed, fails_by}
use Rattle.spec_sc.proofs.Access.{nothing_pending}
use Rattle.spec_sc.proofs.Steps.{enabled_of, enabled_small, enabled_pending, missing}
use Rattle.spec_sc.proofs.Lawful.{lawful}
use Rattle.spec_sc.proofs.Failing.{fails_at, fails_of}
use Rattle.machine_access.proofs.HeldSettling.{length_code, code_end}

-- what holds below t and at t holds below t + 1
pub one_more : (P : ℕ → Type 0) (t : ℕ) → ((u : ℕ) → u < t → P u) → P t → (u : ℕ) → u < t + 1 → P u
one_more P t before own u b = go (ℕ_discrete u t)
  where
    go : Dec (u ≡ t) → P u
    go (yes q) = subst P (sym q) own
    go (no q) = before u (omega (arith, q))

-- there are six numbers of threads
pub enabled_none : (σ : State) (t : ℕ) → 6 ≤ t → enabled σ t ≡ false
unfolding enabled
enabled_none σ t h = let e = le-ltb t 6 h in rw (e, enabled)

module _ (code lengths : List ℕ) (m : Machine) (σ : State) (held : Holds code lengths m σ) where
  -- a thread that has an instruction left may step
  pub held_enabled : (t : ℕ) → t < 6 → (thread_at m t).at < get_or lengths t 0 → enabled σ t ≡ true
  held_enabled t h l = enabled_of σ t h ((held.threads t h).settled (omega (arith, length_code code t (get_or lengths t 0))))

  pub held_ended : (t : ℕ) → t < 6 → get_or lengths t 0 ≤ (thread_at m t).at → enabled σ t ≡ false
  held_ended t h l = go (enabled σ t) refl
    where
      go : (b : Bool) → enabled σ t ≡ b → enabled σ t ≡ false
      go true e = absurd (true≢false (sym (enabled_pending σ t e) ∙ nothing_pending (thread_of σ t).local ((held.threads t h).rest ∙ code_end code t (get_or lengths t 0) (thread_at m t).at l)))
      go false e = e

  -- a thread's counter tells whether it may step
  pub enabled_held : (t : ℕ) → t < 6 → ltb (thread_at m t).at (get_or lengths t 0) ≡ enabled σ t
  enabled_held t h = go (dec_lt (thread_at m t).at (get_or lengths t 0))
    where
      go : Dec ((thread_at m t).at < get_or lengths t 0) → ltb (thread_at m t).at (get_or lengths t 0) ≡ enabled σ t
      go (yes l) = lt-ltb (thread_at m t).at (get_or lengths t 0) l ∙ sym (held_enabled t h l)
      go (no l) = le-ltb (thread_at m t).at (get_or lengths t 0) (omega (arith, l)) ∙ sym (held_ended t h (omega (arith, l)))

  -- a thread that may step is ready to
  pub ready_held : (t : ℕ) → get_or lengths t 0 ≤ 16 → enabled σ t ≡ true → Ready lengths m t
  ready_held t n e =
      let h = enabled_small σ t e in
      record { six = h; sixteen = n; left = go (dec_lt (thread_at m t).at (get_or lengths t 0)); bounded = (held.threads t h).bounded }
    where
      go : Dec ((thread_at m t).at < get_or lengths t 0) → (thread_at m t).at < get_or lengths t 0
      go (yes l) = l
      go (no l) = absurd (true≢false (sym e ∙ held_ended t (enabled_small σ t e) (omega (arith, l))))

-- ---- what the code is asked, by its arrays alone
module _ (lengths : List ℕ) (m : Machine) where
  -- by a number that is the thread's
  pub enabled_named : (i t : ℕ) → t ≡ i → i < 6 → ltb (thread_at m i).at (get_or lengths i 0) ≡ enabled_by lengths m t
  enabled_named i t e h = sym (ap (enabled_by lengths m) e ∙ ap (λ (b : Bool). b && ltb (thread_at m i).at (get_or lengths i 0)) (lt-ltb i 6 h))

  pub enabled_nobody : (t : ℕ) → 6 ≤ t → enabled_by lengths m t ≡ false
  enabled_nobody t h = ap (λ (b : Bool). b && ltb (thread_at m t).at (get_or lengths t 0)) (le-ltb t 6 h)

-- ---- what the library's any and all answer
or_any : (b r : Bool) → (b || r) ≡ (elim b [ true ↦ true | false ↦ r ])
or_any true r = refl
or_any false r = refl

and_all : (b r : Bool) → (b && r) ≡ (elim b [ true ↦ r | false ↦ false ])
and_all true r = refl
and_all false r = refl

all_same : {A : Type 0} (f : A → Bool) (xs : List A) → list_all f xs ≡ all f xs
unfolding all
all_same f [] = refl
all_same f (x ∷ xs) = ap (λ (r : Bool). f x && r) (all_same f xs) ∙ and_all (f x) (all f xs)

-- of a list's members, or by their numbers, which are a more
any_numbered : {A : Type 0} (f : A → Bool) (d : A) (g : ℕ → A) (xs : List A) (a : ℕ) → ((i : ℕ) → i < length xs → g (a + i) ≡ get_or xs i d) → list_any f xs ≡ any (λ t. f (g t)) (range a (length xs))
unfolding any range
any_numbered f d g [] a h = refl
any_numbered f d g (x ∷ xs) a h =
    let e : g a ≡ x = ap g (let z : a ≡ a + 0 = omega arith in z) ∙ h 0 (omega arith) in
    ap (λ (r : Bool). f x || r) (any_numbered f d g xs (suc a) (λ i b. ap g (let z : suc a + i ≡ a + suc i = omega arith in z) ∙ h (suc i) (omega (arith, b))))
    ∙ or_any (f x) _ ∙ ap (λ (b : Bool). elim b [ true ↦ true | false ↦ any (λ t. f (g t)) (range (suc a) (length xs)) ]) (ap f (sym e))

pub some_listed : (threads : List ThreadState) → length threads ≡ 6 → list_any (λ k. k.failed) threads ≡ some_failed threads
some_listed threads e =
    any_numbered (λ k. k.failed) idle (λ t. get_or threads t idle) threads 0 (λ i b. ap (λ (j : ℕ). get_or threads j idle) (let z : 0 + i ≡ i = omega arith in z))
    ∙ ap (λ (n : ℕ). any (λ t. (get_or threads t idle).failed) (range 0 n)) e

pub ended_listed : (lengths : List ℕ) (m : Machine) → list_all (λ t. not (enabled_by lengths m t)) (range_with_len 0 6) ≡ ended_by lengths m
unfolding range
ended_listed lengths m = all_same (λ t. not (enabled_by lengths m t)) (range_with_len 0 6)

pub some_yes : (threads : List ThreadState) (t : ℕ) → t < 6 → (get_or threads t idle).failed ≡ true → some_failed threads ≡ true
some_yes threads t h e = any_of (λ u. (get_or threads u idle).failed) (range 0 6) t (in_range_lem 0 6 t (omega arith) h) e

pub some_not : (threads : List ThreadState) → ((t : ℕ) → t < 6 → (get_or threads t idle).failed ≡ false) → some_failed threads ≡ false
some_not threads h = go (some_failed threads) refl
  where
    go : (b : Bool) → some_failed threads ≡ b → some_failed threads ≡ false
    go true e =
        let r = any_yes (λ u. (get_or threads u idle).failed) (range 0 6) e in
        absurd (true≢false (sym r.2 ∙ h r.0 (of_range 0 6 r.0 r.1).1))
    go false e = e

pub fails_yes : (m : Machine) (t : ℕ) → t < 6 → (thread_at m t).failed ≡ true → fails_by m ≡ true
fails_yes m t h e = some_yes m.threads t h e

pub fails_not : (m : Machine) → ((t : ℕ) → t < 6 → (thread_at m t).failed ≡ false) → fails_by m ≡ false
fails_not m h = some_not m.threads h

-- ---- of a machine that holds a state, that is what may be asked of the state
module _ {code lengths : List ℕ} {m : Machine} {σ : State} (held : Holds code lengths m σ) where
  pub enabled_by_lem : (t : ℕ) → enabled_by lengths m t ≡ enabled σ t
  enabled_by_lem t = go (dec_lt t 6)
    where
      go : Dec (t < 6) → enabled_by lengths m t ≡ enabled σ t
      go (yes h) = sym (enabled_named lengths m t t refl h) ∙ enabled_held code lengths m σ held t h
      go (no h) = enabled_nobody lengths m t (omega (arith, h)) ∙ sym (enabled_none σ t (omega (arith, h)))

  pub ended_by_lem : ended_by lengths m ≡ ended SC σ
  ended_by_lem = go (ended SC σ) (ended_by lengths m) refl refl
    where
      go : (a b : Bool) → ended SC σ ≡ a → ended_by lengths m ≡ b → ended_by lengths m ≡ ended SC σ
      go true true q e = e ∙ sym q
      go false false q e = e ∙ sym q
      go true false q e = absurd (true≢false (sym (all_of (λ t. not (enabled_by lengths m t)) (range 0 6) (λ t k. ap not (enabled_by_lem t ∙ ended_none SC lawful σ t q))) ∙ e))
      go false true q e = absurd (true≢false (sym (ended_of SC σ (λ t. none t (dec_lt t 6))) ∙ q))
        where
          none : (t : ℕ) → Dec (t < 6) → enabled σ t ≡ false
          none t (yes h) = sym (enabled_by_lem t) ∙ not-true _ (all_at (λ t. not (enabled_by lengths m t)) (range 0 6) t e (in_range_lem 0 6 t (omega arith) h))
          none t (no h) = enabled_none σ t (omega (arith, h))

  pub fails_by_lem : fails_by m ≡ fails σ
  unfolding failed_of no_thread
  fails_by_lem = go (fails σ) refl
    where
      own : (t : ℕ) → Dec (t < 6) → failed_of (thread_of σ t) ≡ true → fails_by m ≡ true
      own t (yes h) e = fails_yes m t h (sym (held.threads t h).failed ∙ e)
      own t (no h) e = absurd (true≢false (sym e ∙ ap failed_of (missing σ t (omega (arith, h, held.six)))))

      go : (b : Bool) → fails σ ≡ b → fails_by m ≡ fails σ
      go true e = let r = fails_at σ e in own r.0 (dec_lt r.0 6) r.1 ∙ sym e
      go false e = fails_not m (λ t h. none t h (thread_at m t).failed refl) ∙ sym e
        where
          none : (t : ℕ) → t < 6 → (b : Bool) → (thread_at m t).failed ≡ b → (thread_at m t).failed ≡ false
          none t h true q = absurd (true≢false (sym (fails_of σ t ((held.threads t h).failed ∙ q)) ∙ e))
          none t h false q = q
