-- R3 as the code asks it: sets of threads that could wake a step, and the steps that none but its own thread could.
use Prim.Native.Nat.{ℕ, zero, suc, ◌+◌, ◌-◌, ◌*◌, ◌%◌, ◌<◌, ◌≤◌}
use mathlib.Core.Path.{◌≡◌, refl, sym, ap, ap₂, ◌∙◌}
use mathlib.Core.Logic.{⊎_elim}
use mathlib.Core.Bool.{Bool, true, false, not, ◌&&◌, ◌||◌, true≢false, false≢true}
use mathlib.Core.Option.{Option, none, some}
use mathlib.Core.List.Memᴰ
use mathlib.Core.List.{List, [], ◌∷◌, ◌++◌, Memᴰ}
use native.Mathlib.Omega.{arith}
use native.Mathlib.Nat.{mod-eq_of_lt}
use native.Mathlib.Decide.{dec_lt}
use lib.Dec.{eqb}
use lib.ListN.{length, get_or, drop}
use borrow.Author.Tests.{eqb-true, eq-eqb}
use Rattle.spec_file.specs.declared.instruction.Access.TheVariants.{Store, Load, FetchAdd, CompareSwap}
use Rattle.spec_file.specs.declared.instruction.Instruction.{Instruction}
use Rattle.spec_file.specs.declared.instruction.Instruction.TheVariants.{Memory, Alone}
use Rattle.spec_file.specs.Program.{Program}
use Rattle.spec_file.proofs.Tests.{equal_tests}
use Rattle.file_rows.specs.Rows.{instruction_at, thread_code}
use Rattle.spec_schedules.specs.Lists.{range, any, all}
use Rattle.spec_schedules.specs.Order.{Schedule}
use Rattle.spec_schedules.proofs.Lists.{in_range_lem, of_range, any_yes, any_of, all_at, all_of}
use Rattle.machine_access.proofs.HeldSettling.{code_at_lem, code_end}
use Rattle.spec_sc.specs.Local.{first_place, first_takes, access_takes, place_of, takes}
use Rattle.spec_sc.proofs.Access.{nothing_pending}
use Rattle.search_place.proofs.RowAccess.{place_first}
use Rattle.theory_search.specs.Ahead.{could_meet}
use Rattle.spec_schedules.specs.Sets.{has}
use Rattle.theory_sc.specs.Sets.{set_of}
use Rattle.theory_sc.specs.Sleepers.{reads_left, writes_left, meets}
use Rattle.theory_sc.proofs.Sets.{has_none, set_has, set_none}
use Rattle.theory_sc.proofs.WhatIsLeft.{left_exact}
use Rattle.machine.specs.Held.{thread_at}
use Rattle.search_rules.specs.Left.{ShortAt, meets_at}
use Rattle.spec_tso.specs.Queue.{Entry, movable, oldest_place}
use Rattle.spec_tso.specs.State.{Thread, State, Kind, access, move, unqueued, thread_of, access_locks, first_locks, locked, target, place, byte_for, enabled, start, TSO}
use Rattle.spec_tso.specs.Graph.{end_of}
use Rattle.spec_tso.specs.Actions.{action}
use Rattle.spec_tso.proofs.Bytes.{kind_for, owner_for}
use Rattle.spec_tso.proofs.Steps.{enabled_for, able_pending, able_movable}
use Rattle.spec_tso.proofs.Seen.{seen_thread}
use Rattle.spec_tso.proofs.Regular.{place_in, regular_run, regular_start}
use Rattle.theory_tso.specs.Rules.{late, taken, fears, wakes, unwoken, asleep}
use Rattle.tso_machine.specs.Slots.{no_store, entry_at, queue_at}
use Rattle.tso_machine.specs.Held.{core_of, Holds}
use Rattle.tso_machine.specs.declared.state.Pending.{Pending}
use Rattle.tso_machine.specs.declared.state.QueuedMachine.{QueuedMachine}
use Rattle.theory_search.specs.LateSet.{back_at}
use Rattle.theory_tso.specs.LateBytes.{bytes_of, late_at}
use Rattle.tso_order.specs.Freed.{stores_to}
use Rattle.tso_place.specs.Reached.{Reached}
use Rattle.tso_place.specs.declared.place.Place.{Place}
use Rattle.tso_order.proofs.HeldDeeds.{queue_none, queue_more}
use Rattle.tso_order.proofs.Choices.{bytes_has}
use Rattle.tso_rules.specs.Shown.{Shown, ReadyAt}

-- ---- sets
-- a set is empty exactly when none passes
pub set_empty : (g : ℕ → Bool) → eqb (set_of g 6) 0 ≡ all (λ u. not (g u)) (range 0 6)
set_empty g = equal_tests (eqb (set_of g 6) 0) (all (λ u. not (g u)) (range 0 6))
    (λ e. all_of (λ u. not (g u)) (range 0 6) (λ u m. ap not (sym (set_has g 6 u (of_range 0 6 u m).1) ∙ ap (λ (s : ℕ). has s u) (eqb-true (set_of g 6) 0 e) ∙ has_none u)))
    (λ e. eq-eqb (set_of g 6) 0 (set_none g 6 (λ u h. nope (g u) (all_at (λ u. not (g u)) (range 0 6) u e (in_range_lem 0 6 u (omega arith) (omega arith))))))
  where
    nope : (b : Bool) → not b ≡ true → b ≡ false
    nope true e = absurd (false≢true e)
    nope false e = refl

-- a set is not empty exactly when some number passes its test
pub set_some : (g : ℕ → Bool) (s : ℕ) → s ≡ set_of g 6 → not (eqb s 0) ≡ any g (range 0 6)
set_some g s e = equal_tests (not (eqb s 0)) (any g (range 0 6)) there back
  where
    there : not (eqb s 0) ≡ true → any g (range 0 6) ≡ true
    there q = go (any g (range 0 6)) refl
      where
        go : (b : Bool) → any g (range 0 6) ≡ b → any g (range 0 6) ≡ true
        go true i = i
        go false i = absurd (false≢true (sym (ap not (eq-eqb s 0 (e ∙ set_none g 6 (λ u h. none_there u (g u) refl h i)))) ∙ q))
          where
            none_there : (u : ℕ) (b : Bool) → g u ≡ b → u < 6 → any g (range 0 6) ≡ false → g u ≡ false
            none_there u true j h k = absurd (true≢false (sym (any_of g (range 0 6) u (in_range_lem 0 6 u (omega arith) (omega arith)) j) ∙ k))
            none_there u false j h k = j

    back : any g (range 0 6) ≡ true → not (eqb s 0) ≡ true
    back q = go (eqb s 0) refl
      where
        go : (b : Bool) → eqb s 0 ≡ b → not (eqb s 0) ≡ true
        go false i = ap not i
        go true i =
            let r = any_yes g (range 0 6) q in
            absurd (true≢false (sym r.2 ∙ sym (set_has g 6 r.0 (of_range 0 6 r.0 r.1).1) ∙ ap (λ (k : ℕ). has k r.0) (sym e ∙ eqb-true s 0 i) ∙ has_none r.0))

-- nobody but t
all_same : (f g : ℕ → Bool) → ((u : ℕ) → u < 6 → f u ≡ g u) → all f (range 0 6) ≡ all g (range 0 6)
all_same f g e = equal_tests (all f (range 0 6)) (all g (range 0 6))
    (λ q. all_of g (range 0 6) (λ u m. sym (e u (of_range 0 6 u m).1) ∙ all_at f (range 0 6) u q m))
    (λ q. all_of f (range 0 6) (λ u m. e u (of_range 0 6 u m).1 ∙ all_at g (range 0 6) u q m))

not_not : (b : Bool) → not (not b) ≡ b
not_not true = refl
not_not false = refl

either : (a b : Bool) → not (not a && b) ≡ (a || not b)
either true b = refl
either false b = refl

pub any_none : (g : ℕ → Bool) → ((u : ℕ) → u < 6 → g u ≡ false) → any g (range 0 6) ≡ false
any_none g h = sym (set_some g (set_of g 6) refl) ∙ ap not (eq-eqb (set_of g 6) 0 (set_none g 6 h))

-- none of an empty set
pub none_asleep : (f : ℕ → Bool) (s : ℕ) → s ≡ 0 → any (λ t. has s t && f t) (range 0 6) ≡ false
none_asleep f s e = any_none (λ t. has s t && f t) (λ u h. ap (λ (b : Bool). b && f u) (ap (λ (i : ℕ). has i u) e ∙ has_none u))

pub quiet_but : (f : ℕ → Bool) (t : ℕ) (r : Bool) → r ≡ any (λ u. not (eqb u t) && f u) (range 0 6) → not r ≡ all (λ u. eqb u t || not (f u)) (range 0 6)
quiet_but f t r e =
    let s = set_of (λ u. not (eqb u t) && f u) 6 in
    ap not (e ∙ sym (set_some (λ u. not (eqb u t) && f u) s refl)) ∙ not_not (eqb s 0) ∙ set_empty (λ u. not (eqb u t) && f u)
    ∙ all_same (λ u. not (not (eqb u t) && f u)) (λ u. eqb u t || not (f u)) (λ u h. either (eqb u t) (f u))

-- ---- what is left to a thread
module _ (code lengths at : List ℕ) (slots : List Pending) (heads tails : List ℕ) (σ : State) (shown : Shown code lengths at slots heads tails σ) (u : ℕ) (h : u < 6) (l : ℕ) (small : l < 8) (w : Bool) where
  abbrev q : List Entry
  q = queue_at slots (get_or heads u 0) (get_or tails u 0 - get_or heads u 0)

  pub wakes_queue : stores_to l (queue_at slots (get_or heads u 0) (get_or tails u 0 - get_or heads u 0)) ≡ true → true ≡ wakes (some w) l (thread_of σ u)
  unfolding wakes
  wakes_queue e = sym (ap (λ (b : Bool). b || could_meet l w (thread_of σ u).local) (ap (stores_to l) (shown.queues u h) ∙ e))

  pub wakes_code : stores_to l (queue_at slots (get_or heads u 0) (get_or tails u 0 - get_or heads u 0)) ≡ false → meets_at code lengths at u l w ≡ wakes (some w) l (thread_of σ u)
  unfolding wakes
  wakes_code e =
      sym (ap (λ (b : Bool). b || could_meet l w (thread_of σ u).local) (ap (stores_to l) (shown.queues u h) ∙ e)
      ∙ left_exact l small w (thread_of σ u).local ∙ ap (λ (r : List Instruction). meets (reads_left r) (writes_left r) l w) (shown.rests u h))

-- ---- which steps are unwoken
unwoken_for : (σ : State) (k : Kind) (t : ℕ) → t < 6 → unwoken σ (byte_for k t) ≡ all (λ u. eqb u t || not (wakes (fears k (thread_of σ t)) (place σ k t) (thread_of σ u))) (range 0 6)
unfolding unwoken
unwoken_for σ k t h = let i : t < 16 = omega arith in rw (owner_for k t i, kind_for k t i)

pub unwoken_move : (σ : State) (t l : ℕ) → t < 6 → l ≡ place σ move t → all (λ u. eqb u t || not (wakes (some true) l (thread_of σ u))) (range 0 6) ≡ unwoken σ (byte_for move t)
unfolding fears
unwoken_move σ t l h e = ap (λ (i : ℕ). all (λ u. eqb u t || not (wakes (some true) i (thread_of σ u))) (range 0 6)) e ∙ sym (unwoken_for σ move t h)

fears_reader : (h : Thread) (lk : Bool) → locked h.local ≡ lk → takes h.local ≡ true → fears access h ≡ some lk
unfolding fears
fears_reader h true e i = rw (e, fears)
fears_reader h false e i = rw (e, i, fears)

fears_store : (h : Thread) → locked h.local ≡ false → takes h.local ≡ false → fears access h ≡ none
unfolding fears
fears_store h e i = rw (e, i, fears)

pub unwoken_reader : (σ : State) (t l : ℕ) (lk : Bool) → t < 6 → l ≡ place σ access t → locked (thread_of σ t).local ≡ lk → takes (thread_of σ t).local ≡ true →
    all (λ u. eqb u t || not (wakes (some lk) l (thread_of σ u))) (range 0 6) ≡ unwoken σ (byte_for access t)
unwoken_reader σ t l lk h e i j =
    ap₂ (λ (n : ℕ) (o : Option Bool). all (λ u. eqb u t || not (wakes o n (thread_of σ u))) (range 0 6)) e (sym (fears_reader (thread_of σ t) lk i j)) ∙ sym (unwoken_for σ access t h)

or_yes : (b : Bool) → (b || true) ≡ true
or_yes true = refl
or_yes false = refl

pub unwoken_store : (σ : State) (t : ℕ) → t < 6 → locked (thread_of σ t).local ≡ false → takes (thread_of σ t).local ≡ false → true ≡ unwoken σ (byte_for access t)
unfolding wakes
unwoken_store σ t h i j = sym (unwoken_for σ access t h ∙ ap (λ (o : Option Bool). all (λ u. eqb u t || not (wakes o (place σ access t) (thread_of σ u))) (range 0 6)) (fears_store (thread_of σ t) i j)
    ∙ all_of (λ u. eqb u t || not false) (range 0 6) (λ u m. or_yes (eqb u t)))

-- what does not read is not locked
pub reads_or_not : (x : Instruction) → first_takes (x ∷ []) ≡ false → first_locks (x ∷ []) ≡ false
unfolding first_takes first_locks access_takes access_locks
reads_or_not (Memory (Store l p)) e = refl
reads_or_not (Memory (Load r l)) e = refl
reads_or_not (Memory (FetchAdd r l p)) e = absurd (true≢false e)
reads_or_not (Memory (CompareSwap r l y z)) e = absurd (true≢false e)
reads_or_not (Alone o) e = refl

-- ---- the bytes
twelve : (f : ℕ → Bool) → any f (range 0 6 ++ range 16 6) ≡ (any f (range 0 6) || any (λ t. f (t + 16)) (range 0 6))
twelve f = equal_tests _ _ there back
  where
    or_left : (a b : Bool) → a ≡ true → (a || b) ≡ true
    or_left a b e = ap (λ (x : Bool). x || b) e

    or_right : (a b : Bool) → b ≡ true → (a || b) ≡ true
    or_right true b e = refl
    or_right false b e = e

    there : any f (range 0 6 ++ range 16 6) ≡ true → (any f (range 0 6) || any (λ t. f (t + 16)) (range 0 6)) ≡ true
    there e =
        let r = any_yes f (range 0 6 ++ range 16 6) e in
        ⊎_elim (λ (m : Memᴰ r.0 (range 0 6)). or_left (any f (range 0 6)) _ (any_of f (range 0 6) r.0 m r.2))
        (λ (m : Memᴰ r.0 (range 16 6)).
        let i = of_range 16 6 r.0 m in
        let z : r.0 ≡ r.0 - 16 + 16 = (let a = i.0 in omega arith) in
        or_right (any f (range 0 6)) _ (any_of (λ t. f (t + 16)) (range 0 6) (r.0 - 16) (in_range_lem 0 6 (r.0 - 16) (omega arith) (let a = i.0 in let c = i.1 in omega arith)) (ap f (sym z) ∙ r.2)))
        (Memᴰ.append_cases (range 0 6) r.1)

    back : (any f (range 0 6) || any (λ t. f (t + 16)) (range 0 6)) ≡ true → any f (range 0 6 ++ range 16 6) ≡ true
    back e = go (any f (range 0 6)) refl
      where
        go : (b : Bool) → any f (range 0 6) ≡ b → any f (range 0 6 ++ range 16 6) ≡ true
        go true i = let r = any_yes f (range 0 6) i in any_of f (range 0 6 ++ range 16 6) r.0 (Memᴰ.append_left (range 16 6) r.1) r.2
        go false i =
            let k : any (λ t. f (t + 16)) (range 0 6) ≡ true = sym (ap (λ (x : Bool). x || any (λ t. f (t + 16)) (range 0 6)) i) ∙ e in
            let r = any_yes (λ t. f (t + 16)) (range 0 6) k in
            let j = of_range 0 6 r.0 r.1 in
            any_of f (range 0 6 ++ range 16 6) (r.0 + 16) (Memᴰ.append_right (range 0 6) (in_range_lem 16 6 (r.0 + 16) (omega arith) (let c = j.1 in omega arith))) r.2

any_six : (f g : ℕ → Bool) → ((u : ℕ) → u < 6 → f u ≡ g u) → any f (range 0 6) ≡ any g (range 0 6)
any_six f g e = equal_tests (any f (range 0 6)) (any g (range 0 6))
    (λ q. let r = any_yes f (range 0 6) q in any_of g (range 0 6) r.0 r.1 (sym (e r.0 (of_range 0 6 r.0 r.1).1) ∙ r.2))
    (λ q. let r = any_yes g (range 0 6) q in any_of f (range 0 6) r.0 r.1 (e r.0 (of_range 0 6 r.0 r.1).1 ∙ r.2))

and_regrouped : (a b c : Bool) → ((a && b) && c) ≡ (a && (b && c))
and_regrouped true b c = refl
and_regrouped false b c = refl

-- R3: some access, or else some move
pub asleep_some : (p : Program) (v : Schedule) (lt ov : ℕ) → lt ≡ bytes_of (late_at p v) access → ov ≡ bytes_of (late_at p v) move →
    (any (λ t. has lt t && unwoken (end_of p v) (byte_for access t)) (range 0 6) || any (λ t. has ov t && unwoken (end_of p v) (byte_for move t)) (range 0 6)) ≡ any (asleep p v (end_of p v)) TSO.names
unfolding asleep back_at byte_for
asleep_some p v lt ov el eo =
    ap₂ (λ (x y : Bool). x || y)
    (any_six (λ t. has lt t && unwoken (end_of p v) (byte_for access t)) (asleep p v (end_of p v)) (λ t h. ap (λ (b : Bool). b && unwoken (end_of p v) (byte_for access t)) (ap (λ (s : ℕ). has s t) el ∙ bytes_has (late_at p v) access t h)
    ∙ and_regrouped (enabled (end_of p v) t) (late (taken p v) (action (end_of p v) t)) (unwoken (end_of p v) t)))
    (any_six (λ t. has ov t && unwoken (end_of p v) (byte_for move t)) (λ t. asleep p v (end_of p v) (t + 16)) (λ t h. ap (λ (b : Bool). b && unwoken (end_of p v) (byte_for move t)) (ap (λ (s : ℕ). has s t) eo ∙ bytes_has (late_at p v) move t h)
    ∙ and_regrouped (enabled (end_of p v) (t + 16)) (late (taken p v) (action (end_of p v) (t + 16))) (unwoken (end_of p v) (t + 16))))
    ∙ sym (twelve (asleep p v (end_of p v)))

-- a late byte may step
pub late_may : (p : Program) (v : Schedule) (k : Kind) (s : ℕ) → s ≡ bytes_of (late_at p v) k → (t : ℕ) → t < 6 → has s t ≡ true → enabled (end_of p v) (byte_for k t) ≡ true
unfolding back_at
late_may p v k s e t h i = first (enabled (end_of p v) (byte_for k t)) _ (sym (ap (λ (j : ℕ). has j t) e ∙ bytes_has (late_at p v) k t h) ∙ i)
  where
    first : (a b : Bool) → (a && b) ≡ true → a ≡ true
    first true b e = refl
    first false b e = e

-- ---- counters and queues of a machine
counter : (a b c d e f : ℕ) (g : ℕ → ℕ) → a ≡ g 0 → b ≡ g 1 → c ≡ g 2 → d ≡ g 3 → e ≡ g 4 → f ≡ g 5 → (t : ℕ) → t < 6 → get_or (a ∷ b ∷ c ∷ d ∷ e ∷ f ∷ []) t 0 ≡ g t
counter a b c d e f g e0 e1 e2 e3 e4 e5 zero h = e0
counter a b c d e f g e0 e1 e2 e3 e4 e5 (suc zero) h = e1
counter a b c d e f g e0 e1 e2 e3 e4 e5 (suc (suc zero)) h = e2
counter a b c d e f g e0 e1 e2 e3 e4 e5 (suc (suc (suc zero))) h = e3
counter a b c d e f g e0 e1 e2 e3 e4 e5 (suc (suc (suc (suc zero)))) h = e4
counter a b c d e f g e0 e1 e2 e3 e4 e5 (suc (suc (suc (suc (suc zero))))) h = e5
counter a b c d e f g e0 e1 e2 e3 e4 e5 (suc (suc (suc (suc (suc (suc t)))))) h = absurd (omega arith)

abbrev pub counters : QueuedMachine → List ℕ
counters m = (thread_at (core_of m) 0).at ∷ (thread_at (core_of m) 1).at ∷ (thread_at (core_of m) 2).at ∷ (thread_at (core_of m) 3).at ∷ (thread_at (core_of m) 4).at ∷ (thread_at (core_of m) 5).at ∷ []

counters_at : (m : QueuedMachine) (t : ℕ) → t < 6 → get_or (counters m) t 0 ≡ (thread_at (core_of m) t).at
counters_at m t h = counter _ _ _ _ _ _ (λ u. (thread_at (core_of m) u).at) refl refl refl refl refl refl t h

module _ (code lengths : List ℕ) (m : QueuedMachine) (σ : State) (held : Holds code lengths m σ) where
  pub shown_held : Shown code lengths (counters m) m.slots m.heads m.tails σ
  unfolding unqueued
  shown_held = record {
    rests = λ t h. ap (λ k. k.local.rest) (sym (seen_thread σ t)) ∙ (held.core.threads t h).rest ∙ ap (λ (i : ℕ). drop i (thread_code code t (get_or lengths t 0))) (sym (counters_at m t h));
    queues = held.queues;
  }

  pub short_held : ShortAt lengths (counters m)
  short_held t h l = held.short t h (omega (arith, l, counters_at m t h))

  pub counters_16 : (t : ℕ) → t < 6 → (thread_at (core_of m) t).at < 16 → get_or (counters m) t 0 < 16
  counters_16 t h l = omega (arith, l, counters_at m t h)

-- ---- the step of a thread that is shown so
locks_first : (y : Instruction) (is : List Instruction) → first_locks (y ∷ is) ≡ first_locks (y ∷ [])
unfolding first_locks
locks_first (Memory b) is = refl
locks_first (Alone o) is = refl

takes_first : (y : Instruction) (is : List Instruction) → first_takes (y ∷ is) ≡ first_takes (y ∷ [])
unfolding first_takes
takes_first (Memory b) is = refl
takes_first (Alone o) is = refl

module _ (code lengths at : List ℕ) (slots : List Pending) (heads tails : List ℕ) (σ : State) (shown : Shown code lengths at slots heads tails σ) (t : ℕ) (h : t < 6) where
  module _ (ok : enabled σ (byte_for access t) ≡ true) (row : ℕ) (er : row ≡ t * 16 + get_or at t 0) where
    left : get_or at t 0 < get_or lengths t 0
    left = go (dec_lt (get_or at t 0) (get_or lengths t 0))
      where
        go : Dec (get_or at t 0 < get_or lengths t 0) → get_or at t 0 < get_or lengths t 0
        go (yes i) = i
        go (no i) = absurd (true≢false (sym (able_pending (thread_of σ t) (length σ.cells) (sym (enabled_for σ access t h) ∙ ok))
            ∙ nothing_pending (thread_of σ t).local (shown.rests t h ∙ code_end code t (get_or lengths t 0) (get_or at t 0) (omega (arith, i)))))

    rest : (thread_of σ t).local.rest ≡ instruction_at code row ∷ drop (suc (get_or at t 0)) (thread_code code t (get_or lengths t 0))
    rest = shown.rests t h ∙ code_at_lem code t (get_or lengths t 0) (get_or at t 0) left ∙ ap (λ (i : ℕ). instruction_at code i ∷ drop (suc (get_or at t 0)) (thread_code code t (get_or lengths t 0))) (sym er)

    pub shown_place : place σ access t ≡ first_place (instruction_at code row ∷ [])
    unfolding place target place_of
    shown_place = ap first_place rest ∙ place_first (instruction_at code row) (drop (suc (get_or at t 0)) (thread_code code t (get_or lengths t 0)))

    pub shown_locks : locked (thread_of σ t).local ≡ first_locks (instruction_at code row ∷ [])
    unfolding locked
    shown_locks = ap first_locks rest ∙ locks_first (instruction_at code row) (drop (suc (get_or at t 0)) (thread_code code t (get_or lengths t 0)))

    pub shown_takes : takes (thread_of σ t).local ≡ first_takes (instruction_at code row ∷ [])
    unfolding takes
    shown_takes = ap first_takes rest ∙ takes_first (instruction_at code row) (drop (suc (get_or at t 0)) (thread_code code t (get_or lengths t 0)))

  -- the oldest pending store
  pub shown_oldest : enabled σ (byte_for move t) ≡ true → get_or tails t 0 ≤ 16 → (i : ℕ) → i ≡ get_or heads t 0 → (get_or slots (i % 16) no_store).location ≡ place σ move t
  unfolding place target oldest_place movable entry_at
  shown_oldest ok n i ei = go (dec_lt (get_or heads t 0) (get_or tails t 0))
    where
      can : movable (thread_of σ t).queue (length σ.cells) ≡ true
      can = able_movable (thread_of σ t) (length σ.cells) (sym (enabled_for σ move t h) ∙ ok)

      go : Dec (get_or heads t 0 < get_or tails t 0) → (get_or slots (i % 16) no_store).location ≡ oldest_place (thread_of σ t).queue
      go (no k) = absurd (false≢true (sym (ap (λ (q : List Entry). movable q (length σ.cells)) (shown.queues t h ∙ queue_none slots (get_or heads t 0) (get_or tails t 0 - get_or heads t 0) (omega (arith, k)))) ∙ can))
      go (yes k) =
          ap (λ (j : ℕ). (get_or slots j no_store).location) (ap (λ (j : ℕ). j % 16) ei ∙ mod-eq_of_lt (omega (arith, k, n)))
          ∙ sym (ap oldest_place (shown.queues t h ∙ queue_more slots (get_or heads t 0) (get_or tails t 0 - get_or heads t 0) (omega (arith, k))))

-- where a prefix is reached, a late byte goes to one of the eight locations
pub ready_late : (code lengths class : List ℕ) (threads groups : ℕ) (x : Place) (p : Program) (v : Schedule) → Reached code lengths class threads groups x p v → (k : Kind) (s : ℕ) → s ≡ bytes_of (late_at p v) k → (t : ℕ) → t < 6 → has s t ≡ true → ReadyAt (end_of p v) k t
ready_late code lengths class threads groups x p v r k s e t h i =
    let ok = late_may p v k s e t h i in
    let g = regular_run v (start p) (regular_start p r.loaded.well_formed) r.allowed in
    let a = sym (enabled_for (end_of p v) k t h) ∙ ok in
    (ok, omega (arith, place_in (end_of p v) g k t a, g.eight))
