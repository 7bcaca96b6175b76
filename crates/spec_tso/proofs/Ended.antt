-- Schedules in document 02's words. Along a run of a program the byte t does thread t's next access, and may step exactly when the thread has
-- not ended and, where that access is a fetch and add or a compare and swap, nothing of it is pending; the byte 16 + t may step exactly when
-- something of thread t is pending, whether it has ended or not. A schedule is full exactly when each of its bytes may step in its turn and
-- behind the last all threads have ended and all queues are empty.
use Prim.Native.Nat.{ℕ, ◌+◌, ◌<◌}
use mathlib.Core.Path.{◌≡◌, refl, sym, subst, ◌∙◌}
use mathlib.Core.Logic.{◌↔◌, ◌⊎◌, inl, inr, ⊎_elim}
use mathlib.Core.Bool.{Bool, true, false, true≢false, false≢true}
use mathlib.Core.Option.{none}
use mathlib.Core.List.{List, [], ◌∷◌, Memᴰ}
use native.Mathlib.Omega.{arith}
use lib.ListN.{length}
use Rattle.spec_file.specs.Program.{Program}
use Rattle.spec_file.specs.WellFormed.{WellFormed}
use Rattle.spec_schedules.specs.Order.{Schedule}
use Rattle.spec_schedules.specs.System.{ended, Allowed}
use Rattle.spec_schedules.proofs.Runs.{ended_of, ended_none, full_allowed, allowed_full}
use Rattle.spec_sc.specs.State.{Cell}
use Rattle.spec_sc.proofs.Access.{Settled, nothing_pending}
use Rattle.spec_tso.specs.Queue.{Entry, newest, found_in, is_empty, free, movable}
use Rattle.spec_tso.specs.State.{Thread, State, Kind, access, move, thread_of, locked, finds, able, kind_of, owner, byte_for, enabled, TSO, start}
use Rattle.spec_tso.specs.Graph.{Full, end_of}
use Rattle.spec_tso.proofs.Steps.{enabled_able, enabled_for, able_pending, able_free, able_movable, access_able, able_range}
use Rattle.spec_tso.proofs.Bytes.{owner_access, kind_low, kind_move, owner_move}
use Rattle.spec_tso.proofs.Queues.{free_empty}
use Rattle.spec_tso.proofs.Lawful.{lawful}
use Rattle.spec_tso.proofs.Seen.{run_threads, start_threads}
use Rattle.spec_tso.proofs.Regular.{Regular, regular_run, regular_start}
use Rattle.spec_tso.proofs.Reading.{moves_cons, pending_goes_on}

-- thread t has used up its instructions, or an assertion of it has failed
abbrev pub Ended : State → ℕ → Type 0
Ended σ t = ((thread_of σ t).local.rest ≡ []) ⊎ ((thread_of σ t).local.failed ≡ true)

-- thread t's queue is empty
abbrev pub Empty : State → ℕ → Type 0
Empty σ t = (thread_of σ t).queue ≡ []

free_of : (b : Bool) (q : List Entry) → (b ≡ true → q ≡ []) → free b q ≡ true
unfolding free is_empty
free_of true q h = rw (h refl)
free_of false q h = refl

not_movable : (q : List Entry) (n : ℕ) → q ≡ [] → movable q n ≡ true → ⊥
unfolding movable
not_movable [] n e m = false≢true m
not_movable (x ∷ q) n e m = let z : ◌≡◌ {A = ℕ} 0 1 = cc in omega arith

able_move : (h : Thread) (n : ℕ) → movable h.queue n ≡ true → able move h n ≡ true
unfolding able
able_move h n m = m

-- A LOCKED ACCESS THAT MAY STEP ACTS ON MEMORY: its queue is empty, so it finds what memory holds
finds_memory : (t : ℕ) (h : Thread) (c : Cell) → h.queue ≡ [] → finds t h c ≡ found_in t none c
unfolding finds newest
finds_memory t h c e = rw e

pub locked_memory : (t : ℕ) (h : Thread) (c : Cell) (n : ℕ) → able access h n ≡ true → locked h.local ≡ true → finds t h c ≡ found_in t none c
locked_memory t h c n m e = finds_memory t h c (free_empty h.queue (subst (λ (b : Bool). free b h.queue ≡ true) e (able_free h n m)))

module _ (σ : State) (r : Regular σ) (t : ℕ) where
  -- of a thread that has ended nothing is left of its code
  spent : Ended σ t → (thread_of σ t).local.rest ≡ []
  spent e = ⊎_elim (λ (q : (thread_of σ t).local.rest ≡ []). q) (r.halts t) e

  able_access : able access (thread_of σ t) (length σ.cells) ≡ true ↔ ((Ended σ t → ⊥) × (locked (thread_of σ t).local ≡ true → Empty σ t))
  able_access = (there, back)
    where
      there : able access (thread_of σ t) (length σ.cells) ≡ true → (Ended σ t → ⊥) × (locked (thread_of σ t).local ≡ true → Empty σ t)
      there a = (
        (λ e. true≢false (sym (able_pending (thread_of σ t) (length σ.cells) a) ∙ nothing_pending (thread_of σ t).local (spent e))),
        (λ e. free_empty (thread_of σ t).queue (subst (λ (b : Bool). free b (thread_of σ t).queue ≡ true) e (able_free (thread_of σ t) (length σ.cells) a))),
      )

      back : (Ended σ t → ⊥) × (locked (thread_of σ t).local ≡ true → Empty σ t) → able access (thread_of σ t) (length σ.cells) ≡ true
      back k = go (r.settled t)
        where
          go : Settled (thread_of σ t).local → able access (thread_of σ t) (length σ.cells) ≡ true
          go (inl e) = absurd (k.0 (inl e))
          go (inr p) = access_able (thread_of σ t) (length σ.cells) p (free_of (locked (thread_of σ t).local) (thread_of σ t).queue k.1)

  able_moves : able move (thread_of σ t) (length σ.cells) ≡ true ↔ (Empty σ t → ⊥)
  able_moves = (
    (λ m e. not_movable (thread_of σ t).queue (length σ.cells) e (able_movable (thread_of σ t) (length σ.cells) m)),
    (λ k. back k (thread_of σ t).queue refl),
  )
    where
      back : (Empty σ t → ⊥) → (q : List Entry) → (thread_of σ t).queue ≡ q → able move (thread_of σ t) (length σ.cells) ≡ true
      back k [] e = absurd (k e)
      back k (x ∷ q) e = able_move (thread_of σ t) (length σ.cells) (moves_cons (thread_of σ t).queue x q (length σ.cells) e
          (omega (arith, r.places t x (subst (Memᴰ x) (sym e) (Memᴰ.head refl)), r.eight)))

  low : t < length σ.threads → t < 6
  low h = omega (arith, r.six)

  -- at the end of a run all threads have ended and nothing is pending
  ended_all : ended TSO σ ≡ true → t < length σ.threads → Ended σ t × Empty σ t
  ended_all e h = (ended_at (r.settled t), empty_at (thread_of σ t).queue refl)
    where
      ended_at : Settled (thread_of σ t).local → Ended σ t
      ended_at (inl q) = inl q
      ended_at (inr p) = absurd (pending_goes_on σ r t (low h) p e)

      empty_at : (q : List Entry) → (thread_of σ t).queue ≡ q → Empty σ t
      empty_at [] i = i
      empty_at (x ∷ q) i = absurd (true≢false (sym (enabled_for σ move t (low h) ∙ able_moves.1 (λ j. let z : ◌≡◌ {A = ℕ} 0 1 = cc in omega arith)) ∙ ended_none TSO lawful σ (byte_for move t) e))

all_ended : (σ : State) → Regular σ → ((t : ℕ) → t < length σ.threads → Ended σ t × Empty σ t) → ended TSO σ ≡ true
all_ended σ r h = ended_of TSO σ (λ b. go b (enabled σ b) refl)
  where
    never : (k : Kind) (t : ℕ) → able k (thread_of σ t) (length σ.cells) ≡ true → ⊥
    never access t a = ((able_access σ r t).0 a).0 (h t (able_range σ access t (length σ.cells) a)).0
    never move t a = (able_moves σ r t).0 a (h t (able_range σ move t (length σ.cells) a)).1

    go : (b : ℕ) (x : Bool) → enabled σ b ≡ x → enabled σ b ≡ false
    go b true e = absurd (never (kind_of b) (owner b) (enabled_able σ b e))
    go b false e = e

module _ (p : Program) (w : WellFormed p) (s : Schedule) (a : Allowed TSO (start p) s) (t : ℕ) where
  as_many : length (end_of p s).threads ≡ length p.threads
  as_many = run_threads s (start p) ∙ start_threads p

  reg : Regular (end_of p s)
  reg = regular_run s (start p) (regular_start p w) a

  -- by kind and thread
  kind_exactly : (k : Kind) → (let b = byte_for k t in (kind_of b ≡ k) × (owner b ≡ t)) →
      (enabled (end_of p s) (byte_for k t) ≡ true) ↔ ((t < length p.threads) × (able k (thread_of (end_of p s) t) (length (end_of p s).cells) ≡ true))
  kind_exactly k o = (
    (λ m.
        let e : able k (thread_of (end_of p s) t) (length (end_of p s).cells) ≡ true = subst (λ (u : ℕ). able k (thread_of (end_of p s) u) (length (end_of p s).cells) ≡ true) o.1
        (subst (λ (j : Kind). able j (thread_of (end_of p s) (owner (byte_for k t))) (length (end_of p s).cells) ≡ true) o.0 (enabled_able (end_of p s) (byte_for k t) m)) in
        let h = able_range (end_of p s) k t (length (end_of p s).cells) e in (omega (arith, h, as_many), e)),
    (λ q. enabled_for (end_of p s) k t (omega (arith, q.0, as_many, reg.six)) ∙ q.1),
  )

  -- THE BYTE t: its thread exists and has not ended, and a locked access waits for an empty queue
  pub access_exactly : t < 16 →
      (enabled (end_of p s) t ≡ true) ↔ ((t < length p.threads) × (Ended (end_of p s) t → ⊥) × (locked (thread_of (end_of p s) t).local ≡ true → Empty (end_of p s) t))
  unfolding byte_for
  access_exactly h =
      let k = kind_exactly access (kind_low t h, (owner_access t (kind_low t h)).0) in
      let l = able_access (end_of p s) reg t in (
        (λ m. let q = k.0 m in let r = l.0 q.1 in (q.0, r.0, r.1)),
        (λ q. k.1 (q.0, l.1 (q.1, q.2))),
      )

  -- THE BYTE 16 + t: its thread exists and something of it is pending
  pub move_exactly : (enabled (end_of p s) (t + 16) ≡ true) ↔ ((t < length p.threads) × (Empty (end_of p s) t → ⊥))
  unfolding byte_for
  move_exactly =
      let k = kind_exactly move (kind_move t, owner_move t) in
      let l = able_moves (end_of p s) reg t in (
        (λ m. let q = k.0 m in (q.0, l.0 q.1)),
        (λ q. k.1 (q.0, l.1 q.1)),
      )

-- FULL: each byte may step in its turn, and in the end all threads have ended and all queues are empty
pub full_exactly : (p : Program) → WellFormed p → (s : Schedule) →
    Full p s ↔ (Allowed TSO (start p) s × ((t : ℕ) → t < length p.threads → Ended (end_of p s) t × Empty (end_of p s) t))
full_exactly p w s =
    let count : length (end_of p s).threads ≡ length p.threads = run_threads s (start p) ∙ start_threads p in (
      (λ f.
          let a = full_allowed TSO (start p) s f in
          (a.0, λ t h. ended_all (end_of p s) (regular_run s (start p) (regular_start p w) a.0) t a.1 (omega (arith, h, count)))),
      (λ k. allowed_full TSO (start p) s k.0 (all_ended (end_of p s) (regular_run s (start p) (regular_start p w) k.0) (λ t h. k.1 t (omega (arith, h, count))))),
    )
