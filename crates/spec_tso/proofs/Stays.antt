-- F3: what may step stays so until it is taken. A thread's next access changes by its own access only, and its queue shrinks by its own move only:
-- an allowed locked access keeps its empty queue, an allowed move its entry.
use Prim.Native.Nat.{ℕ}
use mathlib.Core.Path.{◌≡◌, refl, sym, ap, subst, ◌∙◌}
use mathlib.Core.Logic.{◌≢◌}
use mathlib.Core.Bool.{true}
use mathlib.Core.List.{Memᴰ}
use native.Mathlib.Decide.{ℕ_discrete}
use lib.ListN.{length}
use Rattle.spec_schedules.specs.Order.{Schedule}
use Rattle.spec_schedules.specs.System.{FullFrom}
use Rattle.spec_schedules.proofs.GreedyFull.{stays_occurs}
use Rattle.spec_sc.specs.Local.{place_of, puts}
use Rattle.spec_sc.specs.State.{Cell}
use Rattle.spec_tso.specs.Queue.{queued}
use Rattle.spec_tso.specs.State.{Thread, State, thread_of, cell_of, locked, finds, thread_behind, place, step_of, able, kind_of, owner, step, enabled, TSO, Kind, access, move}
use Rattle.spec_tso.proofs.Bytes.{byte_of}
use Rattle.spec_tso.proofs.Steps.{enabled_able, enabled_of, able_pending, able_free, access_able, able_range, thread_own, thread_other, step_of_cells}
use Rattle.spec_tso.proofs.Queues.{movable_front, free_newer}
use Rattle.spec_tso.proofs.Lawful.{lawful}

-- behind an access a move stays possible, behind a move an access
access_keeps : (t : ℕ) (h : Thread) (c : Cell) (n : ℕ) → able move h n ≡ true → able move (thread_behind access t h c) n ≡ true
unfolding thread_behind able
access_keeps t h c n m = movable_front h.queue (queued (locked h.local) h.history.done (place_of h.local) (puts h.local (finds t h c).value)) n m

move_keeps : (t : ℕ) (h : Thread) (c : Cell) (n : ℕ) → able access h n ≡ true → able access (thread_behind move t h c) n ≡ true
unfolding thread_behind
move_keeps t h c n m = access_able (thread_behind move t h c) n (able_pending h n m) (free_newer (locked h.local) h.queue (able_free h n m))

-- of one thread, one kind behind the other
pub keeps : (k j : Kind) → k ≢ j → (t : ℕ) (h : Thread) (c : Cell) (n : ℕ) → able j h n ≡ true → able j (thread_behind k t h c) n ≡ true
keeps access access ne t h c n m = absurd (ne refl)
keeps access move ne t h c n m = access_keeps t h c n m
keeps move access ne t h c n m = move_keeps t h c n m
keeps move move ne t h c n m = absurd (ne refl)

pub step_of_keeps : (σ : State) (k : Kind) (t : ℕ) (j : Kind) (u : ℕ) → ((k ≡ j) → (t ≡ u) → ⊥) → able k (thread_of σ t) (length σ.cells) ≡ true → able j (thread_of σ u) (length σ.cells) ≡ true →
    able j (thread_of (step_of σ k t) u) (length (step_of σ k t).cells) ≡ true
step_of_keeps σ k t j u ne a b = ap (λ (n : ℕ). able j (thread_of (step_of σ k t) u) n) (step_of_cells σ k t) ∙ go (ℕ_discrete u t)
  where
    go : Dec (u ≡ t) → able j (thread_of (step_of σ k t) u) (length σ.cells) ≡ true
    go (no d) = ap (λ (h : Thread). able j h (length σ.cells)) (thread_other σ k t u d) ∙ b
    go (yes e) =
        ap (λ (h : Thread). able j h (length σ.cells)) (ap (thread_of (step_of σ k t)) e ∙ thread_own σ k t (able_range σ k t (length σ.cells) a))
        ∙ keeps k j (λ q. ne q (sym e)) t (thread_of σ t) (cell_of σ (place σ k t)) (length σ.cells) (subst (λ (x : ℕ). able j (thread_of σ x) (length σ.cells) ≡ true) e b)

-- WHAT MAY STEP STAYS SO
pub stays : (σ : State) (a b : ℕ) → a ≢ b → enabled σ a ≡ true → enabled σ b ≡ true → enabled (step σ a) b ≡ true
unfolding step
stays σ a b ne m n = enabled_of (step σ a) σ b n (step_of_keeps σ (kind_of a) (owner a) (kind_of b) (owner b) (λ k o. ne (byte_of a b k o)) (enabled_able σ a m) (enabled_able σ b n))

-- a byte that may step stands in every full schedule
pub occurs : (σ : State) (b : ℕ) (s : Schedule) → enabled σ b ≡ true → FullFrom TSO σ s → Memᴰ b s
occurs σ b s m f = stays_occurs TSO lawful stays σ b s m f
