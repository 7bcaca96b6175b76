-- An exchanged step does the exchanged action.
use Prim.Native.Nat.{ℕ}
use mathlib.Core.Path.{◌≡◌, refl, sym, ap, ap₂, ◌∙◌}
use mathlib.Core.Bool.{Bool, true, false}
use mathlib.Core.List.{List}
use native.Mathlib.Omega.{arith}
use Rattle.spec_sc.specs.State.{Event, initial_write, Cell}
use Rattle.spec_sc.specs.Actions.{given}
use Rattle.spec_model.specs.Exchange.{Permutation}
use Rattle.spec_sc.specs.Exchange.{moved_event, moved_writes, moved_cell}
use Rattle.spec_tso.specs.Queue.{Found}
use Rattle.spec_tso.specs.State.{Thread, State, thread_of, cell_of, finds, target, number_of, reaches, place, kind_of, owner, Kind, access, move}
use Rattle.spec_tso.specs.Actions.{Action, moving, reading, locking, source_if, before_if, action_of, action}
use Rattle.spec_tso.specs.Exchange.{moved_byte, moved_thread, moved_action, Moves}
use Rattle.spec_tso.proofs.Exchange.{finds_moved, reaches_moved, number_moved, target_moved, moved_kind, moved_owner, moves_here}

module _ (π : ℕ → ℕ) (q : Permutation π) where
  initial_moved : moved_event π initial_write ≡ initial_write
  unfolding moved_event initial_write
  initial_moved = ap (λ (x : ℕ). let e : Event = (x, 255) in e) (q.stays 255 (omega arith))

  -- the parts of an action
  reading_moved : (k : Kind) (h : Thread) → reading k (moved_thread π h) ≡ reading k h
  unfolding reading moved_thread
  reading_moved access h = refl
  reading_moved move h = refl

  locking_moved : (k : Kind) (h : Thread) → locking k (moved_thread π h) ≡ locking k h
  unfolding locking moved_thread
  locking_moved access h = refl
  locking_moved move h = refl

  source_moved : (b : Bool) (t : ℕ) (h : Thread) (c : Cell) → source_if b (finds (π t) (moved_thread π h) (moved_cell π c)) ≡ moved_event π (source_if b (finds t h c))
  unfolding source_if
  source_moved true t h c = ap (λ (f : Found). f.source) (finds_moved π q t h c)
  source_moved false t h c = sym initial_moved

  before_moved : (b : Bool) (c : Cell) → before_if b (moved_cell π c) ≡ moved_writes π (before_if b c)
  unfolding before_if moved_cell moved_writes
  before_moved true c = refl
  before_moved false c = refl

  act_of_moved : (b : ℕ) (k : Kind) (t : ℕ) (h : Thread) (c : Cell) → action_of (moved_byte π b) k (π t) (moved_thread π h) (moved_cell π c) ≡ moved_action π (action_of b k t h c)
  unfolding action_of moved_action moved_event
  act_of_moved b k t h c =
      rw (number_moved π k h, target_moved π k h, locking_moved k h, reading_moved k h, reaches_moved π q k t h c)
      (ap₂ (λ (s : Event) (w : List Event). let x : Action = record {
        byte = moved_byte π b;
        event = (π t, number_of k h);
        location = target k h;
        moves = moving k;
        locks = locking k h;
        reads = reading k h;
        source = s;
        puts = given (reaches k t h c);
        before = w;
      } in x) (source_moved (reading k h) t h c) (before_moved (given (reaches k t h c)) c))

  -- an exchanged step does the exchanged action
  pub moves_action : (σ τ : State) → Moves π σ τ → (b : ℕ) → action τ (moved_byte π b) ≡ moved_action π (action σ b)
  unfolding action
  moves_action σ τ m b =
      ap₂ (λ (k : Kind) (t : ℕ). action_of (moved_byte π b) k t (thread_of τ t) (cell_of τ (place τ k t))) (moved_kind π q b) (moved_owner π q b)
      ∙ ap₂ (action_of (moved_byte π b) (kind_of b) (π (owner b))) (m.threads (owner b)) (moves_here π q σ τ m (kind_of b) (owner b))
      ∙ act_of_moved b (kind_of b) (owner b) (thread_of σ (owner b)) (cell_of σ (place σ (kind_of b) (owner b)))
