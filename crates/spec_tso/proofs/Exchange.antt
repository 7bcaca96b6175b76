-- T2, the exchange law, from any state: where one state is another with its threads exchanged by π, a step of b in the one and of the exchanged byte in the
-- other leave states so related.
use Prim.Native.Nat.{ℕ, ◌-◌, ◌<◌}
use mathlib.Core.Path.{◌≡◌, refl, sym, ap, ap₂, ◌∙◌}
use mathlib.Core.Bool.{Bool, true, false, ◌&&◌}
use mathlib.Core.Option.{Option, none, some}
use mathlib.Core.List.{List, map}
use native.Mathlib.Omega.{arith}
use native.Mathlib.Decide.{ℕ_discrete, dec_lt}
use borrow.Author.Tests.{lt-ltb, le-ltb}
use lib.Dec.{ltb}
use lib.ListN.{length, get_or, length-map, get_or-map}
use Rattle.spec_schedules.specs.System.{ended}
use Rattle.spec_schedules.proofs.Runs.{ended_of, ended_none}
use Rattle.spec_sc.specs.Local.{place_of, takes}
use Rattle.spec_sc.specs.State.{Event, History, Cell, fresh_cell, written}
use Rattle.spec_model.specs.Exchange.{Permutation}
use Rattle.spec_sc.specs.Exchange.{moved_event, moved_writes, moved_cell}
use Rattle.spec_model.proofs.Exchanges.{injective}
use Rattle.spec_sc.proofs.Exchange.{map_set, small, latest_moved, noted_moved, written_moved}
use Rattle.spec_tso.specs.Queue.{Entry, Found, newest, found_in}
use Rattle.spec_tso.specs.State.{Thread, State, thread_of, cell_of, finds, target, number_of, thread_behind, reaches, cell_behind, place, step_of, able, kind_of, owner, byte_for, step, enabled, TSO, Kind, access, move}
use Rattle.spec_tso.specs.Exchange.{moved_byte, moved_thread, Moves}
use Rattle.spec_tso.proofs.Steps.{enabled_able, enabled_for, able_range, thread_own, thread_other, step_of_threads}
use Rattle.spec_tso.proofs.Bytes.{kind_for, owner_for, kind_move, owner_move, owner_access}
use Rattle.spec_tso.proofs.Lawful.{lawful}

-- the parts of a step, exchanged
abbrev moved_found : (ℕ → ℕ) → Found → Found
moved_found π f = record { value = f.value; source = moved_event π f.source }

found_moved : (π : ℕ → ℕ) → Permutation π → (t : ℕ) (o : Option Entry) (c : Cell) → found_in (π t) o (moved_cell π c) ≡ moved_found π (found_in t o c)
unfolding found_in moved_cell moved_event
found_moved π q t none c = ap (λ (e : Event). let f : Found = record { value = c.value; source = e } in f) (latest_moved π q c.writes)
found_moved π q t (some e) c = refl

pub finds_moved : (π : ℕ → ℕ) → Permutation π → (t : ℕ) (h : Thread) (c : Cell) → finds (π t) (moved_thread π h) (moved_cell π c) ≡ moved_found π (finds t h c)
unfolding finds moved_thread
finds_moved π q t h c = found_moved π q t (newest h.queue (place_of h.local)) c

pub behind_moved : (π : ℕ → ℕ) → Permutation π → (k : Kind) (t : ℕ) (h : Thread) (c : Cell) → thread_behind k (π t) (moved_thread π h) (moved_cell π c) ≡ moved_thread π (thread_behind k t h c)
unfolding thread_behind moved_thread
behind_moved π q access t h c =
    let f : finds (π t) (moved_thread π h) (moved_cell π c) ≡ moved_found π (finds t h c) = finds_moved π q t h c in
    rw f (ap (λ (x : History). let y : Thread = record { local = (thread_behind access t h c).local; history = x; queue = (thread_behind access t h c).queue } in y) (noted_moved π (takes h.local) (finds t h c).source h.history))
behind_moved π q move t h c = refl

pub reaches_moved : (π : ℕ → ℕ) → Permutation π → (k : Kind) (t : ℕ) (h : Thread) (c : Cell) → reaches k (π t) (moved_thread π h) (moved_cell π c) ≡ reaches k t h c
unfolding reaches moved_thread
reaches_moved π q access t h c = let f : finds (π t) (moved_thread π h) (moved_cell π c) ≡ moved_found π (finds t h c) = finds_moved π q t h c in rw f
reaches_moved π q move t h c = refl

pub number_moved : (π : ℕ → ℕ) (k : Kind) (h : Thread) → number_of k (moved_thread π h) ≡ number_of k h
unfolding number_of moved_thread
number_moved π access h = refl
number_moved π move h = refl

pub target_moved : (π : ℕ → ℕ) (k : Kind) (h : Thread) → target k (moved_thread π h) ≡ target k h
unfolding target moved_thread
target_moved π access h = refl
target_moved π move h = refl

able_moved : (π : ℕ → ℕ) (k : Kind) (h : Thread) (n : ℕ) → able k (moved_thread π h) n ≡ able k h n
unfolding able moved_thread
able_moved π access h n = refl
able_moved π move h n = refl

cell_moved : (π : ℕ → ℕ) → Permutation π → (k : Kind) (t : ℕ) (h : Thread) (c : Cell) → cell_behind k (π t) (moved_thread π h) (moved_cell π c) ≡ moved_cell π (cell_behind k t h c)
unfolding cell_behind moved_event
cell_moved π q k t h c =
    ap₂ (λ (i : ℕ) (o : Option ℕ). written (π t, i) o (moved_cell π c)) (number_moved π k h) (reaches_moved π q k t h c) ∙ here
  where
    here : written (π t, number_of k h) (reaches k t h c) (moved_cell π c) ≡ moved_cell π (written (t, number_of k h) (reaches k t h c) c)
    here = written_moved π (t, number_of k h) (reaches k t h c) c

-- an exchange keeps which numbers are below sixteen
below_16 : (π : ℕ → ℕ) → Permutation π → (t : ℕ) → t < 16 → π t < 16
below_16 π q t i = go (dec_lt t 6)
  where
    go : Dec (t < 6) → π t < 16
    go (yes h) = omega (arith, q.below t h)
    go (no h) = omega (arith, q.stays t (omega arith))

module _ (π : ℕ → ℕ) (q : Permutation π) where
  -- both bytes of a thread go with it
  moved_byte_lem : (b : ℕ) → (kind_of (moved_byte π b) ≡ kind_of b) × (owner (moved_byte π b) ≡ π (owner b))
  unfolding moved_byte
  moved_byte_lem b = go (kind_of b) refl
    where
      go : (k : Kind) → kind_of b ≡ k → (kind_of (byte_for (kind_of b) (π (owner b))) ≡ kind_of b) × (owner (byte_for (kind_of b) (π (owner b))) ≡ π (owner b))
      go access e =
          let o = owner_access b e in
          let i = below_16 π q (owner b) (omega arith) in
          (kind_for (kind_of b) (π (owner b)) i, owner_for (kind_of b) (π (owner b)) i)
      go move e = rw e (kind_move (π (owner b)), owner_move (π (owner b)))

  pub moved_kind : (b : ℕ) → kind_of (moved_byte π b) ≡ kind_of b
  moved_kind b = (moved_byte_lem b).0

  pub moved_owner : (b : ℕ) → owner (moved_byte π b) ≡ π (owner b)
  moved_owner b = (moved_byte_lem b).1

  module _ (σ τ : State) (m : Moves π σ τ) where
    pub moves_place : (k : Kind) (t : ℕ) → place τ k (π t) ≡ place σ k t
    unfolding place
    moves_place k t = ap (target k) (m.threads t) ∙ target_moved π k (thread_of σ t)

    pub moves_cell : (l : ℕ) → cell_of τ l ≡ moved_cell π (cell_of σ l)
    unfolding cell_of moved_cell moved_writes fresh_cell
    moves_cell l = ap (λ (cs : List Cell). get_or cs l (fresh_cell 0)) m.cells ∙ get_or-map (moved_cell π) σ.cells l (fresh_cell 0)

    moves_able : (k : Kind) (t : ℕ) → able k (thread_of τ (π t)) (length τ.cells) ≡ able k (thread_of σ t) (length σ.cells)
    moves_able k t = ap₂ (able k) (m.threads t) (ap length m.cells ∙ length-map σ.cells (moved_cell π)) ∙ able_moved π k (thread_of σ t) (length σ.cells)

    pub moves_enabled : (b : ℕ) → enabled τ (moved_byte π b) ≡ enabled σ b
    unfolding enabled
    moves_enabled b =
        ap₂ (λ (k : Kind) (t : ℕ). ltb t 6 && able k (thread_of τ t) (length τ.cells)) (moved_kind b) (moved_owner b)
        ∙ ap₂ (λ (x y : Bool). x && y) (small π q (owner b)) (moves_able (kind_of b) (owner b))

    pub moves_here : (k : Kind) (t : ℕ) → cell_of τ (place τ k (π t)) ≡ moved_cell π (cell_of σ (place σ k t))
    moves_here k t = ap (cell_of τ) (moves_place k t) ∙ moves_cell (place σ k t)

    moves_behind : (k : Kind) (t : ℕ) → thread_behind k (π t) (thread_of τ (π t)) (cell_of τ (place τ k (π t))) ≡ moved_thread π (thread_behind k t (thread_of σ t) (cell_of σ (place σ k t)))
    moves_behind k t = ap₂ (thread_behind k (π t)) (m.threads t) (moves_here k t) ∙ behind_moved π q k t (thread_of σ t) (cell_of σ (place σ k t))

    moves_left : (k : Kind) (t : ℕ) → cell_behind k (π t) (thread_of τ (π t)) (cell_of τ (place τ k (π t))) ≡ moved_cell π (cell_behind k t (thread_of σ t) (cell_of σ (place σ k t)))
    moves_left k t = ap₂ (cell_behind k (π t)) (m.threads t) (moves_here k t) ∙ cell_moved π q k t (thread_of σ t) (cell_of σ (place σ k t))

    moves_cells : (k : Kind) (t : ℕ) → (step_of τ k (π t)).cells ≡ map (moved_cell π) (step_of σ k t).cells
    unfolding step_of
    moves_cells k t = rw (moves_left k t, moves_place k t, m.cells) (map_set (moved_cell π) σ.cells (place σ k t) (cell_behind k t (thread_of σ t) (cell_of σ (place σ k t))))

    moves_step_of : (k : Kind) (t : ℕ) → able k (thread_of σ t) (length σ.cells) ≡ true → Moves π (step_of σ k t) (step_of τ k (π t))
    moves_step_of k t a = record {
      threads = λ u. at u (ℕ_discrete u t);
      cells = moves_cells k t;
      within = λ u i. let x = step_of_threads σ k t in let y = step_of_threads τ k (π t) in let c = m.within u (omega arith) in omega arith;
    }
      where
        r : t < length σ.threads
        r = able_range σ k t (length σ.cells) a

        at : (u : ℕ) → Dec (u ≡ t) → thread_of (step_of τ k (π t)) (π u) ≡ moved_thread π (thread_of (step_of σ k t) u)
        at u (yes e) =
            ap (λ (x : ℕ). thread_of (step_of τ k (π t)) (π x)) e ∙ thread_own τ k (π t) (m.within t r) ∙ moves_behind k t
            ∙ ap (moved_thread π) (sym (thread_own σ k t r) ∙ ap (thread_of (step_of σ k t)) (sym e))
        at u (no e) = thread_other τ k (π t) (π u) (λ i. e (injective π q u t i)) ∙ m.threads u ∙ ap (moved_thread π) (sym (thread_other σ k t u e))

    -- ONE STEP
    pub moves_step : (b : ℕ) → enabled σ b ≡ true → Moves π (step σ b) (step τ (moved_byte π b))
    unfolding step
    moves_step b a = rw (moved_kind b, moved_owner b) (moves_step_of (kind_of b) (owner b) (enabled_able σ b a))

    pub moves_ended : ended TSO σ ≡ true → ended TSO τ ≡ true
    unfolding enabled
    moves_ended e = ended_of TSO τ (λ b. go b (dec_lt (owner b) 6))
      where
        back : (t : ℕ) → t < 6 → q.inverse t < 6
        back t h = in_six (dec_lt (q.inverse t) 6)
          where
            in_six : Dec (q.inverse t < 6) → q.inverse t < 6
            in_six (yes i) = i
            in_six (no i) = omega (arith, q.stays (q.inverse t) (omega arith), q.after_inverse t)

        go : (b : ℕ) → Dec (owner b < 6) → enabled τ b ≡ false
        go b (no h) = ap (λ (x : Bool). x && able (kind_of b) (thread_of τ (owner b)) (length τ.cells)) (le-ltb (owner b) 6 (omega arith))
        go b (yes h) =
            ap₂ (λ (x y : Bool). x && y) (lt-ltb (owner b) 6 h)
            (ap (λ (t : ℕ). able (kind_of b) (thread_of τ t) (length τ.cells)) (sym (q.after_inverse (owner b))) ∙ moves_able (kind_of b) (q.inverse (owner b))
            ∙ sym (enabled_for σ (kind_of b) (q.inverse (owner b)) (back (owner b) h)) ∙ ended_none TSO lawful σ (byte_for (kind_of b) (q.inverse (owner b))) e)
