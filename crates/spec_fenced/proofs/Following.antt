-- Sequential consistency follows total store order on fenced code: it does a store when that is flushed, and every other access when it is
-- done. Where total store order has ended, both have the same graph.
use Prim.Native.Nat.{ℕ, ◌<◌}
use mathlib.Core.Path.{◌≡◌, refl, sym, ap, ap₂, subst, ◌∙◌}
use mathlib.Core.Bool.{Bool, true, false, true≢false, false≢true}
use mathlib.Core.List.{List, [], ◌∷◌}
use native.Mathlib.Omega.{arith}
use borrow.Author.Tests.{lt-ltb}
use lib.ListN.{length, get_or, set, length-map}
use Rattle.spec_schedules.specs.Order.{Schedule}
use Rattle.spec_schedules.specs.System.{run, ended, FullFrom}
use Rattle.spec_schedules.proofs.Runs.{ended_of, ended_none}
use Rattle.spec_sc.specs.Local.{pending, place_of}
use Rattle.spec_sc.specs.State as SC
use Rattle.spec_sc.specs.State.{Cell, fresh_cell, SC}
use Rattle.spec_sc.specs.Graph as SCGraph
use Rattle.spec_sc.proofs.Steps as SCSteps
use Rattle.spec_sc.proofs.Rows as Rows
use Rattle.spec_sc.proofs.Regular.{Regular, place_in, regular_step}
use Rattle.spec_tso.specs.Queue.{Entry, is_empty, free, movable}
use Rattle.spec_tso.specs.State.{Thread, State, unqueued, without_queues, thread_of, cell_of, locked, target, thread_behind, cell_behind, place, step_of, able, kind_of, owner, byte_for, step, enabled, TSO, Kind, access, move}
use Rattle.spec_tso.specs.Graph.{graph_of}
use Rattle.spec_tso.proofs.Steps.{enabled_small, enabled_able, enabled_for, able_pending, able_free, able_movable, access_able, able_range, step_of_threads, still}
use Rattle.spec_tso.proofs.Lawful.{lawful}
use Rattle.spec_tso.proofs.Change.{thread_cases}
use Rattle.spec_tso.proofs.Seen.{seen_thread}
use Rattle.spec_fenced.proofs.Codes.{Turn, storing, direct, turn}
use Rattle.spec_fenced.proofs.Lagging.{Stores, Near, near_store, store_still, level, direct_cell, near_direct, oldest, flush_place, flush_cell, near_flush}

-- τ has the same memory as σ, and each of its threads lags behind that of σ
pub record Follows (σ : State) (τ : SC.State) : Type 0 where
  pub threads : length σ.threads ≡ length τ.threads
  pub cells : σ.cells ≡ τ.cells
  pub near : (t : ℕ) → Near (SC.thread_of τ t) (thread_of σ t)

-- behind a step of total store order: nothing to do yet, or one step
pub data Next (σ : State) (τ : SC.State) : Type 0 where
  waits : Follows σ τ → Next σ τ
  goes : (t : ℕ) → SC.enabled τ t ≡ true → Follows σ (SC.step τ t) → Next σ τ

module _ (σ : State) (τ : SC.State) (f : Follows σ τ) (t : ℕ) (low : t < 6) where
  abbrev g : SC.Thread
  g = SC.thread_of τ t

  abbrev h : Thread
  h = thread_of σ t

  same_cell : (l : ℕ) → cell_of σ l ≡ SC.cell_of τ l
  unfolding cell_of SC.cell_of
  same_cell l = ap (λ (cs : List Cell). get_or cs l (fresh_cell 0)) f.cells

  -- both step: at one location, with the same cell behind
  module _ (k : Kind) (a : able k h (length σ.cells) ≡ true) (m : pending g.local ≡ true) (p : target k h ≡ place_of g.local) where
    abbrev c : Cell
    c = cell_of σ (place σ k t)

    same_place : place σ k t ≡ SC.place τ t
    unfolding place SC.place
    same_place = p

    here : c ≡ SC.cell_of τ (SC.place τ t)
    here = ap (cell_of σ) same_place ∙ same_cell (SC.place τ t)

    both_cells : cell_behind k t h c ≡ SC.met t g c → (step_of σ k t).cells ≡ (SC.step τ t).cells
    unfolding step_of SC.step
    both_cells e =
        ap (λ (cs : List Cell). set cs (place σ k t) (cell_behind k t h c)) f.cells
        ∙ ap₂ (λ (l : ℕ) (x : Cell). set τ.cells l x) same_place (e ∙ ap (SC.met t g) here)

    both_step : Near (SC.advanced g c) (thread_behind k t h c) → cell_behind k t h c ≡ SC.met t g c → Next (step_of σ k t) τ
    both_step n e = goes t (SCSteps.enabled_of τ t low m) (record {
      threads = step_of_threads σ k t ∙ f.threads ∙ sym (SCSteps.step_threads τ t);
      cells = both_cells e;
      near = λ u. thread_cases (λ v x. Near (SC.thread_of (SC.step τ t) v) x) σ k t (able_range σ k t (length σ.cells) a)
          (subst (λ (x : SC.Thread). Near x (thread_behind k t h c)) (sym (SCSteps.thread_own τ t (SCSteps.in_range_lem τ t m) ∙ ap (SC.advanced g) (sym here))) n)
          u (λ ne. subst (λ (x : SC.Thread). Near x (thread_of σ u)) (sym (SCSteps.thread_other τ t u ne)) (f.near u));
    })

  -- with nothing pending both threads are the same
  direct_pending : h.queue ≡ [] → pending h.local ≡ true → pending g.local ≡ true
  unfolding unqueued
  direct_pending e m = ap (λ (x : SC.Thread). pending x.local) (level t g h (cell_of σ 0) (f.near t) e) ∙ m

  direct_place : h.queue ≡ [] → target access h ≡ place_of g.local
  unfolding target unqueued
  direct_place e = ap (λ (x : SC.Thread). place_of x.local) (sym (level t g h (cell_of σ 0) (f.near t) e))

  by_access : able access h (length σ.cells) ≡ true → Next (step_of σ access t) τ
  by_access a = go (turn h.queue h.local m (able_free h (length σ.cells) a) (f.near t).fences)
    where
      m : pending h.local ≡ true
      m = able_pending h (length σ.cells) a

      at : Cell
      at = cell_of σ (place σ access t)

      go : Turn h.queue h.local → Next (step_of σ access t) τ
      go (storing b l k) = waits (record {
        threads = step_of_threads σ access t ∙ f.threads;
        cells = still σ access t (store_still t g h at (f.near t) m b l) ∙ f.cells;
        near = λ u. thread_cases (λ v x. Near (SC.thread_of τ v) x) σ access t (able_range σ access t (length σ.cells) a)
            (near_store t g h at (f.near t) m b l k) u (λ ne. f.near u);
      })
      go (direct e w o k) = both_step access a (direct_pending e m) (direct_place e) (near_direct t g h at (f.near t) e w k) (direct_cell t g h at (f.near t) e o)

  by_move : able move h (length σ.cells) ≡ true → Next (step_of σ move t) τ
  unfolding movable
  by_move a = go h.queue refl
    where
      at : Cell
      at = cell_of σ (place σ move t)

      go : (q : List Entry) → h.queue ≡ q → Next (step_of σ move t) τ
      go [] e = absurd (false≢true (ap (λ (q : List Entry). movable q (length σ.cells)) (sym e) ∙ able_movable h (length σ.cells) a))
      go (x ∷ q) e = both_step move a (oldest t g h at (f.near t) x q e).due (flush_place t g h at (f.near t) x q e) (near_flush t g h at (f.near t) x q e) (flush_cell t g h at (f.near t) x q e)

pub follow : (σ : State) (τ : SC.State) → Follows σ τ → (b : ℕ) → enabled σ b ≡ true → Next (step σ b) τ
unfolding step
follow σ τ f b m = go (kind_of b) (enabled_able σ b m)
  where
    go : (k : Kind) → able k (thread_of σ (owner b)) (length σ.cells) ≡ true → Next (step_of σ k (owner b)) τ
    go access a = by_access σ τ f (owner b) (enabled_small σ b m) a
    go move a = by_move σ τ f (owner b) (enabled_small σ b m) a

-- THE END: where total store order has ended, sequential consistency has, with the same graph
module _ (σ : State) (τ : SC.State) (f : Follows σ τ) (r : Regular τ) (e : ended TSO σ ≡ true) where
  not_able : (k : Kind) (t : ℕ) → t < 6 → able k (thread_of σ t) (length σ.cells) ≡ false
  not_able k t h = sym (enabled_for σ k t h) ∙ ended_none TSO lawful σ (byte_for k t) e

  -- nothing is pending: a pending store could be flushed
  can_flush : (t : ℕ) (x : Entry) (q : List Entry) → (thread_of σ t).queue ≡ x ∷ q → x.location < length σ.cells → able move (thread_of σ t) (length σ.cells) ≡ true
  unfolding able movable
  can_flush t x q i l = ap (λ (w : List Entry). movable w (length σ.cells)) i ∙ lt-ltb x.location (length σ.cells) l

  below : (t : ℕ) (x : Entry) → Stores (SC.thread_of τ t) x → x.location < length σ.cells
  unfolding SC.place
  below t x s = let a = s.location in let b = ap (λ (cs : List Cell). length cs) f.cells in let d : place_of (SC.thread_of τ t).local < length τ.cells = place_in τ r t in omega arith

  none_pending : (t : ℕ) → (thread_of σ t).queue ≡ []
  none_pending t = go (thread_of σ t).queue refl
    where
      go : (q : List Entry) → (thread_of σ t).queue ≡ q → (thread_of σ t).queue ≡ []
      go [] i = i
      go (x ∷ q) i =
          let s = oldest t (SC.thread_of τ t) (thread_of σ t) (cell_of σ 0) (f.near t) x q i in
          let k = SCSteps.in_range_lem τ t s.due in
          let six = r.six in
          absurd (true≢false (sym (can_flush t x q i (below t x s)) ∙ not_able move t (omega arith)))

  pub same_thread : (t : ℕ) → SC.thread_of τ t ≡ unqueued (thread_of σ t)
  same_thread t = level t (SC.thread_of τ t) (thread_of σ t) (cell_of σ 0) (f.near t) (none_pending t)

  -- a thread with nothing pending that may do an access here may do it there
  free_none : (b : Bool) (q : List Entry) → q ≡ [] → free b q ≡ true
  unfolding free is_empty
  free_none true q i = rw i
  free_none false q i = refl

  seen_pending : (t : ℕ) → pending (SC.thread_of τ t).local ≡ true → pending (thread_of σ t).local ≡ true
  unfolding unqueued
  seen_pending t m = ap (λ (x : SC.Thread). pending x.local) (sym (same_thread t)) ∙ m

  pub both_ended : ended SC τ ≡ true
  both_ended = ended_of SC τ (λ t. go t (SC.enabled τ t) refl)
    where
      go : (t : ℕ) (b : Bool) → SC.enabled τ t ≡ b → SC.enabled τ t ≡ false
      go t false q = q
      go t true q =
          let a = access_able (thread_of σ t) (length σ.cells) (seen_pending t (SCSteps.enabled_pending τ t q)) (free_none (locked (thread_of σ t).local) (thread_of σ t).queue (none_pending t)) in
          absurd (true≢false (sym a ∙ not_able access t (SCSteps.enabled_small τ t q)))

  abbrev seen : SC.State
  seen = without_queues σ

  seen_threads : length τ.threads ≡ length seen.threads
  unfolding without_queues
  seen_threads = sym f.threads ∙ sym (length-map σ.threads unqueued)

  seen_cells : τ.cells ≡ seen.cells
  unfolding without_queues
  seen_cells = sym f.cells

  -- the two graphs are one
  pub both_graph : SCGraph.graph_of τ ≡ graph_of σ
  unfolding graph_of SC.cell_of
  both_graph = Rows.same_graph τ (SCGraph.graph_of seen)
      (seen_threads ∙ sym (Rows.graph_sizes seen).0)
      (ap (λ (cs : List Cell). length cs) seen_cells ∙ sym (Rows.graph_sizes seen).1)
      (λ t. ap (λ (x : SC.Thread). x.history.reads) (same_thread t ∙ sym (seen_thread σ t)) ∙ sym (Rows.row_at seen t))
      (λ l. ap (λ (cs : List Cell). (get_or cs l (fresh_cell 0)).writes) seen_cells ∙ sym (Rows.order_at seen l))

-- A WHOLE SCHEDULE of total store order is followed to its end
pub followed : (s : Schedule) (σ : State) (τ : SC.State) → Follows σ τ → Regular τ → FullFrom TSO σ s →
    (z : Schedule) × FullFrom SC τ z × (SCGraph.graph_of (run SC τ z) ≡ graph_of (run TSO σ s))
unfolding run
followed [] σ τ f r e = ([], both_ended σ τ f r e, both_graph σ τ f r e)
followed (b ∷ s) σ τ f r e = go (follow σ τ f b e.0) (λ ρ i j. followed s (step σ b) ρ i j e.1)
  where
    Ends : SC.State → Type 0
    Ends ρ = (z : Schedule) × FullFrom SC ρ z × (SCGraph.graph_of (run SC ρ z) ≡ graph_of (run TSO (step σ b) s))

    go : Next (step σ b) τ → ((ρ : SC.State) → Follows (step σ b) ρ → Regular ρ → Ends ρ) → Ends τ
    go (waits i) ih = ih τ i r
    go (goes t m i) ih = let w = ih (SC.step τ t) i (regular_step τ t r m) in (t ∷ w.0, (m, w.1), w.2)
