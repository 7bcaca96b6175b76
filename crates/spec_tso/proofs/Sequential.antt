-- Every SC graph is a graph here: each store of an SC schedule is followed at once by its move to memory, and nothing is pending in between.
use Prim.Native.Nat.{ℕ, ◌<◌}
use mathlib.Core.Path.{◌≡◌, refl, sym, ap, ap₂, subst, ◌∙◌}
use mathlib.Core.Bool.{Bool, true, false, ◌&&◌}
use mathlib.Core.Option.{Option, none, some}
use mathlib.Core.List.{List, [], ◌∷◌, ◌++◌, map}
use native.Mathlib.Omega.{arith}
use native.Mathlib.Decide.{dec_lt}
use borrow.Author.Tests.{lt-ltb, le-ltb}
use lib.ListN.{length, set, length-map}
use lib.Seq.{set-set, set-get_or, get_or-set_same}
use Rattle.spec_file.specs.Program.{Program}
use Rattle.spec_file.specs.WellFormed.{WellFormed}
use Rattle.spec_schedules.specs.Order.{Schedule}
use Rattle.spec_schedules.specs.System.{run, ended, Allowed, FullFrom}
use Rattle.spec_schedules.proofs.Runs.{ended_of, ended_none, run_append, full_join}
use Rattle.spec_sc.specs.Local.{pending, place_of, puts}
use Rattle.spec_sc.specs.State as SC
use Rattle.spec_sc.specs.State.{Cell, SC, latest, written}
use Rattle.spec_sc.specs.Graph as SCGraph
use Rattle.spec_sc.proofs.Steps as SCSteps
use Rattle.spec_sc.proofs.Lawful as SCLawful
use Rattle.spec_sc.proofs.Regular.{Regular, place_in, regular_step, regular_start}
use Rattle.spec_tso.specs.Queue.{Entry, newest, found_in, queued, at_once, newer, oldest_number, oldest_place, oldest_value, movable, is_empty, free}
use Rattle.spec_tso.specs.State.{Thread, State, idle, drained, start, thread_of, cell_of, locked, finds, target, number_of, thread_behind, reaches, cell_behind, place, step_of, able, kind_of, owner, byte_for, step, enabled, TSO, Kind, access, move}
use Rattle.spec_tso.specs.Graph.{graph_of, Full, graph}
use Rattle.spec_tso.proofs.Steps.{access_able, step_for, enabled_for}
use Rattle.spec_tso.proofs.Swap.{both, step_of_as}
use Rattle.spec_sc.proofs.Exchange.{map_set}
use Rattle.spec_tso.proofs.Seen.{drained_thread, drained_cell, drained_graph}

-- what an access does: as under SC, beside what it leaves in the queue
idle_behind : (t : ℕ) (h : SC.Thread) (c : Cell) → thread_behind access t (idle h) c ≡
    (let x : Thread = record { local = (SC.advanced h c).local; history = (SC.advanced h c).history; queue = queued (locked h.local) h.history.done (place_of h.local) (puts h.local c.value) } in x)
unfolding thread_behind SC.advanced finds newest found_in idle latest queued
idle_behind t h c = refl

idle_cell : (t : ℕ) (h : SC.Thread) (c : Cell) → cell_behind access t (idle h) c ≡ written (t, h.history.done) (at_once (locked h.local) (puts h.local c.value)) c
unfolding cell_behind reaches number_of finds newest found_in idle
idle_cell t h c = refl

idle_free : (b : Bool) → free b [] ≡ true
unfolding free is_empty
idle_free true = refl
idle_free false = refl

-- a load or a locked access, or a store and its move
data Way (b : Bool) (o : Option ℕ) : Type 0 where
  direct : ((i l : ℕ) → queued b i l o ≡ []) → at_once b o ≡ o → Way b o
  stored : (v : ℕ) → b ≡ false → o ≡ some v → Way b o

way_of : (b : Bool) (o : Option ℕ) → Way b o
unfolding queued at_once
way_of true none = direct (λ i l. refl) refl
way_of true (some v) = direct (λ i l. refl) refl
way_of false none = direct (λ i l. refl) refl
way_of false (some v) = stored v refl refl

module _ (σ : SC.State) (reg : Regular σ) (t : ℕ) (m : SC.enabled σ t ≡ true) where
  abbrev h : SC.Thread
  h = SC.thread_of σ t

  abbrev l : ℕ
  l = SC.place σ t

  abbrev c : Cell
  c = SC.cell_of σ l

  abbrev δ : State
  δ = drained σ

  low : t < 6
  low = SCSteps.enabled_small σ t m

  allowed : enabled δ (byte_for access t) ≡ true
  unfolding idle drained
  allowed = enabled_for δ access t low ∙ ap (λ (x : Thread). able access x (length δ.cells)) (drained_thread σ t) ∙ access_able (idle h) (length δ.cells) (SCSteps.enabled_pending σ t m) (idle_free (locked h.local))

  place_idle : place δ access t ≡ l
  unfolding place SC.place target idle
  place_idle = ap (λ (x : Thread). place_of x.local) (drained_thread σ t)

  behind_access : step_of δ access t ≡ both (set (map idle σ.threads) t (thread_behind access t (idle h) c)) (set σ.cells l (cell_behind access t (idle h) c))
  unfolding drained
  behind_access = step_of_as δ access t (idle h) l c (drained_thread σ t) place_idle (drained_cell σ l)

  -- without a queue: one step
  one_step : queued (locked h.local) h.history.done (place_of h.local) (puts h.local c.value) ≡ [] → at_once (locked h.local) (puts h.local c.value) ≡ puts h.local c.value →
      step_of δ access t ≡ drained (SC.step σ t)
  unfolding SC.step SC.met drained idle
  one_step w o = behind_access ∙ ap₂ both
      (ap (set (map idle σ.threads) t) (idle_behind t h c ∙ ap (λ (q : List Entry). let x : Thread = record { local = (SC.advanced h c).local; history = (SC.advanced h c).history; queue = q } in x) w) ∙ map_set idle σ.threads t (SC.advanced h c))
      (ap (set σ.cells l) (idle_cell t h c ∙ ap (λ (x : Option ℕ). written (t, h.history.done) x c) o))

  -- with one: the store, then its move
  module _ (v : ℕ) (nl : locked h.local ≡ false) (o : puts h.local c.value ≡ some v) where
    abbrev entry : Entry
    entry = record { number = h.history.done; location = place_of h.local; value = v }

    abbrev X : Thread
    X = record { local = (SC.advanced h c).local; history = (SC.advanced h c).history; queue = entry ∷ [] }

    abbrev S : State
    S = both (set (map idle σ.threads) t X) σ.cells

    stored_thread : thread_behind access t (idle h) c ≡ X
    unfolding queued
    stored_thread = idle_behind t h c ∙ rw (nl, o)

    stored_cell : cell_behind access t (idle h) c ≡ c
    unfolding at_once written
    stored_cell = idle_cell t h c ∙ rw nl

    first_step : step_of δ access t ≡ S
    unfolding SC.cell_of
    first_step = behind_access ∙ ap₂ both (ap (set (map idle σ.threads) t) stored_thread) (ap (set σ.cells l) stored_cell ∙ set-get_or σ.cells l (SC.fresh_cell 0))

    thread_s : thread_of S t ≡ X
    unfolding thread_of
    thread_s = let r = SCSteps.enabled_range σ t m in let s = length-map σ.threads idle in get_or-set_same (map idle σ.threads) t X _ (omega arith)

    place_s : place S move t ≡ l
    unfolding place SC.place target oldest_place
    place_s = ap (λ (x : Thread). oldest_place x.queue) thread_s

    moved_thread_lem : thread_behind move t X c ≡ idle (SC.advanced h c)
    unfolding thread_behind newer idle
    moved_thread_lem = refl

    moved_cell : cell_behind move t X c ≡ SC.met t h c
    unfolding cell_behind number_of oldest_number reaches oldest_value SC.met
    moved_cell = rw o

    second_step : step_of S move t ≡ drained (SC.step σ t)
    unfolding SC.step cell_of drained
    second_step =
        step_of_as S move t X l c thread_s place_s (drained_cell σ l)
        ∙ ap₂ both (set-set (map idle σ.threads) t X (thread_behind move t X c) ∙ ap (set (map idle σ.threads) t) moved_thread_lem ∙ map_set idle σ.threads t (SC.advanced h c)) (ap (set σ.cells l) moved_cell)

    can_move : able move X (length σ.cells) ≡ true
    unfolding able movable SC.place
    can_move = lt-ltb (place_of h.local) (length σ.cells) in_range_lem
      where
        in_range_lem : place_of h.local < length σ.cells
        in_range_lem = place_in σ reg t

  -- ONE BLOCK: one SC step is one step here, or two
  block : (z : Schedule) × Allowed TSO δ z × (run TSO δ z ≡ drained (SC.step σ t))
  unfolding run
  block = go (way_of (locked h.local) (puts h.local c.value))
    where
      small : t < 16
      small = omega (arith, low)

      go : Way (locked h.local) (puts h.local c.value) → (z : Schedule) × Allowed TSO δ z × (run TSO δ z ≡ drained (SC.step σ t))
      go (direct w o) = (byte_for access t ∷ [], (allowed, tt), step_for δ access t small ∙ one_step (w h.history.done (place_of h.local)) o)
      go (stored v nl o) =
          let one : step δ (byte_for access t) ≡ S v nl o = step_for δ access t small ∙ first_step v nl o in (
            byte_for access t ∷ byte_for move t ∷ [],
            (allowed, (subst (λ (τ : State). enabled τ (byte_for move t) ≡ true) (sym one) (enabled_for (S v nl o) move t low ∙ ap (λ (x : Thread). able move x (length σ.cells)) (thread_s v nl o) ∙ can_move v nl o), tt)),
            ap (λ (τ : State). step τ (byte_for move t)) one ∙ step_for (S v nl o) move t small ∙ second_step v nl o,
          )

-- a thread that has ended does no access, and with nothing pending no move
not_able : (h : SC.Thread) (n : ℕ) → pending h.local ≡ false → able access (idle h) n ≡ false
unfolding able idle
not_able h n e = ap (λ (x : Bool). x && free (locked h.local) []) e

nothing_moves : (h : SC.Thread) (n : ℕ) → able move (idle h) n ≡ false
unfolding able movable idle
nothing_moves h n = refl

not_pending : (σ : SC.State) (t : ℕ) → t < 6 → SC.enabled σ t ≡ false → pending (SC.thread_of σ t).local ≡ false
unfolding SC.enabled
not_pending σ t h e = let k = lt-ltb t 6 h in rw (k, SC.enabled) at e

-- where all threads have ended and nothing is pending, nothing may step
drained_ended : (σ : SC.State) → ended SC σ ≡ true → ended TSO (drained σ) ≡ true
unfolding enabled drained
drained_ended σ e = ended_of TSO (drained σ) (λ b. go b (dec_lt (owner b) 6) (kind_of b) refl)
  where
    none_able : (k : Kind) (t : ℕ) → t < 6 → able k (thread_of (drained σ) t) (length σ.cells) ≡ false
    none_able k t h = ap (λ (x : Thread). able k x (length σ.cells)) (drained_thread σ t) ∙ at k
      where
        at : (k : Kind) → able k (idle (SC.thread_of σ t)) (length σ.cells) ≡ false
        at access = not_able (SC.thread_of σ t) (length σ.cells) (not_pending σ t h (ended_none SC SCLawful.lawful σ t e))
        at move = nothing_moves (SC.thread_of σ t) (length σ.cells)

    go : (b : ℕ) → Dec (owner b < 6) → (k : Kind) → kind_of b ≡ k → enabled (drained σ) b ≡ false
    go b (no h) k q = ap (λ (x : Bool). x && able (kind_of b) (thread_of (drained σ) (owner b)) (length σ.cells)) (le-ltb (owner b) 6 (omega arith))
    go b (yes h) k q = ap₂ (λ (x y : Bool). x && y) (lt-ltb (owner b) 6 h) (none_able (kind_of b) (owner b) h)

-- whole schedules
pub replayed : (s : Schedule) (σ : SC.State) → Regular σ → FullFrom SC σ s → (z : Schedule) × FullFrom TSO (drained σ) z × (run TSO (drained σ) z ≡ drained (run SC σ s))
unfolding run
replayed [] σ r f = ([], drained_ended σ f, refl)
replayed (t ∷ s) σ r f =
    let b = block σ r t f.0 in
    let w = replayed s (SC.step σ t) (regular_step σ t r f.0) f.1 in (
      b.0 ++ w.0,
      full_join TSO (drained σ) b.0 w.0 b.1 (subst (λ (τ : State). FullFrom TSO τ w.0) (sym b.2) w.1),
      run_append TSO (drained σ) b.0 w.0 ∙ ap (λ (τ : State). run TSO τ w.0) b.2 ∙ w.2,
    )

-- EVERY SC GRAPH IS A GRAPH HERE
pub sc_graph : (p : Program) → WellFormed p → (s : Schedule) → SCGraph.Full p s → (z : Schedule) × Full p z × (graph p z ≡ SCGraph.graph p s)
unfolding start
sc_graph p w s f =
    let r = replayed s (SC.start p) (regular_start p w) f in
    (r.0, r.1, ap graph_of r.2 ∙ drained_graph (run SC (SC.start p) s))
