-- The notes of a run under total store order say its graph: what a step adds to the reads of a thread and to the writes of a location is what
-- its note states.
use Prim.Native.Nat.{ℕ, ◌<◌}
use native.Mathlib.Omega.{arith}
use native.Mathlib.Decide.{ℕ_discrete}
use mathlib.Core.Path.{◌≡◌, refl, sym, ap, ◌∙◌}
use mathlib.Core.Logic.{◌≢◌}
use mathlib.Core.Bool.{Bool, true, false, cond, ◌||◌}
use mathlib.Core.Option.{Option, none, some}
use mathlib.Core.List.{List, [], ◌∷◌, ◌++◌, append-nil, append_assoc, reverse, flat_map}
use borrow.Author.Tests.{eq-eqb, ne_eqb}
use lib.Dec.{eqb}
use lib.ListN.{length}
use Rattle.spec_file.specs.Program.{Program}
use Rattle.spec_file.specs.WellFormed.{WellFormed}
use Rattle.spec_schedules.specs.Order.{Schedule}
use Rattle.spec_schedules.specs.System.{run, Allowed}
use Rattle.spec_sc.specs.Local.{takes}
use Rattle.spec_sc.specs.State as SC
use Rattle.spec_sc.specs.State.{Event, Cell}
use Rattle.spec_sc.specs.Actions.{given}
use Rattle.spec_sc.specs.Text.{frames, text_of, graph_text}
use Rattle.spec_sc.proofs.Change.{noted_reads}
use Rattle.spec_sc.proofs.Start as SCStart
use Rattle.graph_writer.specs.Notes.{Note}
use Rattle.graph_writer.specs.NoteText.{read_in, write_in, reads_in, writes_in, note_frames}
use Rattle.graph_writer.proofs.Collected.{collected_append}
use Rattle.graph_writer.proofs.NoteGraph.{read_other, read_not, reversed_read, latest_first, first_to_last, state_frames}
use Rattle.spec_tso.specs.State.{Thread, State, Kind, access, move, thread_of, cell_of, unqueued, without_queues, idle, finds, number_of, thread_behind, place, step_of, able, kind_of, owner, step, enabled, TSO, start}
use Rattle.spec_tso.specs.Actions.{action, action_of, reading}
use Rattle.spec_tso.specs.Graph.{graph_of, end_of, graph}
use Rattle.spec_tso.proofs.Steps.{enabled_able, able_range, cell_other, putting, still_cell}
use Rattle.spec_tso.proofs.Change.{thread_cases, wrote_own}
use Rattle.spec_tso.proofs.Regular.{Regular, place_in, regular_step, regular_run, regular_start}
use Rattle.spec_tso.proofs.Seen.{seen_thread, seen_cell, drained_thread, drained_cell}
use Rattle.tso_machine.specs.Steps.{source_of}
use Rattle.tso_machine.proofs.HeldCore.{seen_threads, seen_cells}
use Rattle.tso_replay.specs.Noted.{note_of, noted, notes}

-- ---- the notes of a run that goes on
notes_join : (σ : State) (u s : Schedule) → notes σ (u ++ s) ≡ notes σ u ++ notes (run TSO σ u) s
unfolding notes run
notes_join σ [] s = refl
notes_join σ (b ∷ u) s = ap (λ (ns : List Note). noted σ b ++ ns) (notes_join (step σ b) u s) ∙ sym (append_assoc (noted σ b) (notes (step σ b) u) (notes (run TSO (step σ b) u) s))

pub notes_snoc : (σ : State) (u : Schedule) (b : ℕ) → notes σ (u ++ (b ∷ [])) ≡ notes σ u ++ noted (run TSO σ u) b
unfolding notes
notes_snoc σ u b = notes_join σ u (b ∷ []) ∙ ap (λ (ns : List Note). notes σ u ++ ns) (append-nil (noted (run TSO σ u) b))

-- ---- a step without a note states nothing
write_not : (l : ℕ) (n : Note) → n.wrote ≡ false → write_in l n ≡ []
unfolding write_in
write_not l n e = rw e (go (eqb n.location l))
  where
    go : (b : Bool) → cond {A = List Event} b [] [] ≡ []
    go true = refl
    go false = refl

stated : {B : Type 0} (f : Note → List B) (n : Note) (a b : Bool) → (a ≡ false → b ≡ false → f n ≡ []) → flat_map f (cond (a || b) (n ∷ []) []) ≡ f n
unfolding flat_map
stated f n true b h = append-nil (f n)
stated f n false true h = append-nil (f n)
stated f n false false h = sym (h refl refl)

reads_noted : (σ : State) (b u : ℕ) → reads_in u (noted σ b) ≡ read_in u (note_of σ b)
unfolding reads_in noted note_of
reads_noted σ b u = stated (read_in u) (note_of σ b) (action σ b).reads (action σ b).puts (λ e q. read_not u (note_of σ b) e)

writes_noted : (σ : State) (b l : ℕ) → writes_in l (noted σ b) ≡ write_in l (note_of σ b)
unfolding writes_in noted note_of
writes_noted σ b l = stated (write_in l) (note_of σ b) (action σ b).reads (action σ b).puts (λ e q. write_not l (note_of σ b) q)

-- ---- a step of kind k of thread t
module _ (σ : State) (k : Kind) (t : ℕ) where
  abbrev stating : Note
  stating = record {
    thread = t;
    number = number_of k (thread_of σ t);
    location = place σ k t;
    reads = reading k (thread_of σ t);
    source = source_of k t (thread_of σ t) (cell_of σ (place σ k t));
    wrote = given (putting σ k t);
  }

own_read : (σ : State) (t : ℕ) → read_in t (stating σ access t)
    ≡ cond (takes (thread_of σ t).local) (((thread_of σ t).history.done, (finds t (thread_of σ t) (cell_of σ (place σ access t))).source) ∷ []) []
unfolding read_in source_of reading number_of
own_read σ t = let z = eq-eqb t t refl in rw z

own_reads : (σ : State) (k : Kind) (t : ℕ) → (thread_behind k t (thread_of σ t) (cell_of σ (place σ k t))).history.reads ≡ reverse (read_in t (stating σ k t)) ++ (thread_of σ t).history.reads
unfolding read_in thread_behind reading
own_reads σ access t =
    noted_reads (takes (thread_of σ t).local) (finds t (thread_of σ t) (cell_of σ (place σ access t))).source (thread_of σ t).history
    ∙ ap (λ (l : List (ℕ × Event)). l ++ (thread_of σ t).history.reads)
    (reversed_read (takes (thread_of σ t).local) (thread_of σ t).history.done (finds t (thread_of σ t) (cell_of σ (place σ access t))).source
    ∙ ap reverse (sym (own_read σ t)))
own_reads σ move t = let z = eq-eqb t t refl in rw z

step_reads : (σ : State) (k : Kind) (t : ℕ) → able k (thread_of σ t) (length σ.cells) ≡ true → (u : ℕ)
    → (thread_of (step_of σ k t) u).history.reads ≡ reverse (read_in u (stating σ k t)) ++ (thread_of σ u).history.reads
step_reads σ k t m u = thread_cases (λ v h. h.history.reads ≡ reverse (read_in v (stating σ k t)) ++ (thread_of σ v).history.reads) σ k t (able_range σ k t (length σ.cells) m)
    (own_reads σ k t) u (λ ne. ap (λ (l : List (ℕ × Event)). reverse l ++ (thread_of σ u).history.reads) (sym (read_other u (stating σ k t) (λ e. ne (sym e)))))

here_writes : (σ : State) (k : Kind) (t l : ℕ) (o : Option ℕ) → putting σ k t ≡ o → l ≡ place σ k t → write_in l (stating σ k t) ≡ cond (given o) ((t, number_of k (thread_of σ t)) ∷ []) []
unfolding write_in
here_writes σ k t l o e q = let z = eq-eqb (place σ k t) l (sym q) in rw (z, e)

away_writes : (σ : State) (k : Kind) (t l : ℕ) → l ≢ place σ k t → write_in l (stating σ k t) ≡ []
unfolding write_in
away_writes σ k t l ne = let z = ne_eqb (place σ k t) l (λ e. ne (sym e)) in rw z

step_writes : (σ : State) (k : Kind) (t : ℕ) → place σ k t < length σ.cells → (l : ℕ) → (cell_of (step_of σ k t) l).writes ≡ reverse (write_in l (stating σ k t)) ++ (cell_of σ l).writes
unfolding given
step_writes σ k t h l = go (ℕ_discrete l (place σ k t)) (putting σ k t) refl
  where
    ending : (w : List Event) → write_in l (stating σ k t) ≡ w → reverse w ++ (cell_of σ l).writes ≡ reverse (write_in l (stating σ k t)) ++ (cell_of σ l).writes
    ending w e = ap (λ (v : List Event). reverse v ++ (cell_of σ l).writes) (sym e)

    go : Dec (l ≡ place σ k t) → (o : Option ℕ) → putting σ k t ≡ o → (cell_of (step_of σ k t) l).writes ≡ reverse (write_in l (stating σ k t)) ++ (cell_of σ l).writes
    go (no q) o e = ap (λ (c : Cell). c.writes) (cell_other σ k t l q) ∙ ending [] (away_writes σ k t l q)
    go (yes q) none e = ap (λ (c : Cell). c.writes) (still_cell σ k t l e) ∙ ending [] (here_writes σ k t l none e q)
    go (yes q) (some v) e = (wrote_own σ k t l v h q e).0 ∙ ending ((t, number_of k (thread_of σ t)) ∷ []) (here_writes σ k t l (some v) e q)

-- ---- by the byte
byte_reads : (σ : State) (b : ℕ) → enabled σ b ≡ true → (u : ℕ) → (thread_of (step σ b) u).history.reads ≡ reverse (read_in u (note_of σ b)) ++ (thread_of σ u).history.reads
unfolding step note_of action action_of place
byte_reads σ b m u = step_reads σ (kind_of b) (owner b) (enabled_able σ b m) u

byte_writes : (σ : State) → Regular σ → (b : ℕ) → enabled σ b ≡ true → (l : ℕ) → (cell_of (step σ b) l).writes ≡ reverse (write_in l (note_of σ b)) ++ (cell_of σ l).writes
unfolding step note_of action action_of place
byte_writes σ r b m l = step_writes σ (kind_of b) (owner b) (place_in σ r (kind_of b) (owner b) (enabled_able σ b m)) l

-- ---- a run
run_reads : (s : Schedule) (σ : State) → Allowed TSO σ s → (u : ℕ) → (thread_of (run TSO σ s) u).history.reads ≡ reverse (reads_in u (notes σ s)) ++ (thread_of σ u).history.reads
unfolding run notes reads_in flat_map
run_reads [] σ a u = refl
run_reads (b ∷ s) σ a u =
    latest_first (read_in u (note_of σ b)) (reads_in u (notes (step σ b) s)) _ (thread_of (step σ b) u).history.reads (thread_of σ u).history.reads (run_reads s (step σ b) a.1 u) (byte_reads σ b a.0 u)
    ∙ ap (λ (l : List (ℕ × Event)). reverse l ++ (thread_of σ u).history.reads)
    (sym (collected_append (read_in u) (noted σ b) (notes (step σ b) s) ∙ ap (λ (l : List (ℕ × Event)). l ++ reads_in u (notes (step σ b) s)) (reads_noted σ b u)))

run_writes : (s : Schedule) (σ : State) → Regular σ → Allowed TSO σ s → (l : ℕ) → (cell_of (run TSO σ s) l).writes ≡ reverse (writes_in l (notes σ s)) ++ (cell_of σ l).writes
unfolding run notes writes_in flat_map
run_writes [] σ r a l = refl
run_writes (b ∷ s) σ r a l =
    latest_first (write_in l (note_of σ b)) (writes_in l (notes (step σ b) s)) _ (cell_of (step σ b) l).writes (cell_of σ l).writes
    (run_writes s (step σ b) (regular_step σ b r a.0) a.1 l) (byte_writes σ r b a.0 l)
    ∙ ap (λ (es : List Event). reverse es ++ (cell_of σ l).writes)
    (sym (collected_append (write_in l) (noted σ b) (notes (step σ b) s) ∙ ap (λ (es : List Event). es ++ writes_in l (notes (step σ b) s)) (writes_noted σ b l)))

-- ---- from the start
start_reads : (p : Program) (u : ℕ) → (thread_of (start p) u).history.reads ≡ []
unfolding start idle
start_reads p u = ap (λ (h : Thread). h.history.reads) (drained_thread (SC.start p) u) ∙ (SCStart.start_history p u).1

start_orders : (p : Program) (l : ℕ) → (cell_of (start p) l).writes ≡ []
unfolding start
start_orders p l = ap (λ (c : Cell). c.writes) (drained_cell (SC.start p) l) ∙ SCStart.start_writes p l

module _ (p : Program) (w : WellFormed p) (s : Schedule) (a : Allowed TSO (start p) s) where
  pub seen_reads : (u : ℕ) → reverse (SC.thread_of (without_queues (end_of p s)) u).history.reads ≡ reads_in u (notes (start p) s)
  unfolding unqueued
  seen_reads u =
      ap (λ (h : SC.Thread). reverse h.history.reads) (seen_thread (end_of p s) u)
      ∙ first_to_last _ (thread_of (start p) u).history.reads (thread_of (end_of p s) u).history.reads (run_reads s (start p) a u) (start_reads p u)

  pub seen_orders : (l : ℕ) → reverse (SC.cell_of (without_queues (end_of p s)) l).writes ≡ writes_in l (notes (start p) s)
  seen_orders l =
      ap (λ (c : Cell). reverse c.writes) (seen_cell (end_of p s) l)
      ∙ first_to_last _ (cell_of (start p) l).writes (cell_of (end_of p s) l).writes (run_writes s (start p) (regular_start p w) a l) (start_orders p l)

  -- THE GRAPH OF A RUN HAS THE FRAMES OF ITS NOTES
  pub graph_frames : frames (graph p s) ≡ note_frames (notes (start p) s)
  unfolding graph_of
  graph_frames =
      let r = regular_run s (start p) (regular_start p w) a in
      state_frames (without_queues (end_of p s)) (notes (start p) s) (omega (arith, seen_threads (end_of p s), r.six)) (seen_cells (end_of p s) ∙ r.eight) seen_reads seen_orders

  pub graph_text_notes : graph_text (graph p s) ≡ text_of (note_frames (notes (start p) s))
  unfolding graph_text
  graph_text_notes = ap text_of graph_frames
