-- The notes of a run say its graph: what a run adds to the reads of a thread and to the writes of a location are those that its notes state.
use Prim.Native.Nat.{ℕ, zero, suc, ◌+◌, ◌-◌, ◌<◌, ◌≤◌}
use mathlib.Core.Path.{◌≡◌, refl, sym, ap, ap₂, subst, ◌∙◌}
use mathlib.Core.Logic.{◌≢◌, ⊎_elim}
use mathlib.Core.Bool.{Bool, true, false, cond, true≢false}
use mathlib.Core.Option.{Option, none, some}
use mathlib.Core.List.{List, [], ◌∷◌, ◌++◌, append-nil, append_assoc, map, reverse, reverse-append, reverse-reverse, flat_map, Memᴰ}
use native.Mathlib.Omega.{arith}
use native.Mathlib.Decide.{ℕ_discrete}
use borrow.Author.Tests.{eq-eqb, ne_eqb}
use lib.Dec.{eqb}
use lib.ListN.{length, get_or, length-reverse}
use Rattle.spec_file.specs.Program.{Program}
use Rattle.spec_file.specs.WellFormed.{WellFormed}
use Rattle.spec_schedules.specs.Lists.{range}
use Rattle.spec_schedules.specs.Order.{Schedule}
use Rattle.spec_schedules.specs.System.{run, Allowed}
use Rattle.spec_sc.specs.Local.{takes, puts}
use Rattle.spec_sc.specs.State.{Event, Cell, State, thread_of, cell_of, place, latest, advanced, met, step, enabled, SC, start}
use Rattle.spec_sc.specs.Graph.{graph_of, graph, end_of}
use Rattle.spec_sc.specs.Text.{read_frame, read_frames, event_bytes, write_frame, write_frames, frames, text_of, graph_text}
use Rattle.spec_sc.specs.Actions.{given, writes}
use Rattle.graph_writer.specs.Notes.{Note, note, notes}
use Rattle.graph_writer.specs.NoteText.{read_in, write_in, reads_in, writes_in, thread_frames, order_frame, read_frames_in, order_frames_in, note_frames}
use Rattle.spec_sc.proofs.Steps.{enabled_range, cell_own, cell_other, run_threads, run_cells}
use Rattle.spec_sc.proofs.Change.{thread_cases, added_read, noted_reads, written_none}
use Rattle.spec_sc.proofs.Start.{start_threads, start_cells, start_writes, start_history}
use Rattle.spec_sc.proofs.Regular.{Regular, place_in, regular_step, regular_start}
use Rattle.spec_sc.proofs.Trails.{writes_own}
use Rattle.spec_sc.proofs.Rows.{row_at, order_at, graph_sizes}

-- a note for each step
pub notes_length : (s : Schedule) (σ : State) → length (notes σ s) ≡ length s
unfolding notes
notes_length [] σ = refl
notes_length (t ∷ s) σ = let ih = notes_length s (step σ t) in omega arith

-- the notes of no step, of a first step and those behind it, and of a run that goes on
pub notes_nil : (σ : State) → notes σ [] ≡ []
unfolding notes
notes_nil σ = refl

pub notes_cons : (σ : State) (t : ℕ) (s : Schedule) → notes σ (t ∷ s) ≡ note σ t ∷ notes (step σ t) s
unfolding notes
notes_cons σ t s = refl

pub notes_join : (σ : State) (u s : Schedule) → notes σ (u ++ s) ≡ notes σ u ++ notes (run SC σ u) s
unfolding notes run
notes_join σ [] s = refl
notes_join σ (t ∷ u) s = ap (λ (ns : List Note). note σ t ∷ ns) (notes_join (step σ t) u s)

pub notes_snoc : (σ : State) (u : Schedule) (t : ℕ) → notes σ (u ++ (t ∷ [])) ≡ notes σ u ++ (note (run SC σ u) t ∷ [])
unfolding notes
notes_snoc σ u t = notes_join σ u (t ∷ [])

-- ---- one step: what its note says
pub noted_thread : (σ : State) (t : ℕ) → (note σ t).thread ≡ t
unfolding note
noted_thread σ t = refl

pub noted_location : (σ : State) (t : ℕ) → (note σ t).location ≡ place σ t
unfolding note
noted_location σ t = refl

pub noted_wrote : (σ : State) (t : ℕ) → (note σ t).wrote ≡ writes σ t
unfolding note
noted_wrote σ t = refl

-- the read of t that a note states, and those that a list of notes states
pub read_own : (t : ℕ) (n : Note) → n.thread ≡ t → n.reads ≡ true → read_in t n ≡ (n.number, n.source) ∷ []
unfolding read_in
read_own t n e r = rw (eq-eqb n.thread t e, r)

pub read_other : (t : ℕ) (n : Note) → n.thread ≢ t → read_in t n ≡ []
unfolding read_in
read_other t n ne = rw (ne_eqb n.thread t ne)

pub read_not : (t : ℕ) (n : Note) → n.reads ≡ false → read_in t n ≡ []
unfolding read_in
read_not t n r = rw r (go (eqb n.thread t))
  where
    go : (b : Bool) → cond {A = List (ℕ × Event)} b [] [] ≡ []
    go true = refl
    go false = refl

pub reads_nil : (t : ℕ) → reads_in t [] ≡ []
unfolding reads_in flat_map
reads_nil t = refl

pub reads_cons : (t : ℕ) (n : Note) (ns : List Note) → reads_in t (n ∷ ns) ≡ read_in t n ++ reads_in t ns
unfolding reads_in flat_map
reads_cons t n ns = refl

-- a note that states a write states it of its own location; a write stated of a location is that of one of the notes
write_own : (n : Note) → n.wrote ≡ true → Memᴰ (n.thread, n.number) (write_in n.location n)
unfolding write_in
write_own n e = let q = eq-eqb n.location n.location refl in rw (q, e) (mathlib.Core.List.Memᴰ.head refl)

pub write_stated : (ns : List Note) (n : Note) → Memᴰ n ns → n.wrote ≡ true → Memᴰ (n.thread, n.number) (writes_in n.location ns)
unfolding writes_in flat_map
write_stated [] n m e = absurd (mathlib.Core.List.Memᴰ.not-nil m)
write_stated (x ∷ ns) n m e = ⊎_elim
    (λ (q : n ≡ x). mathlib.Core.List.Memᴰ.append_left (writes_in n.location ns) (subst (λ (k : Note). Memᴰ (n.thread, n.number) (write_in n.location k)) q (write_own n e)))
    (λ (k : Memᴰ n ns). mathlib.Core.List.Memᴰ.append_right (write_in n.location x) (write_stated ns n k e))
    (mathlib.Core.List.Memᴰ.cases_cons m)

write_of : (l : ℕ) (n : Note) (e : Event) → Memᴰ e (write_in l n) → (n.thread ≡ e.0) × (n.wrote ≡ true)
unfolding write_in
write_of l n e m = go (eqb n.location l) n.wrote refl m
  where
    go : (a b : Bool) → n.wrote ≡ b → Memᴰ e (cond a (cond b ((n.thread, n.number) ∷ []) []) []) → (n.thread ≡ e.0) × (n.wrote ≡ true)
    go false b q i = absurd (mathlib.Core.List.Memᴰ.not-nil i)
    go true false q i = absurd (mathlib.Core.List.Memᴰ.not-nil i)
    go true true q i = ⊎_elim (λ (k : e ≡ (n.thread, n.number)). (ap (λ (x : Event). x.0) (sym k), q)) (λ (k : Memᴰ e []). absurd (mathlib.Core.List.Memᴰ.not-nil k)) (mathlib.Core.List.Memᴰ.cases_cons i)

pub stated_write : (l : ℕ) (ns : List Note) (e : Event) → Memᴰ e (writes_in l ns) → (n : Note) × Memᴰ n ns × (n.thread ≡ e.0) × (n.wrote ≡ true)
unfolding writes_in flat_map
stated_write l [] e m = absurd (mathlib.Core.List.Memᴰ.not-nil m)
stated_write l (x ∷ ns) e m = ⊎_elim
    (λ (k : Memᴰ e (write_in l x)). let r = write_of l x e k in (x, mathlib.Core.List.Memᴰ.head refl, r.0, r.1))
    (λ (k : Memᴰ e (writes_in l ns)). let r = stated_write l ns e k in (r.0, mathlib.Core.List.Memᴰ.tail r.1, r.2, r.3))
    (mathlib.Core.List.Memᴰ.append_cases (write_in l x) m)

-- ---- what a step adds
pub reversed_read : (b : Bool) (i : ℕ) (e : Event) → added_read b i e ≡ reverse (cond b ((i, e) ∷ []) [])
unfolding added_read
reversed_read true i e = refl
reversed_read false i e = refl

note_own : (σ : State) (t : ℕ) → read_in t (note σ t) ≡ cond (takes (thread_of σ t).local) (((thread_of σ t).history.done, latest (cell_of σ (place σ t)).writes) ∷ []) []
unfolding read_in note
note_own σ t = rw (eq-eqb t t refl)

note_other : (σ : State) (t u : ℕ) → u ≢ t → read_in u (note σ t) ≡ []
unfolding read_in note
note_other σ t u ne = rw (ne_eqb t u (λ e. ne (sym e)))

-- a step adds the read that its note states
pub step_reads : (σ : State) (t : ℕ) → enabled σ t ≡ true → (u : ℕ) → (thread_of (step σ t) u).history.reads ≡ reverse (read_in u (note σ t)) ++ (thread_of σ u).history.reads
unfolding advanced
step_reads σ t m u = thread_cases (λ k h. h.history.reads ≡ reverse (read_in k (note σ t)) ++ (thread_of σ k).history.reads) σ t (enabled_range σ t m)
    (noted_reads (takes (thread_of σ t).local) (latest (cell_of σ (place σ t)).writes) (thread_of σ t).history
    ∙ ap (λ (l : List (ℕ × Event)). l ++ (thread_of σ t).history.reads)
    (reversed_read (takes (thread_of σ t).local) (thread_of σ t).history.done (latest (cell_of σ (place σ t)).writes) ∙ ap reverse (sym (note_own σ t))))
    u (λ ne. ap (λ (l : List (ℕ × Event)). reverse l ++ (thread_of σ u).history.reads) (sym (note_other σ t u ne)))

note_place : (σ : State) (t l : ℕ) → l ≡ place σ t → (b : Bool) → writes σ t ≡ b → write_in l (note σ t) ≡ cond b ((t, (thread_of σ t).history.done) ∷ []) []
unfolding write_in note
note_place σ t l q b e = rw (eq-eqb (place σ t) l (sym q), e)

note_elsewhere : (σ : State) (t l : ℕ) → l ≢ place σ t → write_in l (note σ t) ≡ []
unfolding write_in note
note_elsewhere σ t l ne = rw (ne_eqb (place σ t) l (λ e. ne (sym e)))

pub given_none : (o : Option ℕ) → given o ≡ false → o ≡ none
unfolding given
given_none none e = refl
given_none (some v) e = absurd (true≢false e)

writes_none : (σ : State) (t : ℕ) → writes σ t ≡ false → puts (thread_of σ t).local (cell_of σ (place σ t)).value ≡ none
unfolding writes
writes_none σ t e = given_none _ e

-- a step adds the write that its note states
pub step_writes : (σ : State) → Regular σ → (t l : ℕ) → (cell_of (step σ t) l).writes ≡ reverse (write_in l (note σ t)) ++ (cell_of σ l).writes
unfolding met
step_writes σ r t l = go (ℕ_discrete l (place σ t)) (writes σ t) refl
  where
    ending : (k : List Event) → write_in l (note σ t) ≡ k → reverse k ++ (cell_of σ l).writes ≡ reverse (write_in l (note σ t)) ++ (cell_of σ l).writes
    ending k e = ap (λ (w : List Event). reverse w ++ (cell_of σ l).writes) (sym e)

    go : Dec (l ≡ place σ t) → (b : Bool) → writes σ t ≡ b → (cell_of (step σ t) l).writes ≡ reverse (write_in l (note σ t)) ++ (cell_of σ l).writes
    go (no q) b e = ap (λ (c : Cell). c.writes) (cell_other σ t l q) ∙ ending [] (note_elsewhere σ t l q)
    go (yes q) true e = writes_own σ r t l q e ∙ ending ((t, (thread_of σ t).history.done) ∷ []) (note_place σ t l q true e)
    go (yes q) false e =
        ap (λ (k : ℕ). (cell_of (step σ t) k).writes) q
        ∙ ap (λ (c : Cell). c.writes) (cell_own σ t (place_in σ r t) ∙ written_none (t, (thread_of σ t).history.done) _ (cell_of σ (place σ t)) (writes_none σ t e))
        ∙ ap (λ (k : ℕ). (cell_of σ k).writes) (sym q)
        ∙ ending [] (note_place σ t l q false e)

-- ---- a run
pub latest_first : {A : Type 0} (x y : List A) (z w v : List A) → z ≡ reverse y ++ w → w ≡ reverse x ++ v → z ≡ reverse (x ++ y) ++ v
latest_first {A} x y z w v e f =
    e ∙ ap (λ (k : List A). reverse y ++ k) f
    ∙ sym (append_assoc (reverse y) (reverse x) v)
    ∙ ap (λ (k : List A). k ++ v) (sym (reverse-append x y))

pub run_reads : (s : Schedule) (σ : State) → Allowed SC σ s → (u : ℕ) → (thread_of (run SC σ s) u).history.reads ≡ reverse (reads_in u (notes σ s)) ++ (thread_of σ u).history.reads
unfolding run notes reads_in flat_map
run_reads [] σ a u = refl
run_reads (t ∷ s) σ a u = latest_first (read_in u (note σ t)) (reads_in u (notes (step σ t) s)) _ (thread_of (step σ t) u).history.reads (thread_of σ u).history.reads
    (run_reads s (step σ t) a.1 u) (step_reads σ t a.0 u)

pub run_writes : (s : Schedule) (σ : State) → Regular σ → Allowed SC σ s → (l : ℕ) → (cell_of (run SC σ s) l).writes ≡ reverse (writes_in l (notes σ s)) ++ (cell_of σ l).writes
unfolding run notes writes_in flat_map
run_writes [] σ r a l = refl
run_writes (t ∷ s) σ r a l = latest_first (write_in l (note σ t)) (writes_in l (notes (step σ t) s)) _ (cell_of (step σ t) l).writes (cell_of σ l).writes
    (run_writes s (step σ t) (regular_step σ t r a.0) a.1 l) (step_writes σ r t l)

-- ---- from the start
pub first_to_last : {A : Type 0} (x y z : List A) → z ≡ reverse x ++ y → y ≡ [] → reverse z ≡ x
first_to_last {A} x y z e f = ap reverse (e ∙ ap (λ (k : List A). reverse x ++ k) f ∙ append-nil (reverse x)) ∙ reverse-reverse x

pub thread_notes : (p : Program) (s : Schedule) → Allowed SC (start p) s → (u : ℕ) → reverse (thread_of (end_of p s) u).history.reads ≡ reads_in u (notes (start p) s)
thread_notes p s a u = first_to_last _ (thread_of (start p) u).history.reads (thread_of (end_of p s) u).history.reads (run_reads s (start p) a u) (start_history p u).1

pub cell_notes : (p : Program) → WellFormed p → (s : Schedule) → Allowed SC (start p) s → (l : ℕ) → reverse (cell_of (end_of p s) l).writes ≡ writes_in l (notes (start p) s)
cell_notes p w s a l = first_to_last _ (cell_of (start p) l).writes (cell_of (end_of p s) l).writes (run_writes s (start p) (regular_start p w) a l) (start_writes p l)

-- ---- the frames: row by row and list by list; a thread that does not exist has none
module _ (R : ℕ → List (ℕ × Event)) where
  no_rows : (n t : ℕ) → ((u : ℕ) → t ≤ u → R u ≡ []) → flat_map (λ u. thread_frames u (R u)) (range t n) ≡ []
  unfolding flat_map range thread_frames
  no_rows zero t e = refl
  no_rows (suc n) t e = rw (e t (omega arith)) (no_rows n (suc t) (λ u h. e u (omega arith)))

  rows_frames : (rows : List (List (ℕ × Event))) (n t : ℕ) → length rows ≤ n → ((k u : ℕ) → u ≡ t + k → reverse (get_or rows k []) ≡ R u) → read_frames t rows ≡ flat_map (λ u. thread_frames u (R u)) (range t n)
  unfolding read_frames flat_map range thread_frames
  rows_frames [] n t h e = sym (no_rows n t (λ u k. sym (e (u - t) u (omega arith))))
  rows_frames (rs ∷ rows) zero t h e = absurd (omega arith)
  rows_frames (rs ∷ rows) (suc n) t h e = ap₂ (λ (a b : List (List ℕ)). a ++ b) (ap (map (read_frame t)) (e 0 t (omega arith)))
      (rows_frames rows n (suc t) (omega arith) (λ k u q. e (suc k) u (omega arith)))

pub order_some : (l : ℕ) (es : List Event) → 0 < length es → order_frame l es ≡ (0x41 ∷ l ∷ event_bytes es) ∷ []
unfolding order_frame
order_some l [] h = absurd (omega arith)
order_some l (e ∷ es) h = refl

cell_frame : (l : ℕ) (ws : List Event) → write_frame l ws ≡ order_frame l (reverse ws)
unfolding write_frame order_frame
cell_frame l [] = refl
cell_frame l (e ∷ es) = sym (order_some l (reverse (e ∷ es)) (omega (arith, length-reverse (e ∷ es))))

cells_frames : (W : ℕ → List Event) (rows : List (List Event)) (n l : ℕ) → length rows ≡ n → ((k u : ℕ) → u ≡ l + k → reverse (get_or rows k []) ≡ W u) → write_frames l rows ≡ flat_map (λ u. order_frame u (W u)) (range l n)
unfolding write_frames flat_map range
cells_frames W [] zero l h e = refl
cells_frames W [] (suc n) l h e = absurd (omega arith)
cells_frames W (ws ∷ rows) zero l h e = absurd (omega arith)
cells_frames W (ws ∷ rows) (suc n) l h e = ap₂ (λ (a b : List (List ℕ)). a ++ b) (cell_frame l ws ∙ ap (order_frame l) (e 0 l (omega arith)))
    (cells_frames W rows n (suc l) (omega arith) (λ k u q. e (suc k) u (omega arith)))

-- the graph that led to a state has the frames of notes that state its reads and its writes
pub state_frames : (σ : State) (ns : List Note) → length σ.threads ≤ 6 → length σ.cells ≡ 8 → ((u : ℕ) → reverse (thread_of σ u).history.reads ≡ reads_in u ns)
    → ((l : ℕ) → reverse (cell_of σ l).writes ≡ writes_in l ns) → frames (graph_of σ) ≡ note_frames ns
unfolding frames note_frames read_frames_in order_frames_in
state_frames σ ns six eight reads orders =
    let g = graph_sizes σ in
    let z : (k u : ℕ) → u ≡ 0 + k → k ≡ u = λ k u e. omega arith in
    ap₂ (λ (x y : List (List ℕ)). x ++ y)
    (rows_frames (λ u. reads_in u ns) (graph_of σ).reads 6 0 (omega (arith, g.0)) (λ k u e. ap reverse (row_at σ k) ∙ reads k ∙ ap (λ (j : ℕ). reads_in j ns) (z k u e)))
    (cells_frames (λ l. writes_in l ns) (graph_of σ).writes 8 0 (g.1 ∙ eight) (λ k u e. ap reverse (order_at σ k) ∙ orders k ∙ ap (λ (j : ℕ). writes_in j ns) (z k u e)))

-- THE GRAPH OF A RUN HAS THE FRAMES OF ITS NOTES
pub graph_frames : (p : Program) → WellFormed p → (s : Schedule) → Allowed SC (start p) s → frames (graph p s) ≡ note_frames (notes (start p) s)
graph_frames p w s a =
    state_frames (end_of p s) (notes (start p) s) (omega (arith, run_threads s (start p), start_threads p, w.six)) (run_cells s (start p) ∙ start_cells p w) (thread_notes p s a) (cell_notes p w s a)

pub graph_text_notes : (p : Program) → WellFormed p → (s : Schedule) → Allowed SC (start p) s → graph_text (graph p s) ≡ text_of (note_frames (notes (start p) s))
unfolding graph_text
graph_text_notes p w s a = ap text_of (graph_frames p w s a)
