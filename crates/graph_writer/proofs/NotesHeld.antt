-- The notes that an array holds, one after the other, and the frames that each adds.
use Prim.Native.Nat.{ℕ, suc, ◌+◌, ◌*◌, ◌<◌}
use native.Mathlib.Omega.{arith}
use mathlib.Core.Path.{◌≡◌, refl, ap, ap₂, ◌∙◌}
use mathlib.Core.Bool.{Bool, true, false, cond}
use mathlib.Core.List.{List, [], ◌∷◌, ◌++◌, append-nil, map, map-append, flat_map}
use lib.Dec.{eqb, lit<}
use lib.ListN.{length, get_or}
use Rattle.spec_schedules.specs.Lists.{range}
use Rattle.spec_sc.specs.State.{Event}
use Rattle.spec_sc.specs.Text.{read_frame}
use Rattle.graph_writer.specs.Notes.{Note, note_bytes, no_note, Noted}
use Rattle.graph_writer.specs.NoteText.{read_in, write_in, reads_in, writes_in, thread_frames, order_frame, read_frames_in, order_frames_in, note_at, notes_at}
use Rattle.graph_writer.proofs.Collected.{collected_append, range_next, collected_next}

-- ---- the notes are those that the array holds
pub flag : (b : Bool) → eqb (cond b 1 0) 1 ≡ b
flag true = refl
flag false = refl

-- the bytes of a note that state a location and a write
pub byte_location : (n : Note) → get_or (note_bytes n) 2 0 ≡ n.location
unfolding note_bytes
byte_location n = refl

pub byte_wrote : (n : Note) → eqb (get_or (note_bytes n) 6 0) 1 ≡ n.wrote
unfolding note_bytes
byte_wrote n = flag n.wrote

-- the parts of the note in place k, byte by byte
module _ (log : List ℕ) (k : ℕ) where
  pub note_thread : (note_at log k).thread ≡ get_or log (k * 8) 0
  unfolding note_at
  note_thread = refl

  pub note_number : (note_at log k).number ≡ get_or log (k * 8 + 1) 0
  unfolding note_at
  note_number = refl

  pub note_location : (note_at log k).location ≡ get_or log (k * 8 + 2) 0
  unfolding note_at
  note_location = refl

  pub note_reads : (note_at log k).reads ≡ eqb (get_or log (k * 8 + 3) 0) 1
  unfolding note_at
  note_reads = refl

  pub note_source : (note_at log k).source ≡ (get_or log (k * 8 + 4) 0, get_or log (k * 8 + 5) 0)
  unfolding note_at
  note_source = refl

  pub note_wrote : (note_at log k).wrote ≡ eqb (get_or log (k * 8 + 6) 0) 1
  unfolding note_at
  note_wrote = refl

note_held : (log : List ℕ) (n : Note) (k : ℕ) → ((j : ℕ) → j < 8 → get_or log (k * 8 + j) 0 ≡ get_or (note_bytes n) j 0) → note_at log k ≡ n
unfolding note_at note_bytes
note_held log n k e =
    let z : k * 8 ≡ k * 8 + 0 = omega arith in
    let first : get_or log (k * 8) 0 ≡ n.thread = ap (λ (i : ℕ). get_or log i 0) z ∙ e 0 (lit< tt) in
    let reads : eqb (get_or log (k * 8 + 3) 0) 1 ≡ n.reads = ap (λ (b : ℕ). eqb b 1) (e 3 (lit< tt)) ∙ flag n.reads in
    let wrote : eqb (get_or log (k * 8 + 6) 0) 1 ≡ n.wrote = ap (λ (b : ℕ). eqb b 1) (e 6 (lit< tt)) ∙ flag n.wrote in
    rw (first, reads, wrote, e 1 (lit< tt), e 2 (lit< tt), e 4 (lit< tt), e 5 (lit< tt))

notes_from : (log : List ℕ) (ns : List Note) (a : ℕ) → ((k u : ℕ) → u ≡ a + k → k < length ns → note_at log u ≡ get_or ns k no_note) → map (note_at log) (range a (length ns)) ≡ ns
unfolding range
notes_from log [] a e = refl
notes_from log (n ∷ ns) a e = ap₂ (λ (x : Note) (y : List Note). x ∷ y) (e 0 a (omega arith) (omega arith)) (notes_from log ns (suc a) (λ k u q h. e (suc k) u (omega arith) (omega arith)))

pub notes_held : (log : List ℕ) (ns : List Note) → Noted log ns → notes_at log (length ns) ≡ ns
unfolding notes_at
notes_held log ns held = notes_from log ns 0 (λ k u q h. let e : u ≡ k = omega arith in ap (note_at log) e ∙ note_held log (get_or ns k no_note) k (λ j i. held.bytes k j h i))

-- ---- the first notes, place by place
pub notes_each : (log : List ℕ) (n : ℕ) → notes_at log n ≡ map (note_at log) (range 0 n)
unfolding notes_at
notes_each log n = refl

pub notes_none : (log : List ℕ) → notes_at log 0 ≡ []
unfolding notes_at range
notes_none log = refl

-- ---- one note more
pub notes_next : (log : List ℕ) (k : ℕ) → notes_at log (k + 1) ≡ notes_at log k ++ (note_at log k ∷ [])
unfolding notes_at
notes_next log k = ap (map (note_at log)) (range_next k) ∙ map-append (note_at log) (range 0 k) (k ∷ [])

reads_next : (log : List ℕ) (t k : ℕ) → reads_in t (notes_at log (k + 1)) ≡ reads_in t (notes_at log k) ++ read_in t (note_at log k)
unfolding reads_in flat_map
reads_next log t k =
    ap (flat_map (read_in t)) (notes_next log k)
    ∙ collected_append (read_in t) (notes_at log k) (note_at log k ∷ [])
    ∙ ap (λ (l : List (ℕ × Event)). reads_in t (notes_at log k) ++ l) (append-nil (read_in t (note_at log k)))

pub thread_next : (log : List ℕ) (t k : ℕ) → thread_frames t (reads_in t (notes_at log (k + 1))) ≡ thread_frames t (reads_in t (notes_at log k)) ++ thread_frames t (read_in t (note_at log k))
unfolding thread_frames
thread_next log t k = ap (map (read_frame t)) (reads_next log t k) ∙ map-append (read_frame t) (reads_in t (notes_at log k)) (read_in t (note_at log k))

pub writes_next : (log : List ℕ) (l k : ℕ) → writes_in l (notes_at log (k + 1)) ≡ writes_in l (notes_at log k) ++ write_in l (note_at log k)
unfolding writes_in flat_map
writes_next log l k =
    ap (flat_map (write_in l)) (notes_next log k)
    ∙ collected_append (write_in l) (notes_at log k) (note_at log k ∷ [])
    ∙ ap (λ (es : List Event). writes_in l (notes_at log k) ++ es) (append-nil (write_in l (note_at log k)))

-- ---- one thread, one location more
pub threads_next : (ns : List Note) (t : ℕ) → read_frames_in (t + 1) ns ≡ read_frames_in t ns ++ thread_frames t (reads_in t ns)
unfolding read_frames_in
threads_next ns t = collected_next (λ u. thread_frames u (reads_in u ns)) t

pub orders_next : (ns : List Note) (l : ℕ) → order_frames_in (l + 1) ns ≡ order_frames_in l ns ++ order_frame l (writes_in l ns)
unfolding order_frames_in
orders_next ns l = collected_next (λ u. order_frame u (writes_in u ns)) l
