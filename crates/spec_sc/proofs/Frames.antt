-- The frames of a graph say all of it: from them the reads of each thread and the writes of each location are read back.
use Prim.Native.Nat.{ℕ, zero, suc, ◌+◌, ◌*◌, ◌<◌}
use mathlib.Core.Path.{◌≡◌, refl, sym, ap, ap₂, ◌∙◌}
use mathlib.Core.Logic.{◌≢◌}
use mathlib.Core.Bool.{true, false}
use mathlib.Core.List.{List, [], ◌∷◌, ◌++◌, append-nil, append_assoc, map, reverse, reverse-reverse}
use native.Mathlib.Omega.{arith}
use borrow.Author.Tests.{eq-eqb, ne_eqb}
use lib.Dec.{eqb}
use lib.ListN.{length, get_or, drop}
use lib.Seq.{ext_get_or}
use Rattle.spec_sc.specs.State.{Event}
use Rattle.spec_sc.specs.Graph.{Graph}
use Rattle.spec_sc.specs.Text.{read_frame, read_frames, event_bytes, events_in, write_frame, write_frames, frames}

-- what is collected from each frame
collect : {A : Type 0} → (List ℕ → List A) → List (List ℕ) → List A
collect f [] = []
collect f (x ∷ xs) = f x ++ collect f xs

collect_append : {A : Type 0} (f : List ℕ → List A) (xs ys : List (List ℕ)) → collect f (xs ++ ys) ≡ collect f xs ++ collect f ys
unfolding collect
collect_append f [] ys = refl
collect_append {A} f (x ∷ xs) ys = ap (λ (k : List A). f x ++ k) (collect_append f xs ys) ∙ sym (append_assoc (f x) (collect f xs) (collect f ys))

-- the read of thread t that a frame states, if it does
read_in : ℕ → List ℕ → List (ℕ × Event)
read_in t f = elim (eqb (get_or f 0 0) 0x40) [ true ↦ elim (eqb (get_or f 1 0) t) [ true ↦ (get_or f 2 0, (get_or f 3 0, get_or f 4 0)) ∷ [] | false ↦ [] ] | false ↦ [] ]

-- the writes of location l that a frame states, if it does
writes_in : ℕ → List ℕ → List Event
writes_in l f = elim (eqb (get_or f 0 0) 0x41) [ true ↦ elim (eqb (get_or f 1 0) l) [ true ↦ events_in (drop 2 f) | false ↦ [] ] | false ↦ [] ]

-- one thread's frames
row_own : (t u : ℕ) → t ≡ u → (rs : List (ℕ × Event)) → collect (read_in u) (map (read_frame t) rs) ≡ rs
unfolding collect read_in read_frame
row_own t u q [] = refl
row_own t u q (r ∷ rs) = rw (eq-eqb t u q, read_in) (ap (λ (k : List (ℕ × Event)). r ∷ k) (row_own t u q rs))

row_other : (t u : ℕ) → t ≢ u → (rs : List (ℕ × Event)) → collect (read_in u) (map (read_frame t) rs) ≡ []
unfolding collect read_in read_frame
row_other t u ne [] = refl
row_other t u ne (r ∷ rs) = rw (ne_eqb t u ne, read_in) (row_other t u ne rs)

-- all threads' frames
reads_before : (u t : ℕ) → u < t → (rows : List (List (ℕ × Event))) → collect (read_in u) (read_frames t rows) ≡ []
unfolding read_frames collect
reads_before u t h [] = refl
reads_before u t h (rs ∷ rows) =
    collect_append (read_in u) (map (read_frame t) (reverse rs)) (read_frames (suc t) rows)
    ∙ ap₂ (λ (a b : List (ℕ × Event)). a ++ b) (row_other t u (λ e. omega arith) (reverse rs)) (reads_before u (suc t) (omega arith) rows)

reads_back : (rows : List (List (ℕ × Event))) (k t u : ℕ) → u ≡ k + t → collect (read_in u) (read_frames t rows) ≡ reverse (get_or rows k [])
unfolding read_frames collect
reads_back [] k t u e = refl
reads_back (rs ∷ rows) zero t u e =
    collect_append (read_in u) (map (read_frame t) (reverse rs)) (read_frames (suc t) rows)
    ∙ ap₂ (λ (a b : List (ℕ × Event)). a ++ b) (row_own t u (omega arith) (reverse rs)) (reads_before u (suc t) (omega arith) rows)
    ∙ append-nil (reverse rs)
reads_back (rs ∷ rows) (suc k) t u e =
    collect_append (read_in u) (map (read_frame t) (reverse rs)) (read_frames (suc t) rows)
    ∙ ap₂ (λ (a b : List (ℕ × Event)). a ++ b) (row_other t u (λ q. omega arith) (reverse rs)) (reads_back rows k (suc t) u (omega arith))

-- the frames of the other kind say nothing
no_writes : (l t : ℕ) (rs : List (ℕ × Event)) → collect (writes_in l) (map (read_frame t) rs) ≡ []
unfolding collect writes_in read_frame
no_writes l t [] = refl
no_writes l t (r ∷ rs) = no_writes l t rs

reads_no_writes : (l t : ℕ) (rows : List (List (ℕ × Event))) → collect (writes_in l) (read_frames t rows) ≡ []
unfolding read_frames collect
reads_no_writes l t [] = refl
reads_no_writes l t (rs ∷ rows) =
    collect_append (writes_in l) (map (read_frame t) (reverse rs)) (read_frames (suc t) rows)
    ∙ ap₂ (λ (a b : List Event). a ++ b) (no_writes l t (reverse rs)) (reads_no_writes l (suc t) rows)

no_reads : (t l : ℕ) (ws : List Event) → collect (read_in t) (write_frame l ws) ≡ []
unfolding collect read_in write_frame
no_reads t l [] = refl
no_reads t l (e ∷ es) = refl

writes_no_reads : (t l : ℕ) (rows : List (List Event)) → collect (read_in t) (write_frames l rows) ≡ []
unfolding write_frames collect
writes_no_reads t l [] = refl
writes_no_reads t l (ws ∷ rows) =
    collect_append (read_in t) (write_frame l ws) (write_frames (suc l) rows)
    ∙ ap₂ (λ (a b : List (ℕ × Event)). a ++ b) (no_reads t l ws) (writes_no_reads t (suc l) rows)

-- one location's frame
pub events_back : (es : List Event) → events_in (event_bytes es) ≡ es
unfolding events_in event_bytes
events_back [] = refl
events_back (e ∷ es) = ap (λ (k : List Event). e ∷ k) (events_back es)

cell_own : (l k : ℕ) → l ≡ k → (ws : List Event) → collect (writes_in k) (write_frame l ws) ≡ reverse ws
unfolding collect writes_in write_frame
cell_own l k q [] = refl
cell_own l k q (e ∷ es) = rw (eq-eqb l k q, writes_in) (append-nil _ ∙ events_back (reverse (e ∷ es)))

cell_other : (l k : ℕ) → l ≢ k → (ws : List Event) → collect (writes_in k) (write_frame l ws) ≡ []
unfolding collect writes_in write_frame
cell_other l k ne [] = refl
cell_other l k ne (e ∷ es) = rw (ne_eqb l k ne, writes_in)

-- all locations' frames
writes_before : (k l : ℕ) → k < l → (rows : List (List Event)) → collect (writes_in k) (write_frames l rows) ≡ []
unfolding write_frames collect
writes_before k l h [] = refl
writes_before k l h (ws ∷ rows) =
    collect_append (writes_in k) (write_frame l ws) (write_frames (suc l) rows)
    ∙ ap₂ (λ (a b : List Event). a ++ b) (cell_other l k (λ e. omega arith) ws) (writes_before k (suc l) (omega arith) rows)

writes_back : (rows : List (List Event)) (i l k : ℕ) → k ≡ i + l → collect (writes_in k) (write_frames l rows) ≡ reverse (get_or rows i [])
unfolding write_frames collect
writes_back [] i l k e = refl
writes_back (ws ∷ rows) zero l k e =
    collect_append (writes_in k) (write_frame l ws) (write_frames (suc l) rows)
    ∙ ap₂ (λ (a b : List Event). a ++ b) (cell_own l k (omega arith) ws) (writes_before k (suc l) (omega arith) rows)
    ∙ append-nil (reverse ws)
writes_back (ws ∷ rows) (suc i) l k e =
    collect_append (writes_in k) (write_frame l ws) (write_frames (suc l) rows)
    ∙ ap₂ (λ (a b : List Event). a ++ b) (cell_other l k (λ q. omega arith) ws) (writes_back rows i (suc l) k (omega arith))

-- a graph's frames, read back
frames_reads : (g : Graph) (t : ℕ) → collect (read_in t) (frames g) ≡ reverse (get_or g.reads t [])
unfolding frames
frames_reads g t =
    collect_append (read_in t) (read_frames 0 g.reads) (write_frames 0 g.writes)
    ∙ ap₂ (λ (a b : List (ℕ × Event)). a ++ b) (reads_back g.reads t 0 t (omega arith)) (writes_no_reads t 0 g.writes)
    ∙ append-nil (reverse (get_or g.reads t []))

frames_writes : (g : Graph) (l : ℕ) → collect (writes_in l) (frames g) ≡ reverse (get_or g.writes l [])
unfolding frames
frames_writes g l =
    collect_append (writes_in l) (read_frames 0 g.reads) (write_frames 0 g.writes)
    ∙ ap₂ (λ (a b : List Event). a ++ b) (reads_no_writes l 0 g.reads) (writes_back g.writes l 0 l (omega arith))

unreversed : {A : Type 0} (xs ys : List A) → reverse xs ≡ reverse ys → xs ≡ ys
unreversed xs ys e = sym (reverse-reverse xs) ∙ ap reverse e ∙ reverse-reverse ys

-- TWO GRAPHS of as many threads and locations with the same frames are equal
pub frames_injective : (g h : Graph) → length g.reads ≡ length h.reads → length g.writes ≡ length h.writes → frames g ≡ frames h → g ≡ h
frames_injective g h r w e =
    ap₂ (λ (a : List (List (ℕ × Event))) (b : List (List Event)). let k : Graph = record { reads = a; writes = b } in k)
    (ext_get_or [] g.reads h.reads r (λ t i. unreversed (get_or g.reads t []) (get_or h.reads t []) (sym (frames_reads g t) ∙ ap (collect (read_in t)) e ∙ frames_reads h t)))
    (ext_get_or [] g.writes h.writes w (λ l i. unreversed (get_or g.writes l []) (get_or h.writes l []) (sym (frames_writes g l) ∙ ap (collect (writes_in l)) e ∙ frames_writes h l)))

-- two bytes an event
pub bytes_length : (es : List Event) → length (event_bytes es) ≡ 2 * length es
unfolding event_bytes
bytes_length [] = refl
bytes_length (e ∷ es) = omega (arith, bytes_length es)
