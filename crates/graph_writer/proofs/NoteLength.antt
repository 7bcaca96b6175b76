-- No text of 24 notes is longer than 400 bytes: each note states at most one read and one write. Eleven bytes a read, four a write, and five
-- for each of the eight locations.
use Prim.Native.Nat.{ℕ, zero, suc, ◌+◌, ◌*◌, ◌<◌, ◌≤◌}
use native.Mathlib.Omega.{arith}
use native.Mathlib.Decide.{ℕ_discrete}
use mathlib.Core.Path.{◌≡◌, refl}
use mathlib.Core.Bool.{Bool, true, false, cond}
use mathlib.Core.List.{List, [], ◌∷◌, ◌++◌, map, flat_map}
use borrow.Author.Tests.{eq-eqb, ne_eqb}
use lib.Dec.{eqb}
use lib.ListN.{length, length-append}
use Rattle.spec_file.specs.Text.{text}
use Rattle.spec_file.proofs.Text.{length_text}
use Rattle.spec_schedules.specs.Lists.{range}
use Rattle.spec_sc.specs.State.{Event}
use Rattle.spec_sc.specs.Text.{read_frame, event_bytes, text_of}
use Rattle.spec_sc.proofs.Frames.{bytes_length}
use Rattle.graph_writer.specs.Notes.{Note}
use Rattle.graph_writer.specs.NoteText.{read_in, write_in, reads_in, writes_in, thread_frames, order_frame, read_frames_in, order_frames_in, note_frames}

-- ---- how many are collected
both_collected : {A B : Type 0} (f g : A → List B) (xs : List A) → length (flat_map (λ x. f x ++ g x) xs) ≡ length (flat_map f xs) + length (flat_map g xs)
unfolding flat_map
both_collected f g [] = omega arith
both_collected f g (x ∷ xs) =
    omega (arith, both_collected f g xs, length-append (f x ++ g x) (flat_map (λ y. f y ++ g y) xs), length-append (f x) (g x), length-append (f x) (flat_map f xs), length-append (g x) (flat_map g xs))

-- of the numbers from a on, only x gives something
module _ {B : Type 0} (x : ℕ) (k : List B) where
  never : (n a : ℕ) → x < a → length (flat_map (λ u. cond (eqb x u) k []) (range a n)) ≡ 0
  unfolding flat_map range
  never zero a h = refl
  never (suc n) a h = rw (ne_eqb x a (λ e. omega arith)) (never n (suc a) (omega arith))

  once : (n a : ℕ) → length (flat_map (λ u. cond (eqb x u) k []) (range a n)) ≤ length k
  unfolding flat_map range
  once zero a = omega arith
  once (suc n) a = go (ℕ_discrete x a) (once n (suc a))
    where
      go : Dec (x ≡ a) → length (flat_map (λ u. cond (eqb x u) k []) (range (suc a) n)) ≤ length k → length (cond (eqb x a) k [] ++ flat_map (λ u. cond (eqb x u) k []) (range (suc a) n)) ≤ length k
      go (yes q) h = rw (eq-eqb x a q) (omega (arith, length-append k (flat_map (λ u. cond (eqb x u) k []) (range (suc a) n)), never n (suc a) (omega arith)))
      go (no q) h = rw (ne_eqb x a q) h

one : {B : Type 0} (b : Bool) (x : B) → length (cond b (x ∷ []) []) ≤ 1
one true x = omega arith
one false x = omega arith

nothing : {A : Type 0} (B : Type 0) (xs : List A) → length (flat_map {B = B} (λ x. []) xs) ≡ 0
unfolding flat_map
nothing B [] = refl
nothing B (x ∷ xs) = nothing B xs

-- at most one read and one write a note
one_read : (m : Note) (n : ℕ) → length (flat_map (λ u. read_in u m) (range 0 n)) ≤ 1
unfolding read_in
one_read m n = let r : ℕ × Event = (m.number, m.source) in omega (arith, once m.thread (cond m.reads (r ∷ []) []) n 0, one m.reads r)

all_reads : (ns : List Note) (n : ℕ) → length (flat_map (λ u. reads_in u ns) (range 0 n)) ≤ length ns
unfolding reads_in flat_map
all_reads [] n = omega (arith, nothing (ℕ × Event) (range 0 n))
all_reads (m ∷ ns) n = omega (arith, all_reads ns n, both_collected (λ u. read_in u m) (λ u. reads_in u ns) (range 0 n), one_read m n)

one_write : (m : Note) (n : ℕ) → length (flat_map (λ u. write_in u m) (range 0 n)) ≤ 1
unfolding write_in
one_write m n = let e : Event = (m.thread, m.number) in omega (arith, once m.location (cond m.wrote (e ∷ []) []) n 0, one m.wrote e)

all_writes : (ns : List Note) (n : ℕ) → length (flat_map (λ u. writes_in u ns) (range 0 n)) ≤ length ns
unfolding writes_in flat_map
all_writes [] n = omega (arith, nothing Event (range 0 n))
all_writes (m ∷ ns) n = omega (arith, all_writes ns n, both_collected (λ u. write_in u m) (λ u. writes_in u ns) (range 0 n), one_write m n)

-- ---- how long their lines are
text_append : (fs gs : List (List ℕ)) → length (text_of (fs ++ gs)) ≡ length (text_of fs) + length (text_of gs)
unfolding text_of
text_append [] gs = omega arith
text_append (f ∷ fs) gs = omega (arith, text_append fs gs, length-append (text f) (text_of (fs ++ gs)), length-append (text f) (text_of fs))

thread_length : (t : ℕ) (rs : List (ℕ × Event)) → length (text_of (thread_frames t rs)) ≡ 11 * length rs
unfolding thread_frames text_of read_frame
thread_length t [] = refl
thread_length t (r ∷ rs) = omega (arith, thread_length t rs, length-append (text (read_frame t r)) (text_of (map (read_frame t) rs)), length_text (read_frame t r))

order_length : (l : ℕ) (es : List Event) → length (text_of (order_frame l es)) ≤ 4 * length es + 5
unfolding order_frame text_of
order_length l [] = omega arith
order_length l (e ∷ es) =
    let f : List ℕ = 0x41 ∷ l ∷ event_bytes (e ∷ es) in
    omega (arith, length-append (text f) [], length_text f, bytes_length (e ∷ es))

module _ (R : ℕ → List (ℕ × Event)) where
  threads_length : (us : List ℕ) → length (text_of (flat_map (λ u. thread_frames u (R u)) us)) ≡ 11 * length (flat_map R us)
  unfolding flat_map text_of
  threads_length [] = refl
  threads_length (u ∷ us) = omega (arith, threads_length us, text_append (thread_frames u (R u)) (flat_map (λ v. thread_frames v (R v)) us), thread_length u (R u), length-append (R u) (flat_map R us))

module _ (W : ℕ → List Event) where
  orders_length : (us : List ℕ) → length (text_of (flat_map (λ u. order_frame u (W u)) us)) ≤ 4 * length (flat_map W us) + 5 * length us
  unfolding flat_map text_of
  orders_length [] = omega arith
  orders_length (u ∷ us) = omega (arith, orders_length us, text_append (order_frame u (W u)) (flat_map (λ v. order_frame v (W v)) us), order_length u (W u), length-append (W u) (flat_map W us))

eight : length (range 0 8) ≡ 8
unfolding range
eight = refl

-- AT MOST 400 BYTES
pub notes_400 : (ns : List Note) → length ns ≤ 24 → length (text_of (note_frames ns)) ≤ 400
unfolding note_frames read_frames_in order_frames_in
notes_400 ns h =
    let r = threads_length (λ u. reads_in u ns) (range 0 6) in
    let w = orders_length (λ u. writes_in u ns) (range 0 8) in
    omega (arith, r, w, eight, all_reads ns 6, all_writes ns 8, text_append (read_frames_in 6 ns) (order_frames_in 8 ns))
