-- What the graph's writer does with one note and with one location, each way through its functions.
use Prim.Native.Nat.{ℕ, ◌+◌, ◌*◌, ◌<◌, ◌≤◌}
use native.Mathlib.Omega.{arith}
use mathlib.Core.Path.{◌≡◌, refl, sym, ap, subst, ◌∙◌}
use mathlib.Core.Logic.{◌≢◌}
use mathlib.Core.Bool.{Bool, true, false, cond, ◌&&◌}
use mathlib.Core.List.{List, [], ◌∷◌, ◌++◌, append-nil, append_assoc, flat_map}
use borrow.Author.Tests.{eq-eqb, ne_eqb}
use lib.Dec.{eqb}
use lib.ListN.{length, get_or, set, take, length-append, length-set}
use Rattle.spec_file.specs.Text.{written}
use Rattle.spec_file.specs.Over.{over}
use Rattle.spec_file.proofs.Over.{over_snoc, length_over, take_over}
use Rattle.spec_schedules.specs.Lists.{range}
use Rattle.spec_sc.specs.State.{Event}
use Rattle.spec_sc.specs.Text.{read_frame, event_bytes}
use Rattle.graph_writer.specs.NoteText.{read_in, write_in, writes_in, thread_frames, order_frame, note_at, notes_at, Wrote}
use Rattle.graph_writer.proofs.NoteGraph.{order_some}
use Rattle.spec_sc.proofs.Frames.{bytes_length}
use Rattle.graph_writer.proofs.NotesHeld.{writes_next}
use Rattle.graph_writer.proofs.WrittenLines.{wrote_none, wrote_one}

-- the buffer is as it was where there is no frame
pub unwritten : (fs : List (List ℕ)) (l : List ℕ) → fs ≡ [] → Wrote fs l l 0
unwritten fs l e = subst (λ (gs : List (List ℕ)). Wrote gs l l 0) (sym e) (wrote_none l)

-- ---- one note, for thread t: another thread's, no read, and a read
module _ (log : List ℕ) (k t : ℕ) where
  pub other_thread : get_or log (k * 8) 0 ≢ t → thread_frames t (read_in t (note_at log k)) ≡ []
  unfolding thread_frames read_in note_at
  other_thread ne = rw (ne_eqb (get_or log (k * 8) 0) t ne)

  pub no_read : get_or log (k * 8) 0 ≡ t → get_or log (k * 8 + 3) 0 ≢ 1 → thread_frames t (read_in t (note_at log k)) ≡ []
  unfolding thread_frames read_in note_at
  no_read e ne = rw (eq-eqb (get_or log (k * 8) 0) t e, ne_eqb (get_or log (k * 8 + 3) 0) 1 ne)

  a_read : get_or log (k * 8) 0 ≡ t → get_or log (k * 8 + 3) 0 ≡ 1 →
      thread_frames t (read_in t (note_at log k)) ≡ (0x40 ∷ t ∷ get_or log (k * 8 + 1) 0 ∷ get_or log (k * 8 + 4) 0 ∷ get_or log (k * 8 + 5) 0 ∷ []) ∷ []
  unfolding thread_frames read_in read_frame note_at
  a_read e r = rw (eq-eqb (get_or log (k * 8) 0) t e, eq-eqb (get_or log (k * 8 + 3) 0) 1 r)

  pub read_line : (l xs : List ℕ) (n : ℕ) → get_or log (k * 8) 0 ≡ t → get_or log (k * 8 + 3) 0 ≡ 1 →
      n ≡ length (written (0x40 ∷ t ∷ get_or log (k * 8 + 1) 0 ∷ get_or log (k * 8 + 4) 0 ∷ get_or log (k * 8 + 5) 0 ∷ []) (length l)) →
      xs ≡ over (written (0x40 ∷ t ∷ get_or log (k * 8 + 1) 0 ∷ get_or log (k * 8 + 4) 0 ∷ get_or log (k * 8 + 5) 0 ∷ []) (length l)) l →
      Wrote (thread_frames t (read_in t (note_at log k))) l xs n
  read_line l xs n e r c w = subst (λ (fs : List (List ℕ)). Wrote fs l xs n) (sym (a_read e r)) (wrote_one _ l xs n c w)

-- ---- one location: its frame, filled note by note
abbrev pub order : List ℕ → ℕ → ℕ → List ℕ
order log l k = 0x41 ∷ l ∷ event_bytes (writes_in l (notes_at log k))

-- the writes of l among the first k notes stand in the frame, n bytes
pub record Filled (log : List ℕ) (l k : ℕ) (before frame : List ℕ) (n : ℕ) : Type 0 where
  pub count : n ≡ length (order log l k)
  pub content : frame ≡ over (order log l k) before
  pub few : n ≤ 2 + 2 * k

-- the first two bytes of a `41` frame stand there before the first note
abbrev pub headed : ℕ → List ℕ → List ℕ
headed l frame = set (set frame 0 0x41) 1 l

pub filled_none : (log : List ℕ) (l : ℕ) (frame : List ℕ) → length frame ≡ 64 → Filled log l 0 (headed l frame) (headed l frame) 2
unfolding writes_in flat_map notes_at range event_bytes over
filled_none log l [] h = absurd (omega arith)
filled_none log l (x ∷ []) h = absurd (omega arith)
filled_none log l (x ∷ y ∷ frame) h = record { count = refl; content = refl; few = omega arith }

over_headed : (l : ℕ) (es frame : List ℕ) → over (0x41 ∷ l ∷ es) (headed l frame) ≡ over (0x41 ∷ l ∷ es) frame
unfolding over
over_headed l es [] = refl
over_headed l es (x ∷ []) = refl
over_headed l es (x ∷ y ∷ frame) = refl

pub filled_all : (log : List ℕ) (l k steps : ℕ) (before frame : List ℕ) (n : ℕ) → k ≡ steps → steps ≤ 24 → Filled log l k (headed l before) frame n →
    (n ≡ length (order log l steps)) × ((n ≤ 50) × (frame ≡ over (order log l steps) before))
filled_all log l k steps before frame n e h f =
    let q = ap (order log l) e in (
      f.count ∙ ap length q,
      (omega (arith, f.few), f.content ∙ ap (λ (t : List ℕ). over t (headed l before)) q ∙ over_headed l (event_bytes (writes_in l (notes_at log steps))) before),
    )

-- the frame keeps its length
pub headed_length : (l : ℕ) (frame : List ℕ) → length (headed l frame) ≡ length frame
headed_length l frame = length-set (set frame 0 0x41) 1 l ∙ length-set frame 0 0x41

pub filled_length : (log : List ℕ) (l k : ℕ) (before frame : List ℕ) (n : ℕ) → length before ≡ 64 → k ≤ 24 → Filled log l k before frame n → length frame ≡ 64
filled_length log l k before frame n h i f = ap length f.content ∙ length_over (order log l k) before (omega (arith, f.count, f.few)) ∙ h

events_append : (xs ys : List Event) → event_bytes (xs ++ ys) ≡ event_bytes xs ++ event_bytes ys
unfolding event_bytes
events_append [] ys = refl
events_append (e ∷ es) ys = ap (λ (k : List ℕ). e.0 ∷ e.1 ∷ k) (events_append es ys)

order_next : (log : List ℕ) (l k : ℕ) → order log l (k + 1) ≡ order log l k ++ event_bytes (write_in l (note_at log k))
order_next log l k = ap (λ (es : List ℕ). 0x41 ∷ l ∷ es) (ap event_bytes (writes_next log l k) ∙ events_append (writes_in l (notes_at log k)) (write_in l (note_at log k)))

abbrev pub states : List ℕ → ℕ → ℕ → Bool
states log l k = eqb (note_at log k).location l && (note_at log k).wrote

a_write : (log : List ℕ) (l k : ℕ) (a b : Bool) → eqb (note_at log k).location l ≡ a → (note_at log k).wrote ≡ b →
    event_bytes (write_in l (note_at log k)) ≡ cond (a && b) (get_or log (k * 8) 0 ∷ get_or log (k * 8 + 1) 0 ∷ []) []
unfolding write_in event_bytes note_at
a_write log l k true true e f = rw (e, f)
a_write log l k true false e f = rw (e, f)
a_write log l k false b e f = rw e

written_note : (log : List ℕ) (l k : ℕ) (b : Bool) → b ≡ states log l k → event_bytes (write_in l (note_at log k)) ≡ cond b (get_or log (k * 8) 0 ∷ get_or log (k * 8 + 1) 0 ∷ []) []
written_note log l k b e = a_write log l k _ _ refl refl ∙ ap (λ (c : Bool). cond c (get_or log (k * 8) 0 ∷ get_or log (k * 8 + 1) 0 ∷ []) []) (sym e)

pub filled_more : (log : List ℕ) (l k : ℕ) (before frame later : List ℕ) (n m : ℕ) (b : Bool) → length before ≡ 64 → k < 24 → b ≡ states log l k → Filled log l k before frame n → b ≡ true →
    later ≡ set (set frame n (get_or log (k * 8) 0)) (n + 1) (get_or log (k * 8 + 1) 0) → m ≡ n + 2 → Filled log l (k + 1) before later m
filled_more log l k before frame later n m b h i e f w p j =
    let x = get_or log (k * 8) 0 in
    let y = get_or log (k * 8 + 1) 0 in
    let t = order log l k in
    let q : order log l (k + 1) ≡ t ++ (x ∷ y ∷ []) = order_next log l k ∙ ap (λ (z : List ℕ). t ++ z) (written_note log l k b e ∙ ap (λ (c : Bool). cond c (x ∷ y ∷ []) []) w) in
    record {
      count = omega (arith, f.count, ap length q, length-append t (x ∷ y ∷ []));
      content = p ∙ ap (λ (z : List ℕ). set (set z n x) (n + 1) y) f.content
          ∙ ap (λ (z : List ℕ). set z (n + 1) y) (over_snoc t before n x (sym f.count) (omega (arith, f.few)))
          ∙ over_snoc (t ++ (x ∷ [])) before (n + 1) y (omega (arith, f.count, length-append t (x ∷ []))) (omega (arith, f.few))
          ∙ ap (λ (z : List ℕ). over z before) (append_assoc t (x ∷ []) (y ∷ []) ∙ sym q);
      few = omega (arith, f.few);
    }

pub filled_same : (log : List ℕ) (l k : ℕ) (before frame later : List ℕ) (n m : ℕ) (b : Bool) → b ≡ states log l k → Filled log l k before frame n → b ≡ false →
    later ≡ frame → m ≡ n → Filled log l (k + 1) before later m
filled_same log l k before frame later n m b e f w p j =
    let t = order log l k in
    let q : order log l (k + 1) ≡ t = order_next log l k ∙ ap (λ (z : List ℕ). t ++ z) (written_note log l k b e ∙ ap (λ (c : Bool). cond c (get_or log (k * 8) 0 ∷ get_or log (k * 8 + 1) 0 ∷ []) []) w) ∙ append-nil t in
    record {
      count = j ∙ f.count ∙ ap length (sym q);
      content = p ∙ f.content ∙ ap (λ (z : List ℕ). over z before) (sym q);
      few = omega (arith, f.few);
    }

-- ---- one location: its line
pub order_within : (t before frame : List ℕ) (n : ℕ) → n ≡ length t → n ≤ 50 → frame ≡ over t before → length before ≡ 64 → n ≤ length frame
order_within t before frame n c f e h = omega (arith, ap length e, length_over t before (omega arith))

no_writes : (l : ℕ) (ws : List Event) → length ws ≡ 0 → order_frame l ws ≡ []
unfolding order_frame
no_writes l [] h = refl
no_writes l (e ∷ es) h = absurd (omega arith)

pub order_none : (l n : ℕ) (ws : List Event) → n ≡ length (0x41 ∷ l ∷ event_bytes ws) → n ≡ 2 → order_frame l ws ≡ []
order_none l n ws c e = no_writes l ws (omega (arith, bytes_length ws))

some_write : (l n : ℕ) (ws : List Event) → n ≡ length (0x41 ∷ l ∷ event_bytes ws) → n ≢ 2 → 0 < length ws
unfolding event_bytes
some_write l n [] c ne = absurd (ne c)
some_write l n (e ∷ es) c ne = omega arith

pub order_line : (l n : ℕ) (ws : List Event) (before frame out later : List ℕ) (m : ℕ) → n ≡ length (0x41 ∷ l ∷ event_bytes ws) → frame ≡ over (0x41 ∷ l ∷ event_bytes ws) before → n ≢ 2 →
    m ≡ length (written (take n frame) (length out)) → later ≡ over (written (take n frame) (length out)) out → Wrote (order_frame l ws) out later m
order_line l n ws before frame out later m c f ne a b =
    let t : take n frame ≡ 0x41 ∷ l ∷ event_bytes ws = ap (λ (k : ℕ). take k frame) c ∙ ap (take (length (0x41 ∷ l ∷ event_bytes ws))) f ∙ take_over (0x41 ∷ l ∷ event_bytes ws) before in
    subst (λ (fs : List (List ℕ)). Wrote fs out later m) (sym (order_some l ws (some_write l n ws c ne)))
    (wrote_one (0x41 ∷ l ∷ event_bytes ws) out later m (a ∙ ap (λ (z : List ℕ). length (written z (length out))) t) (b ∙ ap (λ (z : List ℕ). over (written z (length out)) out) t))
