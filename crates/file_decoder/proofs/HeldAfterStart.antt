-- A line that lets a location start with a value: the arrays of starting values hold it beside what was given before.
use Prim.Native.Nat.{ℕ, ◌<◌}
use native.Mathlib.Omega.{arith}
use native.Mathlib.Decide.{ℕ_discrete}
use mathlib.Core.Path.{◌≡◌, refl, ◌∙◌}
use mathlib.Core.Bool.{true, false, cond, ◌||◌}
use mathlib.Core.List.{List, ◌∷◌}
use lib.ListN.{get_or, set, length-set}
use lib.Seq.{get_or-set_same, get_or-set_other}
use lib.Dec.{eqb}
use borrow.Author.Tests.{eq-eqb, ne_eqb}
use Rattle.file_refusals.specs.declared.counts.Counts.{Counts}
use Rattle.file_refusals.specs.declared.counts.Starting.{Starting}
use Rattle.file_refusals.specs.Held.{frame_at, HoldsStarts, Holds}
use Rattle.file_decoder.specs.Held.{started_counts, line_at, Lined}
use Rattle.spec_file.specs.Frames.{Frame, byte, word}
use Rattle.spec_file.specs.Decode.{Start, Reading, thread_at, is_given, value_at, frame_refusal, after}
use Rattle.spec_file.proofs.Sound.{passes}
use Rattle.spec_file.proofs.StartLines.{start_location}
use Rattle.file_decoder.proofs.HeldAfter.{first_starts}

-- a `03` line that passes is for one of the eight locations
pub passes_started : (f : Frame) (r : Reading) → frame_refusal r f ≡ 0 → byte f 0 ≡ 0x03 → byte f 1 < 8
passes_started f r e b = start_location f b (passes r f e).in_range

-- ---- one value more
module _ (m : Starting) (ss : List Start) (h : HoldsStarts m ss) (l v : ℕ) (few : l < 8) where
  abbrev new : Start
  new = record { location = l; value = v }

  value_next : (k : ℕ) → k < 8 → get_or (set m.values l v) k 0 ≡ value_at k (new ∷ ss)
  unfolding value_at
  value_next k b = go (ℕ_discrete k l)
    where
      go : Dec (k ≡ l) → get_or (set m.values l v) k 0 ≡ cond (eqb k l) v (value_at k ss)
      go (yes q) = rw (q, eq-eqb l l refl) (get_or-set_same m.values l v 0 (omega (arith, h.sizes.0)))
      go (no q) = rw (ne_eqb k l q) (get_or-set_other m.values l k v 0 q ∙ h.values k b)

  given_next : (k : ℕ) → k < 8 → get_or (set m.given l true) k false ≡ is_given k (new ∷ ss)
  unfolding is_given
  given_next k b = go (ℕ_discrete k l)
    where
      go : Dec (k ≡ l) → get_or (set m.given l true) k false ≡ (eqb k l || is_given k ss)
      go (yes q) = rw (q, eq-eqb l l refl) (get_or-set_same m.given l true false (omega (arith, h.sizes.1)))
      go (no q) = rw (ne_eqb k l q) (get_or-set_other m.given l k true false q ∙ h.given k b)

  pub starts_next : HoldsStarts (record { values = set m.values l v; given = set m.given l true }) (new ∷ ss)
  starts_next = record {
    sizes = (length-set m.values l v ∙ h.sizes.0, length-set m.given l true ∙ h.sizes.1);
    values = value_next;
    given = given_next;
  }

pub held_started : (n : ℕ) (f : Frame) (code : List ℕ) (s : Counts) (r : Reading) → Holds code s r → frame_refusal r f ≡ 0
    → byte f 0 ≡ 0x03 → Holds code (started_counts (byte f 1) (word f 2) s) (after n f r)
unfolding after thread_at frame_at
held_started n f code s r h e b =
    let first = first_starts f b in
    rw (first.0, first.1, first.2)
    (record {
      size = h.size;
      sizes = h.sizes;
      threads = h.threads;
      lengths = h.lengths;
      bytes = h.bytes;
      frames = h.frames;
      accesses = h.accesses;
      groups = h.groups;
      class = h.class;
      starting = starts_next s.starting r.given h.starting (byte f 1) (word f 2) (passes_started f r e b);
    })

pub lined_started : (n : ℕ) (f : Frame) (rows : List ℕ) (r : Reading) → Lined rows r → byte f 0 ≡ 0x03 → Lined rows (after n f r)
unfolding after thread_at line_at
lined_started n f rows r h b =
    let first = first_starts f b in
    rw (first.0, first.1, first.2) (record { size = h.size; lines = h.lines })
