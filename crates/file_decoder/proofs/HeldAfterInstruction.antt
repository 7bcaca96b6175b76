-- A line with an instruction: its bytes go to the next row of the thread last opened, and the decoder's arrays hold it beside all that was read before.
use Prim.Native.Nat.{ℕ, ◌+◌, ◌-◌, ◌*◌, ◌≤◌, ◌<◌}
use native.Mathlib.Omega.{arith}
use mathlib.Core.Path.{◌≡◌, refl, sym, ap, ◌∙◌}
use mathlib.Core.Logic.{◌⊎◌, inl, inr}
use mathlib.Core.Bool.{Bool, true, false, cond, ◌&&◌}
use mathlib.Core.List.{List, [], ◌∷◌, ◌++◌}
use lib.ListN.{length, get_or, set, length-set, get_or-eq_default}
use lib.Seq.{get_or-set_same, get_or-set_other}
use lib.Dec.{eqb, ltb, leb}
use borrow.Author.Tests.{eqb-true, eqb-false, ltb-true, ltb-false}
use Rattle.file_refusals.specs.declared.counts.Counts.{Counts}
use Rattle.spec_file.specs.Frames.{Frame, byte, known, declares, is_access}
use Rattle.spec_file.specs.Decode.{Placed, Reading, thread_at, last_thread, all_accesses_in, frame_refusal, after}
use Rattle.file_refusals.specs.Held.{no_instruction, frame_at, Holds}
use Rattle.file_decoder.specs.Held.{extended_counts, line_at, Lined}
use Rattle.file_rows.specs.Bytes.{Written}
use Rattle.spec_file.proofs.AccessCounts.{accesses_snoc, all_accesses_set}
use Rattle.spec_file.proofs.Sound.{passes}
use Rattle.file_decoder.proofs.HeldAfter.{Plain, first_instruction, passes_extended}
use Rattle.file_decoder.proofs.HeldAfterPlace.{Here, place, apart, same_row, placed_new, placed_before, length_new, length_before}

-- ---- an instruction more
module _ (n : ℕ) (f : Frame) (code : List ℕ) (s : Counts) (r : Reading) (h : Holds code s r) (e : frame_refusal r f ≡ 0)
    (plain : Plain f) where
  abbrev thread : ℕ
  thread = s.threads - 1

  abbrev at : ℕ
  at = get_or s.lengths thread 0

  abbrev new : Placed
  new = record { line = n; code = f }

  abbrev next : Reading
  next = record { threads = set r.threads thread (get_or r.threads thread [] ++ (new ∷ [])); groups = r.groups; given = r.given }

  room : (1 ≤ s.threads) × (at < 16) × (length f ≤ 13)
  room = passes_extended f code s r h e plain

  inside : thread < length r.threads
  inside = omega (arith, room.0, h.threads)

  end : at ≡ length (get_or r.threads thread [])
  unfolding thread_at
  end = h.lengths thread

  after_next : after n f r ≡ next
  unfolding after last_thread thread_at
  after_next =
      let first = first_instruction f plain in
      rw (first.0, first.1, first.2)
      (ap (λ (k : ℕ). record { threads = set r.threads (k - 1) (get_or r.threads (k - 1) [] ++ (new ∷ [])); groups = r.groups; given = r.given }) (sym h.threads))

  here_new : frame_at next thread at ≡ f
  unfolding frame_at thread_at
  here_new = rw end (ap (λ (x : Placed). x.code) (placed_new r.threads thread inside new no_instruction))

  line_new : line_at next thread at ≡ n
  unfolding line_at thread_at
  line_new = rw end (ap (λ (x : Placed). x.line) (placed_new r.threads thread inside new no_instruction))

  frame_before : (t i : ℕ) → (((t ≡ thread) × (i ≡ at)) → ⊥) → frame_at next t i ≡ frame_at r t i
  unfolding frame_at thread_at
  frame_before t i k = ap (λ (x : Placed). x.code) (placed_before r.threads thread inside new t i no_instruction (λ q. k (q.0, q.1 ∙ sym end)))

  line_before : (t i : ℕ) → (((t ≡ thread) × (i ≡ at)) → ⊥) → line_at next t i ≡ line_at r t i
  unfolding line_at thread_at
  line_before t i k = ap (λ (x : Placed). x.line) (placed_before r.threads thread inside new t i no_instruction (λ q. k (q.0, q.1 ∙ sym end)))

  -- the next row was empty
  row_empty : (j : ℕ) → j < 16 → get_or code ((thread * 16 + at) * 16 + j) 0 ≡ 0
  unfolding frame_at thread_at no_instruction
  row_empty j k =
      h.bytes thread at j room.1 k
      ∙ ap (λ (x : Placed). byte x.code j) (get_or-eq_default (get_or r.threads thread []) no_instruction {n = at} (omega (arith, end)))

  row_new : (code' : List ℕ) → Written code ((thread * 16 + at) * 16) f (length f) code' → (j : ℕ) → j < 16
      → get_or code' ((thread * 16 + at) * 16 + j) 0 ≡ byte f j
  row_new code' w j k = go (ltb j (length f)) refl
    where
      go : (b : Bool) → ltb j (length f) ≡ b → get_or code' ((thread * 16 + at) * 16 + j) 0 ≡ byte f j
      go true q = w.inside j (ltb-true j (length f) q)
      go false q =
          let long = ltb-false j (length f) q in
          w.outside ((thread * 16 + at) * 16 + j) (inr (omega arith)) ∙ row_empty j k ∙ sym (get_or-eq_default f 0 {n = j} long)

  bytes_next : (code' : List ℕ) → Written code ((thread * 16 + at) * 16) f (length f) code' → (t i j : ℕ) → i < 16 → j < 16
      → get_or code' ((t * 16 + i) * 16 + j) 0 ≡ byte (frame_at next t i) j
  bytes_next code' w t i j hi hj = go (place t i thread at)
    where
      away : (t * 16 + i < thread * 16 + at) ⊎ (thread * 16 + at < t * 16 + i)
          → ((t * 16 + i) * 16 + j < (thread * 16 + at) * 16) ⊎ ((thread * 16 + at) * 16 + length f ≤ (t * 16 + i) * 16 + j)
      away (inl k) = inl (omega arith)
      away (inr k) = inr (omega (arith, room.2))

      go : Here t i thread at ⊎ (Here t i thread at → ⊥) → get_or code' ((t * 16 + i) * 16 + j) 0 ≡ byte (frame_at next t i) j
      go (inl q) = rw (q.0, q.1, here_new) (row_new code' w j hj)
      go (inr k) =
          w.outside ((t * 16 + i) * 16 + j) (away (apart t i thread at k hi room.1))
          ∙ h.bytes t i j hi hj
          ∙ ap (λ (g : Frame). byte g j) (sym (frame_before t i k))

  -- what was there before
  end_before : (t i : ℕ) → (Here t i thread at → ⊥) → i < length (thread_at next t) → i < length (thread_at r t)
  unfolding thread_at
  end_before t i k b = go (eqb t thread) refl
    where
      go : (x : Bool) → eqb t thread ≡ x → i < length (get_or r.threads t [])
      go true p =
          let q = eqb-true t thread p in
          let c : i < length (get_or next.threads thread []) = rw q at b in
          let other : i ≡ at → ⊥ = λ z. k (q, z) in
          rw q (omega (arith, length_new r.threads thread inside new, end))
      go false p = omega (arith, length_before r.threads thread inside new t (eqb-false t thread p))

  frames_next : (t i : ℕ) → i < length (thread_at next t) → (known (frame_at next t i) ≡ true) × (declares (frame_at next t i) ≡ false)
  frames_next t i b = go (place t i thread at)
    where
      go : Here t i thread at ⊎ (Here t i thread at → ⊥) → (known (frame_at next t i) ≡ true) × (declares (frame_at next t i) ≡ false)
      go (inl q) = rw (q.0, q.1, here_new) ((passes r f e).is_known, (first_instruction f plain).1)
      go (inr k) = rw (frame_before t i k) (h.frames t i (end_before t i k b))

  lengths_next : s.threads ≤ 6 → (t : ℕ) → get_or (set s.lengths thread (at + 1)) t 0 ≡ length (thread_at next t)
  unfolding thread_at
  lengths_next few t = go (eqb t thread) refl
    where
      go : (x : Bool) → eqb t thread ≡ x → get_or (set s.lengths thread (at + 1)) t 0 ≡ length (get_or next.threads t [])
      go true p =
          rw (eqb-true t thread p)
          (get_or-set_same s.lengths thread (at + 1) 0 (omega (arith, room.0, h.sizes.0))
          ∙ ap (λ (k : ℕ). k + 1) end
          ∙ sym (length_new r.threads thread inside new))
      go false p =
          get_or-set_other s.lengths thread t (at + 1) 0 (eqb-false t thread p)
          ∙ h.lengths t
          ∙ sym (length_before r.threads thread inside new t (eqb-false t thread p))

  accesses_next : s.accesses + cond (leb 0x10 (byte f 0) && leb (byte f 0) 0x13) 1 0 ≡ all_accesses_in next.threads
  unfolding is_access
  accesses_next =
      let old = get_or r.threads thread [] in
      let more = accesses_snoc old new in
      let counts = all_accesses_set r.threads thread (old ++ (new ∷ [])) inside in
      omega (arith, h.accesses)

  -- the line's number goes to the same row
  lines_next : (rows : List ℕ) → Lined rows r → s.threads ≤ 6 → ((t : ℕ) → get_or s.lengths t 0 ≤ 16)
      → (t i : ℕ) → i < length (thread_at next t) → get_or (set rows (thread * 16 + at) n) (t * 16 + i) 0 ≡ line_at next t i
  lines_next rows l few sixteen t i b = go (place t i thread at)
    where
      go : Here t i thread at ⊎ (Here t i thread at → ⊥) → get_or (set rows (thread * 16 + at) n) (t * 16 + i) 0 ≡ line_at next t i
      go (inl q) = rw (q.0, q.1, line_new) (get_or-set_same rows (thread * 16 + at) n 0 (omega (arith, room, l.size)))
      go (inr k) =
          let c = end_before t i k b in
          let short : i < 16 = omega (arith, h.lengths t, sixteen t) in
          let other : t * 16 + i ≡ thread * 16 + at → ⊥ = λ z. same_row t i thread at k short room.1 z in
          get_or-set_other rows (thread * 16 + at) (t * 16 + i) n 0 other ∙ l.lines t i c ∙ sym (line_before t i k)

pub held_extended : (n : ℕ) (f : Frame) (code code' : List ℕ) (s : Counts) (r : Reading) → Holds code s r → frame_refusal r f ≡ 0
    → Plain f → s.threads ≤ 6
    → Written code (((s.threads - 1) * 16 + get_or s.lengths (s.threads - 1) 0) * 16) f (length f) code'
    → Holds code' (extended_counts (byte f 0) s) (after n f r)
held_extended n f code code' s r h e plain few w =
    rw (after_next n f code s r h e plain)
    (record {
      size = w.size ∙ h.size;
      sizes = (length-set s.lengths (s.threads - 1) (get_or s.lengths (s.threads - 1) 0 + 1) ∙ h.sizes.0, h.sizes.1);
      threads = h.threads ∙ sym (length-set r.threads (s.threads - 1) _);
      lengths = lengths_next n f code s r h e plain few;
      bytes = bytes_next n f code s r h e plain code' w;
      frames = frames_next n f code s r h e plain;
      accesses = accesses_next n f code s r h e plain;
      groups = h.groups;
      class = h.class;
      starting = h.starting;
    })

pub lined_extended : (n : ℕ) (f : Frame) (rows : List ℕ) (code : List ℕ) (s : Counts) (r : Reading) → Holds code s r → Lined rows r → frame_refusal r f ≡ 0
    → Plain f → s.threads ≤ 6 → ((t : ℕ) → get_or s.lengths t 0 ≤ 16)
    → Lined (set rows ((s.threads - 1) * 16 + get_or s.lengths (s.threads - 1) 0) n) (after n f r)
lined_extended n f rows code s r h l e plain few sixteen =
    rw (after_next n f code s r h e plain)
    (record {
      size = length-set rows ((s.threads - 1) * 16 + get_or s.lengths (s.threads - 1) 0) n ∙ l.size;
      lines = lines_next n f code s r h e plain rows l few sixteen;
    })
