-- The `41` lines of a graph pass, location by location, and give its lists back.
use Prim.Native.Nat.{ℕ, zero, suc, ◌+◌, ◌%◌, ◌<◌, ◌≤◌}
use mathlib.Core.Path.{◌≡◌, sym, ap, subst, ◌∙◌}
use mathlib.Core.Logic.{◌⊎◌, inl, inr, ⊎_elim}
use mathlib.Core.Bool.{true}
use mathlib.Core.List.Memᴰ
use mathlib.Core.List.{List, [], ◌∷◌, ◌++◌, append_assoc, reverse, reverse-reverse, Memᴰ}
use native.Mathlib.Omega.{arith}
use borrow.Author.Tests.{le-leb, eq-eqb}
use lib.ListN.{length, get_or, set, replicate, length-append, length-reverse}
use lib.Seq.{set_at}
use Rattle.spec_schedules.proofs.Lists.{all_of}
use Rattle.spec_schedules.specs.Order.{less}
use Rattle.spec_schedules.proofs.Order.{less_front, less_heads}
use Rattle.spec_sc.specs.State.{Event}
use Rattle.spec_sc.specs.Graph.{Graph}
use Rattle.spec_sc.proofs.GraphTerms.{graph_with}
use Rattle.spec_sc.specs.Text.{event_bytes, write_frame, write_frames, events_in}
use Rattle.spec_sc.proofs.Frames.{events_back}
use Rattle.spec_sc.proofs.Frames.{bytes_length}
use Rattle.spec_schedules.specs.Lists.{Distinct}
use Rattle.spec_judge.specs.Reading.{Frame, is_read, writes_in, known, is_event, in_range, key, Reading, in_order, refusal, with_line, after}
use Rattle.spec_judge.proofs.Readable.{Named, Unwritten, is_event_lem, is_new, reverse_in, distinct_reverse}
use Rattle.spec_judge.proofs.Parsed.{empty_row}
use Rattle.spec_judge.proofs.FramesRead.{Passing, after_all, after_append, passing_append}

-- who stands in lists of which the last ones are empty, and in lists with one more
in_front : (pre : List (List Event)) (m k : ℕ) (x : Event) → Memᴰ x (get_or (pre ++ replicate m []) k []) → Memᴰ x (get_or pre k [])
in_front [] m k x i = absurd (Memᴰ.not-nil (subst (Memᴰ x) (empty_row m k) i))
in_front (w ∷ pre) m zero x i = i
in_front (w ∷ pre) m (suc k) x i = in_front pre m k x i

in_last : (pre : List (List Event)) (w : List Event) (k : ℕ) (x : Event) → Memᴰ x (get_or (pre ++ (w ∷ [])) k []) → Memᴰ x (get_or pre k []) ⊎ Memᴰ x w
in_last [] w zero x i = inr i
in_last [] w (suc k) x i = absurd (Memᴰ.not-nil i)
in_last (v ∷ pre) w zero x i = inl i
in_last (v ∷ pre) w (suc k) x i = in_last pre w k x i

module _ (n : ℕ) (R : List (List (ℕ × Event))) where
  abbrev line_of : ℕ → List Event → Frame
  line_of l es = 0x41 ∷ l ∷ event_bytes es

  -- a `41` line that is in range, in order and new passes
  write_passes : (l : ℕ) (es : List Event) (r : Reading) → 1 ≤ length es → l ≤ 7 → ((e : Event) → Memᴰ e es → Named n e) → Distinct es →
      ((e : Event) → Memᴰ e es → Unwritten r.graph.writes e) →
      less r.last (0x41 ∷ l ∷ []) ≡ true → refusal n r (line_of l es) ≡ 0
  unfolding refusal known in_range in_order key is_read writes_in
  write_passes l es r h c e d u k =
      let q = bytes_length es in
      rw (
        le-leb 4 (length (line_of l es)) (omega arith),
        eq-eqb (length (line_of l es) % 2) 0 (omega arith),
        events_back es,
        le-leb l 7 c,
        all_of (is_event n) es (λ x m. is_event_lem n x (e x m)),
        k,
        is_new r.graph.writes es d u,
      )

  line_graph : (l : ℕ) (es : List Event) (pre post : List (List Event)) (w : List Event) (r : Reading) → length pre ≡ l → r.graph ≡ graph_with R (pre ++ (w ∷ post)) →
      (after (line_of l (reverse es)) r).graph ≡ graph_with R (pre ++ (es ∷ post))
  unfolding after with_line is_read writes_in
  line_graph l es pre post w r here g =
      ap (λ (h : Graph). graph_with h.reads (set h.writes l (reverse (events_in (event_bytes (reverse es)))))) g
      ∙ ap (λ (v : List Event). graph_with R (set (pre ++ (w ∷ post)) l v)) (ap reverse (events_back (reverse es)) ∙ reverse-reverse es)
      ∙ ap (λ (v : List (List Event)). graph_with R v) (set_at pre w post es l here)

  line_last : (l : ℕ) (es : List Event) (r : Reading) (k : ℕ) → l < k → less (after (line_of l es) r).last (0x41 ∷ k ∷ []) ≡ true
  unfolding after key is_read
  line_last l es r k h = less_front 0x41 (l ∷ []) (k ∷ []) ∙ less_heads l k [] [] h

  -- the lists that are still to come, behind those that have come
  pub record Remaining (lists pre : List (List Event)) : Type 0 where
    pub once : (k : ℕ) → Distinct (get_or lists k [])
    pub named : (k : ℕ) (e : Event) → Memᴰ e (get_or lists k []) → Named n e
    pub apart : (j k : ℕ) (e : Event) → Memᴰ e (get_or lists j []) → Memᴰ e (get_or lists k []) → j ≡ k
    pub new : (k : ℕ) (e : Event) → Memᴰ e (get_or lists k []) → Unwritten pre e

  remaining_tail : (ws : List Event) (lists pre : List (List Event)) → Remaining (ws ∷ lists) pre → Remaining lists (pre ++ (ws ∷ []))
  remaining_tail ws lists pre C = record {
    once = λ k. C.once (suc k);
    named = λ k. C.named (suc k);
    apart = λ j k e a b. let q = C.apart (suc j) (suc k) e a b in omega arith;
    new = λ k e m j i. ⊎_elim (λ (h : Memᴰ e (get_or pre j [])). C.new (suc k) e m j h)
        (λ (h : Memᴰ e ws). absurd (let q = C.apart 0 (suc k) e h m in omega arith)) (in_last pre ws j e i);
  }

  -- one location: no line, or one that passes
  list_read : (ws : List Event) (lists pre : List (List Event)) (l : ℕ) (r : Reading) → length pre ≡ l → l ≤ 7 → r.graph ≡ graph_with R (pre ++ replicate (length (ws ∷ lists)) []) →
      ((k : ℕ) → l ≤ k → less r.last (0x41 ∷ k ∷ []) ≡ true) → Remaining (ws ∷ lists) pre →
      Passing n r (write_frame l ws) × ((after_all (write_frame l ws) r).graph ≡ graph_with R
      (pre ++ (ws ∷ replicate (length lists) []))) × ((k : ℕ) → suc l ≤ k → less (after_all (write_frame l ws) r).last (0x41 ∷ k ∷ []) ≡ true)
  unfolding after_all write_frame
  list_read [] lists pre l r here c g u C = (tt, g, λ k h. u k (omega arith))
  list_read (e ∷ es) lists pre l r here c g u C =
      let zs = reverse (e ∷ es) in (
        (
          write_passes l zs r (let q = length-reverse (e ∷ es) in omega arith) c (λ x m. C.named 0 x (reverse_in (e ∷ es) x m)) (distinct_reverse (e ∷ es) (C.once 0))
              (λ x m k i. C.new 0 x (reverse_in (e ∷ es) x m) k
              (in_front pre (suc (length lists)) k x (subst (λ (h : Graph). Memᴰ x (get_or h.writes k [])) g i))) (u l (omega arith)),
          tt,
        ),
        line_graph l (e ∷ es) pre (replicate (length lists) []) [] r here g,
        λ k h. line_last l zs r k (omega arith),
      )

  pub lists_read : (lists pre : List (List Event)) (l : ℕ) (r : Reading) → length pre ≡ l → l + length lists ≤ 8 → r.graph ≡ graph_with R (pre ++ replicate (length lists) []) →
      ((k : ℕ) → l ≤ k → less r.last (0x41 ∷ k ∷ []) ≡ true) → Remaining lists pre →
      Passing n r (write_frames l lists) × ((after_all (write_frames l lists) r).graph ≡ graph_with R (pre ++ lists))
  unfolding after_all write_frames
  lists_read [] pre l r here h g u C = (tt, g)
  lists_read (ws ∷ lists) pre l r here h g u C =
      let fs = write_frame l ws in
      let a = list_read ws lists pre l r here (omega arith) g u C in
      let ih = lists_read lists (pre ++ (ws ∷ [])) (suc l) (after_all fs r) (length-append pre (ws ∷ []) ∙ omega arith) (omega arith)
      (a.1 ∙ ap (λ (v : List (List Event)). graph_with R v) (sym (append_assoc pre (ws ∷ []) (replicate (length lists) [])))) a.2 (remaining_tail ws lists pre C) in (
        passing_append n fs (write_frames (suc l) lists) r a.0 ih.0,
        ap (λ (s : Reading). s.graph) (after_append fs (write_frames (suc l) lists) r) ∙ ih.1 ∙ ap (λ (v : List (List Event)). graph_with R v) (append_assoc pre (ws ∷ []) lists),
      )
