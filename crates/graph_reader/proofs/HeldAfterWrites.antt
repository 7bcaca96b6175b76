-- The table holds what has been read with a `41` line more that passes.
use Prim.Native.Nat.{ℕ, ◌+◌, ◌*◌, ◌-◌, ◌/◌, ◌<◌, ◌≤◌}
use mathlib.Core.Path.{◌≡◌, refl, sym, ap, subst, ◌∙◌}
use mathlib.Core.Logic.{◌≢◌, ◌⊎◌, inl, inr}
use mathlib.Core.Bool.{Bool, true, false}
use mathlib.Core.List.{List, [], reverse, reverse-reverse}
use native.Mathlib.Omega.{arith}
use native.Mathlib.Decide.{ℕ_discrete}
use borrow.Author.Tests.{ltb-true, ltb-false}
use lib.Dec.{ltb}
use lib.ListN.{length, get_or, set, length-set, length-reverse}
use lib.Seq.{get_or-set_same, get_or-set_other}
use Rattle.spec_schedules.specs.Lists.{all}
use Rattle.spec_schedules.proofs.Lists.{all_at}
use Rattle.spec_sc.specs.State.{Event}
use Rattle.spec_sc.specs.Graph.{Graph}
use Rattle.graph_reader.specs.declared.table.Table.{Table}
use Rattle.spec_judge.specs.Consistent.{order_of}
use Rattle.spec_judge.specs.Reading.{Frame, byte_at, is_read, writes_in, is_event, Reading, refusal, with_line, after}
use Rattle.graph_reader.specs.Held.{no_line, Entry, rank_of, Holds, marked_by, Ordered}
use Rattle.spec_judge.proofs.Readable.{event_is}
use Rattle.graph_reader.proofs.LineWrites.{writes_length}
use Rattle.graph_reader.proofs.Marks.{seen_line}
use Rattle.spec_judge.proofs.LineRanges.{write_range, write_shape}
use Rattle.graph_reader.proofs.Ranks.{events_six, rank_less}
use Rattle.graph_reader.proofs.HeldAfter.{line_known, line_range, in_time}

module _ (n : ℕ) (few : n ≤ 6) (f : Frame) (s : Table) (r : Reading) (H : Holds n s r) (pass : refusal n r f ≡ 0) (q : is_read f ≡ false) where
  abbrev g : Graph
  g = r.graph

  abbrev lists : List (List Event)
  lists = set g.writes (byte_at f 1) (reverse (writes_in f))

  abbrev own : (byte_at f 0 ≡ 0x41) × (byte_at f 1 ≤ 7) × (all (is_event n) (writes_in f) ≡ true)
  own = write_range n few f (line_known n few f s r H pass) (line_range n few f s r H pass) q

  there : byte_at f 1 < length g.writes
  there = omega (arith, H.lists, own.1)

  place : rank_of f ≡ byte_at f 1 + 97
  unfolding rank_of
  place = rw q

  -- the list of the line's location, and the others
  list_same : (l : ℕ) → l ≡ byte_at f 1 → get_or lists l [] ≡ reverse (writes_in f)
  list_same l e = ap (λ (k : ℕ). get_or lists k []) e ∙ get_or-set_same g.writes (byte_at f 1) (reverse (writes_in f)) [] there

  list_other : (l : ℕ) → l ≢ byte_at f 1 → get_or lists l [] ≡ order_of g l
  list_other l e = get_or-set_other g.writes (byte_at f 1) l (reverse (writes_in f)) [] e

  module _ (pairs : List ℕ) (O : Ordered s.pairs (byte_at f 1) (writes_in f) 24 pairs) where
    kept : (j : ℕ) (e : Event) → (j < 96 + byte_at f 1 * 24) ⊎ (96 + (byte_at f 1 * 24 + 24) ≤ j) → Entry s.pairs j e → Entry pairs j e
    kept j e o E = let k = O.outside j o in (k.0 ∙ E.0, k.1 ∙ E.1)

    orders_write : (l k : ℕ) → l < 8 → k < 24 → Entry pairs (96 + (l * 24 + k)) (get_or (reverse (get_or lists l [])) k no_line)
    orders_write l k a b = go (ℕ_discrete l (byte_at f 1))
      where
        apart : l ≢ byte_at f 1 → (96 + (l * 24 + k) < 96 + byte_at f 1 * 24) ⊎ (96 + (byte_at f 1 * 24 + 24) ≤ 96 + (l * 24 + k))
        apart d = side (ltb l (byte_at f 1)) refl
          where
            side : (b : Bool) → ltb l (byte_at f 1) ≡ b → (96 + (l * 24 + k) < 96 + byte_at f 1 * 24) ⊎ (96 + (byte_at f 1 * 24 + 24) ≤ 96 + (l * 24 + k))
            side true e = inl (let h = ltb-true l (byte_at f 1) e in omega arith)
            side false e = inr (let h = ltb-false l (byte_at f 1) e in omega (arith, d))

        go : Dec (l ≡ byte_at f 1) → Entry pairs (96 + (l * 24 + k)) (get_or (reverse (get_or lists l [])) k no_line)
        go (yes e) = subst (λ (ws : List Event). Entry pairs (96 + (l * 24 + k)) (get_or ws k no_line)) (sym (ap reverse (list_same l e) ∙ reverse-reverse (writes_in f)))
            (subst (λ (m : ℕ). Entry pairs (96 + (m * 24 + k)) (get_or (writes_in f) k no_line)) (sym e) (O.inside k b))
        go (no e) = subst (λ (ws : List Event). Entry pairs (96 + (l * 24 + k)) (get_or (reverse ws) k no_line)) (sym (list_other l e))
            (kept (96 + (l * 24 + k)) _ (apart e) (H.graph.orders l k a b))

    counts_write : (m : ℕ) → m ≡ length f → length s.counts ≡ 8 → (l : ℕ) → l < 8 → get_or (set s.counts (byte_at f 1) (m / 2 - 1)) l 0 ≡ length (get_or lists l [])
    counts_write m z size l a = go (ℕ_discrete l (byte_at f 1))
      where
        many : length (writes_in f) ≡ m / 2 - 1
        many = writes_length f (write_shape f (line_known n few f s r H pass) q).1 ∙ ap (λ (k : ℕ). k / 2 - 1) (sym z)

        go : Dec (l ≡ byte_at f 1) → get_or (set s.counts (byte_at f 1) (m / 2 - 1)) l 0 ≡ length (get_or lists l [])
        go (yes e) =
            ap (λ (k : ℕ). get_or (set s.counts (byte_at f 1) (m / 2 - 1)) k 0) e ∙ get_or-set_same s.counts (byte_at f 1) (m / 2 - 1) 0 (omega (arith, own.1))
            ∙ sym (ap length (list_same l e) ∙ length-reverse (writes_in f) ∙ many)
        go (no e) = get_or-set_other s.counts (byte_at f 1) l (m / 2 - 1) 0 e ∙ H.graph.counts l a ∙ sym (ap length (list_other l e))

    pub held_writes : (m : ℕ) → m ≡ length f → length s.counts ≡ 8 → length s.seen ≡ 96
        → Holds n (record { pairs = pairs; counts = set s.counts (byte_at f 1) (m / 2 - 1); seen = marked_by s.seen (writes_in f); last = rank_of f }) (after f r)
    unfolding after with_line
    held_writes m z c d = rw q (record {
      rows = H.rows;
      lists = length-set g.writes (byte_at f 1) _ ∙ H.lists;
      graph = record {
        sources = λ t i a b. kept (t * 16 + i) _ (inl (omega arith)) (H.graph.sources t i a b);
        orders = orders_write;
        counts = counts_write m z c;
      };
      seen = seen_line (writes_in f) s.seen g.writes (byte_at f 1) d H.seen
          (λ e k. event_is 6 e (all_at (is_event 6) (writes_in f) e (events_six n few (writes_in f) own.2) k)) there
          (H.later (byte_at f 1) (omega (arith, in_time n few f s r H pass, place)));
      last = λ h a b. rank_less n few f h (line_known n few f s r H pass) (line_range n few f s r H pass) a b;
      later = λ l h. list_other l (λ e. omega (arith, place)) ∙ H.later l (omega (arith, in_time n few f s r H pass));
    })
