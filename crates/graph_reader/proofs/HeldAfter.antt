-- The table holds what has been read: before the first line, and with a line more that passes.
use Prim.Native.Nat.{ℕ, ◌+◌, ◌*◌, ◌<◌, ◌≤◌}
use mathlib.Core.Path.{◌≡◌, refl, sym, ap, subst, ◌∙◌}
use mathlib.Core.Logic.{◌≢◌}
use mathlib.Core.Bool.{Bool, true, false, cond}
use mathlib.Core.List.{List, [], ◌∷◌}
use native.Mathlib.Omega.{arith}
use native.Mathlib.Decide.{ℕ_discrete}
use borrow.Author.Tests.{eq-eqb, ne_eqb, ltb-true, lt-ltb}
use lib.Dec.{ltb}
use lib.ListN.{length, get_or, set, length-set, length-replicate, get_or-replicate}
use lib.Seq.{get_or-set_same, get_or-set_other}
use Rattle.spec_file.proofs.DigitValues.{both}
use Rattle.spec_schedules.specs.Lists.{any}
use Rattle.spec_schedules.specs.Order.{less}
use Rattle.spec_schedules.proofs.Order.{nil_less}
use Rattle.spec_sc.specs.State.{Event}
use Rattle.spec_sc.specs.Graph.{Graph}
use Rattle.graph_reader.specs.declared.table.Table.{Table}
use Rattle.spec_judge.specs.Consistent.{row_of}
use Rattle.spec_judge.specs.Reading.{Frame, byte_at, is_read, writes_in, known, in_range, key, Reading, written, all_new, in_order, refusal, with_line, after, fresh}
use Rattle.graph_reader.specs.Held.{no_line, line_in, Entry, put, rank_of, Holds, empty_table, read_table}
use Rattle.spec_judge.proofs.Parsed.{passed, empty_row}
use Rattle.spec_judge.proofs.LineRanges.{read_range}
use Rattle.graph_reader.proofs.Ranks.{rank_less}
use Rattle.graph_reader.proofs.Entries.{entry_put, entry_kept, unset}

-- before the first line
pub held_fresh : (n : ℕ) → Holds n empty_table (fresh n)
unfolding fresh line_in no_line written any rank_of key
held_fresh n = record {
  rows = length-replicate n [];
  lists = refl;
  graph = record {
    sources = λ t i a b. rw (empty_row n t) (unset (t * 16 + i) (omega arith));
    orders = λ l k a b. rw (empty_row 8 l) (unset (96 + (l * 24 + k)) (omega arith));
    counts = λ l a. get_or-replicate 8 l 0 0 a ∙ sym (ap length (empty_row 8 l));
  };
  seen = λ t i a b. get_or-replicate 96 (t * 16 + i) false false (omega arith);
  last = λ f k g. first f (is_read f) refl;
  later = λ l h. empty_row 8 l;
}
  where
    first : (f : Frame) (b : Bool) → is_read f ≡ b → less [] (key f) ≡ ltb 0 (rank_of f)
    first f true q = rw q (nil_less (byte_at f 0) (byte_at f 1 ∷ byte_at f 2 ∷ []) ∙ sym (lt-ltb 0 (byte_at f 1 * 16 + byte_at f 2 + 1) (omega arith)))
    first f false q = rw q (nil_less (byte_at f 0) (byte_at f 1 ∷ []) ∙ sym (lt-ltb 0 (byte_at f 1 + 97) (omega arith)))

-- the source of one access, in rows with a `40` line more
module _ (rows : List (List (ℕ × Event))) (t i : ℕ) (s : Event) where
  abbrev more : List (List (ℕ × Event))
  more = set rows t ((i, s) ∷ get_or rows t [])

  source_same : t < length rows → line_in (get_or more t []) i ≡ s
  unfolding line_in
  source_same h = ap (λ (row : List (ℕ × Event)). line_in row i) (get_or-set_same rows t ((i, s) ∷ get_or rows t []) [] h) ∙ rw (eq-eqb i i refl)

  source_thread : (u j : ℕ) → u ≢ t → line_in (get_or more u []) j ≡ line_in (get_or rows u []) j
  source_thread u j n = ap (λ (row : List (ℕ × Event)). line_in row j) (get_or-set_other rows t u ((i, s) ∷ get_or rows t []) [] n)

  source_access : (j : ℕ) → t < length rows → i ≢ j → line_in (get_or more t []) j ≡ line_in (get_or rows t []) j
  unfolding line_in
  source_access j h n = ap (λ (row : List (ℕ × Event)). line_in row j) (get_or-set_same rows t ((i, s) ∷ get_or rows t []) [] h) ∙ rw (ne_eqb i j n)

module _ (n : ℕ) (few : n ≤ 6) (f : Frame) (s : Table) (r : Reading) (H : Holds n s r) (pass : refusal n r f ≡ 0) where
  abbrev g : Graph
  g = r.graph

  pub line_known : known f ≡ true
  line_known = (passed n r f pass).0

  pub line_range : in_range n f ≡ true
  line_range = (passed n r f pass).1

  pub in_time : s.last < rank_of f
  unfolding in_order
  in_time = ltb-true s.last (rank_of f) (sym (H.last f line_known line_range)
      ∙ (both (less r.last (key f)) (cond (is_read f) true (all_new g.writes (writes_in f))) (passed n r f pass).2).0)

  -- a `40` line
  module _ (q : is_read f ≡ true) (size : length s.pairs ≡ 576) where
    sources_read : (u j : ℕ) → u < 6 → j < 16 → Entry (put s.pairs (byte_at f 1 * 16 + byte_at f 2) (byte_at f 3) (byte_at f 4)) (u * 16 + j)
        (line_in (get_or (set g.reads (byte_at f 1) ((byte_at f 2, (byte_at f 3, byte_at f 4)) ∷ row_of g (byte_at f 1))) u []) j)
    sources_read u j a b = go (ℕ_discrete u (byte_at f 1)) (ℕ_discrete j (byte_at f 2))
      where
        x : (byte_at f 0 ≡ 0x40) × (byte_at f 1 < n) × (byte_at f 2 ≤ 15)
        x = read_range n few f line_known line_range q

        there : byte_at f 1 < length g.reads
        there = omega (arith, H.rows, x.1)

        kept : u * 16 + j ≢ byte_at f 1 * 16 + byte_at f 2 → Entry (put s.pairs (byte_at f 1 * 16 + byte_at f 2) (byte_at f 3) (byte_at f 4)) (u * 16 + j) (line_in (row_of g u) j)
        kept d = entry_kept s.pairs (byte_at f 1 * 16 + byte_at f 2) (byte_at f 3) (byte_at f 4) (u * 16 + j) (line_in (row_of g u) j) d (H.graph.sources u j a b)

        go : Dec (u ≡ byte_at f 1) → Dec (j ≡ byte_at f 2) → Entry (put s.pairs (byte_at f 1 * 16 + byte_at f 2) (byte_at f 3) (byte_at f 4)) (u * 16 + j)
            (line_in (get_or (set g.reads (byte_at f 1) ((byte_at f 2, (byte_at f 3, byte_at f 4)) ∷ row_of g (byte_at f 1))) u []) j)
        go (yes p) (yes w) =
            rw (p, w, source_same g.reads (byte_at f 1) (byte_at f 2) (byte_at f 3, byte_at f 4) there)
            (entry_put s.pairs (byte_at f 1 * 16 + byte_at f 2) (byte_at f 3) (byte_at f 4) (omega (arith, x.1, x.2)))
        go (yes p) (no w) = subst (Entry (put s.pairs (byte_at f 1 * 16 + byte_at f 2) (byte_at f 3) (byte_at f 4)) (u * 16 + j))
            (sym (ap (λ (v : ℕ). line_in (get_or (set g.reads (byte_at f 1) ((byte_at f 2, (byte_at f 3, byte_at f 4)) ∷ row_of g (byte_at f 1))) v []) j) p
            ∙ source_access g.reads (byte_at f 1) (byte_at f 2) (byte_at f 3, byte_at f 4) j there (λ e. w (sym e)) ∙ ap (λ (v : ℕ). line_in (row_of g v) j) (sym p)))
            (kept (λ e. w (omega arith)))
        go (no p) w = subst (Entry (put s.pairs (byte_at f 1 * 16 + byte_at f 2) (byte_at f 3) (byte_at f 4)) (u * 16 + j))
            (sym (source_thread g.reads (byte_at f 1) (byte_at f 2) (byte_at f 3, byte_at f 4) u j p)) (kept (λ e. p (omega (arith, x.2))))

    pub held_read : Holds n (read_table f s) (after f r)
    unfolding after with_line
    held_read =
        let x = read_range n few f line_known line_range q in
        rw q (record {
          rows = length-set g.reads (byte_at f 1) _ ∙ H.rows;
          lists = H.lists;
          graph = record {
            sources = sources_read;
            orders = λ l j a b. entry_kept s.pairs (byte_at f 1 * 16 + byte_at f 2) (byte_at f 3) (byte_at f 4) (96 + (l * 24 + j)) _ (λ e. omega (arith, x.1, x.2)) (H.graph.orders l j a b);
            counts = H.graph.counts;
          };
          seen = H.seen;
          last = λ h a b. rank_less n few f h line_known line_range a b;
          later = λ l h. H.later l (omega (arith, in_time));
        })
