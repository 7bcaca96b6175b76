-- A line's refusal by the table that holds what has been read, way by way.
use Prim.Native.Nat.{ℕ, ◌<◌, ◌≤◌}
use mathlib.Core.Path.{◌≡◌, sym, ap, ◌∙◌}
use mathlib.Core.Bool.{Bool, true, false, cond, not}
use borrow.Author.Tests.{lt-ltb, le-ltb}
use lib.Dec.{ltb}
use Rattle.spec_schedules.specs.Order.{less}
use Rattle.graph_reader.specs.declared.table.Table.{Table}
use Rattle.spec_judge.specs.Reading.{Frame, is_read, writes_in, known, in_range, key, Reading, all_new, in_order, refusal}
use Rattle.graph_reader.specs.Held.{rank_of, Holds}

module _ (n : ℕ) (f : Frame) (s : Table) (r : Reading) (H : Holds n s r) where
  -- 31
  pub refused_kind : known f ≡ false → refusal n r f ≡ 31
  unfolding refusal
  refused_kind k = rw k

  module _ (k : known f ≡ true) where
    -- 32
    pub refused_range : in_range n f ≡ false → refusal n r f ≡ 32
    unfolding refusal
    refused_range g = rw (k, g)

    module _ (g : in_range n f ≡ true) (m : ℕ) (e : m ≡ rank_of f) where
      -- 33: too early
      pub refused_early : m ≤ s.last → refusal n r f ≡ 33
      unfolding refusal in_order
      refused_early h = rw (k, g, H.last f k g ∙ ap (ltb s.last) (sym e) ∙ le-ltb s.last m h)

      module _ (h : s.last < m) where
        in_time : less r.last (key f) ≡ true
        in_time = H.last f k g ∙ ap (ltb s.last) (sym e) ∙ lt-ltb s.last m h

        -- a `40` line passes
        pub passes_read : is_read f ≡ true → refusal n r f ≡ 0
        unfolding refusal in_order
        passes_read q = rw (k, g, in_time, q)

        -- a `41` line passes if its writes are new
        pub by_writes : is_read f ≡ false → (b : Bool) → b ≡ all_new r.graph.writes (writes_in f) → refusal n r f ≡ cond (not b) 33 0
        unfolding refusal in_order
        by_writes q b w = rw (k, g, in_time, q, w)
