-- A readable graph's text is read back as that graph.
use Prim.Native.Nat.{ℕ, ◌≤◌}
use mathlib.Core.Path.{◌≡◌, refl, sym, ap, ◌∙◌}
use mathlib.Core.Logic.{inl, inr}
use mathlib.Core.Bool.{true}
use mathlib.Core.List.Memᴰ
use mathlib.Core.List.{[], ◌∷◌, ◌++◌}
use native.Mathlib.Omega.{arith}
use lib.ListN.{replicate}
use Rattle.spec_sc.specs.State.{Event, initial_write}
use Rattle.spec_sc.specs.Graph.{Graph}
use Rattle.spec_sc.specs.Text.{read_frames, write_frames, frames, graph_text}
use Rattle.spec_sc.proofs.Text.{EventByte, Printable, frames_bytes}
use Rattle.spec_schedules.specs.Order.{less}
use Rattle.spec_judge.specs.Reading.{Reading, fresh, parsed, read_graph}
use Rattle.spec_judge.proofs.Readable.{Named, Source, Readable}
use Rattle.spec_judge.proofs.FramesRead.{Passing, after_all, after_append, passing_append, read_frames_lem}
use Rattle.spec_judge.proofs.RowsRead.{precedes_nothing, rows_read}
use Rattle.spec_judge.proofs.ListsRead.{lists_read}

module _ (n : ℕ) (six : n ≤ 6) (g : Graph) (R : Readable n g) where
  named_byte : (e : Event) → Named n e → EventByte e
  named_byte e h = (omega (arith, h.0), omega (arith, h.1))

  source_byte : (e : Event) → Source n e → EventByte e
  unfolding initial_write
  source_byte e (inl q) = (omega (arith, ap (λ (x : Event). x.0) q), omega (arith, ap (λ (x : Event). x.1) q))
  source_byte e (inr h) = named_byte e h

  printable : Printable n g
  printable = record {
    rows = R.rows;
    eight = R.lists;
    few = omega arith;
    reads = λ t r m. let k = R.reads t r m in (omega (arith, k.0), source_byte r.1 k.1);
    writes = λ l e m. named_byte e (R.writes l e m);
  }

  rows_part : Passing n (fresh n) (read_frames 0 g.reads) × ((after_all (read_frames 0 g.reads) (fresh n)).graph ≡ record { reads = g.reads; writes = replicate 8 [] }) ×
      ((l : ℕ) → less (after_all (read_frames 0 g.reads) (fresh n)).last (0x41 ∷ l ∷ []) ≡ true)
  unfolding fresh
  rows_part = rows_read n (replicate 8 []) g.reads [] 0 (fresh n) refl (omega (arith, R.rows))
      (ap (λ (k : ℕ). let h : Graph = record { reads = replicate k []; writes = replicate 8 [] } in h) (sym R.rows)) precedes_nothing R.ordered R.reads

  lists_part : Passing n (after_all (read_frames 0 g.reads) (fresh n)) (write_frames 0 g.writes) × ((after_all (write_frames 0 g.writes) (after_all (read_frames 0 g.reads) (fresh n))).graph ≡ g)
  lists_part = lists_read n g.reads g.writes [] 0 (after_all (read_frames 0 g.reads) (fresh n)) refl (omega (arith, R.lists))
      (rows_part.1 ∙ ap (λ (k : ℕ). let h : Graph = record { reads = g.reads; writes = replicate k [] } in h) (sym R.lists)) (λ k h. rows_part.2 k)
      (record { once = R.once; named = R.writes; apart = R.apart; new = λ k e m j i. Memᴰ.not-nil i })

  -- TEXT TO GRAPH UNDOES GRAPH TO TEXT
  pub text_read : read_graph n (graph_text g) ≡ parsed g
  unfolding read_graph graph_text frames
  text_read = read_frames_lem n (read_frames 0 g.reads ++ write_frames 0 g.writes) 1 (fresh n) (frames_bytes n g printable)
      (passing_append n (read_frames 0 g.reads) (write_frames 0 g.writes) (fresh n) rows_part.0 lists_part.0)
      ∙ ap (λ (r : Reading). parsed r.graph) (after_append (read_frames 0 g.reads) (write_frames 0 g.writes) (fresh n)) ∙ ap parsed lists_part.1
