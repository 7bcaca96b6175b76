-- The `40` lines of a graph pass, row by row, and give its rows back.
use Prim.Native.Nat.{ℕ, suc, ◌+◌, ◌<◌, ◌≤◌}
use mathlib.Core.Path.{◌≡◌, refl, sym, ap, subst, ◌∙◌}
use mathlib.Core.Bool.{true}
use mathlib.Core.List.{List, [], ◌∷◌, ◌++◌, append_assoc, map, reverse, reverse-cons, Memᴰ}
use native.Mathlib.Omega.{arith}
use lib.ListN.{length, get_or, set, replicate, length-append}
use lib.Seq.{set_at, get_or_at}
use Rattle.spec_schedules.specs.Order.{less}
use Rattle.spec_schedules.proofs.Order.{less_front, less_heads}
use Rattle.spec_sc.specs.State.{Event}
use Rattle.spec_sc.specs.Graph.{Graph}
use Rattle.spec_sc.proofs.GraphTerms.{graph_with}
use Rattle.spec_sc.specs.Text.{read_frame, read_frames}
use Rattle.spec_judge.specs.Consistent.{Descends}
use Rattle.spec_judge.specs.Reading.{Frame, is_read, known, in_range, key, in_order, Reading, refusal, with_line, after}
use Rattle.spec_judge.proofs.Readable.{Named, Source, is_event_lem, is_source_lem}
use Rattle.spec_judge.proofs.FramesRead.{Passing, after_all, after_append, passing_append}

-- the key comes before those of all threads from t on, and before those of all locations
pub record Precedes (t : ℕ) (k : List ℕ) : Type 0 where
  pub threads : (u i : ℕ) → t ≤ u → less k (0x40 ∷ u ∷ i ∷ []) ≡ true
  pub locations : (l : ℕ) → less k (0x41 ∷ l ∷ []) ≡ true

pub precedes_nothing : Precedes 0 []
unfolding less
precedes_nothing = record { threads = λ u i h. refl; locations = λ l. refl }

precedes_later : (t : ℕ) (k : List ℕ) → Precedes t k → Precedes (suc t) k
precedes_later t k U = record { threads = λ u i h. U.threads u i (omega arith); locations = U.locations }

precedes_read : (t i : ℕ) → Precedes (suc t) (0x40 ∷ t ∷ i ∷ [])
precedes_read t i = record {
  threads = λ u j h. less_front 0x40 (t ∷ i ∷ []) (u ∷ j ∷ []) ∙ less_heads t u (i ∷ []) (j ∷ []) (omega arith);
  locations = λ l. less_heads 0x40 0x41 (t ∷ i ∷ []) (l ∷ []) (omega arith);
}

module _ (n : ℕ) (W : List (List Event)) where
  -- a `40` line that is in range and in order passes
  read_passes : (t : ℕ) (x : ℕ × Event) (r : Reading) → Named n (t, x.0) → Source n x.1 → less r.last (0x40 ∷ t ∷ x.0 ∷ []) ≡ true → refusal n r (read_frame t x) ≡ 0
  unfolding refusal known in_range in_order key is_read read_frame
  read_passes t x r e s h = rw (is_event_lem n (t, x.0) e, is_source_lem n x.1 s, h)

  module _ (pre : List (List (ℕ × Event))) (t : ℕ) (here : length pre ≡ t) (post : List (List (ℕ × Event))) where
    -- behind the lines of thread t, with this row
    pub record Row (rs : List (ℕ × Event)) (r : Reading) : Type 0 where
      pub graph : r.graph ≡ graph_with (pre ++ (rs ∷ post)) W
      pub next : (i : ℕ) → ((y : ℕ × Event) → Memᴰ y rs → y.0 < i) → less r.last (0x40 ∷ t ∷ i ∷ []) ≡ true
      pub precedes : Precedes (suc t) r.last

    row_line : (x : ℕ × Event) (rs : List (ℕ × Event)) (r : Reading) → Row rs r → Row (x ∷ rs) (after (read_frame t x) r)
    unfolding after with_line key is_read read_frame
    row_line x rs r R = record {
      graph = ap (λ (g : Graph). graph_with (set g.reads t (x ∷ get_or g.reads t [])) g.writes) R.graph
          ∙ ap (λ (w : List (ℕ × Event)). graph_with (set (pre ++ (rs ∷ post)) t (x ∷ w)) W) (get_or_at pre rs post [] t here)
          ∙ ap (λ (l : List (List (ℕ × Event))). graph_with l W) (set_at pre rs post (x ∷ rs) t here);
      next = λ i h. less_front 0x40 (t ∷ x.0 ∷ []) (t ∷ i ∷ []) ∙ less_front t (x.0 ∷ []) (i ∷ []) ∙ less_heads x.0 i [] [] (h x (Memᴰ.head refl));
      precedes = precedes_read t x.0;
    }

    row_read : (rs : List (ℕ × Event)) (r : Reading) → Descends rs → t < n → ((x : ℕ × Event) → Memᴰ x rs → (x.0 ≤ 15) × Source n x.1) → Row [] r →
        Passing n r (map (read_frame t) (reverse rs)) × Row rs (after_all (map (read_frame t) (reverse rs)) r)
    unfolding after_all
    row_read [] r d h c R = (tt, R)
    row_read (x ∷ rs) r d h c R =
        let fs = map (read_frame t) (reverse rs) in
        let q : map (read_frame t) (reverse (x ∷ rs)) ≡ fs ++ (read_frame t x ∷ []) = ap (map (read_frame t)) (reverse-cons x rs) ∙ map_append (reverse rs) in
        let ih = row_read rs r d.1 h (λ y m. c y (Memᴰ.tail m)) R in
        let k = c x (Memᴰ.head refl) in
        let p = read_passes t x (after_all fs r) (h, k.0) k.1 (ih.1.next x.0 d.0) in
        rw q (
          passing_append n fs (read_frame t x ∷ []) r ih.0 (p, tt),
          subst (Row (x ∷ rs)) (sym (after_append fs (read_frame t x ∷ []) r))
              (row_line x rs (after_all fs r) ih.1),
        )
      where
        map_append : (l : List (ℕ × Event)) → map (read_frame t) (l ++ (x ∷ [])) ≡ map (read_frame t) l ++ (read_frame t x ∷ [])
        map_append [] = refl
        map_append (y ∷ l) = ap {B = List Frame} (λ fs. read_frame t y ∷ fs) (map_append l)

  -- behind the lines of all threads
  pub rows_read : (rows pre : List (List (ℕ × Event))) (t : ℕ) (r : Reading) → length pre ≡ t → t + length rows ≤ n →
      r.graph ≡ graph_with (pre ++ replicate (length rows) []) W → Precedes t r.last →
      ((k : ℕ) → Descends (get_or rows k [])) → ((k : ℕ) (x : ℕ × Event) → Memᴰ x (get_or rows k []) → (x.0 ≤ 15) × Source n x.1) →
      Passing n r (read_frames t rows) × ((after_all (read_frames t rows) r).graph ≡ graph_with (pre ++ rows) W) × ((l : ℕ) → less
      (after_all (read_frames t rows) r).last (0x41 ∷ l ∷ []) ≡ true)
  unfolding after_all read_frames
  rows_read [] pre t r here h g u d c = (tt, g, u.locations)
  rows_read (rs ∷ rows) pre t r here h g u d c =
      let fs = map (read_frame t) (reverse rs) in
      let R : Row pre t here (replicate (length rows) []) [] r = record { graph = g; next = λ i k. u.threads t i (omega arith); precedes = precedes_later t r.last u } in
      let a = row_read pre t here (replicate (length rows) []) rs r (d 0) (omega arith) (c 0) R in
      let ih = rows_read rows (pre ++ (rs ∷ [])) (suc t) (after_all fs r) (length-append pre (rs ∷ []) ∙ omega arith) (omega arith)
      (a.1.graph ∙ ap (λ (l : List (List (ℕ × Event))). graph_with l W) (sym (append_assoc pre (rs ∷ []) (replicate (length rows) []))))
      a.1.precedes (λ k. d (suc k)) (λ k. c (suc k)) in
      let q = after_append fs (read_frames (suc t) rows) r in (
        passing_append n fs (read_frames (suc t) rows) r a.0 ih.0,
        ap (λ (s : Reading). s.graph) q ∙ ih.1 ∙ ap (λ (l : List (List (ℕ × Event))). graph_with l W) (append_assoc pre (rs ∷ []) rows),
        λ l. ap (λ (s : Reading). less s.last (0x41 ∷ l ∷ [])) q ∙ ih.2 l,
      )
