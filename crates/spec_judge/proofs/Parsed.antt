-- Every graph that a text gives is readable: what 30 to 33 leave is canonical.
use Prim.Native.Nat.{ℕ, zero, suc, ◌+◌, ◌<◌, ◌≤◌}
use mathlib.Core.Path.{◌≡◌, refl, sym, ap, subst, ◌∙◌}
use mathlib.Core.Logic.{◌≢◌, ◌⊎◌, inl, inr, ⊎_elim}
use mathlib.Core.Bool.{Bool, true, false, cond, not, false≢true}
use mathlib.Core.List.Memᴰ
use mathlib.Core.List.{List, [], ◌∷◌, reverse, Memᴰ}
use native.Mathlib.Omega.{arith}
use native.Mathlib.Decide.{ℕ_discrete}
use borrow.Author.Tests.{leb-true, eqb-true, ltb-true}
use lib.Dec.{eqb, leb}
use lib.ListN.{length, get_or, set, replicate, length-set, length-replicate}
use lib.Seq.{get_or-set_same, get_or-set_other}
use Rattle.spec_file.specs.TextLines.{TextLine, split}
use Rattle.spec_file.specs.Meaning.{Meaning, remarked, framed, broken, meaning}
use Rattle.spec_file.specs.Program.{Program}
use Rattle.spec_file.proofs.DigitValues.{both}
use Rattle.spec_schedules.specs.Lists.{all}
use Rattle.spec_schedules.specs.Order.{less}
use Rattle.spec_schedules.proofs.Lists.{all_at}
use Rattle.spec_schedules.proofs.Order.{AtMost, less_front, less_transitive}
use Rattle.spec_sc.specs.State.{Event}
use Rattle.spec_sc.specs.Graph.{Graph}
use Rattle.spec_judge.specs.Consistent.{row_of, order_of, Descends, Canonical}
use Rattle.spec_schedules.specs.Lists.{Distinct}
use Rattle.spec_judge.specs.Reading.{Frame, byte_at, is_read, writes_in, known, is_event, is_source, in_range, key, Reading, all_new, in_order, refusal, with_line, after, fresh, parsed, refused_at, read_lines, read_graph}
use Rattle.spec_judge.proofs.Readable.{Named, Source, Readable, readable_canonical, event_is, source_is, new_is, reverse_in, distinct_reverse}

-- a line that passes, passes each test
passes : (a b c : Bool) → ◌≡◌ {A = ℕ} (cond (not a) 31 (cond (not b) 32 (cond (not c) 33 0))) 0 → (a ≡ true) × (b ≡ true) × (c ≡ true)
passes true true true e = (refl, refl, refl)
passes true true false e = absurd (omega arith)
passes true false c e = absurd (omega arith)
passes false b c e = absurd (omega arith)

pub passed : (n : ℕ) (r : Reading) (f : Frame) → refusal n r f ≡ 0 → (known f ≡ true) × (in_range n f ≡ true) × (in_order r f ≡ true)
unfolding refusal
passed n r f e = passes (known f) (in_range n f) (in_order r f) e

-- a property of each row of rows of which one is set
set_cases : {A : Type 0} (P : ℕ → List A → Type 0) (rows : List (List A)) (i : ℕ) (w : List A) → i < length rows → P i w →
    ((k : ℕ) → k ≢ i → P k (get_or rows k [])) → (k : ℕ) → P k (get_or (set rows i w) k [])
set_cases P rows i w h own other k = go (ℕ_discrete k i)
  where
    go : Dec (k ≡ i) → P k (get_or (set rows i w) k [])
    go (yes q) = rw q (subst (P i) (sym (get_or-set_same rows i w [] h)) own)
    go (no q) = subst (P k) (sym (get_or-set_other rows i k w [] q)) (other k q)

-- who stands in such a row
set_in : {A : Type 0} (rows : List (List A)) (i : ℕ) (w : List A) → i < length rows → (x : A) (k : ℕ) → Memᴰ x (get_or (set rows i w) k []) →
    ((k ≡ i) × Memᴰ x w) ⊎ ((k ≢ i) × Memᴰ x (get_or rows k []))
set_in {A} rows i w h x = set_cases (λ k v. Memᴰ x v → ((k ≡ i) × Memᴰ x w) ⊎ ((k ≢ i) × Memᴰ x (get_or rows k []))) rows i w h
    (λ m. inl (refl, m)) (λ k q m. inr (q, m))

pub empty_row : {A : Type 0} (n k : ℕ) → ◌≡◌ {A = List A} (get_or (replicate n []) k []) []
empty_row zero k = refl
empty_row (suc n) zero = refl
empty_row (suc n) (suc k) = empty_row n k

-- keys
at_most_less : (a b c : List ℕ) → AtMost a b → less b c ≡ true → less a c ≡ true
at_most_less a b c (inl q) h = subst (λ (x : List ℕ). less x c ≡ true) (sym q) h
at_most_less a b c (inr k) h = less_transitive a b c k h

pub less_last : (i j : ℕ) → less (i ∷ []) (j ∷ []) ≡ true → i < j
unfolding less
less_last i j h = go (eqb i j) refl
  where
    go : (b : Bool) → eqb i j ≡ b → i < j
    go true q = absurd (false≢true (rw (q, less) at h))
    go false q = ltb-true i j (rw (q, less) at h)

module _ (n : ℕ) where
  -- the graph so far is readable, and no line read so far comes after the last
  pub record SoFar (r : Reading) : Type 0 where
    pub readable : Readable n r.graph
    pub keys : (t : ℕ) (x : ℕ × Event) → Memᴰ x (row_of r.graph t) → AtMost (0x40 ∷ t ∷ x.0 ∷ []) r.last

  so_far_fresh : SoFar (fresh n)
  unfolding fresh
  so_far_fresh = record {
    readable = record {
      rows = length-replicate n [];
      lists = refl;
      ordered = λ t. subst Descends (sym (empty_row n t)) tt;
      once = λ l. subst Distinct (sym (empty_row 8 l)) tt;
      apart = λ l k e m. absurd (none_in 8 l e m);
      reads = λ t r m. absurd (none_in n t r m);
      writes = λ l e m. absurd (none_in 8 l e m);
    };
    keys = λ t x m. absurd (none_in n t x m);
  }
    where
      none_in : {A : Type 0} (n k : ℕ) (x : A) → Memᴰ x (get_or (replicate n []) k []) → ⊥
      none_in n k x m = Memᴰ.not-nil (subst (Memᴰ x) (empty_row n k) m)

  module _ (r : Reading) (F : SoFar r) where
    abbrev g : Graph
    g = r.graph

    abbrev R : Readable n r.graph
    R = F.readable

    -- a `40` line more
    so_far_read : (t i : ℕ) (s : Event) → Named n (t, i) → Source n s → less r.last (0x40 ∷ t ∷ i ∷ []) ≡ true →
        SoFar (record { last = 0x40 ∷ t ∷ i ∷ []; graph = record { reads = set g.reads t ((i, s) ∷ row_of g t); writes = g.writes } })
    so_far_read t i s e c h = record {
      readable = record {
        rows = length-set g.reads t _ ∙ R.rows;
        lists = R.lists;
        ordered = set_cases (λ u w. Descends w) g.reads t ((i, s) ∷ row_of g t) there (below, R.ordered t) (λ u q. R.ordered u);
        once = R.once;
        apart = R.apart;
        reads = λ u x m. ⊎_elim
            (λ (k : (u ≡ t) × Memᴰ x ((i, s) ∷ row_of g t)). ⊎_elim
            (λ (q : x ≡ (i, s)). subst (λ (y : ℕ × Event). (y.0 ≤ 15) × Source n y.1) (sym q) (e.1, c))
            (λ (j : Memᴰ x (row_of g t)). R.reads t x j) (Memᴰ.cases_cons k.1))
            (λ (k : (u ≢ t) × Memᴰ x (row_of g u)). R.reads u x k.1) (set_in g.reads t ((i, s) ∷ row_of g t) there x u m);
        writes = R.writes;
      };
      keys = λ u x m. ⊎_elim
          (λ (k : (u ≡ t) × Memᴰ x ((i, s) ∷ row_of g t)). subst (λ (v : ℕ). AtMost (0x40 ∷ v ∷ x.0 ∷ []) (0x40 ∷ t ∷ i ∷ [])) (sym k.0)
          (⊎_elim (λ (q : x ≡ (i, s)). inl (ap (λ (y : ℕ × Event). 0x40 ∷ t ∷ y.0 ∷ []) q)) (λ (j : Memᴰ x (row_of g t)). inr (later t x j)) (Memᴰ.cases_cons k.1)))
          (λ (k : (u ≢ t) × Memᴰ x (row_of g u)). inr (later u x k.1)) (set_in g.reads t ((i, s) ∷ row_of g t) there x u m);
    }
      where
        there : t < length g.reads
        there = omega (arith, R.rows, e.0)

        later : (u : ℕ) (x : ℕ × Event) → Memᴰ x (row_of g u) → less (0x40 ∷ u ∷ x.0 ∷ []) (0x40 ∷ t ∷ i ∷ []) ≡ true
        later u x m = at_most_less (0x40 ∷ u ∷ x.0 ∷ []) r.last (0x40 ∷ t ∷ i ∷ []) (F.keys u x m) h

        below : (x : ℕ × Event) → Memᴰ x (row_of g t) → x.0 < i
        below x m = less_last x.0 i (sym (less_front 0x40 (t ∷ x.0 ∷ []) (t ∷ i ∷ []) ∙ less_front t (x.0 ∷ []) (i ∷ [])) ∙ later t x m)

    -- an event of a line of l, or of an earlier one
    abbrev In : ℕ → List Event → ℕ → Event → Type 0
    In l es u x = ((u ≡ l) × Memᴰ x (reverse es)) ⊎ ((u ≢ l) × Memᴰ x (order_of g u))

    -- a `41` line more
    so_far_write : (k : List ℕ) (l : ℕ) (es : List Event) → l ≤ 7 → ((e : Event) → Memᴰ e es → Named n e) → all_new g.writes es ≡ true → less r.last k ≡ true →
        SoFar (record { last = k; graph = record { reads = g.reads; writes = set g.writes l (reverse es) } })
    so_far_write k l es c e a h = record {
      readable = record {
        rows = R.rows;
        lists = length-set g.writes l _ ∙ R.lists;
        ordered = R.ordered;
        once = set_cases (λ u w. Distinct w) g.writes l (reverse es) there (distinct_reverse es new.0) (λ u q. R.once u);
        apart = λ u v x m j. one_list u v x (set_in g.writes l (reverse es) there x u m) (set_in g.writes l (reverse es) there x v j);
        reads = R.reads;
        writes = λ u x m. ⊎_elim (λ (j : (u ≡ l) × Memᴰ x (reverse es)). e x (reverse_in es x j.1))
            (λ (j : (u ≢ l) × Memᴰ x (order_of g u)). R.writes u x j.1) (set_in g.writes l (reverse es) there x u m);
      };
      keys = λ t x m. inr (at_most_less (0x40 ∷ t ∷ x.0 ∷ []) r.last k (F.keys t x m) h);
    }
      where
        there : l < length g.writes
        there = omega (arith, R.lists)

        new : Distinct es × ((x : Event) → Memᴰ x es → (u : ℕ) → Memᴰ x (get_or g.writes u []) → ⊥)
        new = new_is g.writes es a

        one_list : (u v : ℕ) (x : Event) → In l es u x → In l es v x → u ≡ v
        one_list u v x (inl a) (inl b) = a.0 ∙ sym b.0
        one_list u v x (inl a) (inr b) = absurd (new.1 x (reverse_in es x a.1) v b.1)
        one_list u v x (inr a) (inl b) = absurd (new.1 x (reverse_in es x b.1) u a.1)
        one_list u v x (inr a) (inr b) = R.apart u v x a.1 b.1

    so_far_after : (f : Frame) → refusal n r f ≡ 0 → SoFar (after f r)
    unfolding after with_line key in_range in_order is_read
    so_far_after f q = go (eqb (byte_at f 0) 0x40) refl (passed n r f q)
      where
        go : (b : Bool) → eqb (byte_at f 0) 0x40 ≡ b → (known f ≡ true) × (in_range n f ≡ true) × (in_order r f ≡ true) → SoFar (after f r)
        go true e h =
            let a = both (is_event n (byte_at f 1, byte_at f 2)) (is_source n (byte_at f 3, byte_at f 4)) (rw e at h.1) in
            let b = both (less r.last (byte_at f 0 ∷ byte_at f 1 ∷ byte_at f 2 ∷ [])) true (rw e at h.2) in
            let k = eqb-true (byte_at f 0) 0x40 e in
            rw e (rw k (so_far_read (byte_at f 1) (byte_at f 2) (byte_at f 3, byte_at f 4) (event_is n (byte_at f 1, byte_at f 2) a.0)
            (source_is n (byte_at f 3, byte_at f 4) a.1) (rw k at b.0)))
        go false e h =
            let a = both (leb (byte_at f 1) 7) (all (is_event n) (writes_in f)) (rw e at h.1) in
            let b = both (less r.last (byte_at f 0 ∷ byte_at f 1 ∷ [])) (all_new g.writes (writes_in f)) (rw e at h.2) in
            rw e (so_far_write (byte_at f 0 ∷ byte_at f 1 ∷ []) (byte_at f 1) (writes_in f) (leb-true (byte_at f 1) 7 a.0)
            (λ x m. event_is n x (all_at (is_event n) (writes_in f) x a.1 m)) b.1 b.0)

  so_far_lines : (ls : List TextLine) (k : ℕ) (r : Reading) (g : Graph) → SoFar r → read_lines n k ls r ≡ parsed g → Readable n g
  unfolding read_lines
  so_far_lines [] k r g F e = let i : r.graph ≡ g = cc in subst (Readable n) i F.readable
  so_far_lines (l ∷ ls) k r g F e = go (meaning l) refl (λ s h. so_far_lines ls (k + 1) s g h)
    where
      go : (m : Meaning) → meaning l ≡ m → ((s : Reading) → SoFar s → read_lines n (k + 1) ls s ≡ parsed g → Readable n g) → Readable n g
      go broken q ih = let i : refused_at 30 k ≡ parsed g = rw (q, read_lines) at e in absurd (let z : ◌≡◌ {A = ℕ} 0 1 = cc in omega arith)
      go remarked q ih = ih r F (rw (q, read_lines) at e)
      go (framed f) q ih = test (eqb (refusal n r f) 0) refl
        where
          i : cond (eqb (refusal n r f) 0) (read_lines n (k + 1) ls (after f r)) (refused_at (refusal n r f) k) ≡ parsed g
          i = rw (q, read_lines) at e

          test : (b : Bool) → eqb (refusal n r f) 0 ≡ b → Readable n g
          test true h = ih (after f r) (so_far_after r F f (eqb-true (refusal n r f) 0 h)) (rw h at i)
          test false h = let j : refused_at (refusal n r f) k ≡ parsed g = rw h at i in absurd (let z : ◌≡◌ {A = ℕ} 0 1 = cc in omega arith)

  -- EVERY GRAPH READ IS READABLE
  pub read_readable : (text : List ℕ) (g : Graph) → read_graph n text ≡ parsed g → Readable n g
  unfolding read_graph
  read_readable text g e = so_far_lines (split text) 1 (fresh n) g so_far_fresh e

-- a text's graph is canonical: `Consistent` asks nothing more of it by that
pub read_canonical : (p : Program) (text : List ℕ) (g : Graph) → read_graph (length p.threads) text ≡ parsed g → Canonical p g
read_canonical p text g e = readable_canonical p g (read_readable (length p.threads) text g e)
