-- Two full schedules with one graph, of which the one prefers y to z and the other z to y: the two threads do the same to the end, and write
-- nothing. Each access of the one would come before the other's in both orders, at one location; so neither writes, and both read the same.
use Prim.Native.Nat.{ℕ, zero, suc, ◌<◌, ◌≤◌}
use mathlib.Core.Path.{◌≡◌, refl, sym, ap, ap₂, subst, ◌∙◌}
use mathlib.Core.Logic.{◌≢◌, Ne-symm}
use mathlib.Core.Bool.{Bool, true, false, true≢false}
use mathlib.Core.List.{[], ◌∷◌, ◌++◌, append_assoc, append-nil, Memᴰ}
use native.Mathlib.Omega.{arith}
use native.Mathlib.Decide.{ℕ_discrete, dec_lt}
use lib.ListN.{length}
use Rattle.spec_schedules.specs.Order.{Schedule}
use Rattle.spec_schedules.specs.System.{run, Allowed, FullFrom}
use Rattle.spec_schedules.proofs.Runs.{run_append, run_snoc, full_split, full_allowed}
use Rattle.spec_sc.specs.Local.{place_of, puts}
use Rattle.spec_sc.specs.State.{Thread, Cell, State, thread_of, cell_of, place, advanced, step, enabled, SC}
use Rattle.spec_sc.specs.Graph.{graph_of}
use Rattle.spec_sc.specs.Actions.{given, writes}
use Rattle.spec_sc.proofs.Steps.{enabled_range, enabled_other, thread_own, thread_other}
use Rattle.spec_sc.proofs.Change.{done_own}
use Rattle.spec_sc.proofs.Regular.{Regular, regular_run}
use Rattle.spec_sc.proofs.Histories.{done_run}
use Rattle.spec_sc.proofs.Rows.{same_writes}
use Rattle.spec_sc.proofs.Reading.{first_step_of}
use Rattle.spec_sc.proofs.Determined.{Meeting, determined}
use Rattle.spec_sc.proofs.SameGraph.{same_graph_end}
use Rattle.theory_sc.proofs.Counting.{count, waiting, taken_at, parts, by_count, one_occurrence, as_many, wrote_nothing}
use Rattle.theory_sc.proofs.GoesFirst.{Quiet, Never, Agree, agree_sym, no_fewer, one_more, untouched, goes_first, goes_on}

-- a thread that may not step does not move any more
ended_stays : (r : Schedule) (ρ : State) (a : ℕ) → Allowed SC ρ r → enabled ρ a ≡ false → thread_of (run SC ρ r) a ≡ thread_of ρ a
unfolding run
ended_stays [] ρ a f e = refl
ended_stays (t ∷ r) ρ a f e = go (ℕ_discrete a t) (λ k. ended_stays r (step ρ t) a f.1 k)
  where
    go : Dec (a ≡ t) → (enabled (step ρ t) a ≡ false → thread_of (run SC (step ρ t) r) a ≡ thread_of (step ρ t) a) → thread_of (run SC (step ρ t) r) a ≡ thread_of ρ a
    go (yes q) ih = absurd (true≢false (sym f.0 ∙ ap (enabled ρ) (sym q) ∙ e))
    go (no q) ih = ih (enabled_other ρ t a q ∙ e) ∙ thread_other ρ t a q

-- where the one schedule comes, the other's thread comes too
module _ (σ : State) (reg : Regular σ) (v w : Schedule) (fv : FullFrom SC σ v) (fw : FullFrom SC σ w) (same : graph_of (run SC σ v) ≡ graph_of (run SC σ w)) where
  pub comes_too : (u r : Schedule) → w ≡ u ++ r → (a : ℕ) → (p : Schedule) × (q : Schedule) × (v ≡ p ++ q) × (thread_of (run SC σ p) a ≡ thread_of (run SC σ u) a)
  comes_too u r e a = go (enabled (run SC σ u) a) refl
    where
      k : Allowed SC σ u × FullFrom SC (run SC σ u) r
      k = parts σ w fw u r e

      go : (b : Bool) → enabled (run SC σ u) a ≡ b → (p : Schedule) × (q : Schedule) × (v ≡ p ++ q) × (thread_of (run SC σ p) a ≡ thread_of (run SC σ u) a)
      go true m =
          let t = first_step_of r (run SC σ u) a k.1 m in
          let d = determined σ reg v w fv fw same (u ++ t.front) a t.rest (e ∙ ap (λ (z : Schedule). u ++ z) t.split ∙ sym (append_assoc u t.front (a ∷ t.rest))) in
          (d.front, a ∷ d.rest, d.split, d.thread ∙ ap (λ (τ : State). thread_of τ a) (run_append SC σ u t.front) ∙ t.waits)
      go false m = (
        v,
        [],
        sym (append-nil v),
        ap (λ (τ : State). thread_of τ a) (same_graph_end v w σ reg fv fw same ∙ ap (run SC σ) e ∙ run_append SC σ u r) ∙ ended_stays r (run SC σ u) a (full_allowed SC (run SC σ u) r k.1).0 m,
      )

  -- what two threads agree on in v they agree on in w
  pub agree_across : (y z i : ℕ) → Agree σ v y z i → Agree σ w y z i
  agree_across y z i g = record {
    same = λ a b c d e k n h.
        let p = comes_too a b e y in
        let q = comes_too c d k z in
        let cp = ap (λ (x : Thread). x.history.done) p.3 in
        let cq = ap (λ (x : Thread). x.history.done) q.3 in
        sym p.3 ∙ g.same p.0 p.1 q.0 q.1 p.2 q.2 (cp ∙ n ∙ sym cq) (omega (arith, cp, h)) ∙ q.3;
    quiet_first = λ l j m. g.quiet_first l j (subst (Memᴰ (y, j)) (sym (same_writes (run SC σ v) (run SC σ w) same l)) m);
    quiet_second = λ l j m. g.quiet_second l j (subst (Memᴰ (z, j)) (sym (same_writes (run SC σ v) (run SC σ w) same l)) m);
  }

  -- an access finds as many writes in the one as in the other
  pub finds_as_many : (u : Schedule) (b : ℕ) (r : Schedule) (e : w ≡ u ++ (b ∷ r)) (m : Meeting σ reg v w fv fw same u b) → (l : ℕ) → l ≡ place (run SC σ u) b →
      length (cell_of (run SC σ u) l).writes ≡ length (cell_of (run SC σ m.front) l).writes
  finds_as_many u b r e m l here =
      let pw = parts σ w fw u (b ∷ r) e in
      let pv = parts σ v fv m.front (b ∷ m.rest) m.split in
      as_many (run SC σ u) (run SC σ m.front) (regular_run u σ reg pw.0) (regular_run m.front σ reg pv.0) b r m.rest
      (full_allowed SC (run SC σ u) (b ∷ r) pw.1).0 (full_allowed SC (run SC σ m.front) (b ∷ m.rest) pv.1).0 m.thread m.from l here
      (ap (λ (τ : State). (cell_of τ l).writes) (sym (run_append SC σ u (b ∷ r)) ∙ ap (run SC σ) (sym e))
      ∙ sym (same_writes (run SC σ v) (run SC σ w) same l)
      ∙ ap (λ (τ : State). (cell_of τ l).writes) (ap (run SC σ) m.split ∙ run_append SC σ m.front (b ∷ m.rest)))

same_writing : (ρ τ : State) (a b : ℕ) → thread_of ρ a ≡ thread_of τ b → cell_of ρ (place ρ a) ≡ cell_of τ (place τ b) → writes ρ a ≡ writes τ b
unfolding writes
same_writing ρ τ a b h c = ap₂ (λ (x : Thread) (y : Cell). given (puts x.local y.value)) h c

places : (ρ τ : State) (a b : ℕ) → thread_of ρ a ≡ thread_of τ b → place ρ a ≡ place τ b
unfolding place
places ρ τ a b h = ap (λ (x : Thread). place_of x.local) h

module _ (σ : State) (reg : Regular σ) (v w : Schedule) (fv : FullFrom SC σ v) (fw : FullFrom SC σ w) (same : graph_of (run SC σ v) ≡ graph_of (run SC σ w))
    (y z : ℕ) (ne : y ≢ z) (begin : thread_of σ y ≡ thread_of σ z) (first : count σ y ≡ 0) (small_y : y < 6) (small_z : z < 6)
    (prefers-y : Never σ w y z) (prefers-z : Never σ v z y) where
  back : graph_of (run SC σ w) ≡ graph_of (run SC σ v)
  back = sym same

  -- both do their access i: from one state, writing nothing, to one state
  record Still (i : ℕ) : Type 0 where
    a : Schedule
    b : Schedule
    c : Schedule
    d : Schedule
    cut_y : w ≡ a ++ (y ∷ b)
    cut_z : w ≡ c ++ (z ∷ d)
    count_y : count (run SC σ a) y ≡ i
    count_z : count (run SC σ c) z ≡ i
    still_y : writes (run SC σ a) y ≡ false
    still_z : writes (run SC σ c) z ≡ false
    behind : thread_of (step (run SC σ a) y) y ≡ thread_of (step (run SC σ c) z) z

  module _ (i : ℕ) (g : Agree σ w y z i) (u r : Schedule) (cut : w ≡ u ++ (z ∷ r)) (n : count (run SC σ u) z ≡ i) where
    gv : Agree σ v z y i
    gv = agree_sym σ v y z i (agree_across σ reg w v fw fv back y z i g)

    -- in w y goes first
    fst : (a : Schedule) × (b : Schedule) × (u ≡ a ++ (y ∷ b)) × (count (run SC σ a) y ≡ i)
    fst = goes_first σ reg w fw y z ne begin prefers-y i g u r cut n

    abbrev a : Schedule
    a = fst.0

    abbrev b : Schedule
    b = fst.1

    cut_y : w ≡ a ++ (y ∷ (b ++ (z ∷ r)))
    cut_y = cut ∙ ap (λ (k : Schedule). k ++ (z ∷ r)) fst.2 ∙ append_assoc a (y ∷ b) (z ∷ r)

    m : Meeting σ reg v w fv fw same a y
    m = determined σ reg v w fv fw same a y (b ++ (z ∷ r)) cut_y

    -- in v z goes first
    snd : (c : Schedule) × (d : Schedule) × (m.front ≡ c ++ (z ∷ d)) × (count (run SC σ c) z ≡ i)
    snd = goes_first σ reg v fv z y (Ne-symm ne) (sym begin) prefers-z i gv m.front m.rest m.split (ap (λ (h : Thread). h.history.done) m.thread ∙ fst.3)

    abbrev c : Schedule
    c = snd.0

    cut_c : v ≡ c ++ (z ∷ (snd.1 ++ (y ∷ m.rest)))
    cut_c = m.split ∙ ap (λ (k : Schedule). k ++ (y ∷ m.rest)) snd.2 ∙ append_assoc c (z ∷ snd.1) (y ∷ m.rest)

    k : Meeting σ reg v w fv fw same u z
    k = determined σ reg v w fv fw same u z r cut

    there : k.front ≡ c
    there = one_occurrence σ v fv z k.front k.rest c (snd.1 ++ (y ∷ m.rest)) k.split cut_c (ap (λ (h : Thread). h.history.done) k.thread ∙ n ∙ sym snd.3)

    abbrev l : ℕ
    l = place (run SC σ a) y

    alike : thread_of (run SC σ a) y ≡ thread_of (run SC σ u) z
    alike = g.same a (y ∷ (b ++ (z ∷ r))) u (z ∷ r) cut_y cut (fst.3 ∙ sym n) (omega (arith, fst.3))

    l_z : l ≡ place (run SC σ u) z
    l_z = places (run SC σ a) (run SC σ u) y z alike

    reg_a : Regular (run SC σ a)
    reg_a = regular_run a σ reg (parts σ w fw a (y ∷ (b ++ (z ∷ r))) cut_y).0

    allowed_b : Allowed SC (run SC σ a) (y ∷ b)
    allowed_b = (full_split SC (run SC σ a) (y ∷ b) (z ∷ r) (parts σ w fw a (y ∷ (b ++ (z ∷ r))) cut_y).1).0

    to_u : run SC (run SC σ a) (y ∷ b) ≡ run SC σ u
    to_u = sym (run_append SC σ a (y ∷ b)) ∙ ap (run SC σ) (sym fst.2)

    reg_c : Regular (run SC σ c)
    reg_c = regular_run c σ reg (parts σ v fv c (z ∷ (snd.1 ++ (y ∷ m.rest))) cut_c).0

    allowed_d : Allowed SC (run SC σ c) (z ∷ snd.1)
    allowed_d = (full_split SC (run SC σ c) (z ∷ snd.1) (y ∷ m.rest) (parts σ v fv c (z ∷ (snd.1 ++ (y ∷ m.rest))) cut_c).1).0

    to_m : run SC (run SC σ c) (z ∷ snd.1) ≡ run SC σ m.front
    to_m = sym (run_append SC σ c (z ∷ snd.1)) ∙ ap (run SC σ) (sym snd.2)

    -- how many writes each finds
    in_w : length (cell_of (run SC σ a) l).writes ≤ length (cell_of (run SC σ u) l).writes
    in_w = subst (λ (τ : State). length (cell_of (run SC σ a) l).writes ≤ length (cell_of τ l).writes) to_u (no_fewer (run SC σ a) reg_a y b allowed_b l)

    in_v : length (cell_of (run SC σ c) l).writes ≤ length (cell_of (run SC σ m.front) l).writes
    in_v = subst (λ (τ : State). length (cell_of (run SC σ c) l).writes ≤ length (cell_of τ l).writes) to_m (no_fewer (run SC σ c) reg_c z snd.1 allowed_d l)

    y_both : length (cell_of (run SC σ a) l).writes ≡ length (cell_of (run SC σ m.front) l).writes
    y_both = finds_as_many σ reg v w fv fw same a y (b ++ (z ∷ r)) cut_y m l refl

    z_both : length (cell_of (run SC σ u) l).writes ≡ length (cell_of (run SC σ c) l).writes
    z_both = finds_as_many σ reg v w fv fw same u z r cut k l l_z ∙ ap (λ (x : Schedule). length (cell_of (run SC σ x) l).writes) there

    equal : length (cell_of (run SC σ u) l).writes ≡ length (cell_of (run SC σ a) l).writes
    equal = omega (arith, in_w, in_v, y_both, z_both)

    still : writes (run SC σ a) y ≡ false
    still = go (writes (run SC σ a) y) refl
      where
        go : (x : Bool) → writes (run SC σ a) y ≡ x → writes (run SC σ a) y ≡ false
        go true q =
            let o = subst (λ (τ : State). length (cell_of (run SC σ a) l).writes < length (cell_of τ l).writes) to_u (one_more (run SC σ a) reg_a y b allowed_b l refl q) in
            absurd (omega (arith, o, equal))
        go false q = q

    cell : cell_of (run SC σ u) l ≡ cell_of (run SC σ a) l
    cell = subst (λ (τ : State). length (cell_of τ l).writes ≡ length (cell_of (run SC σ a) l).writes → cell_of τ l ≡ cell_of (run SC σ a) l) to_u (untouched (run SC σ a) reg_a y b allowed_b l) equal

    cells : cell_of (run SC σ a) (place (run SC σ a) y) ≡ cell_of (run SC σ u) (place (run SC σ u) z)
    cells = sym cell ∙ ap (cell_of (run SC σ u)) l_z

    still_both : Still i
    still_both = record {
      a = a;
      b = b ++ (z ∷ r);
      c = u;
      d = r;
      cut_y = cut_y;
      cut_z = cut;
      count_y = fst.3;
      count_z = n;
      still_y = still;
      still_z = sym (same_writing (run SC σ a) (run SC σ u) y z alike cells) ∙ still;
      behind = thread_own (run SC σ a) y (enabled_range (run SC σ a) y allowed_b.0) ∙ ap₂ advanced alike cells ∙ sym (thread_own (run SC σ u) z (enabled_range (run SC σ u) z (parts σ w fw u (z ∷ r) cut).1.0));
    }

  still_at : (i : ℕ) → Agree σ w y z i → i < count (run SC σ w) z → Still i
  still_at i g h =
      let t = taken_at w σ z i (full_allowed SC σ w fw).0 (omega (arith, first, ap (λ (k : Thread). k.history.done) begin)) h in
      still_both i g t.0 t.1 t.2 t.3

  up_to : (t : ℕ) (a b : Schedule) → w ≡ a ++ b → count (run SC σ a) t ≤ count (run SC σ w) t
  up_to t a b e = subst (λ (τ : State). count (run SC σ a) t ≤ count τ t) (sym (run_append SC σ a b) ∙ ap (run SC σ) (sym e)) (done_run b (run SC σ a) (full_allowed SC (run SC σ a) b (parts σ w fw a b e).1).0 t)

  -- behind its access i thread t stands where it stood just behind it
  just_behind : (t i : ℕ) (a b c d : Schedule) → w ≡ a ++ (t ∷ b) → count (run SC σ a) t ≡ i → w ≡ c ++ d → count (run SC σ c) t ≡ suc i → thread_of (run SC σ c) t ≡ thread_of (step (run SC σ a) t) t
  just_behind t i a b c d e n k h =
      let one = run_snoc SC σ a t in
      let own = done_own (run SC σ a) t (enabled_range (run SC σ a) t (parts σ w fw a (t ∷ b) e).1.0) in
      by_count σ w fw t c d (a ++ (t ∷ [])) b k (e ∙ sym (append_assoc a (t ∷ []) b)) (h ∙ ap suc (sym n) ∙ sym own ∙ ap (λ (τ : State). count τ t) (sym one)) ∙ ap (λ (τ : State). thread_of τ t) one

  reg_end : Regular (run SC σ w)
  reg_end = regular_run w σ reg (full_allowed SC σ w fw).0

  -- an access that writes nothing
  not_there : (t i : ℕ) (a b : Schedule) → w ≡ a ++ (t ∷ b) → count (run SC σ a) t ≡ i → writes (run SC σ a) t ≡ false → (l j : ℕ) → Memᴰ (t, j) (cell_of (run SC σ w) l).writes → j ≡ i → ⊥
  not_there t i a b e n s l j m q =
      let p = parts σ w fw a (t ∷ b) e in
      let way : run SC σ w ≡ run SC (run SC σ a) (t ∷ b) = ap (run SC σ) e ∙ run_append SC σ a (t ∷ b) in
      wrote_nothing (run SC σ a) (regular_run a σ reg p.0) t b (full_allowed SC (run SC σ a) (t ∷ b) p.1).0 s l
      (subst (λ (x : ℕ). Memᴰ (t, x) (cell_of (run SC (run SC σ a) (t ∷ b)) l).writes) (q ∙ sym n) (subst (λ (τ : State). Memᴰ (t, j) (cell_of τ l).writes) way m))

  -- a thread that does access i without writing, and has no write with a smaller number, has none up to i
  quiet_more : (t i : ℕ) → ((l j : ℕ) → Memᴰ (t, j) (cell_of (run SC σ w) l).writes → i ≤ j) →
      (i < count (run SC σ w) t → (a : Schedule) × (b : Schedule) × (w ≡ a ++ (t ∷ b)) × (count (run SC σ a) t ≡ i) × (writes (run SC σ a) t ≡ false)) →
      (l j : ℕ) → Memᴰ (t, j) (cell_of (run SC σ w) l).writes → suc i ≤ j
  quiet_more t i low at l j m = go (dec_lt i j)
    where
      go : Dec (i < j) → suc i ≤ j
      go (yes h) = h
      go (no h) =
          let least = low l j m in
          let old : j < count (run SC σ w) t = reg_end.old l (t, j) m in
          let s = at (omega arith) in
          absurd (not_there t i s.0 s.1 s.2 s.3 s.4 l j m (omega arith))

  agree_more : (i : ℕ) → Agree σ w y z i → Agree σ w y z (suc i)
  agree_more i g = record {
    same = together;
    quiet_first = quiet_more y i g.quiet_first (λ h. let s = still_at i g (goes_on σ reg w fw y z ne begin small_z i g h) in (s.a, s.b, s.cut_y, s.count_y, s.still_y));
    quiet_second = quiet_more z i g.quiet_second (λ h. let s = still_at i g h in (s.c, s.d, s.cut_z, s.count_z, s.still_z));
  }
    where
      together : (a b c d : Schedule) → w ≡ a ++ b → w ≡ c ++ d → count (run SC σ a) y ≡ count (run SC σ c) z → count (run SC σ a) y ≤ suc i → thread_of (run SC σ a) y ≡ thread_of (run SC σ c) z
      together a b c d e k n h = go (dec_lt i (count (run SC σ a) y))
        where
          go : Dec (i < count (run SC σ a) y) → thread_of (run SC σ a) y ≡ thread_of (run SC σ c) z
          go (no q) = g.same a b c d e k n (omega arith)
          go (yes q) =
              let s = still_at i g (omega (arith, n, q, up_to z c d k)) in
              just_behind y i s.a s.b a b s.cut_y s.count_y e (omega arith) ∙ s.behind ∙ sym (just_behind z i s.c s.d c d s.cut_z s.count_z k (omega (arith, n, q, h)))

  agree_none : Agree σ w y z 0
  agree_none = record {
    same = λ a b c d e k n h.
        let zc : count σ z ≡ 0 = ap (λ (x : Thread). x.history.done) (sym begin) ∙ first in
        waiting a σ y (parts σ w fw a b e).0 (omega (arith, h, first)) ∙ begin ∙ sym (waiting c σ z (parts σ w fw c d k).0 (omega (arith, n, h, zc)));
    quiet_first = λ l j m. omega arith;
    quiet_second = λ l j m. omega arith;
  }

  agree_all : (i : ℕ) → Agree σ w y z i
  agree_all zero = agree_none
  agree_all (suc i) = agree_more i (agree_all i)

  as_long : count (run SC σ w) y ≡ count (run SC σ w) z
  as_long = go (dec_lt (count (run SC σ w) z) (count (run SC σ w) y)) (dec_lt (count (run SC σ w) y) (count (run SC σ w) z))
    where
      go : Dec (count (run SC σ w) z < count (run SC σ w) y) → Dec (count (run SC σ w) y < count (run SC σ w) z) → count (run SC σ w) y ≡ count (run SC σ w) z
      go (yes h) d = let k = goes_on σ reg w fw y z ne begin small_z (count (run SC σ w) z) (agree_all (count (run SC σ w) z)) h in absurd (omega arith)
      go (no h) (yes d) =
          let i = count (run SC σ w) y in
          let k = goes_on σ reg w fw z y (Ne-symm ne) (sym begin) small_y i (agree_sym σ w y z i (agree_all i)) d in
          absurd (omega arith)
      go (no h) (no d) = omega arith

  -- TURNED ROUND: at the end the two threads are equal, and neither has written
  pub inverted_equal : thread_of (run SC σ w) y ≡ thread_of (run SC σ w) z
  inverted_equal = (agree_all (count (run SC σ w) y)).same w [] w [] (sym (append-nil w)) (sym (append-nil w)) as_long (omega arith)

  pub inverted_quiet : Quiet (run SC σ w) y × Quiet (run SC σ w) z
  inverted_quiet = (
    (λ l j m. let k = (agree_all (suc j)).quiet_first l j m in omega arith),
    λ l j m. let k = (agree_all (suc j)).quiet_second l j m in omega arith,
  )
