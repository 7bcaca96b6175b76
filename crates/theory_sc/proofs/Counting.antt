-- Where a thread stands along a run: by the number of its accesses done. And how many writes a location had when an access came to it: the
-- graph at the end says it.
use Prim.Native.Nat.{ℕ, suc, ◌<◌, ◌≤◌}
use mathlib.Core.Path.{◌≡◌, refl, sym, ap, ap₂, subst, ◌∙◌}
use mathlib.Core.Logic.{◌⊎◌, inl, inr, ⊎_elim}
use mathlib.Core.Bool.{Bool, true, false}
use mathlib.Core.List.{List, [], ◌∷◌, ◌++◌, append_assoc, append-nil, Memᴰ}
use native.Mathlib.Omega.{arith}
use native.Mathlib.Decide.{ℕ_discrete, dec_lt}
use lib.ListN.{length, length-append, get_or}
use Rattle.spec_schedules.specs.Order.{Schedule}
use Rattle.spec_schedules.specs.System.{run, Allowed, FullFrom}
use Rattle.spec_schedules.proofs.Runs.{run_append, run_snoc, full_split}
use Rattle.spec_sc.specs.Local.{takes}
use Rattle.spec_sc.specs.State.{Event, Thread, Cell, State, fresh_cell, thread_of, cell_of, place, latest, step, SC}
use Rattle.spec_sc.specs.Actions.{writes}
use Rattle.spec_sc.proofs.Steps.{enabled_range, thread_other}
use Rattle.spec_sc.proofs.Change.{done_own}
use Rattle.spec_sc.proofs.Regular.{Regular, regular_step}
use Rattle.spec_sc.proofs.Histories.{done_run}
use Rattle.spec_sc.proofs.Growth.{Fresh, Grown, grown, not_fresh}
use Rattle.spec_sc.proofs.Reading.{source, same_place}
use Rattle.spec_sc.proofs.Swap.{still_cells}
use Rattle.spec_sc.proofs.Trails.{writes_own, blind_writes}

-- how many accesses y has done
abbrev pub count : State → ℕ → ℕ
count σ y = (thread_of σ y).history.done

-- a thread that did no access stands where it stood
pub waiting : (z : Schedule) (σ : State) (y : ℕ) → Allowed SC σ z → count (run SC σ z) y ≡ count σ y → thread_of (run SC σ z) y ≡ thread_of σ y
unfolding run
waiting [] σ y a e = refl
waiting (t ∷ z) σ y a e = go (ℕ_discrete y t) (λ k. waiting z (step σ t) y a.1 k)
  where
    go : Dec (y ≡ t) → (count (run SC (step σ t) z) y ≡ count (step σ t) y → thread_of (run SC (step σ t) z) y ≡ thread_of (step σ t) y) → thread_of (run SC (step σ t) z) y ≡ thread_of σ y
    go (yes q) ih =
        let k = done_own σ t (enabled_range σ t a.0) in
        let j : count (step σ t) y ≡ suc (count σ y) = subst (λ (x : ℕ). count (step σ t) x ≡ suc (count σ x)) (sym q) k in
        absurd (omega (arith, e, j, done_run z (step σ t) a.1 y))
    go (no q) ih =
        let o = thread_other σ t y q in
        ih (e ∙ ap (λ (h : Thread). h.history.done) (sym o)) ∙ o

-- a thread that did more than i accesses did its access number i
pub taken_at : (u : Schedule) (σ : State) (y i : ℕ) → Allowed SC σ u → count σ y ≤ i → i < count (run SC σ u) y →
    (f : Schedule) × (g : Schedule) × (u ≡ f ++ (y ∷ g)) × (count (run SC σ f) y ≡ i)
unfolding run
taken_at [] σ y i a l h = absurd (omega arith)
taken_at (t ∷ u) σ y i a l h = go (dec_lt i (count (step σ t) y)) (ℕ_discrete y t) (λ k. taken_at u (step σ t) y i a.1 k h)
  where
    go : Dec (i < count (step σ t) y) → Dec (y ≡ t) → (count (step σ t) y ≤ i → (f : Schedule) × (g : Schedule) × (u ≡ f ++ (y ∷ g)) × (count (run SC (step σ t) f) y ≡ i)) →
        (f : Schedule) × (g : Schedule) × ((t ∷ u) ≡ f ++ (y ∷ g)) × (count (run SC σ f) y ≡ i)
    go (no n) d ih = let r = ih (omega arith) in (t ∷ r.0, r.1, ap (λ (k : Schedule). t ∷ k) r.2, r.3)
    go (yes k) (no q) ih = absurd (omega (arith, ap (λ (x : Thread). x.history.done) (thread_other σ t y q)))
    go (yes k) (yes q) ih =
        let j : count (step σ t) y ≡ suc (count σ y) = subst (λ (x : ℕ). count (step σ t) x ≡ suc (count σ x)) (sym q) (done_own σ t (enabled_range σ t a.0)) in
        ([], u, ap (λ (x : ℕ). x ∷ u) (sym q), omega arith)

-- two beginnings of one list: one goes on from the other
pub two_cuts : (a b c d : Schedule) → a ++ b ≡ c ++ d → ((y : Schedule) × (c ≡ a ++ y) × (b ≡ y ++ d)) ⊎ ((y : Schedule) × (a ≡ c ++ y) × (d ≡ y ++ b))
two_cuts [] b c d e = inl (c, refl, e)
two_cuts (x ∷ a) b [] d e = inr (x ∷ a, refl, sym e)
two_cuts (x ∷ a) b (z ∷ c) d e =
    let h : x ≡ z = cc in
    let t : a ++ b ≡ c ++ d = cc in
    ⊎_elim (λ (k : (y : Schedule) × (c ≡ a ++ y) × (b ≡ y ++ d)). inl (k.0, ap₂ (λ (m : ℕ) (n : Schedule). m ∷ n) (sym h) k.1, k.2))
    (λ (k : (y : Schedule) × (a ≡ c ++ y) × (d ≡ y ++ b)). inr (k.0, ap₂ (λ (m : ℕ) (n : Schedule). m ∷ n) h k.1, k.2)) (two_cuts a b c d t)

module _ (σ : State) (s : Schedule) (f : FullFrom SC σ s) where
  -- the two parts of a full schedule
  pub parts : (a b : Schedule) → s ≡ a ++ b → Allowed SC σ a × FullFrom SC (run SC σ a) b
  parts a b e = full_split SC σ a b (subst (FullFrom SC σ) e f)

  -- counts grow
  pub further : (a y b : Schedule) (t : ℕ) → s ≡ a ++ (y ++ b) → count (run SC σ a) t ≤ count (run SC σ (a ++ y)) t
  further a y b t e =
      let k = full_split SC (run SC σ a) y b (parts a (y ++ b) e).1 in
      subst (λ (τ : State). count (run SC σ a) t ≤ count τ t) (sym (run_append SC σ a y)) (done_run y (run SC σ a) k.0 t)

  stays_from : (t : ℕ) (a y b c : Schedule) → s ≡ a ++ (y ++ b) → c ≡ a ++ y → count (run SC σ a) t ≡ count (run SC σ c) t → thread_of (run SC σ c) t ≡ thread_of (run SC σ a) t
  stays_from t a y b c e q n =
      let w : run SC σ c ≡ run SC (run SC σ a) y = ap (run SC σ) q ∙ run_append SC σ a y in
      ap (λ (τ : State). thread_of τ t) w ∙ waiting y (run SC σ a) t (full_split SC (run SC σ a) y b (parts a (y ++ b) e).1).0 (ap (λ (τ : State). count τ t) (sym w) ∙ sym n)

  -- BY THE COUNT: with as many accesses done a thread stands in one state
  pub by_count : (t : ℕ) (a b c d : Schedule) → s ≡ a ++ b → s ≡ c ++ d → count (run SC σ a) t ≡ count (run SC σ c) t → thread_of (run SC σ a) t ≡ thread_of (run SC σ c) t
  by_count t a b c d e k n = ⊎_elim
      (λ (q : (y : Schedule) × (c ≡ a ++ y) × (b ≡ y ++ d)). sym (stays_from t a q.0 d c (e ∙ ap (λ (z : Schedule). a ++ z) q.2) q.1 n))
      (λ (q : (y : Schedule) × (a ≡ c ++ y) × (d ≡ y ++ b)). stays_from t c q.0 b a (k ∙ ap (λ (z : Schedule). c ++ z) q.2) q.1 (sym n))
      (two_cuts a b c d (sym e ∙ k))

  -- a thread does each of its accesses once
  same_occurrence : (t : ℕ) (a b c d : Schedule) → s ≡ a ++ (t ∷ b) → s ≡ c ++ (t ∷ d) → count (run SC σ a) t ≡ count (run SC σ c) t → (y : Schedule) → c ≡ a ++ y → (t ∷ b) ≡ y ++ (t ∷ d) → a ≡ c
  same_occurrence t a b c d e k n [] q r = sym (q ∙ append-nil a)
  same_occurrence t a b c d e k n (x ∷ y) q r =
      let i : x ≡ t = cc in
      let fa = (parts a (t ∷ b) e).1 in
      let own = done_own (run SC σ a) t (enabled_range (run SC σ a) t fa.0) in
      let q' : c ≡ (a ++ (t ∷ [])) ++ y = q ∙ ap (λ (z : ℕ). a ++ (z ∷ y)) i ∙ sym (append_assoc a (t ∷ []) y) in
      let more = further (a ++ (t ∷ [])) y (t ∷ d) t (k ∙ ap (λ (z : Schedule). z ++ (t ∷ d)) q' ∙ append_assoc (a ++ (t ∷ [])) y (t ∷ d)) in
      let one : count (run SC σ (a ++ (t ∷ []))) t ≡ suc (count (run SC σ a) t) = ap (λ (τ : State). count τ t) (run_snoc SC σ a t) ∙ own in
      let two : count (run SC σ ((a ++ (t ∷ [])) ++ y)) t ≡ count (run SC σ c) t = ap (λ (z : Schedule). count (run SC σ z) t) (sym q') in
      absurd (omega arith)

  pub one_occurrence : (t : ℕ) (a b c d : Schedule) → s ≡ a ++ (t ∷ b) → s ≡ c ++ (t ∷ d) → count (run SC σ a) t ≡ count (run SC σ c) t → a ≡ c
  one_occurrence t a b c d e k n = ⊎_elim
      (λ (q : (y : Schedule) × (c ≡ a ++ y) × ((t ∷ b) ≡ y ++ (t ∷ d))). same_occurrence t a b c d e k n q.0 q.1 q.2)
      (λ (q : (y : Schedule) × (a ≡ c ++ y) × ((t ∷ d) ≡ y ++ (t ∷ b))). sym (same_occurrence t c d a b k e (sym n) q.0 q.1 q.2))
      (two_cuts a (t ∷ b) c (t ∷ d) (sym e ∙ k))

-- of two ends of one list the longer begins with an element that stands before the shorter
pub before_shorter : (new b n a : List Event) → new ++ b ≡ n ++ a → length b < length a → Memᴰ (latest a) new
unfolding latest
before_shorter [] b n a e h = absurd (omega (arith, ap length e, length-append n a))
before_shorter (x ∷ new) b [] [] e h = absurd (omega arith)
before_shorter (x ∷ new) b [] (z ∷ a) e h = let k : z ≡ x = cc in mathlib.Core.List.Memᴰ.head k
before_shorter (x ∷ new) b (z ∷ n) a e h = let k : new ++ b ≡ n ++ a = cc in mathlib.Core.List.Memᴰ.tail (before_shorter new b n a k h)

pub latest_front : (e : Event) (ws : List Event) → latest (e ∷ ws) ≡ e
unfolding latest
latest_front e ws = refl

-- where two runs come to one state of thread b, whose next access has one source, and end with the same writes of its location, the one has
-- not seen more of these writes than the other
module _ (ρ τ : State) (rρ : Regular ρ) (rτ : Regular τ) (b : ℕ) (r q : Schedule) (aρ : Allowed SC ρ (b ∷ r)) (aτ : Allowed SC τ (b ∷ q)) (thread : thread_of τ b ≡ thread_of ρ b)
    (from : takes (thread_of ρ b).local ≡ true → source τ b ≡ source ρ b) (l : ℕ) (here : l ≡ place ρ b)
    (ends : (cell_of (run SC ρ (b ∷ r)) l).writes ≡ (cell_of (run SC τ (b ∷ q)) l).writes) where
  there : l ≡ place τ b
  there = here ∙ sym (same_place τ ρ b thread)

  not_longer : length (cell_of ρ l).writes < length (cell_of τ l).writes → ⊥
  unfolding run
  not_longer h = go (takes (thread_of ρ b).local) refl
    where
      go : (x : Bool) → takes (thread_of ρ b).local ≡ x → ⊥
      go true e =
          let g = grown (b ∷ r) ρ rρ aρ l in
          let k = grown (b ∷ q) τ rτ aτ l in
          let m = before_shorter g.new (cell_of ρ l).writes k.new (cell_of τ l).writes (sym g.whole ∙ ends ∙ k.whole) h in
          let same : latest (cell_of τ l).writes ≡ latest (cell_of ρ l).writes = ap (λ (x : ℕ). latest (cell_of τ x).writes) there ∙ from e ∙ ap (λ (x : ℕ). latest (cell_of ρ x).writes) (sym here) in
          not_fresh ρ rρ l (cell_of ρ l).writes refl (subst (Fresh ρ) same (g.fresh (latest (cell_of τ l).writes) m))
      go false e =
          let g = grown r (step ρ b) (regular_step ρ b rρ aρ.0) aρ.1 l in
          let k = grown q (step τ b) (regular_step τ b rτ aτ.0) aτ.1 l in
          let i = writes_own ρ rρ b l here (blind_writes ρ b aρ.0 e) in
          let j = writes_own τ rτ b l there (blind_writes τ b aτ.0 (ap (λ (h : Thread). takes h.local) thread ∙ e)) in
          let m = before_shorter g.new (cell_of (step ρ b) l).writes k.new (cell_of (step τ b) l).writes (sym g.whole ∙ ends ∙ k.whole) (omega (arith, ap length i, ap length j)) in
          let top : latest (cell_of (step τ b) l).writes ≡ (b, count ρ b) = ap latest j ∙ latest_front (b, count τ b) (cell_of τ l).writes ∙ ap (λ (h : Thread). let z : Event = (b, h.history.done) in z) thread in
          let f : Fresh (step ρ b) (b, count ρ b) = subst (Fresh (step ρ b)) top (g.fresh (latest (cell_of (step τ b) l).writes) m) in
          let own = done_own ρ b (enabled_range ρ b aρ.0) in
          let late = f.late in
          omega arith

-- AS MANY WRITES SEEN
pub as_many : (ρ τ : State) → Regular ρ → Regular τ → (b : ℕ) (r q : Schedule) → Allowed SC ρ (b ∷ r) → Allowed SC τ (b ∷ q) → thread_of τ b ≡ thread_of ρ b →
    (takes (thread_of ρ b).local ≡ true → source τ b ≡ source ρ b) → (l : ℕ) → l ≡ place ρ b → (cell_of (run SC ρ (b ∷ r)) l).writes ≡ (cell_of (run SC τ (b ∷ q)) l).writes →
    length (cell_of ρ l).writes ≡ length (cell_of τ l).writes
as_many ρ τ rρ rτ b r q aρ aτ thread from l here ends =
    let a = not_longer ρ τ rρ rτ b r q aρ aτ thread from l here ends in
    let c = not_longer τ ρ rτ rρ b q r aτ aρ (sym thread) (λ k. sym (from (ap (λ (h : Thread). takes h.local) (sym thread) ∙ k))) l (here ∙ sym (same_place τ ρ b thread)) (sym ends) in
    go (dec_lt (length (cell_of ρ l).writes) (length (cell_of τ l).writes)) (dec_lt (length (cell_of τ l).writes) (length (cell_of ρ l).writes)) a c
  where
    go : {m n : ℕ} → Dec (m < n) → Dec (n < m) → (m < n → ⊥) → (n < m → ⊥) → m ≡ n
    go (yes h) d a c = absurd (a h)
    go (no h) (yes k) a c = absurd (c k)
    go (no h) (no k) a c = omega arith

-- an access that writes nothing is nowhere among the writes of the end
pub wrote_nothing : (ρ : State) → Regular ρ → (y : ℕ) (r : Schedule) → Allowed SC ρ (y ∷ r) → writes ρ y ≡ false → (l : ℕ) → Memᴰ (y, count ρ y) (cell_of (run SC ρ (y ∷ r)) l).writes → ⊥
unfolding run cell_of
wrote_nothing ρ g y r a none l m = ⊎_elim
    (λ (k : Memᴰ (y, count ρ y) n.new). let f = (n.fresh (y, count ρ y) k).late in let o = done_own ρ y (enabled_range ρ y a.0) in absurd (omega arith))
    (λ (k : Memᴰ (y, count ρ y) (cell_of (step ρ y) l).writes).
    let o = g.old l (y, count ρ y) (subst (λ (cs : List Cell). Memᴰ (y, count ρ y) (get_or cs l (fresh_cell 0)).writes) (still_cells ρ y none) k) in absurd (omega arith))
    (mathlib.Core.List.Memᴰ.append_cases n.new (subst (Memᴰ (y, count ρ y)) n.whole m))
  where
    n : Grown (step ρ y) r l
    n = grown r (step ρ y) (regular_step ρ y g a.0) a.1 l
