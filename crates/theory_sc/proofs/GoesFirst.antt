-- Two threads y and z that begin alike, in a schedule that never takes z while y stands where z stands and neither has written: as long as they agree, y
-- goes first.
use Prim.Native.Nat.{ℕ, suc, ◌<◌, ◌≤◌}
use mathlib.Core.Path.{◌≡◌, sym, ap, subst, ◌∙◌}
use mathlib.Core.Logic.{◌≢◌, ◌⊎◌, inl, inr}
use mathlib.Core.Bool.{true, true≢false}
use mathlib.Core.List.{[], ◌∷◌, ◌++◌, append_assoc, append-nil, Memᴰ}
use native.Mathlib.Omega.{arith}
use native.Mathlib.Decide.{ℕ_discrete, dec_lt}
use lib.ListN.{length, length-append}
use Rattle.spec_schedules.specs.Order.{Schedule}
use Rattle.spec_schedules.specs.System.{run, Allowed, FullFrom}
use Rattle.spec_schedules.proofs.Runs.{run_append, run_snoc, full_allowed, ended_none}
use Rattle.spec_sc.specs.Local.{pending}
use Rattle.spec_sc.specs.State.{Thread, State, thread_of, cell_of, place, step, enabled, SC}
use Rattle.spec_sc.specs.Actions.{writes}
use Rattle.spec_sc.proofs.Suffix.{suffix_length}
use Rattle.spec_sc.proofs.Lawful.{lawful}
use Rattle.spec_sc.proofs.Steps.{enabled_range, enabled_pending, enabled_of, thread_other}
use Rattle.spec_sc.proofs.Change.{done_own, done_grows}
use Rattle.spec_sc.proofs.Regular.{Regular, regular_step, regular_run}
use Rattle.spec_sc.proofs.Histories.{done_run, run_order}
use Rattle.spec_sc.proofs.Growth.{grown, empty}
use Rattle.spec_sc.proofs.Trails.{writes_own}
use Rattle.theory_sc.proofs.Counting.{count, taken_at, parts}

-- no write noted is y's
abbrev pub Quiet : State → ℕ → Type 0
Quiet τ y = (l j : ℕ) → Memᴰ (y, j) (cell_of τ l).writes → ⊥

-- s never takes z while y stands where z stands and neither has written
abbrev pub Never : State → Schedule → ℕ → ℕ → Type 0
Never σ s y z = (a b : Schedule) → s ≡ a ++ (z ∷ b) → thread_of (run SC σ a) y ≡ thread_of (run SC σ a) z → Quiet (run SC σ a) y → Quiet (run SC σ a) z → ⊥

-- y and z agree up to their access number i: they come to the same states, and write nothing before
pub record Agree (σ : State) (s : Schedule) (y z i : ℕ) : Type 0 where
  pub same : (a b c d : Schedule) → s ≡ a ++ b → s ≡ c ++ d → count (run SC σ a) y ≡ count (run SC σ c) z → count (run SC σ a) y ≤ i → thread_of (run SC σ a) y ≡ thread_of (run SC σ c) z
  pub quiet_first : (l j : ℕ) → Memᴰ (y, j) (cell_of (run SC σ s) l).writes → i ≤ j
  pub quiet_second : (l j : ℕ) → Memᴰ (z, j) (cell_of (run SC σ s) l).writes → i ≤ j

pub agree_sym : (σ : State) (s : Schedule) (y z i : ℕ) → Agree σ s y z i → Agree σ s z y i
agree_sym σ s y z i g = record {
  same = λ a b c d e k n h. sym (g.same c d a b k e (sym n) (omega (arith, n, h)));
  quiet_first = g.quiet_second;
  quiet_second = g.quiet_first;
}

-- what y's access and those behind it leave of the writes of its location
module _ (ρ : State) (r : Regular ρ) (y : ℕ) (h : Schedule) (a : Allowed SC ρ (y ∷ h)) (l : ℕ) where
  pub no_fewer : length (cell_of ρ l).writes ≤ length (cell_of (run SC ρ (y ∷ h)) l).writes
  no_fewer = suffix_length (cell_of ρ l).writes (cell_of (run SC ρ (y ∷ h)) l).writes (run_order (y ∷ h) ρ r a l)

  pub one_more : l ≡ place ρ y → writes ρ y ≡ true → length (cell_of ρ l).writes < length (cell_of (run SC ρ (y ∷ h)) l).writes
  unfolding run
  one_more q w = omega (arith, ap length (writes_own ρ r y l q w), suffix_length (cell_of (step ρ y) l).writes (cell_of (run SC (step ρ y) h) l).writes (run_order h (step ρ y) (regular_step ρ y r a.0) a.1 l))

  pub untouched : length (cell_of (run SC ρ (y ∷ h)) l).writes ≡ length (cell_of ρ l).writes → cell_of (run SC ρ (y ∷ h)) l ≡ cell_of ρ l
  untouched e =
      let g = grown (y ∷ h) ρ r a l in
      g.none_new (empty g.new (omega (arith, e, ap length g.whole, length-append g.new (cell_of ρ l).writes)))

module _ (σ : State) (reg : Regular σ) (s : Schedule) (f : FullFrom SC σ s) (y z : ℕ) (ne : y ≢ z) (begin : thread_of σ y ≡ thread_of σ z) where
  begin_count : count σ y ≡ count σ z
  begin_count = ap (λ (h : Thread). h.history.done) begin

  quiet_at : (t i : ℕ) → ((l j : ℕ) → Memᴰ (t, j) (cell_of (run SC σ s) l).writes → i ≤ j) → (a b : Schedule) → s ≡ a ++ b → count (run SC σ a) t ≤ i → Quiet (run SC σ a) t
  quiet_at t i q a b e h l j m =
      let k = parts σ s f a b e in
      let ra = regular_run a σ reg k.0 in
      let o = ra.old l (t, j) m in
      let u = run_order b (run SC σ a) ra (full_allowed SC (run SC σ a) b k.1).0 l in
      let end : run SC (run SC σ a) b ≡ run SC σ s = sym (run_append SC σ a b) ∙ ap (run SC σ) (sym e) in
      let there : Memᴰ (t, j) (cell_of (run SC σ s) l).writes = subst (λ (τ : State). Memᴰ (t, j) (cell_of τ l).writes) end (subst (Memᴰ (t, j)) (sym u.1) (mathlib.Core.List.Memᴰ.append_right u.0 m)) in
      let i≤j = q l j there in
      omega arith

  module _ (never : Never σ s y z) (i : ℕ) (g : Agree σ s y z i) where
    -- z's turn does not come while they have done equally many
    not_twin : (u r : Schedule) → s ≡ u ++ (z ∷ r) → count (run SC σ u) y ≡ count (run SC σ u) z → count (run SC σ u) y ≤ i → ⊥
    not_twin u r e n h = never u r e (g.same u (z ∷ r) u (z ∷ r) e e n h) (quiet_at y i g.quiet_first u (z ∷ r) e h) (quiet_at z i g.quiet_second u (z ∷ r) e (omega (arith, n, h)))

    -- z has never done more than y, until y has done its access i
    abbrev Behind : Schedule → Type 0
    Behind u = (count (run SC σ u) z ≤ count (run SC σ u) y) ⊎ (i < count (run SC σ u) y)

    behind_step : (u : Schedule) (t : ℕ) (r : Schedule) → s ≡ u ++ (t ∷ r) → Behind u → Behind (u ++ (t ∷ []))
    behind_step u t r e b = subst (λ (τ : State). (count τ z ≤ count τ y) ⊎ (i < count τ y)) (sym (run_snoc SC σ u t)) (go b (ℕ_discrete z t))
      where
        ρ : State
        ρ = run SC σ u

        live : enabled ρ t ≡ true
        live = (parts σ s f u (t ∷ r) e).1.0

        grows : (x : ℕ) → count ρ x ≤ count (step ρ t) x
        grows = done_grows ρ t (enabled_range ρ t live)

        tie : z ≡ t → Dec (count ρ z < count ρ y) → Dec (i < count ρ y) → count ρ z ≤ count ρ y → (count (step ρ t) z ≤ count (step ρ t) y) ⊎ (i < count (step ρ t) y)
        tie q (yes h) d k =
            let own : count (step ρ t) z ≡ suc (count ρ z) = subst (λ (x : ℕ). count (step ρ t) x ≡ suc (count ρ x)) (sym q) (done_own ρ t (enabled_range ρ t live)) in
            inl (omega (arith, grows y, own, h))
        tie q (no h) (yes d) k = inr (omega (arith, grows y, d))
        tie q (no h) (no d) k = absurd (not_twin u r (e ∙ ap (λ (x : ℕ). u ++ (x ∷ r)) (sym q)) (omega arith) (omega arith))

        go : Behind u → Dec (z ≡ t) → (count (step ρ t) z ≤ count (step ρ t) y) ⊎ (i < count (step ρ t) y)
        go (inr h) d = inr (omega (arith, grows y, h))
        go (inl h) (yes q) = tie q (dec_lt (count ρ z) (count ρ y)) (dec_lt i (count ρ y)) h
        go (inl h) (no q) = inl (omega (arith, grows y, h, ap (λ (k : Thread). k.history.done) (thread_other ρ t z q)))

    behind_all : (x u r : Schedule) → s ≡ u ++ (x ++ r) → Behind u → Behind (u ++ x)
    behind_all [] u r e b = subst Behind (sym (append-nil u)) b
    behind_all (t ∷ x) u r e b =
        subst Behind (append_assoc u (t ∷ []) x) (behind_all x (u ++ (t ∷ [])) r (e ∙ sym (append_assoc u (t ∷ []) (x ++ r))) (behind_step u t (x ++ r) e b))

    behind : (u r : Schedule) → s ≡ u ++ r → Behind u
    unfolding run
    behind u r e = behind_all u [] r e (inl (omega (arith, begin_count)))

    -- Y FIRST: before z does its access i, y has done its own
    pub goes_first : (u r : Schedule) → s ≡ u ++ (z ∷ r) → count (run SC σ u) z ≡ i → (a : Schedule) × (b : Schedule) × (u ≡ a ++ (y ∷ b)) × (count (run SC σ a) y ≡ i)
    goes_first u r e n = taken_at u σ y i (parts σ s f u (z ∷ r) e).0 (omega (arith, begin_count, n, done_run u σ (parts σ s f u (z ∷ r) e).0 z)) (more (behind u (z ∷ r) e) (dec_lt i (count (run SC σ u) y)))
      where
        more : Behind u → Dec (i < count (run SC σ u) y) → i < count (run SC σ u) y
        more b (yes h) = h
        more (inr h) (no k) = h
        more (inl h) (no k) = absurd (not_twin u r e (omega (arith, h, k, n)) (omega (arith, k)))

  -- where the one goes on behind its access i, the other does
  pub goes_on : z < 6 → (i : ℕ) → Agree σ s y z i → i < count (run SC σ s) y → i < count (run SC σ s) z
  goes_on small i g h = go (dec_lt i (count (run SC σ s) z))
    where
      all : Allowed SC σ s
      all = (full_allowed SC σ s f).0

      go : Dec (i < count (run SC σ s) z) → i < count (run SC σ s) z
      go (yes k) = k
      go (no k) =
          let t = taken_at s σ y (count (run SC σ s) z) all (omega (arith, begin_count, done_run s σ all z)) (omega arith) in
          let e = g.same t.0 (y ∷ t.1) s [] t.2 (sym (append-nil s)) t.3 (omega (arith, t.3, k)) in
          let live = (parts σ s f t.0 (y ∷ t.1) t.2).1.0 in
          let p = enabled_of (run SC σ s) z small (ap (λ (x : Thread). pending x.local) (sym e) ∙ enabled_pending (run SC σ t.0) y live) in
          absurd (true≢false (sym p ∙ ended_none SC lawful (run SC σ s) z (full_allowed SC σ s f).1))
