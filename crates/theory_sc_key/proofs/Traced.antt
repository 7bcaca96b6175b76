-- WHERE READS LED: a thread that has not written stands where its reads led it from the start. Each of its accesses wrote nothing, and its way has their
-- locations.
use Prim.Native.Nat.{ℕ, ◌<◌}
use mathlib.Core.Path.{◌≡◌, refl, sym, ap, ap₂, subst, ◌∙◌}
use mathlib.Core.Logic.{◌↔◌, ⊎_elim}
use mathlib.Core.Bool.{Bool, true, false, not, true≢false}
use mathlib.Core.List.Memᴰ
use mathlib.Core.List.{List, [], ◌∷◌, Memᴰ}
use native.Mathlib.Omega.{arith}
use native.Mathlib.Decide.{ℕ_discrete}
use lib.ListN.{length, length-set, get_or, set}
use lib.Seq.{get_or-set_same, get_or-set_other}
use Rattle.spec_file.specs.Program.{Program}
use Rattle.spec_file.specs.WellFormed.{WellFormed}
use Rattle.spec_file.proofs.Everywhere.{everywhere_get_d}
use Rattle.spec_schedules.specs.Order.{Schedule}
use Rattle.spec_schedules.specs.System.{run, Allowed}
use Rattle.spec_model.specs.Exchange.{Together}
use Rattle.spec_model.proofs.Exchanges.{members}
use Rattle.spec_sc.specs.Local.{Local, pending, place_of, puts}
use Rattle.spec_sc.specs.State.{Event, History, Thread, Cell, State, fresh_cell, thread_of, cell_of, place, latest, step, enabled, opened, SC, start}
use Rattle.spec_sc.specs.Actions.{given, writes}
use Rattle.spec_sc.specs.Graph.{end_of}
use Rattle.spec_sc.proofs.Steps.{enabled_small, enabled_pending, enabled_range, thread_own, thread_other}
use Rattle.spec_sc.proofs.Change.{writes_stay, Change, kept, wrote}
use Rattle.spec_sc.proofs.Start.{start_thread, start_history}
use Rattle.spec_sc.proofs.Regular.{Regular, place_in, changes, regular_start, regular_step, regular_run}
use Rattle.spec_sc.proofs.Histories.{upcoming}
use Rattle.spec_sc.proofs.Trails.{writes_own}
use Rattle.spec_sc.proofs.Same.{both_and}
use Rattle.theory_sc.proofs.Counting.{latest_front}
use Rattle.theory_sc.proofs.GoesFirst.{Quiet}
use Rattle.theory_sc.proofs.Digits.{numbered, numbered_at, numbered_else, Sources, led, led_same}
use Rattle.theory_sc.proofs.ReadWords.{Known, latest_known, sources_known, known_new}
use Rattle.theory_states.specs.Positions.{Reached}
use Rattle.theory_sc_key.specs.Nearness.{looks, onward}
use Rattle.theory_sc_key.specs.Ways.{way_behind, ways_behind, ways_after, no_ways, ways_of}
use Rattle.theory_sc_key.proofs.GoingOn.{look_parts, reading, look_history, Led, led_onward}

-- ---- WHO HAS NOT WRITTEN behind a step: a thread that had not before, and did not in the step if it was its own
pub quiet_step : (σ : State) → Regular σ → (s u : ℕ) → Quiet (step σ s) u ↔ (Quiet σ u × (u ≡ s → writes σ s ≡ false))
unfolding writes given
quiet_step σ g s u = (λ k. (λ l j x. k l j (writes_stay σ s l (u, j) (place_in σ g s) x), λ q. silent k q (writes σ s) refl), λ k l j x. unseen k l j x (changes σ g s l))
  where
    silent : Quiet (step σ s) u → u ≡ s → (b : Bool) → writes σ s ≡ b → writes σ s ≡ false
    silent k q false e = e
    silent k q true e =
        let own = subst (Memᴰ (upcoming σ s)) (sym (writes_own σ g s (place σ s) refl e)) (Memᴰ.head refl) in
        absurd (subst (Quiet (step σ s)) q k (place σ s) (thread_of σ s).history.done own)

    unseen : Quiet σ u × (u ≡ s → writes σ s ≡ false) → (l j : ℕ) → Memᴰ (u, j) (cell_of (step σ s) l).writes → Change σ s l → ⊥
    unseen k l j x (kept q) = k.0 l j (subst (λ (c : Cell). Memᴰ (u, j) c.writes) q x)
    unseen k l j x (wrote q v o y z) = ⊎_elim (λ (i : (u, j) ≡ upcoming σ s). true≢false (sym (ap given o) ∙ k.1 (ap (λ (e : Event). e.0) i))) (k.0 l j)
        (Memᴰ.cases_cons (subst (Memᴰ (u, j)) y x))

-- ---- WHAT A READ OF e AT l FINDS
abbrev pub Valued : State → (ℕ → Event → ℕ) → Type 0
Valued σ val = (l : ℕ) → (cell_of σ l).value ≡ val l (latest (cell_of σ l).writes)

-- a step adds what reads of its own write find, and changes nothing for older writes
valued_on : (σ : State) → Regular σ → (s : ℕ) → enabled σ s ≡ true → (val : ℕ → Event → ℕ) → Valued σ val →
    (more : ℕ → Event → ℕ) × Valued (step σ s) more × ((e : Event) → Known σ e → (l : ℕ) → more l e ≡ val l e)
valued_on σ g s ok val right = (λ l. more l, λ l. here l (changes σ g s l), old)
  where
    more : ℕ → Event → ℕ
    more l = numbered (val l) (upcoming σ s) (cell_of (step σ s) l).value

    old : (e : Event) → Known σ e → (l : ℕ) → more l e ≡ val l e
    old e k l = numbered_else (val l) (upcoming σ s) (cell_of (step σ s) l).value e (known_new σ s (enabled_small σ s ok) e k)

    here : (l : ℕ) → Change σ s l → (cell_of (step σ s) l).value ≡ more l (latest (cell_of (step σ s) l).writes)
    here l (kept q) = ap (λ (c : Cell). c.value) q ∙ right l ∙ sym (old (latest (cell_of σ l).writes) (latest_known σ g l (cell_of σ l).writes refl) l) ∙ ap (λ (c : Cell). more l (latest c.writes)) (sym q)
    here l (wrote q v o y z) = sym (numbered_at (val l) (upcoming σ s) (cell_of (step σ s) l).value (latest (cell_of (step σ s) l).writes) (ap latest y ∙ latest_front (upcoming σ s) (cell_of σ l).writes))

-- ---- A THREAD'S WALK
-- the next access of a thread that stands so, finding what e wrote, writes nothing and goes to one of the eight locations
pub record Looked (val : ℕ → Event → ℕ) (h : Local) (e : Event) : Type 0 where
  pub pends : pending h ≡ true
  pub none : given (puts h (val (place_of h) e)) ≡ false
  pub eight : place_of h < 8

-- each of these reads, latest first, was such an access
abbrev pub Trail : (ℕ → Event → ℕ) → Local → List (ℕ × Event) → Type 0
Trail val h [] = Unit {0}
Trail val h (r ∷ rs) = Looked val (led val h rs) r.1 × Trail val h rs

-- the way of these reads
unfoldable pub went : (ℕ → Event → ℕ) → Local → List (ℕ × Event) → ℕ
went val h [] = 0
went val h (r ∷ rs) = way_behind (went val h rs) (place_of (led val h rs))

pub record Walk (val : ℕ → Event → ℕ) (h : Local) (k : Thread) (way : ℕ) : Type 0 where
  pub stands : Led val h k
  pub trail : Trail val h k.history.reads
  pub follows : way ≡ went val h k.history.reads

module _ (val more : ℕ → Event → ℕ) (h : Local) where
  abbrev Kept : List (ℕ × Event) → Type 0
  Kept = Sources (λ e. (l : ℕ) → more l e ≡ val l e)

  trail_kept : (rs : List (ℕ × Event)) → Kept rs → Trail val h rs → Trail more h rs
  trail_kept [] s t = tt
  trail_kept (r ∷ rs) s t =
      let here = s r (Memᴰ.head refl) in
      let same = led_same val more h rs (λ x m. s x (Memᴰ.tail m)) in
      let x : Local = led val h rs in
      let moved : Looked more x r.1 = record { pends = t.0.pends; none = ap (λ (n : ℕ). given (puts x n)) (here (place_of x)) ∙ t.0.none; eight = t.0.eight } in
      (subst (λ (y : Local). Looked more y r.1) (sym same) moved, trail_kept rs (λ x m. s x (Memᴰ.tail m)) t.1)

  went_kept : (rs : List (ℕ × Event)) → Kept rs → went more h rs ≡ went val h rs
  unfolding went
  went_kept [] s = refl
  went_kept (r ∷ rs) s = ap₂ (λ (n : ℕ) (x : Local). way_behind n (place_of x)) (went_kept rs (λ x m. s x (Memᴰ.tail m))) (led_same val more h rs (λ x m. s x (Memᴰ.tail m)))

  walk_kept : (k : Thread) (way : ℕ) → Kept k.history.reads → Walk val h k way → Walk more h k way
  walk_kept k way s w = record {
    stands = w.stands ∙ sym (led_same val more h k.history.reads s);
    trail = trail_kept k.history.reads s w.trail;
    follows = w.follows ∙ sym (went_kept k.history.reads s);
  }

-- a walk goes on by an access that writes nothing
walk_onward : (val : ℕ → Event → ℕ) (h : Local) (cs : List Cell) → ((l : ℕ) → (get_or cs l (fresh_cell 0)).value ≡ val l (latest (get_or cs l (fresh_cell 0)).writes)) →
    (k : Thread) (way : ℕ) → Walk val h k way → looks cs k ≡ true → place_of k.local < 8 → Walk val h (onward cs k) (way_behind way (place_of k.local))
unfolding went
walk_onward val h cs valued k way w l small =
    let more = sym (look_history cs k l) in
    let parts = look_parts cs k l in
    let looked : Looked val k.local (reading cs k).1 = record { pends = parts.0; none = ap (λ (n : ℕ). given (puts k.local n)) (sym (valued (place_of k.local))) ∙ parts.1; eight = small } in
    record {
      stands = led_onward val h cs valued k w.stands l;
      trail = subst (λ (y : History). Trail val h y.reads) more (subst (λ (x : Local). Looked val x (reading cs k).1) w.stands looked, w.trail);
      follows = ap₂ (λ (n : ℕ) (x : Local). way_behind n (place_of x)) w.follows w.stands ∙ ap (λ (y : History). went val h y.reads) more;
    }

-- ---- ALONG A RUN
pub record Walks (ρ σ : State) (ways : List ℕ) : Type 0 where
  pub six : length ways ≡ 6
  pub val : ℕ → Event → ℕ
  pub valued : Valued σ val
  pub walks : (t : ℕ) → t < 6 → Quiet σ t → Walk val (thread_of ρ t).local (thread_of σ t) (get_or ways t 0)

walks_step : (ρ σ : State) (ways : List ℕ) → Walks ρ σ ways → Regular σ → (s : ℕ) → enabled σ s ≡ true → Walks ρ (step σ s) (ways_behind σ ways s)
unfolding ways_behind cell_of place writes looks
walks_step ρ σ ways W g s ok = record { val = grown.0; valued = grown.1; six = length-set ways s new ∙ W.six; walks = λ t h q. go t h ((quiet_step σ g s t).0 q) (ℕ_discrete t s) }
  where
    grown : (more : ℕ → Event → ℕ) × Valued (step σ s) more × ((e : Event) → Known σ e → (l : ℕ) → more l e ≡ W.val l e)
    grown = valued_on σ g s ok W.val W.valued

    new : ℕ
    new = way_behind (get_or ways s 0) (place σ s)

    olds : (t : ℕ) → Sources (λ e. (l : ℕ) → grown.0 l e ≡ W.val l e) (thread_of σ t).history.reads
    olds t r m = grown.2 r.1 (sources_known σ g t r m)

    own : writes σ s ≡ false → Walk W.val (thread_of ρ s).local (thread_of σ s) (get_or ways s 0) → Walk grown.0 (thread_of ρ s).local (thread_of (step σ s) s) new
    own e w =
        let l : looks σ.cells (thread_of σ s) ≡ true = both_and (enabled_pending σ s ok) (ap not e) in
        let on = walk_onward W.val (thread_of ρ s).local σ.cells W.valued (thread_of σ s) (get_or ways s 0) w l (let i = place_in σ g s in let j = g.eight in omega arith) in
        let kept : Sources (λ e. (l : ℕ) → grown.0 l e ≡ W.val l e) (onward σ.cells (thread_of σ s)).history.reads =
        subst (λ (y : History). Sources (λ e. (l : ℕ) → grown.0 l e ≡ W.val l e) y.reads) (sym (look_history σ.cells (thread_of σ s) l)) (λ r m.
        ⊎_elim (λ (q : r ≡ reading σ.cells (thread_of σ s)). grown.2 r.1 (subst (Known σ) (sym (ap (λ (x : ℕ × Event). x.1) q)) (latest_known σ g (place σ s) (cell_of σ (place σ s)).writes refl)))
        (λ (k : Memᴰ r (thread_of σ s).history.reads). olds s r k) (Memᴰ.cases_cons m)) in
        subst (λ (x : Thread). Walk grown.0 (thread_of ρ s).local x new) (sym (thread_own σ s (enabled_range σ s ok)))
        (walk_kept W.val grown.0 (thread_of ρ s).local (onward σ.cells (thread_of σ s)) new kept on)

    go : (t : ℕ) → t < 6 → Quiet σ t × (t ≡ s → writes σ s ≡ false) → Dec (t ≡ s) → Walk grown.0 (thread_of ρ t).local (thread_of (step σ s) t) (get_or (set ways s new) t 0)
    go t h q (no i) = subst (λ (x : Thread). Walk grown.0 (thread_of ρ t).local x (get_or (set ways s new) t 0)) (sym (thread_other σ s t i))
        (subst (λ (n : ℕ). Walk grown.0 (thread_of ρ t).local (thread_of σ t) n) (sym (get_or-set_other ways s t new 0 i))
        (walk_kept W.val grown.0 (thread_of ρ t).local (thread_of σ t) (get_or ways t 0) (olds t) (W.walks t h q.0)))
    go t h q (yes i) = subst (λ (x : ℕ). Walk grown.0 (thread_of ρ x).local (thread_of (step σ s) x) (get_or (set ways s new) x 0)) (sym i)
        (subst (λ (n : ℕ). Walk grown.0 (thread_of ρ s).local (thread_of (step σ s) s) n) (sym (get_or-set_same ways s new 0 (omega (arith, W.six, enabled_small σ s ok))))
        (own (q.1 i) (W.walks s (enabled_small σ s ok) (subst (Quiet σ) i q.0))))

walks_run : (v : Schedule) (ρ σ : State) (ways : List ℕ) → Walks ρ σ ways → Regular σ → Allowed SC σ v → Walks ρ (run SC σ v) (ways_after σ ways v)
unfolding run ways_after
walks_run [] ρ σ ways W g a = W
walks_run (s ∷ v) ρ σ ways W g a = walks_run v ρ (step σ s) (ways_behind σ ways s) (walks_step ρ σ ways W g s a.0) (regular_step σ s g a.0) a.1

walks_start : (p : Program) → Walks (start p) (start p) no_ways
unfolding no_ways went led
walks_start p = record {
  six = refl;
  val = λ l e. (cell_of (start p) l).value;
  valued = λ l. refl;
  walks = λ t h q. first t (start_history p t).1 (zeros t);
}
  where
    zeros : (t : ℕ) → get_or no_ways t 0 ≡ 0
    zeros t = everywhere_get_d (λ n. n ≡ 0) no_ways t 0 (refl, (refl, (refl, (refl, (refl, (refl, tt)))))) refl

    first : (t : ℕ) → (thread_of (start p) t).history.reads ≡ [] → get_or no_ways t 0 ≡ 0 → Walk (λ l e. (cell_of (start p) l).value) (thread_of (start p) t).local (thread_of (start p) t) (get_or no_ways t 0)
    first t none low = record {
      stands = sym (ap (led (λ l e. (cell_of (start p) l).value) (thread_of (start p) t).local) none);
      trail = subst (Trail (λ l e. (cell_of (start p) l).value) (thread_of (start p) t).local) (sym none) tt;
      follows = low ∙ sym (ap (went (λ l e. (cell_of (start p) l).value) (thread_of (start p) t).local) none);
    }

pub walks_of : (p : Program) → WellFormed p → (v : Schedule) → Allowed SC (start p) v → Walks (start p) (end_of p v) (ways_of p v)
unfolding ways_of
walks_of p w v a = walks_run v (start p) (start p) no_ways (walks_start p) (regular_start p w) a

-- ---- WHAT HOLDS OF A STATE THAT THE SEARCH MEETS
pub record Traced (p : Program) (σ : State) : Type 0 where
  pub regular : Regular σ
  pub val : ℕ → Event → ℕ
  pub valued : Valued σ val
  pub stands : (t : ℕ) → t < 6 → Quiet σ t → Led val (thread_of (start p) t).local (thread_of σ t)

pub traces : (p : Program) → WellFormed p → (v : Schedule) (σ : State) → Reached SC (start p) v σ → Traced p σ
traces p w v σ r =
    let W = walks_of p w v r.1 in
    subst (Traced p) (sym r.0) (record { regular = regular_run v (start p) (regular_start p w) r.1; val = W.val; valued = W.valued; stands = λ t h q. (W.walks t h q).stands })

-- two threads of one line began alike, so both were led from one start
pub began : (p : Program) → WellFormed p → (t u : ℕ) → Together p t u → thread_of (start p) t ≡ thread_of (start p) u
began p w t u line = let m = members p w t u line in start_thread p t m.0 ∙ ap opened m.2 ∙ sym (start_thread p u m.1)

pub led_both : (p : Program) → WellFormed p → (σ : State) (T : Traced p σ) (t u : ℕ) → Together p t u → Quiet σ t → Quiet σ u →
    Led T.val (thread_of (start p) u).local (thread_of σ t) × Led T.val (thread_of (start p) u).local (thread_of σ u)
led_both p w σ T t u line qt qu =
    let m = members p w t u line in
    let six = w.six in (
      subst (λ (x : Thread). Led T.val x.local (thread_of σ t)) (began p w t u line) (T.stands t (omega (arith, m.0)) qt),
      T.stands u (omega (arith, m.1)) qu,
    )
