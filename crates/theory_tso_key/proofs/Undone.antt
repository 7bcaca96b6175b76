-- AN ACCESS UNDONE. Where nothing of u is in memory, u's latest access can be left out of the run: the others and memory come to stand as they do, and u
-- stands before it. Either u's access from there leads here, or it looked at memory and what it found is no longer the last write of its location.
use Prim.Native.Nat.{ℕ, zero, suc, ◌+◌, ◌*◌, ◌<◌}
use mathlib.Core.Path.{◌≡◌, refl, sym, ap, ap₂, subst, ◌∙◌}
use mathlib.Core.Logic.{◌≢◌, ◌⊎◌, inl, inr, ⊎_elim}
use mathlib.Core.Bool.{Bool, true, false, not, ◌&&◌}
use mathlib.Core.Option.{Option, none, some}
use mathlib.Core.List.{List, [], ◌∷◌, ◌++◌, append-nil, append_assoc, Memᴰ}
use native.Mathlib.Omega.{arith}
use native.Mathlib.Decide.{ℕ_discrete}
use lib.Dec.{eqb}
use lib.ListN.{length, get_or, set}
use borrow.Author.Tests.{eqb-true, eq-eqb, ne_eqb}
use Rattle.spec_file.specs.Program.{Program}
use Rattle.spec_file.specs.WellFormed.{WellFormed}
use Rattle.spec_file.proofs.DigitValues.{both}
use Rattle.spec_schedules.specs.Lists.{all}
use Rattle.spec_schedules.specs.Order.{Schedule}
use Rattle.spec_schedules.specs.System.{run, Allowed}
use Rattle.spec_sc.specs.Local.{place_of, takes}
use Rattle.spec_sc.specs.State.{Event, initial_write, Cell, fresh_cell, History, latest, noted}
use Rattle.spec_sc.specs.Actions.{given}
use Rattle.spec_sc.proofs.Regular.{latest_of}
use Rattle.spec_tso.specs.Queue.{newest}
use Rattle.spec_tso.specs.State.{Thread, State, Kind, access, without_queues, thread_of, cell_of, finds, target, number_of, thread_behind, cell_behind, place, step_of, able, kind_of, owner, byte_for, step, enabled, TSO, start}
use Rattle.spec_tso.specs.Actions.{reading}
use Rattle.spec_tso.proofs.Bytes.{for_owner}
use Rattle.spec_tso.proofs.Steps.{enabled_able, enabled_small, enabled_of, able_range, thread_own, thread_other, putting, still}
use Rattle.spec_tso.proofs.Stays.{stays}
use Rattle.spec_tso.proofs.Change.{Change, kept, wrote, writes_stay, wrote_own}
use Rattle.spec_tso.proofs.StoreOrder.{put_new}
use Rattle.spec_tso.proofs.Regular.{Regular, changes, place_in}
use Rattle.theory_search.specs.Standing.{silent}
use Rattle.theory_tso.specs.Deeds.{is_none, looking}
use Rattle.theory_tso.proofs.Kept.{start_done}
use Rattle.theory_states.proofs.Positions.{reached_start, reached_on}
use Rattle.theory_tso_key.specs.Ways.{way_behind, way_after, way_of}
use Rattle.theory_tso_key.proofs.Rules.{Met, met_regular}
use Rattle.theory_tso_key.proofs.Apart.{crosses, turned_on, step_is}
use Rattle.theory_tso_key.proofs.Twins.{Still, still_back, still_access, byte_access, access_still, access_history, access_other}
use Rattle.theory_tso_key.proofs.Near.{found_there, place_same, given_some}

-- ---- along a run, step by step
pub met_induction : (p : Program) (P : Schedule → State → Type 0) → P [] (start p) →
    ((v : Schedule) (σ : State) → Met p v σ → P v σ → (b : ℕ) → enabled σ b ≡ true → P (v ++ (b ∷ [])) (step σ b)) → (v : Schedule) (σ : State) → Met p v σ → P v σ
unfolding run
met_induction p P first on v σ r = subst (P v) (sym r.0) (go v [] (start p) (reached_start TSO (start p)) first r.1)
  where
    go : (x v : Schedule) (ρ : State) → Met p v ρ → P v ρ → Allowed TSO ρ x → P (v ++ x) (run TSO ρ x)
    go [] v ρ r h a = subst (λ (y : Schedule). P y ρ) (sym (append-nil v)) h
    go (b ∷ x) v ρ r h a = subst (λ (y : Schedule). P y (run TSO (step ρ b) x)) (append_assoc v (b ∷ []) x)
        (go x (v ++ (b ∷ [])) (step ρ b) (reached_on TSO (start p) v ρ r b a.0) (on v ρ r h b a.0) a.1)

way_snoc : (u : ℕ) (σ : State) (w : ℕ) (v : Schedule) (b : ℕ) → way_after u σ w (v ++ (b ∷ [])) ≡ way_behind (run TSO σ v) u (way_after u σ w v) b
unfolding way_after run
way_snoc u σ w [] b = refl
way_snoc u σ w (c ∷ v) b = way_snoc u (step σ c) (way_behind σ u w c) v b

pub way_on : (p : Program) (v : Schedule) (σ : State) → Met p v σ → (u b : ℕ) → way_of p (v ++ (b ∷ [])) u ≡ way_behind σ u (way_of p v u) b
way_on p v σ r u b = way_snoc u (start p) 0 v b ∙ ap (λ (ρ : State). way_behind ρ u (way_of p v u) b) (sym r.0)

pub way_other : (p : Program) (v : Schedule) (σ : State) → Met p v σ → (u b : ℕ) → b ≢ u → way_of p (v ++ (b ∷ [])) u ≡ way_of p v u
unfolding way_behind
way_other p v σ r u b ne = way_on p v σ r u b ∙ (let e = ne_eqb b u ne in rw e)

pub way_own : (p : Program) (v : Schedule) (σ : State) → Met p v σ → (u : ℕ) → way_of p (v ++ (u ∷ [])) u ≡ way_of p v u * 8 + place σ access u
unfolding way_behind
way_own p v σ r u = way_on p v σ r u u ∙ (let e = eq-eqb u u refl in rw e)

-- ---- STATES THAT DIFFER IN ONE THREAD
pub record Aside (u : ℕ) (τ σ : State) : Type 0 where
  pub cells : τ.cells ≡ σ.cells
  pub others : (s : ℕ) → s ≢ u → thread_of τ s ≡ thread_of σ s

module _ (u : ℕ) (τ σ : State) (d : Aside u τ σ) (b : ℕ) (ne : owner b ≢ u) (m : enabled σ b ≡ true) where
  aside_may : enabled τ b ≡ true
  unfolding enabled
  aside_may = enabled_of τ σ b m (ap₂ (λ (h : Thread) (n : ℕ). able (kind_of b) h n) (d.others (owner b) ne) (ap length d.cells) ∙ enabled_able σ b m)

  aside_own : thread_of (step τ b) (owner b) ≡ thread_of (step σ b) (owner b)
  unfolding step place cell_of
  aside_own =
      thread_own τ (kind_of b) (owner b) (able_range τ (kind_of b) (owner b) (length τ.cells) (enabled_able τ b aside_may))
      ∙ ap₂ (λ (h : Thread) (cs : List Cell). thread_behind (kind_of b) (owner b) h (get_or cs (target (kind_of b) h) (fresh_cell 0))) (d.others (owner b) ne) d.cells
      ∙ sym (thread_own σ (kind_of b) (owner b) (able_range σ (kind_of b) (owner b) (length σ.cells) (enabled_able σ b m)))

  aside_step : Aside u (step τ b) (step σ b)
  unfolding step step_of place cell_of
  aside_step = record {
    cells = ap₂ (λ (h : Thread) (cs : List Cell). set cs (target (kind_of b) h) (cell_behind (kind_of b) (owner b) h (get_or cs (target (kind_of b) h) (fresh_cell 0)))) (d.others (owner b) ne) d.cells;
    others = λ s k. go s k (ℕ_discrete s (owner b));
  }
    where
      go : (s : ℕ) → s ≢ u → Dec (s ≡ owner b) → thread_of (step τ b) s ≡ thread_of (step σ b) s
      go s k (yes e) = subst (λ (x : ℕ). thread_of (step τ b) x ≡ thread_of (step σ b) x) (sym e) aside_own
      go s k (no f) = thread_other τ (kind_of b) (owner b) s f ∙ d.others s k ∙ sym (thread_other σ (kind_of b) (owner b) s f)

-- ---- EVENTS THAT MEMORY KNOWS
abbrev pub Seen : State → Event → Type 0
Seen σ e = (e ≡ initial_write) ⊎ ((l : ℕ) × Memᴰ e (cell_of σ l).writes)

pub latest_seen : (σ : State) (l : ℕ) → Seen σ (latest (cell_of σ l).writes)
latest_seen σ l = ⊎_elim (λ (q : latest (cell_of σ l).writes ≡ initial_write). inl q) (λ (m : Memᴰ (latest (cell_of σ l).writes) (cell_of σ l).writes). inr (l, m)) (latest_of (cell_of σ l).writes)

module _ (σ : State) (g : Regular σ) (b : ℕ) (m : enabled σ b ≡ true) (e : Event) where
  seen_on : Seen σ e → Seen (step σ b) e
  unfolding step
  seen_on (inl q) = inl q
  seen_on (inr k) = inr (k.0, writes_stay σ (kind_of b) (owner b) k.0 e (changes σ g (kind_of b) (owner b) (enabled_able σ b m) k.0) k.1)

  -- what a step puts is new
  unlike_put : Seen σ e → e ≢ (owner b, number_of (kind_of b) (thread_of σ (owner b)))
  unfolding initial_write
  unlike_put (inl q) i = let z = ap (λ (x : Event). x.0) (sym q ∙ i) in omega (arith, enabled_small σ b m, z)
  unlike_put (inr k) i = put_new σ (kind_of b) (owner b) (g.stores (owner b)) (enabled_able σ b m) k.0 (subst (λ (x : Event). Memᴰ x (cell_of σ k.0).writes) i k.1)

  -- what is not the last write of a location will never be again
  past_on : Seen σ e → (l : ℕ) → e ≢ latest (cell_of σ l).writes → e ≢ latest (cell_of (step σ b) l).writes
  unfolding step latest
  past_on k l ne = go (changes σ g (kind_of b) (owner b) (enabled_able σ b m) l)
    where
      go : Change σ (kind_of b) (owner b) l → e ≢ latest (cell_of (step σ b) l).writes
      go (kept q) i = ne (i ∙ ap (λ (c : Cell). latest c.writes) q)
      go (wrote q v o y z) i = unlike_put k (i ∙ ap latest y)

-- ---- WITHOUT u's LATEST ACCESS
-- what it found there is no longer the last write
pub record Gone (τ σ : State) (u : ℕ) : Type 0 where
  pub source : Event
  pub read : (thread_of σ u).history ≡ noted true source (thread_of τ u).history
  pub looked : looking access (thread_of τ u) ≡ true
  pub seen : Seen σ source
  pub past : source ≢ latest (cell_of σ (place τ access u)).writes

pub record Undone (p : Program) (v : Schedule) (σ : State) (u : ℕ) : Type 0 where
  pub prefix : Schedule
  pub before : State
  pub met : Met p prefix before
  pub aside : Aside u before σ
  pub may : enabled before u ≡ true
  pub way : way_of p v u ≡ way_of p prefix u * 8 + place before access u
  pub how : (step before u ≡ σ) ⊎ Gone before σ u

pub still_aside : (u : ℕ) (τ σ : State) → Aside u τ σ → (t : ℕ) → silent (without_queues τ) t ≡ silent (without_queues σ) t
unfolding silent without_queues
still_aside u τ σ d t = ap (λ (cs : List Cell). all (λ (c : Cell). all (λ (e : Event). not (eqb e.0 t)) c.writes) cs) d.cells

pub cell_aside : (u : ℕ) (τ σ : State) → Aside u τ σ → (l : ℕ) → cell_of τ l ≡ cell_of σ l
unfolding cell_of
cell_aside u τ σ d l = ap (λ (cs : List Cell). get_or cs l (fresh_cell 0)) d.cells

-- what a thread that looks at memory reads
pub look_history : (τ : State) (u : ℕ) → u < 6 → enabled τ u ≡ true → looking access (thread_of τ u) ≡ true →
    (thread_of (step τ u) u).history ≡ noted true (latest (cell_of τ (place τ access u)).writes) (thread_of τ u).history
unfolding looking reading finds
look_history τ u h m k =
    let b = both (takes (thread_of τ u).local) _ k in
    access_history τ u h m ∙ ap₂ (λ (x : Bool) (e : Event). noted x e (thread_of τ u).history) b.0
    (found_there u (newest (thread_of τ u).queue (place_of (thread_of τ u).local)) (cell_of τ (place τ access u)) b.1)

module _ (p : Program) (w : WellFormed p) (v : Schedule) (σ : State) (r : Met p v σ) (u : ℕ) (h : u < 6) (b : ℕ) (m : enabled σ b ≡ true) where
  g : Regular σ
  g = met_regular p w v σ r

  -- u's own access was the latest
  own_undone : Still (step σ b) u → owner b ≡ u → Undone p (v ++ (b ∷ [])) (step σ b) u
  unfolding byte_for
  own_undone s o =
      let k = still_access σ g b m (subst (λ (x : ℕ). Still (step σ b) x) (sym o) s) in
      let same : b ≡ u = sym (for_owner b) ∙ ap (λ (j : Kind). byte_for j (owner b)) k.0 ∙ o in
      let quiet : putting σ access u ≡ none = subst (λ (x : ℕ). putting σ access x ≡ none) o k.1 in
      subst (λ (c : ℕ). Undone p (v ++ (c ∷ [])) (step σ c) u) (sym same) (record {
        prefix = v;
        before = σ;
        met = r;
        aside = record {
          cells = sym (ap (λ (ρ : State). ρ.cells) (step_is σ u h) ∙ still σ access u quiet);
          others = λ s ne. sym (access_other σ u h s ne);
        };
        may = subst (λ (c : ℕ). enabled σ c ≡ true) same m;
        way = way_own p v σ r u;
        how = inl refl;
      })

  -- another thread's step
  module _ (ne : owner b ≢ u) (s : Still σ u) (D : Undone p v σ u) where
    abbrev τ : State
    τ = D.before

    gτ : Regular D.before
    gτ = met_regular p w D.prefix D.before D.met

    may_b : enabled D.before b ≡ true
    may_b = aside_may u D.before σ D.aside b ne m

    u_kept : thread_of (step D.before b) u ≡ thread_of D.before u
    unfolding step
    u_kept = thread_other D.before (kind_of b) (owner b) u (λ e. ne (sym e))

    u_same : thread_of (step σ b) u ≡ thread_of σ u
    unfolding step
    u_same = thread_other σ (kind_of b) (owner b) u (λ e. ne (sym e))

    place_kept : place (step D.before b) access u ≡ place D.before access u
    place_kept = place_same (step D.before b) D.before access u u_kept

    byte_ne : b ≢ u
    byte_ne e = ne (ap owner e ∙ (byte_access u h).1)

    gone_on : Gone D.before σ u → Gone (step D.before b) (step σ b) u
    gone_on x = record {
      source = x.source;
      read = ap (λ (k : Thread). k.history) u_same ∙ x.read ∙ ap (λ (k : Thread). noted true x.source k.history) (sym u_kept);
      looked = ap (looking access) u_kept ∙ x.looked;
      seen = seen_on σ g b m x.source x.seen;
      past = subst (λ (l : ℕ). x.source ≢ latest (cell_of (step σ b) l).writes) (sym place_kept) (past_on σ g b m x.source x.seen (place D.before access u) x.past);
    }

    -- it put where u looked
    gone_now : step D.before u ≡ σ → crosses D.before b u ≡ true → Gone (step D.before b) (step σ b) u
    unfolding step latest
    gone_now same c =
        let l : ℕ = place τ access u in
        let c1 = both (looking access (thread_of τ u)) _ c in
        let c2 = both (given (putting τ (kind_of b) (owner b))) _ c1.1 in
        let put = given_some (putting τ (kind_of b) (owner b)) c2.0 in
        let here : cell_of σ l ≡ cell_of τ l = sym (cell_aside u τ σ D.aside l) in
        let e : Event = latest (cell_of τ l).writes in
        let there : cell_of (step σ b) l ≡ cell_of (step τ b) l = sym (cell_aside u (step τ b) (step σ b) (aside_step u τ σ D.aside b ne m) l) in
        let known : Seen τ e = latest_seen τ l in
        let front = (wrote_own τ (kind_of b) (owner b) l put.0 (place_in τ gτ (kind_of b) (owner b) (enabled_able τ b may_b)) (sym (eqb-true (place τ (kind_of b) (owner b)) l c2.1)) put.1).0 in
        record {
          source = e;
          read = ap (λ (k : Thread). k.history) u_same ∙ ap (λ (ρ : State). (thread_of ρ u).history) (sym same) ∙ look_history τ u h D.may c1.0
              ∙ ap (λ (k : Thread). noted true e k.history) (sym u_kept);
          looked = ap (looking access) u_kept ∙ c1.0;
          seen = seen_on σ g b m e (subst (λ (x : Event). Seen σ x) (ap (λ (x : Cell). latest x.writes) here) (latest_seen σ l));
          past = λ i. unlike_put τ gτ b may_b e known (i ∙ ap (λ (j : ℕ). latest (cell_of (step σ b) j).writes) place_kept ∙ ap (λ (x : Cell). latest x.writes) there ∙ ap latest front);
        }

    came_on : step D.before u ≡ σ → (c : Bool) → crosses D.before b u ≡ c → (step (step D.before b) u ≡ step σ b) ⊎ Gone (step D.before b) (step σ b) u
    came_on same true c = inr (gone_now same c)
    came_on same false c =
        let quiet = access_still τ gτ u h D.may (subst (λ (ρ : State). Still ρ u) (sym same) s) in
        let x = turned_on τ gτ b u h ne c D.may (subst (λ (ρ : State). enabled ρ b ≡ true) (sym same) m) quiet in
        inl (sym x.2 ∙ ap (λ (ρ : State). step ρ b) same)

    other_undone : Undone p (v ++ (b ∷ [])) (step σ b) u
    other_undone = record {
      prefix = D.prefix ++ (b ∷ []);
      before = step D.before b;
      met = reached_on TSO (start p) D.prefix D.before D.met b may_b;
      aside = aside_step u D.before σ D.aside b ne m;
      may = stays D.before b u byte_ne may_b D.may;
      way = way_other p v σ r u b byte_ne ∙ D.way ∙ ap₂ (λ (x y : ℕ). x * 8 + y) (sym (way_other p D.prefix D.before D.met u b byte_ne)) (sym place_kept);
      how = ⊎_elim (λ (i : step D.before u ≡ σ). came_on i (crosses D.before b u) refl) (λ (i : Gone D.before σ u). inr (gone_on i)) D.how;
    }

-- IT CAN BE LEFT OUT, where there is one
pub undone : (p : Program) → WellFormed p → (v : Schedule) (σ : State) → Met p v σ → (u : ℕ) → u < 6 → Still σ u → 0 < (thread_of σ u).history.done → Undone p v σ u
unfolding step
undone p w v σ r u h s d = ⊎_elim (λ (e : (thread_of σ u).history.done ≡ 0). absurd (omega (arith, d, e))) (λ (x : Undone p v σ u). x) (met_induction p Any first on v σ r u h s)
  where
    Any : Schedule → State → Type 0
    Any v σ = (u : ℕ) → u < 6 → Still σ u → ((thread_of σ u).history.done ≡ 0) ⊎ Undone p v σ u

    first : Any [] (start p)
    first u h s = inl (start_done p u).0

    on : (v : Schedule) (σ : State) → Met p v σ → Any v σ → (b : ℕ) → enabled σ b ≡ true → Any (v ++ (b ∷ [])) (step σ b)
    on v σ r x b m u h s = go (ℕ_discrete (owner b) u) (x u h before)
      where
        before : Still σ u
        before = still_back σ (met_regular p w v σ r) b m u s

        go : Dec (owner b ≡ u) → ((thread_of σ u).history.done ≡ 0) ⊎ Undone p v σ u → ((thread_of (step σ b) u).history.done ≡ 0) ⊎ Undone p (v ++ (b ∷ [])) (step σ b) u
        go (yes o) y = inr (own_undone p w v σ r u h b m s o)
        go (no ne) (inl e) = inl (ap (λ (k : Thread). k.history.done) (thread_other σ (kind_of b) (owner b) u (λ i. ne (sym i))) ∙ e)
        go (no ne) (inr D) = inr (other_undone p w v σ r u h b m ne before D)
