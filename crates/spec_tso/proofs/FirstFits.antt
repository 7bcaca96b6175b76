-- Two full schedules with one graph: the first step b of the one depends on nothing that stands before it in the other. So it can be taken first there
-- too.
use Prim.Native.Nat.{ℕ, ◌<◌}
use mathlib.Core.Path.{◌≡◌, refl, sym, ap, ap₂, subst, ◌∙◌}
use mathlib.Core.Logic.{◌≢◌, ◌⊎◌, inl, inr, ⊎_elim}
use mathlib.Core.Bool.{Bool, true, false, false≢true}
use mathlib.Core.Option.{Option, none, some}
use mathlib.Core.List.{List, [], ◌∷◌, ◌++◌, append_assoc, Memᴰ}
use native.Mathlib.Omega.{arith}
use lib.ListN.{length}
use Rattle.spec_schedules.specs.Order.{Schedule}
use Rattle.spec_schedules.specs.System.{run, Allowed, FullFrom}
use Rattle.spec_schedules.specs.Orders.{next_of, clear}
use Rattle.spec_schedules.proofs.Runs.{run_append, run_cons, full_split, full_allowed}
use Rattle.spec_schedules.proofs.GreedyFull.{first_place_lem}
use Rattle.spec_sc.specs.Local.{Local, place_of, takes}
use Rattle.spec_sc.specs.State.{Event, initial_write, History, Cell, latest}
use Rattle.spec_sc.proofs.FirstFits.{ends_of, longer, nothing_between}
use Rattle.spec_tso.specs.Queue.{Entry, newest, found_in, at_once, oldest_number, oldest_value, movable, free}
use Rattle.spec_tso.specs.State.{Thread, State, thread_of, cell_of, locked, finds, target, number_of, reaches, place, able, kind_of, owner, step, TSO, Kind, access, move}
use Rattle.spec_tso.specs.Graph.{graph_of}
use Rattle.spec_tso.specs.Actions.{Action, action, who, dependent}
use Rattle.spec_tso.proofs.ActionTerms.{actions}
use Rattle.spec_tso.proofs.Steps.{enabled_small, enabled_access, enabled_able, able_pending, able_free, able_movable, putting}
use Rattle.spec_tso.proofs.Bytes.{owner_access}
use Rattle.spec_tso.proofs.Queues.{free_empty}
use Rattle.spec_tso.proofs.Stays.{occurs}
use Rattle.spec_tso.proofs.Depends.{Because, made, emptied, both_put, read_behind, initial_first, source_first, not_dependent}
use Rattle.spec_tso.proofs.Change.{wrote_own}
use Rattle.spec_tso.proofs.StoreOrder.{StoresInOrder, within_in, put_new}
use Rattle.spec_tso.proofs.Values.{Values, Agrees, newest_in, finds_value, writing, Old}
use Rattle.spec_tso.proofs.Regular.{Regular, place_in, regular_step, regular_run}
use Rattle.spec_tso.proofs.Growth.{Grown, grown, same_latest, no_growth, done_run}
use Rattle.spec_tso.proofs.Reading.{Core, source, same_place, same_source_lem, same_finding}
use Rattle.spec_tso.proofs.Determined.{values_run, determined}
use Rattle.spec_tso.proofs.Seen.{same_reads, same_writes}
use Rattle.spec_tso.proofs.ActionParts.{act_access, act_move, act_event, act_location, act_puts, act_before, act_reads, act_locks, act_source, first_at, clear_at}
use Rattle.spec_tso.proofs.Waiting.{run_core, Oldest, run_oldest, run_empty}

-- the latest of a list in front of another is in the first, if that is not empty
latest_new : (new ws : List Event) → (new ≡ []) ⊎ Memᴰ (latest (new ++ ws)) new
unfolding latest
latest_new [] ws = inl refl
latest_new (x ∷ new) ws = inr (mathlib.Core.List.Memᴰ.head refl)

-- an access reads from memory, or from an entry of its queue
source_cases : (τ : State) (t : ℕ) → (source τ t ≡ latest (cell_of τ (place τ access t)).writes) ⊎ ((x : Entry) × Memᴰ x (thread_of τ t).queue × (source τ t ≡ (t, x.number)))
unfolding finds found_in
source_cases τ t = go (newest (thread_of τ t).queue (place_of (thread_of τ t).local)) refl
  where
    go : (o : Option Entry) → newest (thread_of τ t).queue (place_of (thread_of τ t).local) ≡ o →
        (source τ t ≡ latest (cell_of τ (place τ access t)).writes) ⊎ ((x : Entry) × Memᴰ x (thread_of τ t).queue × (source τ t ≡ (t, x.number)))
    go none e = inl (ap (λ (o : Option Entry). (found_in t o (cell_of τ (place τ access t))).source) e)
    go (some x) e = inr (x, (newest_in (thread_of τ t).queue (place_of (thread_of τ t).local) x e).0, ap (λ (o : Option Entry). (found_in t o (cell_of τ (place τ access t))).source) e)

foreign : (τ : State) (t : ℕ) → ((source τ t).0 ≡ t → ⊥) → source τ t ≡ latest (cell_of τ (place τ access t)).writes
foreign τ t ne = ⊎_elim (λ (q : source τ t ≡ latest (cell_of τ (place τ access t)).writes). q)
    (λ (q : (x : Entry) × Memᴰ x (thread_of τ t).queue × (source τ t ≡ (t, x.number))). absurd (ne (ap (λ (e : Event). e.0) q.2))) (source_cases τ t)

-- the next access of t, in two states with its local state and history, and with the same reads at their ends
module _ (σ ρ : State) (t : ℕ) (low : t < 6) (v r : Schedule) (aσ : Allowed TSO σ (t ∷ v)) (aρ : Allowed TSO ρ (t ∷ r)) (core : Core (thread_of ρ t) (thread_of σ t))
    (reads : (thread_of (run TSO ρ (t ∷ r)) t).history.reads ≡ (thread_of (run TSO σ (t ∷ v)) t).history.reads) (γ : Values) (gσ : Agrees γ σ) (gρ : Agrees γ ρ) where
  access_source : takes (thread_of σ t).local ≡ true → source ρ t ≡ source σ t
  access_source e = same_source_lem ρ σ t r v low aρ aσ core e reads

  access_writing : writing ρ t ≡ writing σ t
  access_writing = (same_finding t (thread_of ρ t) (thread_of σ t) (cell_of ρ (place ρ access t)) (cell_of σ (place σ access t)) core (able_pending (thread_of σ t) (length σ.cells) (sym (enabled_access σ t low) ∙ aσ.0))
      (λ e. let s = access_source e in (finds_value γ ρ gρ t ∙ ap₂ γ (same_place ρ σ t core) s ∙ sym (finds_value γ σ gσ t), s))).1

  access_putting : putting ρ access t ≡ putting σ access t
  unfolding reaches
  access_putting = ap₂ (λ (x : Local) (o : Option ℕ). at_once (locked x) o) core.0 access_writing

number_core : (h k : Thread) → Core h k → number_of access h ≡ number_of access k
unfolding number_of
number_core h k c = ap (λ (x : History). x.done) c.1

move_putting : (t : ℕ) (h k : Thread) (c d : Cell) → oldest_value k.queue ≡ oldest_value h.queue → reaches move t k d ≡ reaches move t h c
unfolding reaches
move_putting t h k c d e = e

move_place : (σ ρ : State) (t : ℕ) → target move (thread_of ρ t) ≡ target move (thread_of σ t) → place ρ move t ≡ place σ move t
unfolding place
move_place σ ρ t e = e

not_initial : (e : Event) → e.0 < 6 → e ≡ initial_write → ⊥
unfolding initial_write
not_initial e h q = omega (arith, ap (λ (x : Event). x.0) q)

done_number : (h : Thread) → number_of access h ≡ h.history.done
unfolding number_of
done_number h = refl

nothing_movable : (q : List Entry) (n : ℕ) → q ≡ [] → movable q n ≡ true → ⊥
unfolding movable
nothing_movable [] n e m = false≢true m
nothing_movable (x ∷ q) n e m = let z : ◌≡◌ {A = ℕ} 0 1 = cc in omega arith

-- a pending store was made by an access that is done
pending_done : (σ : State) (t n : ℕ) → StoresInOrder σ t → able move (thread_of σ t) n ≡ true → number_of move (thread_of σ t) < (thread_of σ t).history.done
unfolding number_of able movable oldest_number
pending_done σ t n L m = go (thread_of σ t).queue refl m
  where
    go : (q : List Entry) → (thread_of σ t).queue ≡ q → movable q n ≡ true → oldest_number (thread_of σ t).queue < (thread_of σ t).history.done
    go [] e i = absurd (false≢true i)
    go (x ∷ q) e i = rw e (within_in L.floor (thread_of σ t).queue (thread_of σ t).history.done x L.within (subst (Memᴰ x) (sym e) (mathlib.Core.List.Memᴰ.head refl))).1

module _ (σ : State) (reg : Regular σ) (b : ℕ) (v w : Schedule) (fv : FullFrom TSO σ (b ∷ v)) (fw : FullFrom TSO σ w) (same : graph_of (run TSO σ (b ∷ v)) ≡ graph_of (run TSO σ w)) where
  abbrev k : Kind
  k = kind_of b

  abbrev t : ℕ
  t = owner b

  -- b's first place in w
  place_w : (u : Schedule) × (y : Schedule) × (w ≡ u ++ (b ∷ y)) × (Memᴰ b u → ⊥)
  place_w = first_place_lem b w (occurs σ b w fv.0 fw)

  abbrev z : Schedule
  z = place_w.0

  abbrev r : Schedule
  r = place_w.1

  abbrev ρ : State
  ρ = run TSO σ z

  abbrev l : ℕ
  l = place σ k t

  cut : Allowed TSO σ z × FullFrom TSO ρ (b ∷ r)
  cut = full_split TSO σ z (b ∷ r) (subst (FullFrom TSO σ) place_w.2 fw)

  regρ : Regular ρ
  regρ = regular_run z σ reg cut.0

  live : able k (thread_of σ t) (length σ.cells) ≡ true
  live = enabled_able σ b fv.0

  liveρ : able k (thread_of ρ t) (length ρ.cells) ≡ true
  liveρ = enabled_able ρ b cut.1.0

  low : t < 6
  low = enabled_small σ b fv.0

  end_w : run TSO σ w ≡ run TSO ρ (b ∷ r)
  end_w = ap (run TSO σ) place_w.2 ∙ run_append TSO σ z (b ∷ r)

  -- the values of w's writes
  known : (γ : Values) × ((j : ℕ) (e : Event) → Old σ e → γ j e ≡ reg.valued.0 j e) × ((x y : Schedule) → w ≡ x ++ y → Agrees γ (run TSO σ x))
  known = values_run w σ reg.valued.0 reg reg.valued.1 (full_allowed TSO σ w fw).0

  at_start : Agrees known.0 σ
  unfolding run
  at_start = known.2 [] w refl

  -- an access waits
  module _ (q : kind_of b ≡ access) where
    own_name : owner b ≡ b
    own_name = (owner_access b q).0

    core_b : Core (thread_of ρ b) (thread_of σ b)
    core_b = run_core z σ b cut.0 place_w.3

    low_b : b < 6
    low_b = subst (λ (x : ℕ). x < 6) own_name low

    reads_b : (thread_of (run TSO ρ (b ∷ r)) b).history.reads ≡ (thread_of (run TSO σ (b ∷ v)) b).history.reads
    reads_b = ap (λ (x : State). (thread_of x b).history.reads) (sym end_w) ∙ sym (same_reads (run TSO σ (b ∷ v)) (run TSO σ w) same b)

    core_t : Core (thread_of ρ t) (thread_of σ t)
    core_t = subst (λ (x : ℕ). Core (thread_of ρ x) (thread_of σ x)) (sym own_name) core_b

    source_t : takes (thread_of σ t).local ≡ true → source ρ t ≡ source σ t
    source_t = subst (λ (x : ℕ). takes (thread_of σ x).local ≡ true → source ρ x ≡ source σ x) (sym own_name)
        (access_source σ ρ b low_b v r (full_allowed TSO σ (b ∷ v) fv).0 (full_allowed TSO ρ (b ∷ r) cut.1).0 core_b reads_b known.0 at_start (known.2 z (b ∷ r) place_w.2))

    putting_t : putting ρ access t ≡ putting σ access t
    putting_t = subst (λ (x : ℕ). putting ρ access x ≡ putting σ access x) (sym own_name)
        (access_putting σ ρ b low_b v r (full_allowed TSO σ (b ∷ v) fv).0 (full_allowed TSO ρ (b ∷ r) cut.1).0 core_b reads_b known.0 at_start (known.2 z (b ∷ r) place_w.2))

  -- a move waits
  oldest : kind_of b ≡ move → Oldest (thread_of σ t) (thread_of ρ t) (length σ.cells)
  oldest q = run_oldest z σ b (length σ.cells) q cut.0 place_w.3 (able_movable (thread_of σ t) (length σ.cells) (subst (λ (j : Kind). able j (thread_of σ t) (length σ.cells) ≡ true) q live))

  -- b's step has the same number in both states
  number_at : (j : Kind) → kind_of b ≡ j → number_of j (thread_of ρ t) ≡ number_of j (thread_of σ t)
  number_at access q = number_core (thread_of ρ t) (thread_of σ t) (core_t q)
  number_at move q = (oldest q).number

  place_at : (j : Kind) → kind_of b ≡ j → place ρ j t ≡ place σ j t
  place_at access q = same_place ρ σ t (core_t q)
  place_at move q = move_place σ ρ t (oldest q).target

  putting_at : (j : Kind) → kind_of b ≡ j → putting ρ j t ≡ putting σ j t
  putting_at access q = putting_t q
  putting_at move q = move_putting t (thread_of σ t) (thread_of ρ t) (cell_of σ (place σ move t)) (cell_of ρ (place ρ move t)) (oldest q).value

  lρ : place ρ k t ≡ l
  lρ = place_at k refl

  abbrev e_x : Event
  e_x = (t, number_of k (thread_of σ t))

  event_ρ : (let e : Event = (t, number_of k (thread_of ρ t)) in e) ≡ e_x
  event_ρ = ap (λ (i : ℕ). let e : Event = (t, i) in e) (number_at k refl)

  -- where b puts: behind it in v, and in w
  put_v : (x : ℕ) → putting ρ k t ≡ some x → (cell_of (step σ b) l).writes ≡ e_x ∷ (cell_of σ l).writes
  unfolding step
  put_v x q = (wrote_own σ k t l x (place_in σ reg k t live) refl (sym (putting_at k refl) ∙ q)).0

  put_w : (x : ℕ) → putting ρ k t ≡ some x → (cell_of (step ρ b) l).writes ≡ e_x ∷ (cell_of ρ l).writes
  unfolding step
  put_w x q = (wrote_own ρ k t l x (place_in ρ regρ k t liveρ) (sym lρ) q).0 ∙ ap (λ (e : Event). e ∷ (cell_of ρ l).writes) event_ρ

  -- nothing before b's turn puts where b puts: it would have another place in the order
  put_waits : (x : ℕ) → putting ρ k t ≡ some x → cell_of ρ l ≡ cell_of σ l
  put_waits x q =
      let g = grown z σ reg cut.0 l in
      let gv = grown v (step σ b) (regular_step σ b reg fv.0) (full_allowed TSO (step σ b) v fv.1).0 l in
      let gw = grown r (step ρ b) (regular_step ρ b regρ cut.1.0) (full_allowed TSO (step ρ b) r cut.1.1).0 l in
      let whole : gv.new ++ (e_x ∷ (cell_of σ l).writes) ≡ gw.new ++ (e_x ∷ (g.new ++ (cell_of σ l).writes)) =
      ap (λ (i : List Event). gv.new ++ i) (sym (put_v x q)) ∙ sym gv.whole ∙ ap (λ (y : State). (cell_of y l).writes) (sym (run_cons TSO σ b v)) ∙ same_writes (run TSO σ (b ∷ v)) (run TSO σ w) same l
      ∙ ap (λ (y : State). (cell_of y l).writes) (end_w ∙ run_cons TSO ρ b r) ∙ gw.whole ∙ ap (λ (i : List Event). gw.new ++ i) (put_w x q ∙ ap (λ (i : List Event). e_x ∷ i) g.whole) in
      g.none_new (nothing_between (λ (e : Event). Memᴰ e g.new) g.new (ends_of g.new) (λ e m. m) e_x
      (λ i. put_new ρ k t (regρ.stores t) liveρ l (subst (λ (e : Event). Memᴰ e (cell_of ρ l).writes) (sym event_ρ) (subst (Memᴰ e_x) (sym g.whole) (mathlib.Core.List.Memᴰ.append_left (cell_of σ l).writes i))))
      gv.new gw.new (cell_of σ l).writes whole)

  -- no write comes between where b reads what is not its own: it would read something else
  read_waits : kind_of b ≡ access → takes (thread_of ρ t).local ≡ true → ((source ρ t).0 ≡ t → ⊥) → cell_of ρ (place σ access t) ≡ cell_of σ (place σ access t)
  read_waits q e ne =
      let g = grown z σ reg cut.0 (place σ access t) in
      let s = source_t q (ap takes (sym (core_t q).0) ∙ e) in
      g.none_new (same_latest σ z (place σ access t) g
      (ap (λ (i : ℕ). latest (cell_of ρ i).writes) (sym (place_at access q)) ∙ sym (foreign ρ t ne) ∙ s ∙ foreign σ t (λ i. ne (ap (λ (x : Event). x.0) s ∙ i))))

  -- a step a before b's turn, behind x: b's step does not depend on it
  module _ (x : Schedule) (a : ℕ) (y : Schedule) (e : z ≡ x ++ (a ∷ y)) where
    abbrev α : State
    α = run TSO σ x

    abbrev j : Kind
    j = kind_of a

    abbrev u : ℕ
    u = owner a

    split : w ≡ x ++ (a ∷ (y ++ (b ∷ r)))
    split = place_w.2 ∙ ap (λ (i : Schedule). i ++ (b ∷ r)) e ∙ append_assoc x (a ∷ y) (b ∷ r)

    cut_x : Allowed TSO σ x × FullFrom TSO α ((a ∷ y) ++ (b ∷ r))
    cut_x = full_split TSO σ x ((a ∷ y) ++ (b ∷ r)) (subst (FullFrom TSO σ) split fw)

    allowed_y : Allowed TSO α (a ∷ y)
    allowed_y = (full_split TSO α (a ∷ y) (b ∷ r) cut_x.1).0

    regα : Regular α
    regα = regular_run x σ reg cut_x.0

    liveα : able j (thread_of α u) (length α.cells) ≡ true
    liveα = enabled_able α a allowed_y.0

    not_b : a ≢ b
    not_b q = place_w.3 (subst (λ (i : Schedule). Memᴰ b i) (sym e) (mathlib.Core.List.Memᴰ.append_right x (mathlib.Core.List.Memᴰ.head (sym q))))

    not_in_x : Memᴰ b x → ⊥
    not_in_x i = place_w.3 (subst (λ (s : Schedule). Memᴰ b s) (sym e) (mathlib.Core.List.Memᴰ.append_left (a ∷ y) i))

    -- where a location is the same at b's turn, nothing is put there on the way
    cell_end : (i : ℕ) → cell_of ρ i ≡ cell_of σ i → cell_of (run TSO α (a ∷ y)) i ≡ cell_of σ i
    cell_end i h = ap (λ (s : State). cell_of s i) (sym (run_append TSO σ x (a ∷ y)) ∙ ap (run TSO σ) (sym e)) ∙ h

    no_put : (i : ℕ) → cell_of ρ i ≡ cell_of σ i → i ≡ place α j u → (n : ℕ) → putting α j u ≡ some n → ⊥
    unfolding run step
    no_put i h q n p =
        let cell_x = no_growth σ reg x (a ∷ y) cut_x.0 allowed_y i (cell_end i h) in
        let cell_xa = no_growth α regα (a ∷ []) y (allowed_y.0, tt) allowed_y.1 i (cell_end i h ∙ sym cell_x) in
        longer (u, number_of j (thread_of α u)) (cell_of α i).writes (sym (wrote_own α j u i n (place_in α regα j u liveα) q p).0 ∙ ap (λ (c : Cell). c.writes) cell_xa)

    -- (a) the store that b moves was made before
    not_made : kind_of a ≡ access → kind_of b ≡ move → (let f : Event = (u, number_of j (thread_of α u)) in f) ≡ (t, number_of k (thread_of ρ t)) → ⊥
    not_made p q i =
        let d = pending_done σ t (length σ.cells) (reg.stores t) (subst (λ (s : Kind). able s (thread_of σ t) (length σ.cells) ≡ true) q live) in
        let n : number_of access (thread_of α u) ≡ number_of move (thread_of σ t) = ap (λ (s : Kind). number_of s (thread_of α u)) (sym p) ∙ ap (λ (f : Event). f.1) i ∙ number_at k refl ∙ ap (λ (s : Kind). number_of s (thread_of σ t)) q in
        let g = done_run x σ cut_x.0 t in
        let m : number_of access (thread_of α u) ≡ (thread_of α t).history.done = done_number (thread_of α u) ∙ ap (λ (s : ℕ). (thread_of α s).history.done) (ap (λ (f : Event). f.0) i) in
        omega arith

    -- (b) where b is locked its queue is empty from the start
    not_emptied : kind_of a ≡ move → kind_of b ≡ access → locked (thread_of ρ t).local ≡ true → u ≡ t → ⊥
    not_emptied p q lo i =
        let open-σ = able_free (thread_of σ t) (length σ.cells) (subst (λ (s : Kind). able s (thread_of σ t) (length σ.cells) ≡ true) q live) in
        let none-σ = free_empty (thread_of σ t).queue (subst (λ (s : Bool). free s (thread_of σ t).queue ≡ true) (ap locked (sym (core_t q).0) ∙ lo) open-σ) in
        let none-α = run_empty x σ b q cut_x.0 not_in_x none-σ in
        let moves = able_movable (thread_of α u) (length α.cells) (subst (λ (s : Kind). able s (thread_of α u) (length α.cells) ≡ true) p liveα) in
        nothing_movable (thread_of α u).queue (length α.cells) (ap (λ (s : ℕ). (thread_of α s).queue) i ∙ none-α) moves

    -- (d) a read there, with b putting: in v it comes behind b, and has another source
    behind_b : (n : ℕ) → putting ρ k t ≡ some n → (s : ℕ) → (f c : Schedule) → (b ∷ v) ≡ f ++ (s ∷ c) → (s ≡ b → ⊥) → s < 6 → place (run TSO σ f) access s ≡ l →
        (source (run TSO σ f) s ≡ initial_write) ⊎ Memᴰ (source (run TSO σ f) s) (cell_of σ l).writes → ⊥
    unfolding run
    behind_b n p s [] c q ne h pl o = ne (let i : b ≡ s = cc in sym i)
    behind_b n p s (d ∷ f) c q ne h pl o = at (source_cases τ s)
      where
        τ : State
        τ = run TSO (step σ d) f

        al : Allowed TSO σ (d ∷ f)
        al = (full_split TSO σ (d ∷ f) (s ∷ c) (subst (FullFrom TSO σ) q fv)).0

        G : Grown σ (d ∷ f) l
        G = grown (d ∷ f) σ reg al l

        regτ : Regular τ
        regτ = regular_run (d ∷ f) σ reg al

        -- b put there
        something : G.new ≡ [] → ⊥
        something i =
            let one : cell_of (step σ d) l ≡ cell_of σ l = no_growth σ reg (d ∷ []) f (al.0, tt) al.1 l (G.none_new i) in
            let m : d ≡ b = cc in
            longer e_x (cell_of σ l).writes (sym (put_v n p) ∙ ap (λ (g : ℕ). (cell_of (step σ g) l).writes) (sym m) ∙ ap (λ (g : Cell). g.writes) one)

        at : (source τ s ≡ latest (cell_of τ (place τ access s)).writes) ⊎ ((g : Entry) × Memᴰ g (thread_of τ s).queue × (source τ s ≡ (s, g.number))) → ⊥
        at (inl i) = ⊎_elim something
            (λ (m : Memᴰ (latest (G.new ++ (cell_of σ l).writes)) G.new).
            let src : source τ s ≡ latest (G.new ++ (cell_of σ l).writes) = i ∙ ap (λ (g : ℕ). latest (cell_of τ g).writes) pl ∙ ap latest G.whole in
            let m' : Memᴰ (source τ s) G.new = subst (λ (g : Event). Memᴰ g G.new) (sym src) m in
            ⊎_elim (λ (g : source τ s ≡ initial_write). not_initial (source τ s) (G.real (source τ s) m') g) (λ (g : Memᴰ (source τ s) (cell_of σ l).writes). G.fresh (source τ s) m' g) o)
            (latest_new G.new (cell_of σ l).writes)
        at (inr g) = ⊎_elim (λ (i : source τ s ≡ initial_write). not_initial (source τ s) (subst (λ (m : Event). m.0 < 6) (sym g.2) h) i)
            (λ (i : Memᴰ (source τ s) (cell_of σ l).writes).
            let L = regτ.stores s in
            let in_τ : Memᴰ (s, g.0.number) (cell_of τ l).writes = subst (Memᴰ (s, g.0.number)) (sym G.whole) (mathlib.Core.List.Memᴰ.append_right G.new (subst (λ (m : Event). Memᴰ m (cell_of σ l).writes) g.2 i)) in
            let below = L.below l (s, g.0.number) in_τ refl in
            let above = (within_in L.floor (thread_of τ s).queue (thread_of τ s).history.done g.0 L.within g.1).0 in
            omega arith) o

    not_read_first : kind_of a ≡ access → takes (thread_of α u).local ≡ true → place α j u ≡ l → (n : ℕ) → putting ρ k t ≡ some n → (source α u ≡ initial_write) ⊎ Memᴰ (source α u) (cell_of σ l).writes → ⊥
    not_read_first p tk pl n q o =
        let name = (owner_access a p).0 in
        let low_a : a < 6 = subst (λ (i : ℕ). i < 6) name (enabled_small α a allowed_y.0) in
        let m = determined σ reg (b ∷ v) w fv fw same x a (y ++ (b ∷ r)) low_a split in
        let tk' : takes (thread_of α a).local ≡ true = subst (λ (i : ℕ). takes (thread_of α i).local ≡ true) name tk in
        let src = m.from tk' in
        let o' : (source α a ≡ initial_write) ⊎ Memᴰ (source α a) (cell_of σ l).writes = subst (λ (i : ℕ). (source α i ≡ initial_write) ⊎ Memᴰ (source α i) (cell_of σ l).writes) name o in
        let pl' : place α access a ≡ l = ap₂ (place α) (sym p) (sym name) ∙ pl in
        behind_b n q a m.front m.rest m.split not_b low_a (same_place (run TSO σ m.front) α a m.core ∙ pl')
        (subst (λ (i : Event). (i ≡ initial_write) ⊎ Memᴰ i (cell_of σ l).writes) (sym src) o')

    source_α : (kind_of a ≡ access) × (takes (thread_of α u).local ≡ true) → (action α a).reads ≡ true → (action α a).source ≡ source α u
    source_α rd q = act_source α a q ∙ ap (λ (s : Kind). (finds u (thread_of α u) (cell_of α (place α s u))).source) rd.0

    never : Because (action α a) (action ρ b) → ⊥
    never (made p q i) = not_made (act_access α a p) (act_move ρ b q) (sym (act_event α a) ∙ i ∙ act_event ρ b)
    never (emptied p q i) = let h = act_locks ρ b q in not_emptied (act_move α a p) h.0 h.1 (ap (λ (f : Event). f.0) (sym (act_event α a)) ∙ i ∙ ap (λ (f : Event). f.0) (act_event ρ b))
    never (both_put p q i) =
        let put = act_puts ρ b i in
        let puts-a = act_puts α a q in
        no_put l (put_waits put.0 put.1) (sym (sym (act_location α a) ∙ p ∙ act_location ρ b ∙ lρ)) puts-a.0 puts-a.1
    never (read_behind p q i ne) =
        let rd = act_reads ρ b i in
        let puts-a = act_puts α a q in
        let src : (action ρ b).source ≡ source ρ t = act_source ρ b i ∙ ap (λ (s : Kind). (finds t (thread_of ρ t) (cell_of ρ (place ρ s t))).source) rd.0 in
        no_put (place σ access t) (read_waits rd.0 rd.1 (λ m. ne (ap (λ (f : Event). f.0) src ∙ m ∙ ap (λ (f : Event). f.0) (sym (act_event ρ b)))))
        (sym (sym (act_location α a) ∙ p ∙ act_location ρ b ∙ lρ ∙ ap (λ (s : Kind). place σ s t) rd.0)) puts-a.0 puts-a.1
    never (initial_first p q i s) =
        let put = act_puts ρ b i in
        let rd = act_reads α a q in
        not_read_first rd.0 rd.1 (sym (act_location α a) ∙ p ∙ act_location ρ b ∙ lρ) put.0 put.1 (inl (sym (source_α rd q) ∙ s))
    never (source_first p q i s) =
        let put = act_puts ρ b i in
        let rd = act_reads α a q in
        let here : (action ρ b).before ≡ (cell_of σ l).writes = act_before ρ b put.0 put.1 ∙ ap (λ (f : ℕ). (cell_of ρ f).writes) lρ ∙ ap (λ (c : Cell). c.writes) (put_waits put.0 put.1) in
        not_read_first rd.0 rd.1 (sym (act_location α a) ∙ p ∙ act_location ρ b ∙ lρ) put.0 put.1
        (inr (subst (λ (ws : List Event). Memᴰ (source α u) ws) here (subst (λ (f : Event). Memᴰ f (action ρ b).before) (source_α rd q) s)))

    no_dependence : dependent (action α a) (action ρ b) ≡ false
    no_dependence = not_dependent (action α a) (action ρ b) never

  -- FIRST FITS: b's first step in w depends on nothing before it
  pub first_fits : (d : Action) × (next_of who dependent (actions σ w) b ≡ some d) × (clear who dependent (actions σ w) b d ≡ true)
  first_fits = (
    action ρ b,
    ap (λ (i : Schedule). next_of who dependent (actions σ i) b) place_w.2 ∙ first_at z r σ b place_w.3,
    ap (λ (i : Schedule). clear who dependent (actions σ i) b (action ρ b)) place_w.2 ∙ clear_at z r σ b (action ρ b) place_w.3 no_dependence,
  )
