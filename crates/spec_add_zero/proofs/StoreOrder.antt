-- ADDING ZERO CHANGES NO OUTCOME UNDER TOTAL STORE ORDER: states that differ only in events, sources and writers stay so, step by step, whatever
-- a fetch and add of zero is said to write.
use Prim.Native.Nat.{ℕ, suc}
use mathlib.Core.Path.{◌≡◌, refl, sym, ap, ap₂, subst, ◌∙◌}
use mathlib.Core.Bool.{Bool, true, false, ◌&&◌, cond}
use mathlib.Core.List.{List, [], ◌∷◌, ◌++◌, map}
use mathlib.Core.Option.{Option, none, some}
use native.Mathlib.Omega.{arith}
use lib.Dec.{eqb, ltb}
use lib.ListN.{length, get_or, set, get_or-map}
use Rattle.spec_file.specs.Program.{Program}
use Rattle.spec_file.specs.WellFormed.{WellFormed}
use Rattle.spec_file.specs.Decode.{accepted, decode}
use Rattle.spec_file.specs.declared.instruction.Access.{Access}
use Rattle.spec_file.specs.declared.instruction.Access.TheVariants.{Store, Load, FetchAdd, CompareSwap}
use Rattle.spec_file.specs.declared.instruction.Instruction.{Instruction}
use Rattle.spec_file.specs.declared.instruction.Instruction.TheVariants.{Memory, Alone}
use Rattle.spec_file.proofs.AcceptedWellFormed.{accepted_well_formed}
use Rattle.spec_schedules.specs.Order.{Schedule}
use Rattle.spec_schedules.specs.System.{run, none_enabled, ended, FullFrom}
use Rattle.spec_sc.specs.Local.{Local, pending, place_of, takes, next, access_puts, first_puts, puts}
use Rattle.spec_sc.specs.State as SC
use Rattle.spec_sc.specs.State.{Event, History, Cell, fresh_cell, noted, written, value_of}
use Rattle.spec_sc.proofs.Words.{Word}
use Rattle.spec_sc.proofs.Exchange.{map_set}
use Rattle.spec_tso.specs.Queue.{Entry, newest, found_in, queued, at_once, free, is_empty, oldest_value, newer}
use Rattle.spec_tso.specs.State.{Thread, State, no_thread, idle, unqueued, without_queues, thread_of, cell_of, access_locks, first_locks, locked, finds, Kind, access, move, target, number_of, reaches, thread_behind, cell_behind, place, step_of, able, kind_of, owner, step, enabled, TSO, start, fails, memory_of}
use Rattle.spec_add_zero.specs.Values.{Values, Outcome, leaves}
use Rattle.spec_add_zero.specs.Writing.{Writing, access_put_first, code_put_first, put_first, local_of, values_of}
use Rattle.spec_add_zero.specs.StoreOrder.{reaches_by, thread_by, kind_by, TsoBy, First, outcome_in, HasInOrder, HadInOrder, SameInOrder}
use Rattle.spec_add_zero.proofs.Leaving.{left_by, first_leaves_lem, amended_leaves}
use Rattle.spec_add_zero.proofs.ValueTerms.{outcome_of}
use Rattle.spec_add_zero.proofs.SameOutcomes.{outcome_same}
use Rattle.spec_add_zero.proofs.StoreWords.{Fine, fine_step, fine_start}

-- ---- a state without events: no sources, no writers
unfoldable bare_history : History → History
bare_history h = record { done = h.done; reads = [] }

unfoldable bare_thread : Thread → Thread
bare_thread h = record { local = h.local; history = bare_history h.history; queue = h.queue }

unfoldable bare_cell : Cell → Cell
bare_cell c = record { value = c.value; writes = [] }

unfoldable bare : State → State
bare σ = record { threads = map bare_thread σ.threads; cells = map bare_cell σ.cells }

made : List Thread → List Cell → State
made hs cs = record { threads = hs; cells = cs }

thread_bare : (σ : State) (t : ℕ) → thread_of (bare σ) t ≡ bare_thread (thread_of σ t)
unfolding thread_of bare bare_thread bare_history no_thread idle SC.no_thread
thread_bare σ t = get_or-map bare_thread σ.threads t no_thread

cell_bare : (σ : State) (l : ℕ) → cell_of (bare σ) l ≡ bare_cell (cell_of σ l)
unfolding cell_of bare bare_cell fresh_cell
cell_bare σ l = get_or-map bare_cell σ.cells l (fresh_cell 0)

-- ---- a step of a bare state
finds_bare : (t : ℕ) (h : Thread) (c : Cell) → (finds t (bare_thread h) (bare_cell c)).value ≡ (finds t h c).value
unfolding finds found_in bare_thread bare_cell
finds_bare t h c = go (newest h.queue (place_of h.local))
  where
    go : (o : Option Entry) → (found_in t o (bare_cell c)).value ≡ (found_in t o c).value
    go none = refl
    go (some e) = refl

noted_bare : (b : Bool) (e f : Event) (h : History) → bare_history (noted b e (bare_history h)) ≡ bare_history (noted b f h)
unfolding noted bare_history
noted_bare true e f h = refl
noted_bare false e f h = refl

written_bare : (e f : Event) (o : Option ℕ) (c : Cell) → bare_cell (written e o (bare_cell c)) ≡ bare_cell (written f o c)
unfolding written bare_cell
written_bare e f none c = refl
written_bare e f (some v) c = refl

-- a bare thread behind an access that found x and adds q to its queue
joined : Thread → ℕ → History → List Entry → Thread
joined h x n q = record { local = next h.local x; history = n; queue = h.queue ++ q }

module _ (w : Writing) where
  abbrev adds : Thread → ℕ → List Entry
  adds h x = queued (locked h.local) h.history.done (place_of h.local) (w h.local x)

  thread_step : (k : Kind) (t : ℕ) (h : Thread) (c : Cell) → bare_thread (thread_by w k t (bare_thread h) (bare_cell c)) ≡ bare_thread (thread_by w k t h c)
  unfolding thread_by bare_thread joined bare_history
  thread_step access t h c =
      let a = finds t (bare_thread h) (bare_cell c) in
      let b = finds t h c in
      ap (λ (x : ℕ). joined h x (bare_history (noted (takes h.local) a.source (bare_history h.history))) (adds h x)) (finds_bare t h c)
      ∙ ap (λ (n : History). joined h b.value n (adds h b.value)) (noted_bare (takes h.local) a.source b.source h.history)
  thread_step move t h c = refl

  reaches_bare : (k : Kind) (t : ℕ) (h : Thread) (c : Cell) → reaches_by w k t (bare_thread h) (bare_cell c) ≡ reaches_by w k t h c
  unfolding reaches_by bare_thread
  reaches_bare access t h c = ap (λ (x : ℕ). at_once (locked h.local) (w h.local x)) (finds_bare t h c)
  reaches_bare move t h c = refl

  target_bare : (k : Kind) (h : Thread) → target k (bare_thread h) ≡ target k h
  unfolding target bare_thread
  target_bare access h = refl
  target_bare move h = refl

  place_bare : (σ : State) (k : Kind) (t : ℕ) → place (bare σ) k t ≡ place σ k t
  unfolding place
  place_bare σ k t = ap (target k) (thread_bare σ t) ∙ target_bare k (thread_of σ t)

  -- a state behind thread t in its new form and the cell of l in its new form
  abbrev put : State → ℕ → Thread → ℕ → Cell → State
  put σ t h l c = made (set (map bare_thread σ.threads) t (bare_thread h)) (set (map bare_cell σ.cells) l (bare_cell c))

  step_put : (σ : State) (k : Kind) (t : ℕ) → bare (kind_by w σ k t)
      ≡ put σ t (thread_by w k t (thread_of σ t) (cell_of σ (place σ k t))) (place σ k t) (written (t, number_of k (thread_of σ t)) (reaches_by w k t (thread_of σ t) (cell_of σ (place σ k t))) (cell_of σ (place σ k t)))
  unfolding bare kind_by made
  step_put σ k t = ap₂ made
      (sym (map_set bare_thread σ.threads t (thread_by w k t (thread_of σ t) (cell_of σ (place σ k t)))))
      (sym (map_set bare_cell σ.cells (place σ k t) (written (t, number_of k (thread_of σ t)) (reaches_by w k t (thread_of σ t) (cell_of σ (place σ k t))) (cell_of σ (place σ k t)))))

  number_bare : (k : Kind) (h : Thread) → number_of k (bare_thread h) ≡ number_of k h
  unfolding number_of bare_thread bare_history
  number_bare access h = refl
  number_bare move h = refl

  -- a step of a bare state, its events taken out again
  abbrev thread_in : State → Kind → ℕ → ℕ → Thread
  thread_in ρ k t l = bare_thread (thread_by w k t (thread_of ρ t) (cell_of ρ l))

  abbrev cell_in : State → Kind → ℕ → ℕ → Cell
  cell_in ρ k t l = bare_cell (written (t, number_of k (thread_of ρ t)) (reaches_by w k t (thread_of ρ t) (cell_of ρ l)) (cell_of ρ l))

  abbrev behind : State → Kind → ℕ → ℕ → State
  behind ρ k t l = made (set ρ.threads t (thread_in ρ k t l)) (set ρ.cells l (cell_in ρ k t l))

  thread_in_lem : (σ : State) (k : Kind) (t l : ℕ) → thread_in (bare σ) k t l ≡ thread_in σ k t l
  thread_in_lem σ k t l =
      ap₂ (λ (h : Thread) (c : Cell). bare_thread (thread_by w k t h c)) (thread_bare σ t) (cell_bare σ l) ∙ thread_step k t (thread_of σ t) (cell_of σ l)

  cell_in_lem : (σ : State) (k : Kind) (t l : ℕ) → cell_in (bare σ) k t l ≡ cell_in σ k t l
  cell_in_lem σ k t l =
      let h = thread_of σ t in
      let c = cell_of σ l in
      ap₂ (λ (h : Thread) (c : Cell). bare_cell (written (t, number_of k h) (reaches_by w k t h c) c)) (thread_bare σ t) (cell_bare σ l)
      ∙ ap (λ (o : Option ℕ). bare_cell (written (t, number_of k (bare_thread h)) o (bare_cell c))) (reaches_bare k t h c)
      ∙ written_bare (t, number_of k (bare_thread h)) (t, number_of k h) (reaches_by w k t h c) c

  step_bare : (σ : State) (k : Kind) (t : ℕ) → bare (kind_by w σ k t) ≡ behind (bare σ) k t (place (bare σ) k t)
  unfolding bare
  step_bare σ k t =
      let l = place σ k t in
      step_put σ k t
      ∙ ap₂ (λ (h : Thread) (c : Cell). made (set (map bare_thread σ.threads) t h) (set (map bare_cell σ.cells) l c)) (sym (thread_in_lem σ k t l)) (sym (cell_in_lem σ k t l))
      ∙ ap (λ (l : ℕ). behind (bare σ) k t l) (sym (place_bare σ k t))

-- ---- both accounts of what is written, on one state
queued_locked : (i l : ℕ) (o : Option ℕ) → queued true i l o ≡ []
unfolding queued
queued_locked i l none = refl
queued_locked i l (some v) = refl

queued_access : (rs : List ℕ) (a : Access) (x i l : ℕ) → queued (access_locks a) i l (access_puts rs a x) ≡ queued (access_locks a) i l (access_put_first rs a x)
unfolding access_locks access_puts access_put_first
queued_access rs (Store k p) x i l = refl
queued_access rs (Load r k) x i l = refl
queued_access rs (FetchAdd r k p) x i l = queued_locked i l (access_puts rs (FetchAdd r k p) x) ∙ sym (queued_locked i l (access_put_first rs (FetchAdd r k p) x))
queued_access rs (CompareSwap r k e v) x i l = refl

queued_code : (rs : List ℕ) (is : List Instruction) (x i l : ℕ) → queued (first_locks is) i l (first_puts rs is x) ≡ queued (first_locks is) i l (code_put_first rs is x)
unfolding first_locks first_puts code_put_first
queued_code rs [] x i l = refl
queued_code rs (Memory a ∷ is) x i l = queued_access rs a x i l
queued_code rs (Alone o ∷ is) x i l = refl

thread_both : (k : Kind) (t : ℕ) (h : Thread) (c : Cell) → thread_by puts k t h c ≡ thread_by put_first k t h c
unfolding thread_by locked puts put_first
thread_both access t h c =
    let x = (finds t h c).value in
    ap (λ (q : List Entry). record { local = next h.local x; history = noted (takes h.local) (finds t h c).source h.history; queue = h.queue ++ q })
    (queued_code h.local.registers h.local.rest x h.history.done (place_of h.local))
thread_both move t h c = refl

-- the cell behind what is written, without events
cell_left : (e : Event) (o : Option ℕ) (c : Cell) → bare_cell (written e o c) ≡ record { value = left_by c.value o; writes = [] }
unfolding bare_cell written left_by
cell_left e none c = refl
cell_left e (some v) c = refl

-- a locked access that may step finds what memory holds
finds_memory : (t : ℕ) (h : Thread) (c : Cell) → is_empty h.queue ≡ true → (finds t h c).value ≡ c.value
unfolding finds found_in newest is_empty
finds_memory t h c e = go h.queue e
  where
    go : (q : List Entry) → is_empty q ≡ true → (found_in t (newest q (place_of h.local)) c).value ≡ c.value
    go [] i = refl
    go (x ∷ q) i = absurd (let z : ◌≡◌ {A = ℕ} 0 1 = cc in omega (arith, z))

both_true : (a b : Bool) → (a && b) ≡ true → b ≡ true
both_true true b e = e
both_true false b e = absurd (let z : ◌≡◌ {A = ℕ} 0 1 = cc in omega (arith, z))

left_both : (t n : ℕ) (h : Thread) (c : Cell) → Word c.value → able access h n ≡ true → (b : Bool) → locked h.local ≡ b
    → left_by c.value (at_once b (puts h.local (finds t h c).value)) ≡ left_by c.value (at_once b (put_first h.local (finds t h c).value))
unfolding at_once able free
left_both t n h c w a false e = refl
left_both t n h c w a true e =
    let empty : is_empty h.queue ≡ true = both_true (pending h.local) (is_empty h.queue) (rw e at a) in
    let x = finds_memory t h c empty in
    ap (λ (x : ℕ). left_by c.value (puts h.local x)) x
    ∙ amended_leaves h.local c.value w
    ∙ sym (first_leaves_lem h.local c.value w)
    ∙ ap (λ (x : ℕ). left_by c.value (put_first h.local x)) (sym x)

cell_both : (k : Kind) (t n : ℕ) (h : Thread) (c : Cell) → Word c.value → able k h n ≡ true → (e : Event)
    → bare_cell (written e (reaches_by puts k t h c) c) ≡ bare_cell (written e (reaches_by put_first k t h c) c)
unfolding reaches_by
cell_both access t n h c w a e =
    cell_left e (at_once (locked h.local) (puts h.local (finds t h c).value)) c
    ∙ ap (λ (v : ℕ). record { value = v; writes = [] }) (left_both t n h c w a (locked h.local) refl)
    ∙ sym (cell_left e (at_once (locked h.local) (put_first h.local (finds t h c).value)) c)
cell_both move t n h c w a e = refl

step_both : (ρ : State) (k : Kind) (t n l : ℕ) → Word (cell_of ρ l).value → able k (thread_of ρ t) n ≡ true → behind puts ρ k t l ≡ behind put_first ρ k t l
step_both ρ k t n l w a =
    ap₂ (λ (h : Thread) (c : Cell). made (set ρ.threads t h) (set ρ.cells l c))
    (ap bare_thread (thread_both k t (thread_of ρ t) (cell_of ρ l)))
    (cell_both k t n (thread_of ρ t) (cell_of ρ l) w a (t, number_of k (thread_of ρ t)))

-- ---- along a schedule
able_bare : (k : Kind) (h : Thread) (n : ℕ) → able k (bare_thread h) n ≡ able k h n
unfolding able bare_thread
able_bare access h n = refl
able_bare move h n = refl

cells_bare : (cs : List Cell) → length (map bare_cell cs) ≡ length cs
cells_bare [] = refl
cells_bare (c ∷ cs) = ap suc (cells_bare cs)

may_bare : (σ : State) (b : ℕ) → enabled (bare σ) b ≡ enabled σ b
unfolding enabled bare
may_bare σ b =
    ap (λ (n : ℕ). ltb (owner b) 6 && able (kind_of b) (thread_of (bare σ) (owner b)) n) (cells_bare σ.cells)
    ∙ ap (λ (x : Bool). ltb (owner b) 6 && x) (ap (λ (h : Thread). able (kind_of b) h (length σ.cells)) (thread_bare σ (owner b)) ∙ able_bare (kind_of b) (thread_of σ (owner b)) (length σ.cells))

-- two states that are the same without events
abbrev Same : State → State → Type 0
Same σ τ = bare σ ≡ bare τ

may_same : (σ τ : State) (b : ℕ) → Same σ τ → enabled σ b ≡ enabled τ b
may_same σ τ b s = sym (may_bare σ b) ∙ ap (λ (ρ : State). enabled ρ b) s ∙ may_bare τ b

own_thread : (k : Kind) (t : ℕ) (h : Thread) (c : Cell) → thread_behind k t h c ≡ thread_by puts k t h c
unfolding thread_behind thread_by
own_thread access t h c = refl
own_thread move t h c = refl

own_reaches : (k : Kind) (t : ℕ) (h : Thread) (c : Cell) → reaches k t h c ≡ reaches_by puts k t h c
unfolding reaches reaches_by
own_reaches access t h c = refl
own_reaches move t h c = refl

own_kind : (σ : State) (k : Kind) (t : ℕ) → step_of σ k t ≡ kind_by puts σ k t
unfolding step_of kind_by cell_behind
own_kind σ k t =
    let h = thread_of σ t in
    let c = cell_of σ (place σ k t) in
    ap₂ (λ (g : Thread) (o : Option ℕ). record { threads = set σ.threads t g; cells = set σ.cells (place σ k t) (written (t, number_of k h) o c) }) (own_thread k t h c) (own_reaches k t h c)

own_step : (σ : State) (b : ℕ) → step σ b ≡ kind_by puts σ (kind_of b) (owner b)
unfolding step
own_step σ b = own_kind σ (kind_of b) (owner b)

bare_word : (c : Cell) → Word c.value → Word (bare_cell c).value
unfolding bare_cell
bare_word c w = w

step_same : (σ τ : State) (b : ℕ) → Fine σ → Same σ τ → enabled σ b ≡ true → Same (step σ b) (kind_by put_first τ (kind_of b) (owner b))
unfolding enabled
step_same σ τ b f s e =
    let k = kind_of b in
    let t = owner b in
    let l = place (bare σ) k t in
    let able_here : able k (thread_of (bare σ) t) (length σ.cells) ≡ true =
    ap (λ (h : Thread). able k h (length σ.cells)) (thread_bare σ t) ∙ able_bare k (thread_of σ t) (length σ.cells) ∙ both_true (ltb t 6) (able k (thread_of σ t) (length σ.cells)) e in
    let word : Word (cell_of (bare σ) l).value = subst (λ (c : Cell). Word c.value) (sym (cell_bare σ l)) (bare_word (cell_of σ l) (f.cells l)) in
    ap bare (own_step σ b)
    ∙ step_bare puts σ k t
    ∙ step_both (bare σ) k t (length σ.cells) l word able_here
    ∙ ap (λ (ρ : State). behind put_first ρ k t (place ρ k t)) s
    ∙ sym (step_bare put_first τ k t)

fine_behind : (σ : State) (b : ℕ) → Fine σ → Fine (step σ b)
unfolding step
fine_behind σ b f = fine_step σ (kind_of b) (owner b) f

none_same : (σ τ : State) → Same σ τ → (bs : List ℕ) → none_enabled TSO σ bs ≡ none_enabled First τ bs
unfolding none_enabled
none_same σ τ s [] = refl
none_same σ τ s (b ∷ bs) =
    ap (λ (x : Bool). elim x [ true ↦ false | false ↦ none_enabled TSO σ bs ]) (may_same σ τ b s)
    ∙ ap (λ (r : Bool). elim (enabled τ b) [ true ↦ false | false ↦ r ]) (none_same σ τ s bs)

ended_same : (σ τ : State) → Same σ τ → ended TSO σ ≡ ended First τ
unfolding ended
ended_same σ τ s = none_same σ τ s TSO.names

forth : (s : Schedule) (σ τ : State) → Fine σ → Same σ τ → FullFrom TSO σ s → FullFrom First τ s
forth [] σ τ f e h = sym (ended_same σ τ e) ∙ h
forth (b ∷ s) σ τ f e h = (
  sym (may_same σ τ b e) ∙ h.0,
  forth s (step σ b) (kind_by put_first τ (kind_of b) (owner b)) (fine_behind σ b f) (step_same σ τ b f e h.0) h.1,
)

back : (s : Schedule) (σ τ : State) → Fine σ → Same σ τ → FullFrom First τ s → FullFrom TSO σ s
back [] σ τ f e h = ended_same σ τ e ∙ h
back (b ∷ s) σ τ f e h =
    let m = may_same σ τ b e ∙ h.0 in
    (m, back s (step σ b) (kind_by put_first τ (kind_of b) (owner b)) (fine_behind σ b f) (step_same σ τ b f e m) h.1)

run_same : (s : Schedule) (σ τ : State) → Fine σ → Same σ τ → FullFrom TSO σ s → Same (run TSO σ s) (run First τ s)
unfolding run
run_same [] σ τ f e h = e
run_same (b ∷ s) σ τ f e h = run_same s (step σ b) (kind_by put_first τ (kind_of b) (owner b)) (fine_behind σ b f) (step_same σ τ b f e h.0) h.1

-- ---- what is seen of a state goes by its bare form
locals_bare : (hs : List Thread) → map local_of (map unqueued (map bare_thread hs)) ≡ map local_of (map unqueued hs)
unfolding local_of unqueued bare_thread
locals_bare [] = refl
locals_bare (h ∷ hs) = ap (λ (r : List Local). h.local ∷ r) (locals_bare hs)

values_bare : (cs : List Cell) → map value_of (map bare_cell cs) ≡ map value_of cs
unfolding value_of bare_cell
values_bare [] = refl
values_bare (c ∷ cs) = ap (λ (r : List ℕ). c.value ∷ r) (values_bare cs)

seen_bare : (σ : State) → values_of (without_queues (bare σ)) ≡ values_of (without_queues σ)
unfolding values_of without_queues bare
seen_bare σ = ap₂ (λ (hs : List Local) (m : List ℕ). record { threads = hs; memory = m }) (locals_bare σ.threads) (values_bare σ.cells)

values_same : (σ τ : State) → Same σ τ → values_of (without_queues σ) ≡ values_of (without_queues τ)
values_same σ τ s = sym (seen_bare σ) ∙ ap (λ (ρ : State). values_of (without_queues ρ)) s ∙ seen_bare τ

outcome_in_lem : (σ : State) → outcome_of (values_of (without_queues σ)) ≡ outcome_in σ
unfolding memory_of fails
outcome_in_lem σ = outcome_same (without_queues σ)

module _ (p : Program) (wf : WellFormed p) where
  fine : Fine (start p)
  fine = fine_start p wf

  ends : (s : Schedule) → FullFrom TSO (start p) s → values_of (without_queues (run TSO (start p) s)) ≡ values_of (without_queues (run First (start p) s))
  ends s f = values_same (run TSO (start p) s) (run First (start p) s) (run_same s (start p) (start p) fine refl f)

  one_outcome : (s : Schedule) → FullFrom TSO (start p) s → outcome_in (run TSO (start p) s) ≡ outcome_in (run First (start p) s)
  one_outcome s f = sym (outcome_in_lem (run TSO (start p) s)) ∙ ap outcome_of (ends s f) ∙ outcome_in_lem (run First (start p) s)

  pub same_in_order : SameInOrder p
  same_in_order = record {
    full = λ s. (forth s (start p) (start p) fine refl, back s (start p) (start p) fine refl);
    ends = ends;
    kept = λ o had. let f = back had.0 (start p) (start p) fine refl had.1 in (had.0, f, one_outcome had.0 f ∙ had.2);
    none_new = λ o has. (has.0, forth has.0 (start p) (start p) fine refl has.1, sym (one_outcome has.0 has.1) ∙ has.2);
  }

-- of every accepted file
pub outcomes_stay_in_order : (file : List ℕ) (p : Program) → decode file ≡ accepted p → SameInOrder p
outcomes_stay_in_order file p e = same_in_order p (accepted_well_formed file p e)
