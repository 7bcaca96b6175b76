-- Where R2 does not cut, a schedule never takes a thread while a smaller one of its `02` line stands where it stands; a listed schedule does not
-- either, and an exchanged schedule prefers the exchanged threads.
use Prim.Native.Nat.{ℕ, zero, suc, ◌<◌}
use mathlib.Core.Path.{◌≡◌, refl, sym, ap, ap₂, subst, ◌∙◌}
use mathlib.Core.Logic.{◌⊎◌, inl, inr, ⊎_elim}
use mathlib.Core.Bool.{Bool, true, false, not, true≢false}
use mathlib.Core.List.{List, [], ◌∷◌, ◌++◌, map, Memᴰ}
use native.Mathlib.Omega.{arith}
use lib.Dec.{eqb}
use lib.ListN.{length, get_or}
use borrow.Author.Tests.{eq-eqb, ne_eqb}
use Rattle.spec_file.specs.Program.{Program}
use Rattle.spec_file.specs.WellFormed.{WellFormed}
use Rattle.spec_schedules.specs.Lists.{all}
use Rattle.spec_schedules.specs.Order.{Schedule}
use Rattle.spec_schedules.specs.System.{run, Allowed}
use Rattle.spec_schedules.proofs.Lists.{all_of, any_no, in_range_lem}
use Rattle.spec_schedules.proofs.Runs.{full_split}
use Rattle.spec_sc.specs.State.{Event, Thread, Cell, State, fresh_cell, thread_of, cell_of, step, start, SC}
use Rattle.spec_sc.specs.Graph.{Full, end_of}
use Rattle.spec_model.specs.Exchange.{Permutation}
use Rattle.spec_sc.specs.Exchange.{moved_event, moved_read, moved_reads, moved_writes, moved_thread, moved_cell, Moves}
use Rattle.spec_sc.proofs.ExchangeTerms.{moved_schedule}
use Rattle.spec_sc.proofs.FixedState.{cell_of_lem}
use Rattle.spec_model.proofs.Exchanges.{injective}
use Rattle.spec_sc.proofs.Exchange.{moves_cell, moves_step}
use Rattle.spec_sc.proofs.Permitted.{moves_start}
use Rattle.spec_sc.specs.Same.{same_read}
use Rattle.spec_sc.proofs.Same.{both_and, same_read_lem}
use Rattle.spec_file.proofs.Lists.{same_list_lem}
use Rattle.spec_model.specs.Exchange.{Exchange, Together}
use Rattle.spec_model.specs.Alike.{Smaller, Listed}
use Rattle.theory_search.specs.Standing.{same_flag, same_local, silent}
use Rattle.theory_sc.specs.Rules.{same_history, twin}
use Rattle.spec_model.proofs.Exchanges.{one_group}
use Rattle.spec_sc.specs.Sequential.{sc}
use Rattle.spec_model.proofs.Permitted.{true_together}
use Rattle.theory_search.proofs.Standing.{silent_true}
use Rattle.theory_sc.proofs.Twins.{twin_smaller}
use Rattle.theory_sc.specs.Survivor.{Survives}
use Rattle.theory_sc.proofs.GoesFirst.{Quiet, Never}

-- THE TEST OF A TWIN passes for threads that stand alike and have not written
flag_same : (b : Bool) → same_flag b b ≡ true
unfolding same_flag
flag_same true = refl
flag_same false = refl

pub local_same : (h k : Thread) → h ≡ k → same_local h.local k.local ≡ true
unfolding same_local
local_same h k e = subst (λ (x : Thread). same_local h.local x.local ≡ true) e
    (both_and (eq-eqb (length h.local.rest) (length h.local.rest) refl) (both_and (same_list_lem eqb (λ x. eq-eqb x x refl) h.local.registers) (flag_same h.local.failed)))

pub history_same : (h k : Thread) → h ≡ k → same_history h.history k.history ≡ true
unfolding same_history
history_same h k e = subst (λ (x : Thread). same_history h.history x.history ≡ true) e
    (both_and (eq-eqb h.history.done h.history.done refl) (same_list_lem same_read same_read_lem h.history.reads))

pub quiet_cell : (σ : State) (u : ℕ) → Quiet σ u → (c : Cell) → Memᴰ c σ.cells → (e : Event) → Memᴰ e c.writes → e.0 ≡ u → ⊥
quiet_cell σ u q c m e i k =
    let l = cell_of_lem σ c m in
    let j : Memᴰ (u, e.1) (cell_of σ l.0).writes = subst (λ (x : Cell). Memᴰ (u, e.1) x.writes) (sym l.1) (subst (λ (x : ℕ). Memᴰ (x, e.1) c.writes) k i) in
    q l.0 e.1 j

not_so : (b : Bool) → b ≡ false → not b ≡ true
not_so b e = ap not e

pub quiet_silent : (σ : State) (u : ℕ) → Quiet σ u → silent σ u ≡ true
unfolding silent
quiet_silent σ u q = all_of (λ (c : Cell). all (λ (e : Event). not (eqb e.0 u)) c.writes) σ.cells
    (λ c m. all_of (λ (e : Event). not (eqb e.0 u)) c.writes (λ e i. not_so (eqb e.0 u) (ne_eqb e.0 u (λ k. quiet_cell σ u q c m e i k))))

cell_in_lem : (cs : List Cell) (l : ℕ) → Memᴰ (get_or cs l (fresh_cell 0)) cs ⊎ (get_or cs l (fresh_cell 0) ≡ fresh_cell 0)
cell_in_lem [] l = inr refl
cell_in_lem (c ∷ cs) zero = inl (mathlib.Core.List.Memᴰ.head refl)
cell_in_lem (c ∷ cs) (suc l) = ⊎_elim (λ (m : Memᴰ (get_or cs l (fresh_cell 0)) cs). inl (mathlib.Core.List.Memᴰ.tail m)) (λ (q : get_or cs l (fresh_cell 0) ≡ fresh_cell 0). inr q) (cell_in_lem cs l)

pub silent_quiet : (σ : State) (u : ℕ) → silent σ u ≡ true → Quiet σ u
unfolding cell_of fresh_cell
silent_quiet σ u e l j m = ⊎_elim
    (λ (i : Memᴰ (get_or σ.cells l (fresh_cell 0)) σ.cells). silent_true σ u e (get_or σ.cells l (fresh_cell 0)) i (u, j) m refl)
    (λ (q : get_or σ.cells l (fresh_cell 0) ≡ fresh_cell 0). mathlib.Core.List.Memᴰ.not-nil (subst (λ (c : Cell). Memᴰ (u, j) c.writes) q m))
    (cell_in_lem σ.cells l)

pub twin_of : (p : Program) (σ : State) (u t : ℕ) → Together p u t → thread_of σ u ≡ thread_of σ t → Quiet σ u → Quiet σ t → twin p σ t u ≡ true
unfolding twin
twin_of p σ u t k e q r = both_and (true_together p u t k) (both_and (local_same (thread_of σ u) (thread_of σ t) e) (both_and (history_same (thread_of σ u) (thread_of σ t) e) (both_and (quiet_silent σ u q) (quiet_silent σ t r))))

-- WHO PREFERS WHOM
pub never_survivor : (p : Program) (w : Schedule) → Survives p w → (y z : ℕ) → y < z → Together p y z → Never (start p) w y z
never_survivor p w s y z h k a b e th q r =
    true≢false (sym (twin_of p (end_of p a) y z k th q r) ∙ any_no (twin p (end_of p a) z) _ y (s a z b e).1 (in_range_lem 0 z y (omega arith) (omega (arith, h))))

pub never_listed : (p : Program) → WellFormed p → (m : Schedule) → Listed sc p m → (y z : ℕ) → y < z → Together p y z → Never (start p) m y z
never_listed p w m l y z h k a b e th q r = l.1 (subst (Smaller sc p) (sym e) (twin_smaller p w a y z b h (twin_of p (end_of p a) y z k th q r) (subst (Full p) e l.0)))

-- an exchanged schedule, cut
split_moved : (π : ℕ → ℕ) (m a : Schedule) (x : ℕ) (b : Schedule) → moved_schedule π m ≡ a ++ (x ∷ b) → (f : Schedule) × (c : ℕ) × (g : Schedule) × (m ≡ f ++ (c ∷ g)) × (moved_schedule π f ≡ a) × (π c ≡ x)
unfolding moved_schedule
split_moved π [] [] x b e = absurd (omega (arith, ap length e))
split_moved π [] (y ∷ a) x b e = absurd (omega (arith, ap length e))
split_moved π (t ∷ m) [] x b e = ([], t, m, refl, refl, cc)
split_moved π (t ∷ m) (y ∷ a) x b e =
    let h : π t ≡ y = cc in
    let k : map π m ≡ a ++ (x ∷ b) = cc in
    let r = split_moved π m a x b k in
    (t ∷ r.0, r.1, r.2, ap (λ (z : Schedule). t ∷ z) r.3, ap₂ (λ (i : ℕ) (z : Schedule). i ∷ z) h r.4, r.5)

module _ (π : ℕ → ℕ) (q : Permutation π) where
  moves_run : (z : Schedule) (σ τ : State) → Moves π σ τ → Allowed SC σ z → Moves π (run SC σ z) (run SC τ (moved_schedule π z))
  unfolding run moved_schedule
  moves_run [] σ τ m f = m
  moves_run (t ∷ z) σ τ m f = moves_run z (step σ t) (step τ (π t)) (moves_step π q σ τ m t f.0) f.1

  event_back : (e : Event) → moved_event q.inverse (moved_event π e) ≡ e
  unfolding moved_event
  event_back e = ap (λ (x : ℕ). let z : Event = (x, e.1) in z) (q.inverse_after e.0)

  reads_back : (rs : List (ℕ × Event)) → moved_reads q.inverse (moved_reads π rs) ≡ rs
  unfolding moved_reads moved_read
  reads_back [] = refl
  reads_back (r ∷ rs) = ap₂ (λ (a : ℕ × Event) (b : List (ℕ × Event)). a ∷ b) (ap (λ (e : Event). let z : ℕ × Event = (r.0, e) in z) (event_back r.1)) (reads_back rs)

  thread_back : (h : Thread) → moved_thread q.inverse (moved_thread π h) ≡ h
  unfolding moved_thread
  thread_back h = ap (λ (rs : List (ℕ × Event)). let z : Thread = record { local = h.local; history = record { done = h.history.done; reads = rs } } in z) (reads_back h.history.reads)

  thread_injective : (h k : Thread) → moved_thread π h ≡ moved_thread π k → h ≡ k
  thread_injective h k e = sym (thread_back h) ∙ ap (moved_thread q.inverse) e ∙ thread_back k

  quiet_back : (σ τ : State) → Moves π σ τ → (b : ℕ) → Quiet τ (π b) → Quiet σ b
  unfolding moved_cell moved_writes moved_event
  quiet_back σ τ m b f l j k = f l j (subst (λ (c : Cell). Memᴰ (π b, j) c.writes) (sym (moves_cell π q σ τ m l)) (mathlib.Core.List.Memᴰ.map (moved_event π) k))

pub never_moved : (p : Program) → WellFormed p → (π : ℕ → ℕ) → Exchange p π → (m : Schedule) → Full p m → (a b : ℕ) → Never (start p) m a b → Never (start p) (moved_schedule π m) (π a) (π b)
never_moved p w π x m fm a b n u r e th qa qb =
    let s = split_moved π m u (π b) r e in
    let f : Schedule = s.0 in
    let c : s.1 ≡ b = injective π x.0 s.1 b s.5 in
    let cut : m ≡ f ++ (b ∷ s.2) = s.3 ∙ ap (λ (i : ℕ). f ++ (i ∷ s.2)) c in
    let al = (full_split SC (start p) f (b ∷ s.2) (subst (Full p) cut fm)).0 in
    let mv : Moves π (end_of p f) (end_of p u) = subst (λ (k : Schedule). Moves π (end_of p f) (end_of p k)) s.4 (moves_run π x.0 f (start p) (start p) (moves_start p w π x.1) al) in
    n f s.2 cut (thread_injective π x.0 (thread_of (end_of p f) a) (thread_of (end_of p f) b) (sym (mv.threads a) ∙ th ∙ mv.threads b))
    (quiet_back π x.0 (end_of p f) (end_of p u) mv a qa) (quiet_back π x.0 (end_of p f) (end_of p u) mv b qb)

-- LINES: no thread stands in two, so standing in one line is transitive
module _ (p : Program) where
  -- one thread, or two of one line
  abbrev pub Line : ℕ → ℕ → Type 0
  Line a b = (a ≡ b) ⊎ Together p a b

  pub line_sym : (a b : ℕ) → Line a b → Line b a
  line_sym a b (inl e) = inl (sym e)
  line_sym a b (inr k) = inr (k.0, k.1, k.3, k.2)

  pub line_trans : WellFormed p → (a b c : ℕ) → Line a b → Line b c → Line a c
  line_trans w a b c (inl e) l = subst (λ (x : ℕ). Line x c) (sym e) l
  line_trans w a b c (inr k) (inl e) = subst (Line a) e (inr k)
  line_trans w a b c (inr k) (inr l) = inr (k.0, k.1, k.2, subst (Memᴰ c) (sym (one_group p.groups w.apart k.0 l.0 b k.1 l.1 k.3 l.2)) l.3)
