-- STATES WITH ONE VIEW DO THE SAME. A thread's next access goes to the same location, finds the same there, writes and fails alike, and behind it there is
-- one view again. R3 looks only at the code left, and R1 also at the late set before.
use Prim.Native.Nat.{ℕ, zero, suc}
use mathlib.Core.Path.{◌≡◌, refl, sym, ap, ap₂, subst, ◌∙◌, fun_ext}
use mathlib.Core.Logic.{⊎_elim}
use mathlib.Core.Bool.{Bool, true, false, not, ◌&&◌, ◌||◌}
use mathlib.Core.Option.{Option, none, some}
use mathlib.Core.List.{List, [], ◌∷◌, ◌++◌}
use native.Mathlib.Decide.{ℕ_discrete}
use lib.Dec.{eqb, ltb}
use Rattle.spec_file.specs.Program.{Program}
use Rattle.spec_file.specs.declared.instruction.Instruction.{Instruction}
use Rattle.spec_file.proofs.Tests.{either, equal_tests}
use Rattle.spec_schedules.specs.Lists.{any, all, range}
use Rattle.spec_schedules.specs.Order.{Schedule}
use Rattle.spec_schedules.specs.Sets.{has}
use Rattle.spec_model.proofs.Permitted.{or_left, or_right}
use Rattle.theory_search.specs.Ahead.{first_may_write, may_write}
use Rattle.theory_search.specs.LateSet.{goes_on}
use Rattle.spec_sc.specs.Local.{Local, begins_with_access, first_place, pending, place_of, puts, next}
use Rattle.spec_sc.specs.State.{Event, Thread, Cell, State, thread_of, cell_of, place, written, met, advanced, step, enabled, failed_of, fails, SC, start}
use Rattle.spec_sc.specs.Actions.{Action, given, writes, action, conflict}
use Rattle.spec_sc.proofs.Change.{thread_cases}
use Rattle.spec_sc.proofs.Failing.{fails_at, fails_of}
use Rattle.spec_sc.proofs.Halted.{stays_failed}
use Rattle.spec_sc.proofs.Regular.{Regular, place_in}
use Rattle.spec_sc.proofs.Steps.{enabled_pending, enabled_range, thread_own, thread_other, cell_own, cell_other}
use Rattle.theory_sc.specs.Rules.{twin}
use Rattle.theory_sc.specs.Sets.{set_of}
use Rattle.theory_sc.specs.LateSet.{late_now, late_behind, late_set}
use Rattle.theory_sc.specs.Sleepers.{reads_left, writes_left, meets, wakes, sleeps_in, unwoken, settled, sleepers}
use Rattle.theory_sc.specs.Search.{given_up}
use Rattle.theory_sc.proofs.LateSet.{late_more}
use Rattle.theory_states.specs.Positions.{Reached, Breaks}
use Rattle.theory_sc_key.specs.Registers.{Like}
use Rattle.theory_sc_key.specs.View.{SameView, breaks}
use Rattle.theory_sc_key.proofs.Registers.{like_sym, puts_like, next_like}

pub seen_back : (σ τ : State) → SameView σ τ → SameView τ σ
seen_back σ τ same = record { threads = λ t. like_sym (thread_of σ t).local (thread_of τ t).local (same.threads t); values = λ l. sym (same.values l) }

-- ---- THE NEXT ACCESS OF A THREAD, in two states: whether it has one, where it goes, what it finds and leaves there, what it does, where it leads and whether
-- an assertion fails behind it
pub record SameStep (σ τ : State) (t : ℕ) : Type 0 where
  pub may : enabled σ t ≡ enabled τ t
  pub goes : place σ t ≡ place τ t
  pub finds : (cell_of σ (place σ t)).value ≡ (cell_of τ (place τ t)).value
  pub leaves : puts (thread_of σ t).local (cell_of σ (place σ t)).value ≡ puts (thread_of τ t).local (cell_of τ (place τ t)).value
  pub does : action σ t ≡ action τ t
  pub leads : Like (next (thread_of σ t).local (cell_of σ (place σ t)).value) (next (thread_of τ t).local (cell_of τ (place τ t)).value)
  pub broken : enabled σ t ≡ true → breaks σ t ≡ breaks τ t

pub step_same : (σ τ : State) → SameView σ τ → (t : ℕ) → SameStep σ τ t
unfolding enabled pending place place_of action writes breaks
step_same σ τ same t = record {
  may = ap (λ (b : Bool). elim (ltb t 6) [ true ↦ b | false ↦ false ]) (ap begins_with_access like.rest);
  goes = goes;
  finds = finds;
  leaves = leaves;
  does = ap₂ (λ (l : ℕ) (b : Bool). let a : Action = record { thread = t; location = l; wrote = b } in a) goes (ap given leaves);
  leads = moved.0;
  broken = λ ok. moved.1 (enabled_pending σ t ok);
}
  where
    like : Like (thread_of σ t).local (thread_of τ t).local
    like = same.threads t

    goes : place σ t ≡ place τ t
    goes = ap first_place like.rest

    finds : (cell_of σ (place σ t)).value ≡ (cell_of τ (place τ t)).value
    finds = same.values (place σ t) ∙ ap (λ (l : ℕ). (cell_of τ l).value) goes

    leaves : puts (thread_of σ t).local (cell_of σ (place σ t)).value ≡ puts (thread_of τ t).local (cell_of τ (place τ t)).value
    leaves = ap (puts (thread_of σ t).local) finds ∙ puts_like (thread_of σ t).local (thread_of τ t).local like (cell_of τ (place τ t)).value

    moved : Like (next (thread_of σ t).local (cell_of σ (place σ t)).value) (next (thread_of τ t).local (cell_of τ (place τ t)).value)
        × (pending (thread_of σ t).local ≡ true → breaks σ t ≡ breaks τ t)
    moved = subst (λ (x : ℕ). Like (next (thread_of σ t).local x) (next (thread_of τ t).local (cell_of τ (place τ t)).value)
        × (pending (thread_of σ t).local ≡ true → (next (thread_of σ t).local x).failed ≡ breaks τ t)) (sym finds)
        (next_like (thread_of σ t).local (thread_of τ t).local like (cell_of τ (place τ t)).value)

pub writes_same : (σ τ : State) → SameView σ τ → (t : ℕ) → writes σ t ≡ writes τ t
unfolding action
writes_same σ τ same t = ap (λ (a : Action). a.wrote) (step_same σ τ same t).does

-- ---- ONE VIEW AGAIN
written_alike : (d e : Event) (o : Option ℕ) (b c : Cell) → b.value ≡ c.value → (written d o b).value ≡ (written e o c).value
unfolding written
written_alike d e none b c q = q
written_alike d e (some v) b c q = refl

pub same_behind : (σ τ : State) → Regular σ → Regular τ → SameView σ τ → (t : ℕ) → enabled σ t ≡ true → SameView (step σ t) (step τ t)
unfolding advanced met
same_behind σ τ g k same t ok = record { threads = threads; values = λ l. values l (ℕ_discrete l (place σ t)) }
  where
    S : SameStep σ τ t
    S = step_same σ τ same t

    threads : (u : ℕ) → Like (thread_of (step σ t) u).local (thread_of (step τ t) u).local
    threads u = thread_cases (λ i h. Like h.local (thread_of (step τ t) i).local) σ t (enabled_range σ t ok)
        (subst (λ (h : Thread). Like (next (thread_of σ t).local (cell_of σ (place σ t)).value) h.local) (sym (thread_own τ t (enabled_range τ t (sym S.may ∙ ok)))) S.leads)
        u (λ ne. subst (λ (h : Thread). Like (thread_of σ u).local h.local) (sym (thread_other τ t u ne)) (same.threads u))

    own : (cell_of (step σ t) (place σ t)).value ≡ (cell_of (step τ t) (place τ t)).value
    own =
        let c : Cell = cell_of τ (place τ t) in
        ap (λ (x : Cell). x.value) (cell_own σ t (place_in σ g t))
        ∙ written_alike (t, (thread_of σ t).history.done) (t, (thread_of τ t).history.done) (puts (thread_of σ t).local (cell_of σ (place σ t)).value) (cell_of σ (place σ t)) c S.finds
        ∙ ap (λ (o : Option ℕ). (written (t, (thread_of τ t).history.done) o c).value) S.leaves
        ∙ ap (λ (x : Cell). x.value) (sym (cell_own τ t (place_in τ k t)))

    values : (l : ℕ) → Dec (l ≡ place σ t) → (cell_of (step σ t) l).value ≡ (cell_of (step τ t) l).value
    values l (yes q) = ap (λ (i : ℕ). (cell_of (step σ t) i).value) q ∙ own ∙ ap (λ (i : ℕ). (cell_of (step τ t) i).value) (sym (q ∙ S.goes))
    values l (no q) = ap (λ (x : Cell). x.value) (cell_other σ t l q) ∙ same.values l ∙ ap (λ (x : Cell). x.value) (sym (cell_other τ t l (λ i. q (i ∙ sym S.goes))))

-- ---- LATE AND ASLEEP: what R1 and R3 look at
module _ (σ τ : State) (same : SameView σ τ) where
  late_same : (s : ℕ) (a : Action) → late_behind σ s a ≡ late_behind τ s a
  unfolding late_behind late_now
  late_same s a = ap (λ (f : ℕ → Bool). set_of f 6) (fun_ext (λ t.
      let S = step_same σ τ same t in
      ap₂ (λ (m : Bool) (b : Action). goes_on (λ u. m) a.thread (λ u. ltb u a.thread || has s u) (λ u. conflict a b) t) S.may S.does))

  wakes_same : (t u : ℕ) → wakes σ t u ≡ wakes τ t u
  unfolding wakes may_write
  wakes_same t u =
      let rest : List Instruction = (thread_of σ u).local.rest in
      ap₂ (meets (reads_left rest) (writes_left rest)) (step_same σ τ same t).goes (ap first_may_write (same.threads t).rest)
      ∙ ap (λ (c : List Instruction). meets (reads_left c) (writes_left c) (place τ t) (first_may_write (thread_of τ t).local.rest)) (same.threads u).rest

  unwoken_same : (s : ℕ) → unwoken σ s ≡ unwoken τ s
  unfolding unwoken sleeps_in
  unwoken_same s = ap (λ (f : ℕ → Bool). set_of f 6) (fun_ext (λ t.
      ap (λ (f : ℕ → Bool). has s t && all f (range 0 6)) (fun_ext (λ u. ap (λ (b : Bool). has s u || not b) (wakes_same t u)))))

  sleepers_same : (s : ℕ) → sleepers σ s ≡ sleepers τ s
  unfolding sleepers settled
  sleepers_same s = rounds s s
    where
      rounds : (k s : ℕ) → settled σ k s ≡ settled τ k s
      rounds zero s = refl
      rounds (suc k) s = ap₂ (λ (r n : ℕ). elim (eqb r s) [ true ↦ s | false ↦ n ]) (unwoken_same s) (rounds k (unwoken σ s) ∙ ap (settled τ k) (unwoken_same s))

-- with one late set and the same twins the rules give up the same
module _ (p : Program) (v : Schedule) (σ : State) (w : Schedule) (τ : State) (a : Reached SC (start p) v σ) (b : Reached SC (start p) w τ) (g : Regular σ) (k : Regular τ) (same : SameView σ τ)
    (late : late_set p v ≡ late_set p w) (t : ℕ) (ok : enabled σ t ≡ true) where
  late_on : (x : Schedule) (ρ : State) → Reached SC (start p) x ρ → enabled ρ t ≡ true → late_set p (x ++ (t ∷ [])) ≡ late_behind (step ρ t) (late_set p x) (action ρ t)
  late_on x ρ r e = subst (λ (π : State). enabled π t ≡ true → late_set p (x ++ (t ∷ [])) ≡ late_behind (step π t) (late_set p x) (action π t)) (sym r.0) (late_more p x t) e

  pub late_behind_lem : late_set p (v ++ (t ∷ [])) ≡ late_set p (w ++ (t ∷ []))
  late_behind_lem =
      let S = step_same σ τ same t in
      late_on v σ a ok ∙ ap₂ (late_behind (step σ t)) late S.does ∙ late_same (step σ t) (step τ t) (same_behind σ τ g k same t ok) (late_set p w) (action τ t)
      ∙ sym (late_on w τ b (sym S.may ∙ ok))

  pub given_up_same : any (twin p σ t) (range 0 t) ≡ any (twin p τ t) (range 0 t) → given_up p v σ t ≡ given_up p w τ t
  unfolding given_up
  given_up_same twins =
      let asleep = sleepers_same (step σ t) (step τ t) (same_behind σ τ g k same t ok) (late_set p (v ++ (t ∷ []))) ∙ ap (sleepers (step τ t)) late_behind_lem in
      ap₂ (λ (s : ℕ) (c : Bool). has s t || c) late (ap₂ (λ (x : Bool) (n : ℕ). x || not (eqb n 0)) twins asleep)

-- ---- `breaks` SAYS WHICH STEPS FAIL
pub fails_behind : (p : Program) (v : Schedule) (σ : State) → Reached SC (start p) v σ → (t : ℕ) → enabled σ t ≡ true → fails (step σ t) ≡ (fails σ || breaks σ t)
unfolding breaks failed_of advanced
fails_behind p v σ r t ok = equal_tests (fails (step σ t)) (fails σ || breaks σ t) there back
  where
    own : (thread_of (step σ t) t).local ≡ next (thread_of σ t).local (cell_of σ (place σ t)).value
    own = ap (λ (h : Thread). h.local) (thread_own σ t (enabled_range σ t ok))

    there : fails (step σ t) ≡ true → (fails σ || breaks σ t) ≡ true
    there e = let k = fails_at (step σ t) e in go k.0 k.1 (ℕ_discrete k.0 t)
      where
        go : (u : ℕ) → failed_of (thread_of (step σ t) u) ≡ true → Dec (u ≡ t) → (fails σ || breaks σ t) ≡ true
        go u f (no ne) = or_left (fails σ) _ (fails_of σ u (ap failed_of (sym (thread_other σ t u ne)) ∙ f))
        go u f (yes q) = or_right (fails σ) _ (sym (ap (λ (i : ℕ). (thread_of (step σ t) i).local.failed) q ∙ ap (λ (h : Local). h.failed) own) ∙ f)

    back : (fails σ || breaks σ t) ≡ true → fails (step σ t) ≡ true
    back e = ⊎_elim
        (λ (f : fails σ ≡ true). subst (λ (ρ : State). fails (step ρ t) ≡ true) (sym r.0)
        (stays_failed p v t r.1 (subst (λ (ρ : State). enabled ρ t ≡ true) r.0 ok) (subst (λ (ρ : State). fails ρ ≡ true) r.0 f)))
        (λ (f : breaks σ t ≡ true). fails_of (step σ t) t (ap (λ (h : Local). h.failed) own ∙ f)) (either (fails σ) (breaks σ t) e)

pub breaks_law : (p : Program) → Breaks SC (given_up p) (Reached SC (start p)) fails breaks
breaks_law p v σ r t ok c = fails_behind p v σ r t ok
