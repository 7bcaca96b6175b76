-- R1 AND R2 ARE EXACT: a full schedule that neither cuts is listed. Its class has a listed schedule m, which neither cuts. The exchange that turns
-- m's graph into w's turns round only pairs of threads that do the same and write nothing; so it leaves w's graph as it is, and the two graphs are one. Without late
-- steps w is the least of its graph.
use Prim.Native.Nat.{ℕ, ◌<◌}
use mathlib.Core.Path.{◌≡◌, refl, sym, ap, ap₂, subst, ◌∙◌}
use mathlib.Core.Logic.{◌≢◌, ◌⊎◌, inl, inr, ◌↔◌}
use mathlib.Core.Bool.{Bool, true, false}
use mathlib.Core.List.{List, ◌∷◌, ◌++◌, reverse, Memᴰ}
use native.Mathlib.Omega.{arith}
use lib.ListN.{length}
use Rattle.spec_file.specs.Program.{Program}
use Rattle.spec_file.specs.WellFormed.{WellFormed}
use Rattle.spec_schedules.specs.Lists.{range, any}
use Rattle.spec_schedules.specs.Order.{Schedule}
use Rattle.spec_schedules.specs.Permutations.{permutations, moved}
use Rattle.spec_schedules.proofs.Lists.{of_filter, of_range, any_yes}
use Rattle.spec_schedules.proofs.Order.{AtMost}
use Rattle.spec_schedules.proofs.Runs.{full_allowed}
use Rattle.spec_sc.specs.State.{Event, Cell, State, thread_of, opened, start, SC}
use Rattle.spec_sc.specs.Graph.{graph_of, graph, Full, end_of}
use Rattle.spec_sc.proofs.ExchangeTerms.{moved_schedule}
use Rattle.spec_sc.specs.Exchange.{Moves, Renames}
use Rattle.spec_sc.specs.Actions.{Action, action, who, conflict}
use Rattle.spec_sc.proofs.ActionTerms.{actions}
use Rattle.spec_sc.proofs.Start.{start_threads, start_thread, start_history}
use Rattle.spec_sc.proofs.Steps.{run_threads}
use Rattle.spec_sc.proofs.Regular.{regular_start, regular_run}
use Rattle.spec_sc.proofs.FixedState.{fixed_state}
use Rattle.spec_sc.proofs.Permitted.{exchanged, exchanged_graph}
use Rattle.spec_sc.proofs.ProgramGraphs.{graph_rows, graph_moved_end}
use Rattle.spec_sc.proofs.Renaming.{renames_back}
use Rattle.spec_model.specs.Exchange.{Exchange, permits, permitted, Together}
use Rattle.spec_model.specs.Alike.{Alike, Smaller, Listed}
use Rattle.theory_sc.specs.Rules.{late, taken, twin}
use Rattle.theory_search.specs.Late.{Timely}
use Rattle.spec_model.proofs.Exchanges.{exchange_back}
use Rattle.spec_model.proofs.Traces.{stands}
use Rattle.theory_search.proofs.OnTime.{on_time_least}
use Rattle.spec_model.proofs.Alike.{alike_sym}
use Rattle.spec_sc.specs.Sequential.{sc}
use Rattle.spec_sc.proofs.Laws.{within, sc_laws}
use Rattle.spec_model.proofs.Permitted.{tabled, permitted_exchange, exchange_permitted}
use Rattle.theory_sc.proofs.Late.{late_smaller}
use Rattle.spec_model.proofs.Exchanges.{members}
use Rattle.theory_sc.proofs.Twins.{twin_smaller}
use Rattle.spec_model.proofs.TheList.{list_exact, one_each}
use Rattle.theory_sc.specs.Survivor.{Survives}
use Rattle.theory_sc.proofs.GoesFirst.{Quiet}
use Rattle.theory_sc.proofs.Inverted.{inverted_equal, inverted_quiet}
use Rattle.theory_sc.proofs.Inversions.{ties}
use Rattle.theory_sc.proofs.Preferring.{quiet_cell, never_survivor, never_listed, never_moved, Line, line_sym, line_trans}

-- R1: a survivor's steps are on time, so it is the least of its graph
survivor_timely : (p : Program) (w : Schedule) → Survives p w → Timely who conflict (actions (start p) w)
survivor_timely p w s u b z e =
    let r = stands SC action w (start p) u b z e in
    ap₂ (λ (k : List Action) (x : Action). late (reverse k) x) r.fronts r.does ∙ (s r.before r.byte r.after r.split).0

pub survivor_least : (p : Program) → WellFormed p → (w : Schedule) → Full p w → Survives p w → (r : Schedule) → Full p r → graph p r ≡ graph p w → AtMost w r
survivor_least p wf w f s = (on_time_least sc sc_laws p (wf, refl) w f).0 (survivor_timely p w s)

module _ (p : Program) (wf : WellFormed p) where
  renames_back_here : (π : ℕ → ℕ) (x : Exchange p π) (a b : Schedule) → Renames π (graph p a) (graph p b) → Renames x.0.inverse (graph p b) (graph p a)
  renames_back_here π x a b t = renames_back π x.0 (graph p a) (graph p b)
      (λ u h. let i = graph_rows p a in let j = graph_rows p b in let k = within p wf x.0.inverse (exchange_back p π x) u (omega arith) in omega arith) t

  module _ (w m : Schedule) (fw : Full p w) (s : Survives p w) (lm : Listed sc p m) (π : List ℕ) (mem : Memᴰ π (permitted p)) (t : Renames (moved π) (graph p m) (graph p w)) where
    x : Exchange p (moved π)
    x = permitted_exchange p π mem

    abbrev v : Schedule
    v = moved_schedule (moved π) m

    fv : Full p v
    fv = (exchanged p wf (moved π) x.1 x.0 m lm.0).0

    abbrev E : State
    E = end_of p w

    same : graph_of (end_of p v) ≡ graph_of E
    same = (sc_laws.program p (wf, refl)).renamed_once (moved π) x m v w (exchanged_graph p wf (moved π) x.1 x.0 m lm.0) t

    -- one thread, or two that end alike and write nothing
    abbrev Tied : ℕ → ℕ → Type 0
    Tied a b = (a ≡ b) ⊎ ((thread_of E a ≡ thread_of E b) × Quiet E a × Quiet E b)

    tied_sym : (a b : ℕ) → Tied a b → Tied b a
    tied_sym a b (inl e) = inl (sym e)
    tied_sym a b (inr k) = inr (sym k.0, k.2, k.1)

    tied_trans : (a b c : ℕ) → Tied a b → Tied b c → Tied a c
    tied_trans a b c (inl e) l = subst (λ (i : ℕ). Tied i c) (sym e) l
    tied_trans a b c (inr k) (inl e) = subst (Tied a) e (inr k)
    tied_trans a b c (inr k) (inr l) = inr (k.0 ∙ l.0, k.1, l.2)

    line_moved : (a : ℕ) → Line p a (moved π a)
    line_moved a = go (x.1 a)
      where
        go : (moved π a ≡ a) ⊎ Together p a (moved π a) → Line p a (moved π a)
        go (inl e) = inl (sym e)
        go (inr k) = inr k

    -- a pair that is turned round: w prefers the one, the exchanged m the other
    tied_inverted : (a b : ℕ) → a < b → moved π b < moved π a → Line p a b → Tied (moved π a) (moved π b)
    tied_inverted a b h k (inl e) = absurd (omega arith)
    tied_inverted a b h k (inr l) = go (line_trans p wf (moved π b) b (moved π a) (line_sym p b (moved π b) (line_moved b)) (line_trans p wf b a (moved π a) (line_sym p a b (inr l)) (line_moved a)))
      where
        go : Line p (moved π b) (moved π a) → Tied (moved π a) (moved π b)
        go (inl e) = absurd (omega arith)
        go (inr g) =
            let r = members p wf (moved π b) (moved π a) g in
            let six = wf.six in
            let ne : moved π b ≢ moved π a = λ e. omega arith in
            let begin : thread_of (start p) (moved π b) ≡ thread_of (start p) (moved π a) = start_thread p (moved π b) r.0 ∙ ap opened r.2 ∙ sym (start_thread p (moved π a) r.1) in
            let first = (start_history p (moved π b)).0 in
            let small_y : moved π b < 6 = omega (arith, r.0) in
            let small_z : moved π a < 6 = omega (arith, r.1) in
            let ny = never_survivor p w s (moved π b) (moved π a) k g in
            let nz = never_moved p wf (moved π) x m lm.0 a b (never_listed p wf m lm a b h l) in
            let eq = inverted_equal (start p) (regular_start p wf) v w fv fw same (moved π b) (moved π a) ne begin first small_y small_z ny nz in
            let qs = inverted_quiet (start p) (regular_start p wf) v w fv fw same (moved π b) (moved π a) ne begin first small_y small_z ny nz in
            inr (sym eq, qs.1, qs.0)

    in_permutations : Memᴰ π permutations
    unfolding permitted
    in_permutations = (of_filter (permits p.groups) permutations π mem).0

    -- each thread ends as the one in whose place it comes, and none that moves writes
    tied_moved : (a : ℕ) → Tied (moved π a) (moved π (moved π a))
    tied_moved = ties π in_permutations (Line p) (λ a b. Tied (moved π a) (moved π b)) (λ a. inl refl) (line_sym p) (line_trans p wf) line_moved
        (λ a. inl refl) (λ a b. tied_sym (moved π a) (moved π b)) (λ a b c. tied_trans (moved π a) (moved π b) (moved π c)) tied_inverted

    tied_all : (u : ℕ) → Tied u (moved π u)
    tied_all u = subst (λ (i : ℕ). Tied i (moved π i)) (x.0.after_inverse u) (tied_moved (x.0.inverse u))

    end_threads : length E.threads ≡ length p.threads
    end_threads = run_threads w (start p) ∙ start_threads p

    -- THE EXCHANGE LEAVES w'S END AS IT IS
    fixed : Moves (moved π) E E
    fixed = fixed_state (moved π) x.0 E (regular_run w (start p) (regular_start p wf) (full_allowed SC (start p) w fw).0) threads unmoved (λ u h. let k = within p wf (moved π) x u (omega (arith, h, end_threads)) in omega (arith, k, end_threads))
      where
        threads : (u : ℕ) → thread_of E (moved π u) ≡ thread_of E u
        threads u = go (tied_all u)
          where
            go : Tied u (moved π u) → thread_of E (moved π u) ≡ thread_of E u
            go (inl e) = ap (thread_of E) (sym e)
            go (inr k) = sym k.0

        unmoved : (c : Cell) → Memᴰ c E.cells → (e : Event) → Memᴰ e c.writes → moved π e.0 ≡ e.0
        unmoved c i e j = go (tied_all e.0)
          where
            go : Tied e.0 (moved π e.0) → moved π e.0 ≡ e.0
            go (inl q) = sym q
            go (inr k) = absurd (quiet_cell E e.0 k.1 c i e j refl)

    -- ONE GRAPH
    one_graph : graph p m ≡ graph p w
    one_graph = (sc_laws.program p (wf, refl)).renamed_once x.0.inverse (exchange_back p (moved π) x) w m w (renames_back_here (moved π) x m w t) (renames_back_here (moved π) x w w (graph_moved_end p (moved π) w w fixed))

  alike_survivor : (w m : Schedule) → Full p w → Survives p w → Listed sc p m → Alike sc p m w → graph p m ≡ graph p w
  alike_survivor w m fw s lm l =
      let k = exchange_permitted p l.0 l.1 in
      one_graph w m fw s lm (tabled l.0) k.0 (subst (λ (ρ : ℕ → ℕ). Renames ρ (graph p m) (graph p w)) (sym k.1) l.2)

  -- THE RULES ARE EXACT
  pub survivor_listed : (w : Schedule) → Full p w → Survives p w → Listed sc p w
  survivor_listed w f s =
      let c = one_each sc sc_laws p (wf, refl) w f in
      let lm = (list_exact sc sc_laws p c.0).0 c.1 in
      go c.0 lm c.2 (survivor_least p wf w f s c.0 lm.0 (alike_survivor w c.0 f s lm c.2))
    where
      go : (m : Schedule) → Listed sc p m → Alike sc p m w → AtMost w m → Listed sc p w
      go m l a (inl e) = subst (Listed sc p) (sym e) l
      go m l a (inr e) = absurd (l.1 (w, f, e, alike_sym sc sc_laws p (wf, refl) m w a))

  -- SOUND: a listed schedule survives
  pub listed_survives : (w : Schedule) → Listed sc p w → Survives p w
  listed_survives w l v t z e = (go (late (taken p v) (action (end_of p v) t)) refl, at (any (twin p (end_of p v) t) (range 0 t)) refl)
    where
      go : (b : Bool) → late (taken p v) (action (end_of p v) t) ≡ b → late (taken p v) (action (end_of p v) t) ≡ false
      go true q = absurd (l.1 (subst (Smaller sc p) (sym e) (late_smaller p wf v t z q (subst (Full p) e l.0))))
      go false q = q

      at : (b : Bool) → any (twin p (end_of p v) t) (range 0 t) ≡ b → any (twin p (end_of p v) t) (range 0 t) ≡ false
      at true q =
          let r = any_yes (twin p (end_of p v) t) (range 0 t) q in
          let h = (of_range 0 t r.0 r.1).1 in
          absurd (l.1 (subst (Smaller sc p) (sym e) (twin_smaller p wf v r.0 t z (omega arith) r.2 (subst (Full p) e l.0))))
      at false q = q

  -- LISTED EXACTLY WHERE NEITHER RULE CUTS
  pub listed_exactly : (w : Schedule) → Full p w → Survives p w ↔ Listed sc p w
  listed_exactly w f = ((λ s. survivor_listed w f s), λ l. listed_survives w l)
