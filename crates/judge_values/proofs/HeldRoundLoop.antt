-- A round on the machine, access after access: each thread starts anew, and each access finds what the table says.
use Prim.Native.Nat.{ℕ, zero, suc, ◌+◌, ◌-◌, ◌/◌, ◌%◌, ◌<◌, ◌≤◌}
use mathlib.Core.Path.{◌≡◌, refl, sym, ap, ap₂, subst, ◌∙◌}
use mathlib.Core.Logic.{◌≢◌}
use mathlib.Core.Bool.{cond}
use mathlib.Core.List.{List, [], ◌∷◌}
use native.Mathlib.Omega.{arith}
use native.Mathlib.Decide.{dec_lt, ℕ_discrete}
use borrow.Author.Tests.{eq-eqb, ne_eqb}
use lib.Dec.{eqb}
use lib.ListN.{length, get_or, set, drop, replicate}
use lib.Seq.{get_or-set_same, get_or-set_other}
use Rattle.spec_file.specs.Program.{Program, code_of}
use Rattle.spec_file.specs.WellFormed.{Everywhere, InRange}
use Rattle.spec_file.proofs.Everywhere.{everywhere_get_d}
use Rattle.machine_access.specs.declared.thread.ThreadState.{ThreadState}
use Rattle.machine.specs.declared.state.Machine.{Machine}
use Rattle.spec_file.specs.declared.instruction.Instruction.{Instruction}
use Rattle.spec_sc.specs.Local.{Local, place_of, puts, next, first_place, first_puts, first_next}
use Rattle.spec_sc.specs.State.{State, thread_of, place, start}
use Rattle.machine.specs.Held.{idle, thread_at, Holds, Loaded}
use Rattle.spec_sc.proofs.Access.{place_below}
use Rattle.machine_access.proofs.HeldSettling.{code_end}
use Rattle.machine.proofs.HeldStart.{threads_held, code_held}
use Rattle.judge_values.specs.declared.by_itself.Lone.{Lone}
use Rattle.spec_judge.specs.Consistent.{Values, alone, location_of, out_of}
use Rattle.spec_judge.proofs.RoundValues.{or_zero}
use Rattle.judge_values.specs.HeldRounds.{Opened, MetAlone, values_in}

pub zeros : (n k : ℕ) → ◌≡◌ {A = ℕ} (get_or (replicate n 0) k 0) 0
zeros zero k = refl
zeros (suc n) zero = refl
zeros (suc n) (suc k) = zeros n k

everywhere_drop : {A : Type 0} (P : A → Type 0) (n : ℕ) (l : List A) → Everywhere P l → Everywhere P (drop n l)
everywhere_drop P zero l e = e
everywhere_drop P (suc n) [] e = e
everywhere_drop P (suc n) (x ∷ l) e = everywhere_drop P n l e.1

-- the accesses before number k, sixteen a thread, have been met
pub record Progress (code lengths : List ℕ) (p : Program) (vs : List ℕ) (thread : ThreadState) (k : ℕ) (places left : List ℕ) : Type 0 where
  pub machine : Machine
  pub state : State
  pub holds : Holds code lengths machine state
  pub here : k % 16 ≢ 0 → thread_at machine (k / 16) ≡ thread
  pub local : k % 16 ≢ 0 → (thread_of state (k / 16)).local ≡ alone p (values_in vs) (k / 16) (k % 16)
  pub at : (j : ℕ) → j < k → get_or places j 0 ≡ location_of p (values_in vs) (j / 16, j % 16)
  pub leaves : (j : ℕ) → j < k → get_or left j 0 ≡ or_zero (out_of p (values_in vs) (j / 16, j % 16))
  pub ahead : (j : ℕ) → k ≤ j → (get_or places j 0 ≡ 0) × (get_or left j 0 ≡ 0)

-- the threads of a machine before the first step
pub opened_so : (code lengths : List ℕ) (p : Program) (m : Machine) → Holds code lengths m (start p) → Opened code lengths p m.threads
opened_so code lengths p m H = record { machine = m; all = refl; holds = H }

-- thread t, which stands so on some machine, is about to do its access i
pub record Standing (code lengths : List ℕ) (p : Program) (v : Values) (n : ThreadState) (t i : ℕ) : Type 0 where
  pub machine : Machine
  pub state : State
  pub holds : Holds code lengths machine state
  pub here : thread_at machine t ≡ n
  pub local : (thread_of state t).local ≡ alone p v t i

module _ (code lengths : List ℕ) (threads : ℕ) (p : Program) (loaded : Loaded code lengths threads p) where
  pub six_held : threads ≤ 6
  six_held = omega (arith, loaded.well_formed.six, threads_held code lengths threads p loaded)

  -- accesses go to the eight locations
  pub near_held : (m : Machine) (σ : State) → Holds code lengths m σ → (t : ℕ) → t < threads → place σ t < 8
  unfolding place code_of
  near_held m σ H t h = place_below (thread_of σ t).local (subst (Everywhere InRange) (sym ((H.threads t (omega (arith, six_held))).rest ∙ ap (drop (thread_at m t).at) (sym (code_held code lengths threads p loaded t h))))
      (everywhere_drop InRange (thread_at m t).at (code_of p t) (everywhere_get_d (Everywhere InRange) p.threads t [] loaded.well_formed.ranges tt)))

  -- a thread has done no more accesses than it passed instructions
  pub standing_bounded : {v : Values} {n : ThreadState} {i : ℕ} (t : ℕ) → t < threads → Standing code lengths p v n t i → n.done ≤ n.at
  standing_bounded {v} {n} {i} t h S = subst (λ (k : ThreadState). k.done ≤ k.at) S.here (S.holds.threads t (omega (arith, six_held))).bounded

  module _ (vs : List ℕ) (opened : List ThreadState) (thread : ThreadState) (k : ℕ) (places left : List ℕ) (O : Opened code lengths p opened) (G : Progress code lengths p vs thread k places left) where
    pub iteration_standing : (n : ThreadState) → n ≡ cond (eqb (k % 16) 0) (get_or opened (k / 16) idle) thread → Standing code lengths p (values_in vs) n (k / 16) (k % 16)
    unfolding alone
    iteration_standing n e = go (ℕ_discrete (k % 16) 0)
      where
        go : Dec (k % 16 ≡ 0) → Standing code lengths p (values_in vs) n (k / 16) (k % 16)
        go (yes q) = record {
          machine = O.machine;
          state = start p;
          holds = O.holds;
          here = ap (λ (ts : List ThreadState). get_or ts (k / 16) idle) O.all ∙ sym (e ∙ rw (eq-eqb (k % 16) 0 q));
          local = ap (alone p (values_in vs) (k / 16)) (sym q);
        }
        go (no q) = record {
          machine = G.machine;
          state = G.state;
          holds = G.holds;
          here = G.here q ∙ sym (e ∙ rw (ne_eqb (k % 16) 0 q));
          local = G.local q;
        }

    module _ (n : ThreadState) (S : Standing code lengths p (values_in vs) n (k / 16) (k % 16)) (r : Lone) (M : MetAlone code lengths S.state (k / 16) (get_or vs k 0) r)
        (sp : length places ≡ 96) (sl : length left ≡ 96) (h : k < 96) where
      value_here : get_or vs k 0 ≡ values_in vs (k / 16, k % 16)
      value_here = ap (λ (j : ℕ). get_or vs j 0) (omega arith)

      pub iteration_more : Progress code lengths p vs r.thread (k + 1) (set places k r.place) (set left k r.left)
      unfolding alone
      iteration_more = record {
        machine = M.machine;
        state = M.state;
        holds = M.holds;
        here = λ q. same_thread (omega (arith, q));
        local = λ q. onward (omega arith) (omega (arith, q));
        at = λ j i. at_more j i (ℕ_discrete j k);
        leaves = λ j i. left_more j i (ℕ_discrete j k);
        ahead = λ j i. (
          get_or-set_other places k j r.place 0 (λ q. omega (arith, q)) ∙ (G.ahead j (omega arith)).0,
          get_or-set_other left k j r.left 0 (λ q. omega (arith, q)) ∙ (G.ahead j (omega arith)).1,
        );
      }
        where
          same_thread : (k + 1) / 16 ≡ k / 16 → thread_at M.machine ((k + 1) / 16) ≡ r.thread
          same_thread a = ap (thread_at M.machine) a ∙ M.here

          onward : (k + 1) / 16 ≡ k / 16 → (k + 1) % 16 ≡ suc (k % 16) → (thread_of M.state ((k + 1) / 16)).local ≡ alone p (values_in vs) ((k + 1) / 16) ((k + 1) % 16)
          onward a b =
              ap (λ (t : ℕ). (thread_of M.state t).local) a ∙ M.local ∙ ap₂ next S.local value_here
              ∙ sym (ap₂ (λ (t i : ℕ). alone p (values_in vs) t i) a b)

          at_more : (j : ℕ) → j < k + 1 → Dec (j ≡ k) → get_or (set places k r.place) j 0 ≡ location_of p (values_in vs) (j / 16, j % 16)
          at_more j i (yes q) = rw q (get_or-set_same places k r.place 0 (omega arith) ∙ M.place ∙ ap place_of S.local)
          at_more j i (no q) = get_or-set_other places k j r.place 0 q ∙ G.at j (omega (arith, q))

          left_more : (j : ℕ) → j < k + 1 → Dec (j ≡ k) → get_or (set left k r.left) j 0 ≡ or_zero (out_of p (values_in vs) (j / 16, j % 16))
          left_more j i (yes q) = rw q (get_or-set_same left k r.left 0 (omega arith) ∙ M.left ∙ ap or_zero (ap₂ puts S.local value_here))
          left_more j i (no q) = get_or-set_other left k j r.left 0 q ∙ G.leaves j (omega (arith, q))

    -- behind a thread's end every access goes to 0 and leaves nothing
    module _ (t i : ℕ) (own : t < 6) (h : (thread_of G.state t).local ≡ alone p (values_in vs) t i) (here : thread_at G.machine t ≡ thread) (e : get_or lengths t 0 ≤ thread.at) where
      over : (alone p (values_in vs) t i).rest ≡ []
      over = ap (λ (l : Local). l.rest) (sym h) ∙ (G.holds.threads t own).rest
          ∙ code_end code t (get_or lengths t 0) (thread_at G.machine t).at (let q = ap (λ (x : ThreadState). x.at) here in omega (arith, q, e))

      still : (d j : ℕ) → j ≡ d + i → alone p (values_in vs) t j ≡ alone p (values_in vs) t i
      unfolding alone next first_next
      still zero j z = ap (alone p (values_in vs) t) (let y : j ≡ i = omega (arith, z) in y)
      still (suc d) j z =
          ap (alone p (values_in vs) t) (let y : j ≡ suc (d + i) = omega (arith, z) in y)
          ∙ ap (λ (is : List Instruction). first_next (alone p (values_in vs) t (d + i)) is (values_in vs (t, d + i))) (ap (λ (l : Local). l.rest) (still d (d + i) refl) ∙ over)
          ∙ still d (d + i) refl

      stays : (j : ℕ) → i ≤ j → (alone p (values_in vs) t j).rest ≡ []
      stays j b = ap (λ (l : Local). l.rest) (still (j - i) j (omega (arith, b))) ∙ over

      nowhere : (j : ℕ) → i ≤ j → location_of p (values_in vs) (t, j) ≡ 0
      unfolding place_of first_place
      nowhere j b = ap first_place (stays j b)

      nothing : (j : ℕ) → i ≤ j → or_zero (out_of p (values_in vs) (t, j)) ≡ 0
      unfolding puts first_puts or_zero
      nothing j b = ap (λ (is : List Instruction). or_zero (first_puts (alone p (values_in vs) t j).registers is (values_in vs (t, j)))) (stays j b)

    -- so there none is met
    pub iteration_over : k % 16 ≢ 0 → k < 96 → get_or lengths (k / 16) 0 ≤ thread.at → Progress code lengths p vs thread (k + 1) places left
    iteration_over q h e = record {
      machine = G.machine;
      state = G.state;
      holds = G.holds;
      here = λ x. let z : (k + 1) / 16 ≡ k / 16 = omega (arith, x) in ap (thread_at G.machine) z ∙ G.here q;
      local = λ x.
          let z : (k + 1) / 16 ≡ k / 16 = omega (arith, x) in
          let y : (k + 1) % 16 ≡ 1 + k % 16 = omega (arith, x) in
          ap (λ (t : ℕ). (thread_of G.state t).local) z ∙ G.local q
          ∙ sym (ap₂ (λ (t i : ℕ). alone p (values_in vs) t i) z y ∙ still (k / 16) (k % 16) (omega (arith, h)) (G.local q) (G.here q) e 1 (1 + k % 16) refl);
      at = λ j b. at_over j b (dec_lt j k);
      leaves = λ j b. left_over j b (dec_lt j k);
      ahead = λ j b. G.ahead j (omega (arith, b));
    }
      where
        at_over : (j : ℕ) → j < k + 1 → Dec (j < k) → get_or places j 0 ≡ location_of p (values_in vs) (j / 16, j % 16)
        at_over j b (yes c) = G.at j c
        at_over j b (no c) = let z : j ≡ k = omega (arith, c) in
            rw z ((G.ahead k (omega arith)).0 ∙ sym (nowhere (k / 16) (k % 16) (omega (arith, h)) (G.local q) (G.here q) e (k % 16) (omega arith)))

        left_over : (j : ℕ) → j < k + 1 → Dec (j < k) → get_or left j 0 ≡ or_zero (out_of p (values_in vs) (j / 16, j % 16))
        left_over j b (yes c) = G.leaves j c
        left_over j b (no c) = let z : j ≡ k = omega (arith, c) in
            rw z ((G.ahead k (omega arith)).1 ∙ sym (nothing (k / 16) (k % 16) (omega (arith, h)) (G.local q) (G.here q) e (k % 16) (omega arith)))

-- before the first access
pub iterations_start : (code lengths : List ℕ) (p : Program) (vs : List ℕ) (opened : List ThreadState) (thread : ThreadState) → Opened code lengths p opened
    → Progress code lengths p vs thread 0 (replicate 96 0) (replicate 96 0)
iterations_start code lengths p vs opened thread O = record {
  machine = O.machine;
  state = start p;
  holds = O.holds;
  here = λ q. absurd (q refl);
  local = λ q. absurd (q refl);
  at = λ j h. absurd (omega arith);
  leaves = λ j h. absurd (omega arith);
  ahead = λ j h. (zeros 96 j, zeros 96 j);
}
