-- Where the assertions of each thread end.
use Prim.Native.Nat.{ℕ, zero, suc, ◌+◌, ◌-◌, ◌*◌, ◌<◌, ◌≤◌}
use native.Mathlib.Omega.{arith}
use native.Mathlib.Decide.{dec_lt}
use mathlib.Core.Path.{◌≡◌, refl, sym, ap, subst, ◌∙◌}
use mathlib.Core.Logic.{◌≢◌}
use mathlib.Core.Bool.{Bool, true, false, true≢false}
use mathlib.Core.List.{List, [], ◌∷◌}
use lib.ListN.{length, get_or, set, drop}
use lib.Seq.{drop-drop, get_or-set_same, get_or-set_other}
use Rattle.spec_file.specs.Program.{Program}
use Rattle.spec_file.specs.WellFormed.{Everywhere}
use Rattle.spec_file.specs.declared.instruction.Instruction.{Instruction}
use Rattle.file_rows.specs.Rows.{instruction_at, thread_code}
use Rattle.file_rows.proofs.Rows.{row_store, row_load, row_fetch_add, row_compare_swap, row_assign, row_add_assign, row_skip, row_skip_at_most}
use Rattle.machine_access.proofs.HeldSettling.{code_at_lem, code_end}
use Rattle.spec_schedules.specs.Order.{Schedule}
use Rattle.spec_sc.specs.Local.{Outcome, continues, stops, outcome}
use Rattle.spec_sc.specs.State.{no_thread, thread_of, failed_of, fails, start}
use Rattle.spec_sc.specs.Graph.{end_of}
use Rattle.spec_sc.proofs.Steps.{missing, run_threads}
use Rattle.spec_sc.proofs.Start.{start_threads}
use Rattle.spec_sc.proofs.Failing.{fails_of}
use Rattle.machine.specs.declared.state.Machine.{Machine}
use Rattle.machine.specs.Held.{thread_at, Loaded}
use Rattle.machine.proofs.HeldStart.{threads_held}
use Rattle.spec_force.proofs.Silent.{Harmless, Silent}
use Rattle.force_moves.specs.Standing.{Standing}

-- ---- one row
continues_not : (rs : List ℕ) (k : ℕ) → continues rs k ≡ stops → ⊥
continues_not rs k e = true≢false (ap (λ (o : Outcome). elim o [ continues ss j ↦ true | stops ↦ false ]) e)

module _ (code : List ℕ) (row : ℕ) (h : row < 96) where
  abbrev Fine : Type 0
  Fine = Harmless (instruction_at code row)

  pub fine_store : get_or code (row * 16) 0 ≡ 0x10 → Fine
  fine_store e = subst Harmless (sym (row_store code row h e)) tt

  pub fine_load : get_or code (row * 16) 0 ≡ 0x11 → Fine
  fine_load e = subst Harmless (sym (row_load code row h e)) tt

  pub fine_fetch_add : get_or code (row * 16) 0 ≡ 0x12 → Fine
  fine_fetch_add e = subst Harmless (sym (row_fetch_add code row h e)) tt

  pub fine_compare_swap : get_or code (row * 16) 0 ≡ 0x13 → Fine
  fine_compare_swap e = subst Harmless (sym (row_compare_swap code row h e)) tt

  pub fine_assign : get_or code (row * 16) 0 ≡ 0x20 → Fine
  unfolding outcome
  fine_assign e = subst Harmless (sym (row_assign code row h e)) (λ rs q. continues_not _ _ q)

  pub fine_add_assign : get_or code (row * 16) 0 ≡ 0x21 → Fine
  unfolding outcome
  fine_add_assign e = subst Harmless (sym (row_add_assign code row h e)) (λ rs q. continues_not _ _ q)

  pub fine_skip : get_or code (row * 16) 0 ≡ 0x22 → Fine
  unfolding outcome
  fine_skip e = subst Harmless (sym (row_skip code row h e)) (λ rs q. continues_not _ _ q)

  pub fine_skip_at_most : get_or code (row * 16) 0 ≡ 0x24 → Fine
  unfolding outcome
  fine_skip_at_most e = subst Harmless (sym (row_skip_at_most code row h e)) (λ rs q. continues_not _ _ q)

  -- an access
  pub fine_access : 0x10 ≤ get_or code (row * 16) 0 → get_or code (row * 16) 0 ≤ 0x13 → Fine
  fine_access a b = go (dec_lt (get_or code (row * 16) 0) 0x11) (dec_lt (get_or code (row * 16) 0) 0x12) (dec_lt (get_or code (row * 16) 0) 0x13)
    where
      go : Dec (get_or code (row * 16) 0 < 0x11) → Dec (get_or code (row * 16) 0 < 0x12) → Dec (get_or code (row * 16) 0 < 0x13) → Fine
      go (yes p) q r = fine_store (omega (arith, a, p))
      go (no p) (yes q) r = fine_load (omega (arith, p, q))
      go (no p) (no q) (yes r) = fine_fetch_add (omega (arith, q, r))
      go (no p) (no q) (no r) = fine_compare_swap (omega (arith, b, r))

  -- an assignment, an addition to a register, a skip
  pub fine_alone : 0x20 ≤ get_or code (row * 16) 0 → get_or code (row * 16) 0 ≤ 0x22 → Fine
  fine_alone a b = go (dec_lt (get_or code (row * 16) 0) 0x21) (dec_lt (get_or code (row * 16) 0) 0x22)
    where
      go : Dec (get_or code (row * 16) 0 < 0x21) → Dec (get_or code (row * 16) 0 < 0x22) → Fine
      go (yes p) q = fine_assign (omega (arith, a, p))
      go (no p) (yes q) = fine_add_assign (omega (arith, p, q))
      go (no p) (no q) = fine_skip (omega (arith, b, q))

-- ---- one thread
everywhere_drop : (P : Instruction → Type 0) (j : ℕ) (l : List Instruction) → Everywhere P l → Everywhere P (drop j l)
everywhere_drop P zero l h = h
everywhere_drop P (suc j) [] h = tt
everywhere_drop P (suc j) (i ∷ l) h = everywhere_drop P j l h.1

module _ (code : List ℕ) (t n : ℕ) where
  abbrev Clear : ℕ → Type 0
  Clear k = Everywhere Harmless (drop k (thread_code code t n))

  pub clear_end : Clear n
  clear_end = subst (Everywhere Harmless) (sym (code_end code t n n (omega arith))) tt

  pub clear_on : (k i : ℕ) → Clear k → k ≤ i → Clear i
  clear_on k i h b =
      subst (Everywhere Harmless) (drop-drop (i - k) k (thread_code code t n) ∙ ap (λ (j : ℕ). drop j (thread_code code t n)) (let e : k + (i - k) ≡ i = omega arith in e))
      (everywhere_drop Harmless (i - k) (drop k (thread_code code t n)) h)

  pub clear_more : (k : ℕ) → 0 < k → k ≤ n → Clear k → Harmless (instruction_at code (t * 16 + (k - 1))) → Clear (k - 1)
  clear_more k h b c f =
      subst (Everywhere Harmless) (sym (code_at_lem code t n (k - 1) (omega arith))) (
        f,
        subst Clear (let e : k ≡ suc (k - 1) = omega arith in e) c,
      )

-- ---- all threads
pub at_most_six : (code lengths : List ℕ) (threads : ℕ) (p : Program) → Loaded code lengths threads p → threads ≤ 6
at_most_six code lengths threads p l = omega (arith, threads_held code lengths threads p l, l.well_formed.six)

pub tails_more : (code lengths : List ℕ) (threads : ℕ) (all : List ℕ) (t r : ℕ) → length all ≡ 6 → t < 6
    → ((u : ℕ) → u < t → (i : ℕ) → get_or all u 0 ≤ i → Everywhere Harmless (drop i (thread_code code u (get_or lengths u 0))))
    → ((i : ℕ) → r ≤ i → Everywhere Harmless (drop i (thread_code code t (get_or lengths t 0))))
    → (u : ℕ) → u < t + 1 → (i : ℕ) → get_or (set all t r) u 0 ≤ i → Everywhere Harmless (drop i (thread_code code u (get_or lengths u 0)))
tails_more code lengths threads all t r e h before own u b i c = go (dec_lt u t)
  where
    go : Dec (u < t) → Everywhere Harmless (drop i (thread_code code u (get_or lengths u 0)))
    go (yes l) =
        let ne : u ≢ t = λ q. omega (arith, q, l) in
        before u l i (omega (arith, c, sym (get_or-set_other all t u r 0 ne)))
    go (no l) =
        let q : u ≡ t = omega (arith, b, l) in
        let k : t < length all = omega (arith, e, h) in
        subst (λ (w : ℕ). Everywhere Harmless (drop i (thread_code code w (get_or lengths w 0)))) (sym q)
        (own i (omega (arith, c, ap (λ (w : ℕ). get_or (set all t r) w 0) q ∙ get_or-set_same all t r 0 k)))

-- ---- a state
module _ (code lengths tails : List ℕ) (threads : ℕ) (m : Machine) (p : Program) (v : Schedule) (st : Standing code lengths tails threads m p v) where
  count : length (end_of p v).threads ≡ threads
  count = run_threads v (start p) ∙ start_threads p ∙ threads_held code lengths threads p st.loaded

  pub silent_here : fails (end_of p v) ≡ false → ((t : ℕ) → t < 6 → get_or tails t 0 ≤ (thread_at m t).at) → Silent (end_of p v)
  unfolding no_thread failed_of
  silent_here f h t = (rest (dec_lt t (length (end_of p v).threads)), failed (thread_of (end_of p v) t).local.failed refl)
    where
      rest : Dec (t < length (end_of p v).threads) → Everywhere Harmless (thread_of (end_of p v) t).local.rest
      rest (yes l) =
          let b : t < 6 = omega (arith, l, st.holds.six) in
          subst (Everywhere Harmless) (sym (st.holds.threads t b).rest) (st.ends t (omega (arith, l, count)) (thread_at m t).at (h t b))
      rest (no l) = rw (missing (end_of p v) t (omega (arith, l))) tt

      failed : (b : Bool) → (thread_of (end_of p v) t).local.failed ≡ b → (thread_of (end_of p v) t).local.failed ≡ false
      failed true e = absurd (true≢false (sym (fails_of (end_of p v) t e) ∙ f))
      failed false e = e
