-- In a program of at most sixteen accesses every digit of a word is below 128, and two threads have done at most sixteen accesses together.
use Prim.Native.Nat.{ℕ, zero, suc, ◌+◌, ◌*◌, ◌<◌, ◌≤◌}
use mathlib.Core.Path.{◌≡◌, refl, sym, ap, ap₂, subst, ◌∙◌}
use mathlib.Core.Logic.{◌≢◌, ◌⊎◌, inl, inr, ⊎_elim}
use mathlib.Core.Bool.{Bool, true, false, cond}
use mathlib.Core.Option.{Option, none, some}
use mathlib.Core.List.{List, [], ◌∷◌, Memᴰ}
use native.Mathlib.Omega.{arith}
use native.Mathlib.Decide.{dec_lt}
use lib.Dec.{eqb, ltb}
use lib.ListN.{length, get_or}
use borrow.Author.Tests.{ne_eqb, le-ltb}
use Rattle.spec_file.specs.declared.instruction.Instruction.{Instruction}
use Rattle.spec_file.specs.Program.{Program, code_of}
use Rattle.spec_file.specs.WellFormed.{WellFormed, accesses, all_accesses}
use Rattle.spec_schedules.specs.Order.{Schedule}
use Rattle.spec_schedules.specs.System.{run, Allowed}
use Rattle.spec_sc.specs.State as SC
use Rattle.spec_sc.specs.State.{Event, initial_write}
use Rattle.spec_sc.proofs.Access.{begin_law, suffix_accesses}
use Rattle.spec_sc.proofs.Start as Start
use Rattle.spec_tso.specs.State.{Thread, State, idle, no_thread, thread_of, start, TSO}
use Rattle.spec_tso.specs.Graph.{end_of}
use Rattle.spec_tso.proofs.Steps.{missing}
use Rattle.spec_tso.proofs.Seen.{drained_thread, start_threads}
use Rattle.spec_tso.proofs.Values.{Old}
use Rattle.theory_tso.specs.ReadWords.{sources_of, source_digit, digit}
use Rattle.theory_tso.proofs.ReadWords.{Small}
use Rattle.theory_tso.proofs.Kept.{Kept, kept, start_done}

nothing : accesses [] ≡ 0
unfolding accesses
nothing = refl

-- ---- accesses of one thread, and of two
one_of : (cs : List (List Instruction)) (t : ℕ) → accesses (get_or cs t []) ≤ all_accesses cs
unfolding accesses all_accesses
one_of [] t = omega arith
one_of (c ∷ cs) zero = omega arith
one_of (c ∷ cs) (suc t) = omega (arith, one_of cs t)

two_of : (cs : List (List Instruction)) (u t : ℕ) → u ≢ t → accesses (get_or cs u []) + accesses (get_or cs t []) ≤ all_accesses cs
unfolding accesses all_accesses
two_of [] u t ne = omega arith
two_of (c ∷ cs) zero zero ne = absurd (ne refl)
two_of (c ∷ cs) zero (suc t) ne = omega (arith, one_of cs t)
two_of (c ∷ cs) (suc u) zero ne = omega (arith, one_of cs u)
two_of (c ∷ cs) (suc u) (suc t) ne = omega (arith, two_of cs u t (λ e. ne (ap suc e)))

opened_few : (c : List Instruction) → accesses (SC.opened c).local.rest ≤ accesses c
unfolding SC.opened
opened_few c = suffix_accesses _ c (begin_law c).1

none_left : accesses no_thread.local.rest ≡ 0
unfolding no_thread idle SC.no_thread accesses
none_left = refl

idle_rest : (h : SC.Thread) → (idle h).local.rest ≡ h.local.rest
unfolding idle
idle_rest h = refl

begun_few : (p : Program) (t : ℕ) → accesses (thread_of (start p) t).local.rest ≤ accesses (get_or p.threads t [])
unfolding start code_of
begun_few p t = go (dec_lt t (length p.threads))
  where
    go : Dec (t < length p.threads) → accesses (thread_of (start p) t).local.rest ≤ accesses (get_or p.threads t [])
    go (yes h) =
        let e : (thread_of (start p) t).local.rest ≡ (SC.opened (code_of p t)).local.rest =
        ap (λ (k : Thread). k.local.rest) (drained_thread (SC.start p) t) ∙ idle_rest (SC.thread_of (SC.start p) t) ∙ ap (λ (k : SC.Thread). k.local.rest) (Start.start_thread p t h) in
        omega (arith, ap accesses e, opened_few (code_of p t))
    go (no h) = omega (arith, ap (λ (k : Thread). accesses k.local.rest) (missing (start p) t (omega (arith, h, start_threads p))), none_left)

module _ (p : Program) (w : WellFormed p) (few : all_accesses p.threads ≤ 16) (v : Schedule) (a : Allowed TSO (start p) v) where
  done_few : (t : ℕ) → (thread_of (end_of p v) t).history.done ≤ accesses (get_or p.threads t [])
  done_few t = omega (arith, (kept p w v a).counted t, (start_done p t).0, begun_few p t)

  pub done_16 : (t : ℕ) → (thread_of (end_of p v) t).history.done ≤ 16
  done_16 t = omega (arith, done_few t, one_of p.threads t, few)

  pub done_both : (u t : ℕ) → u ≢ t → (thread_of (end_of p v) u).history.done + (thread_of (end_of p v) t).history.done ≤ 16
  done_both u t ne = omega (arith, done_few u, done_few t, two_of p.threads u t ne, few)

  -- a thread that did something is one of six
  pub done_six : (t : ℕ) → 0 < (thread_of (end_of p v) t).history.done → t < 6
  done_six t h = go (dec_lt t (length p.threads))
    where
      empty : (cs : List (List Instruction)) (i : ℕ) → length cs ≤ i → accesses (get_or cs i []) ≡ 0
      empty [] i k = nothing
      empty (c ∷ cs) zero k = absurd (omega arith)
      empty (c ∷ cs) (suc i) k = empty cs i (omega arith)

      go : Dec (t < length p.threads) → t < 6
      go (yes k) = omega (arith, k, w.six)
      go (no k) = absurd (omega (arith, h, done_few t, empty p.threads t (omega (arith, k))))

  -- a known source has a small digit
  small_source : (t : ℕ) (e : Event) → t < 6 → Old (end_of p v) e → source_digit t e < 128
  unfolding source_digit initial_write
  small_source t e h (inl q) =
      let x : e.0 ≡ 255 = ap (λ (y : Event). y.0) q in
      let i = ne_eqb e.0 t (λ z. omega (arith, x, z, h)) in
      let j = le-ltb e.0 6 (omega (arith, x)) in
      rw (i, j) (omega arith)
  small_source t e h (inr q) =
      let k = done_16 e.0 in
      let s = done_six e.0 (omega (arith, q)) in
      cases (eqb e.0 t) (ltb e.0 6) (omega (arith, q, k)) s
    where
      cases : (a b : Bool) → e.1 < 16 → e.0 < 6 → cond a (e.1 + 3) (cond b (e.0 * 16 + e.1 + 19) 2) < 128
      cases true b i j = omega (arith, i)
      cases false true i j = omega (arith, i, j)
      cases false false i j = omega arith

-- the sources are those of the reads
pub sources_from : (n : ℕ) (rs : List (ℕ × Event)) (o : Option Event) → Memᴰ o (sources_of n rs) → (o ≡ none) ⊎ ((r : ℕ × Event) × Memᴰ r rs × (o ≡ some r.1))
unfolding sources_of
sources_from zero rs o m = absurd (mathlib.Core.List.Memᴰ.not-nil m)
sources_from (suc n) [] o m = ⊎_elim (λ (q : o ≡ none). inl q) (λ (k : Memᴰ o (sources_of n [])). sources_from n [] o k) (mathlib.Core.List.Memᴰ.cases_cons m)
sources_from (suc n) (r ∷ rs) o m = go (eqb r.0 n) refl (λ k. sources_from n rs o k) (λ k. sources_from n (r ∷ rs) o k)
  where
    Goal : Type 0
    Goal = (o ≡ none) ⊎ ((x : ℕ × Event) × Memᴰ x (r ∷ rs) × (o ≡ some x.1))

    go : (b : Bool) → eqb r.0 n ≡ b → (Memᴰ o (sources_of n rs) → (o ≡ none) ⊎ ((x : ℕ × Event) × Memᴰ x rs × (o ≡ some x.1)))
        → (Memᴰ o (sources_of n (r ∷ rs)) → Goal) → Goal
    go true q ih jh =
        let k : Memᴰ o (some r.1 ∷ sources_of n rs) = rw (q, sources_of) at m in
        ⊎_elim (λ (z : o ≡ some r.1). inr (r, mathlib.Core.List.Memᴰ.head refl, z))
        (λ (z : Memᴰ o (sources_of n rs)). ⊎_elim (λ (y : o ≡ none). inl y) (λ (y : (x : ℕ × Event) × Memᴰ x rs × (o ≡ some x.1)). inr (y.0, mathlib.Core.List.Memᴰ.tail y.1, y.2)) (ih z))
        (mathlib.Core.List.Memᴰ.cases_cons k)
    go false q ih jh =
        let k : Memᴰ o (none ∷ sources_of n (r ∷ rs)) = rw (q, sources_of) at m in
        ⊎_elim (λ (z : o ≡ none). inl z) jh (mathlib.Core.List.Memᴰ.cases_cons k)

module _ (p : Program) (w : WellFormed p) (few : all_accesses p.threads ≤ 16) (v : Schedule) (a : Allowed TSO (start p) v) where
  pub small : (t : ℕ) → t < 6 → Small t (sources_of (thread_of (end_of p v) t).history.done (thread_of (end_of p v) t).history.reads)
  unfolding digit
  small t h o m = go (sources_from (thread_of (end_of p v) t).history.done (thread_of (end_of p v) t).history.reads o m)
    where
      go : (o ≡ none) ⊎ ((r : ℕ × Event) × Memᴰ r (thread_of (end_of p v) t).history.reads × (o ≡ some r.1)) → digit t o < 128
      go (inl q) = subst (λ (x : Option Event). digit t x < 128) (sym q) (omega arith)
      go (inr k) = subst (λ (x : Option Event). digit t x < 128) (sym k.2) (small_source p w few v a t k.0.1 h ((kept p w v a).known t k.0 k.1))
