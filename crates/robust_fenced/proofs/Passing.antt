-- A thread's rows gone through once, and all threads. What is left is fenced, whatever may be pending, and so is the whole.
use Prim.Native.Nat.{ℕ, zero, suc, ◌+◌, ◌*◌, ◌<◌, ◌≤◌}
use mathlib.Core.Path.{◌≡◌, refl, sym, ap₂, subst, ◌∙◌}
use mathlib.Core.Bool.{Bool, true, false, ◌&&◌, false≢true, true≢false}
use mathlib.Core.List.{List, [], ◌∷◌}
use native.Mathlib.Omega.{arith}
use native.Mathlib.Decide.{ℕ_discrete}
use lib.ListN.{get_or, drop}
use Rattle.spec_file.specs.declared.instruction.Access.TheVariants.{Store, Load, FetchAdd, CompareSwap}
use Rattle.spec_file.specs.declared.instruction.Own.{Own}
use Rattle.spec_file.specs.declared.instruction.Own.TheVariants.{Assign, AddAssign, SkipUnless, Assert}
use Rattle.spec_file.specs.declared.instruction.Instruction.{Instruction}
use Rattle.spec_file.specs.declared.instruction.Instruction.TheVariants.{Memory, Alone}
use Rattle.spec_file.specs.Program.{Program}
use Rattle.spec_file.specs.WellFormed.{Everywhere, most_skipped}
use Rattle.spec_file.specs.Tabulate.{tabulate}
use Rattle.file_rows.specs.Rows.{row_at, instruction_at, thread_code}
use Rattle.file_rows.proofs.Rows.{row_store, row_load, row_fetch_add, row_compare_swap, row_no_access}
use Rattle.machine_access.proofs.HeldSettling.{code_at_lem, code_end}
use Rattle.machine.specs.Held.{Loaded}
use Rattle.states_live.proofs.RowRegisters.{row_skips}
use Rattle.spec_file.specs.Frames.{skip_of}
use Rattle.spec_fenced.specs.Fenced.{fenced, Fenced}

-- this code is fenced from everywhere where nothing is pending, and where a store may be, from here on, or behind that many rows
abbrev pub Passes : Bool → ℕ → List Instruction → Type 0
Passes b over is = (k : ℕ) (q : Bool) → (q ≡ true → (b ≡ true) × (k ≤ over)) → fenced k q is ≡ true

pub passes_end : (b : Bool) (over : ℕ) → Passes b over []
unfolding fenced
passes_end b over k q f = refl

-- ---- one instruction more in front
module _ (is : List Instruction) (b b' : Bool) (over over' : ℕ) (rest : Passes b' over' is) (before : over ≤ over' + 1) (carried : b ≡ true → 0 < over → b' ≡ true) where
  -- whatever it is, if it is fenced from here on
  in_front : (x : Instruction) → ((q : Bool) → (q ≡ true → b ≡ true) → fenced 0 q (x ∷ is) ≡ true) → Passes b over (x ∷ is)
  unfolding fenced
  in_front x here zero q f = here q (λ e. (f e).0)
  in_front x here (suc k) q f = rest k q (λ e. (carried (f e).0 (let h = (f e).1 in omega (arith, h)), (let h = (f e).1 in omega (arith, h, before))))

  front_store : (l : ℕ) → (p : _) → b' ≡ true → Passes b over (Memory (Store l p) ∷ is)
  unfolding fenced
  front_store l p e = in_front (Memory (Store l p)) (λ q f. rest 0 true (λ u. (e, omega arith)))

  front_load : (r l : ℕ) → b ≡ false → Passes b over (Memory (Load r l) ∷ is)
  unfolding fenced
  front_load r l e = in_front (Memory (Load r l)) go
    where
      go : (q : Bool) → (q ≡ true → b ≡ true) → fenced 0 q (Memory (Load r l) ∷ is) ≡ true
      go true f = absurd (true≢false (sym (f refl) ∙ e))
      go false f = rest 0 false (λ u. absurd (false≢true u))

  front_fetch_add : (r l : ℕ) → (p : _) → Passes b over (Memory (FetchAdd r l p) ∷ is)
  unfolding fenced
  front_fetch_add r l p = in_front (Memory (FetchAdd r l p)) (λ q f. rest 0 false (λ u. absurd (false≢true u)))

  front_compare_swap : (r l : ℕ) → (p v : _) → Passes b over (Memory (CompareSwap r l p v) ∷ is)
  unfolding fenced
  front_compare_swap r l p v = in_front (Memory (CompareSwap r l p v)) (λ q f. rest 0 false (λ u. absurd (false≢true u)))

  front_alone : (o : Own) → (b ≡ true → b' ≡ true) → (b ≡ true → most_skipped (Alone o) ≤ over') → Passes b over (Alone o ∷ is)
  unfolding fenced
  front_alone (Assign r p) keeps skips = in_front (Alone (Assign r p)) (λ q f. rest 0 q (λ u. (keeps (f u), omega arith)))
  front_alone (AddAssign r p) keeps skips = in_front (Alone (AddAssign r p)) (λ q f. rest 0 q (λ u. (keeps (f u), omega arith)))
  front_alone (SkipUnless t n) keeps skips = in_front (Alone (SkipUnless t n)) (λ q f. ap₂ ◌&&◌ (rest 0 q (λ u. (keeps (f u), omega arith))) (rest n q (λ u. (keeps (f u), skips (f u)))))
  front_alone (Assert t) keeps skips = in_front (Alone (Assert t)) (λ q f. rest 0 q (λ u. (keeps (f u), omega arith)))

-- ---- thread t, of n instructions; row i of it
module _ (code : List ℕ) (t n : ℕ) where
  abbrev c : List Instruction
  c = thread_code code t n

  -- what is left from row i on
  abbrev pub Left : Bool → ℕ → ℕ → Type 0
  Left b over i = Passes b over (drop i (thread_code code t n)) → fenced 0 false (thread_code code t n) ≡ true

  pub left_all : Left false 0 0
  left_all h = h 0 false (λ e. absurd (false≢true e))

  pub left_none : (b : Bool) (over i : ℕ) → n ≤ i → Left b over i → fenced 0 false (thread_code code t n) ≡ true
  left_none b over i e h = h (subst (Passes b over) (sym (code_end code t n i e)) (passes_end b over))

  module _ (b b' : Bool) (over over' i : ℕ) (six : t < 6) (sixteen : n ≤ 16) (below : i < n)
      (early : get_or code ((t * 16 + i) * 16) 0 ≡ 0x11 → b ≡ false)
      (stores : get_or code ((t * 16 + i) * 16) 0 ≡ 0x10 → b' ≡ true)
      (carried : b ≡ true → 0 < over → b' ≡ true)
      (kept : b ≡ true → (get_or code ((t * 16 + i) * 16) 0 ≡ 0x12 → ⊥) → (get_or code ((t * 16 + i) * 16) 0 ≡ 0x13 → ⊥) → b' ≡ true)
      (before : over ≤ over' + 1)
      (skipping : b ≡ true → skip_of (row_at code (t * 16 + i)) ≤ over') where
    abbrev row : ℕ
    row = t * 16 + i

    inside : row < 96
    inside = omega (arith, six, sixteen, below)

    abbrev P : Instruction → Type 0
    P x = Passes b over (x ∷ drop (suc i) c)

    skips : b ≡ true → most_skipped (instruction_at code row) ≤ over'
    skips e = subst (λ (k : ℕ). k ≤ over') (row_skips code row inside) (skipping e)

    by_kind : Passes b' over' (drop (suc i) c) → Dec (get_or code (row * 16) 0 ≡ 0x10) → Dec (get_or code (row * 16) 0 ≡ 0x11) → Dec (get_or code (row * 16) 0 ≡ 0x12) → Dec (get_or code (row * 16) 0 ≡ 0x13)
        → P (instruction_at code row)
    by_kind h (yes e) _ _ _ = subst P (sym (row_store code row inside e)) (front_store (drop (suc i) c) b b' over over' h before carried _ _ (stores e))
    by_kind h (no _) (yes e) _ _ = subst P (sym (row_load code row inside e)) (front_load (drop (suc i) c) b b' over over' h before carried _ _ (early e))
    by_kind h (no _) (no _) (yes e) _ = subst P (sym (row_fetch_add code row inside e)) (front_fetch_add (drop (suc i) c) b b' over over' h before carried _ _ _)
    by_kind h (no _) (no _) (no _) (yes e) = subst P (sym (row_compare_swap code row inside e)) (front_compare_swap (drop (suc i) c) b b' over over' h before carried _ _ _ _)
    by_kind h (no n10) (no n11) (no n12) (no n13) =
        row_no_access code row inside (λ x. (b ≡ true → most_skipped x ≤ over') → P x) n10 n11 n12 n13
        (λ o s. front_alone (drop (suc i) c) b b' over over' h before carried o (λ e. kept e n12 n13) s) skips

    pub left_next : Left b over i → Left b' over' (i + 1)
    left_next l h =
        let n : i + 1 ≡ suc i = omega arith in
        let h' = subst (λ (k : ℕ). Passes b' over' (drop k c)) n h in
        l (subst (Passes b over) (sym (code_at_lem code t _ i below)) (by_kind h' (ℕ_discrete _ 0x10) (ℕ_discrete _ 0x11) (ℕ_discrete _ 0x12) (ℕ_discrete _ 0x13)))

-- ---- all threads
everywhere_tabulate : {A : Type 0} (P : A → Type 0) (f : ℕ → A) (n : ℕ) → ((u : ℕ) → u < n → P (f u)) → Everywhere P (tabulate f n)
unfolding tabulate
everywhere_tabulate P f zero h = tt
everywhere_tabulate P f (suc n) h = (h 0 (omega arith), everywhere_tabulate P (λ i. f (suc i)) n (λ u l. h (suc u) (omega (arith, l))))

-- the threads below t are fenced
abbrev pub Below : List ℕ → List ℕ → ℕ → Type 0
Below code lengths t = (u : ℕ) → u < t → fenced 0 false (thread_code code u (get_or lengths u 0)) ≡ true

pub below_next : (code lengths : List ℕ) (t : ℕ) → Below code lengths t → fenced 0 false (thread_code code t (get_or lengths t 0)) ≡ true → Below code lengths (t + 1)
below_next code lengths t h e u l = go (ℕ_discrete u t)
  where
    go : Dec (u ≡ t) → fenced 0 false (thread_code code u (get_or lengths u 0)) ≡ true
    go (yes q) = subst (λ (v : ℕ). fenced 0 false (thread_code code v (get_or lengths v 0)) ≡ true) (sym q) e
    go (no q) = h u (omega (arith, l, q))

pub below_all : (code lengths : List ℕ) (threads : ℕ) (p : Program) → Loaded code lengths threads p → (t : ℕ) → threads ≤ t → Below code lengths t → Fenced p
below_all code lengths threads p loaded t e h =
    subst (Everywhere (λ (c : List Instruction). fenced 0 false c ≡ true)) (sym loaded.codes)
    (everywhere_tabulate (λ (c : List Instruction). fenced 0 false c ≡ true) (λ t. thread_code code t (get_or lengths t 0)) threads (λ u l. h u (omega (arith, l, e))))
