-- WHAT FITS: along a run registers and memory hold 32-bit values, and a thread keeps as many registers, at most four.
use Prim.Native.Nat.{ℕ, zero, suc, ◌≤◌}
use mathlib.Core.Path.{◌≡◌, refl, sym, subst, ◌∙◌}
use mathlib.Core.Bool.{Bool, true, false, cond}
use mathlib.Core.List.{List, [], ◌∷◌}
use native.Mathlib.Omega.{arith}
use lib.ListN.{length, length-set, get_or, set}
use Rattle.spec_file.specs.Program.{Program}
use Rattle.spec_file.specs.WellFormed.{WellFormed}
use Rattle.spec_file.specs.declared.instruction.Access.TheVariants.{Store, Load, FetchAdd, CompareSwap}
use Rattle.spec_file.specs.declared.instruction.Own.{Own}
use Rattle.spec_file.specs.declared.instruction.Own.TheVariants.{Assign, AddAssign, SkipUnless, Assert}
use Rattle.spec_file.specs.declared.instruction.Instruction.{Instruction}
use Rattle.spec_file.specs.declared.instruction.Instruction.TheVariants.{Memory, Alone}
use Rattle.spec_schedules.specs.Order.{Schedule}
use Rattle.spec_schedules.specs.System.{run, Allowed}
use Rattle.spec_sc.specs.Local.{Local, eval, sum32, access_sets, holds, Outcome, continues, stops, outcome, settle, first_next, next, begin}
use Rattle.spec_sc.specs.State.{Cell, State, no_thread, thread_of, cell_of, place, advanced, step, enabled, opened, SC, start}
use Rattle.spec_sc.proofs.Access.{settle_continues, settle_stops}
use Rattle.spec_sc.proofs.Change.{thread_cases, Change, kept, wrote}
use Rattle.spec_sc.proofs.Regular.{Regular, changes, regular_start, regular_step}
use Rattle.spec_sc.proofs.Start.{start_cases, start_value, everyone}
use Rattle.spec_sc.proofs.Steps.{enabled_range}
use Rattle.spec_sc.proofs.Words.{Word, Words, next_words, puts_word, start_words, initial_word}
use Rattle.theory_states.specs.Positions.{Reached}

-- ---- A THREAD'S REGISTERS CHANGE ONLY BY BEING SET: what setting keeps, each access keeps
module _ (P : List ℕ → Type 0) (sets : (rs : List ℕ) (r x : ℕ) → P rs → P (set rs r x)) where
  outcome_keeps : (o : Own) (rs ss : List ℕ) (k : ℕ) → outcome rs o ≡ continues ss k → P rs → P ss
  unfolding outcome
  outcome_keeps (Assign r p) rs ss k e h = let q : set rs r (eval rs p) ≡ ss = cc in subst P q (sets rs r (eval rs p) h)
  outcome_keeps (AddAssign r p) rs ss k e h = let q : set rs r (sum32 (get_or rs r 0) (eval rs p)) ≡ ss = cc in subst P q (sets rs r (sum32 (get_or rs r 0) (eval rs p)) h)
  outcome_keeps (SkipUnless t n) rs ss k e h = let q : rs ≡ ss = cc in subst P q h
  outcome_keeps (Assert t) rs ss k e h = go (holds rs t) e
    where
      go : (b : Bool) → cond b (continues rs 0) stops ≡ continues ss k → P ss
      go true q = let j : rs ≡ ss = cc in subst P j h
      go false q = let z : ◌≡◌ {A = ℕ} 0 1 = cc in absurd (omega arith)

  settle_keeps : (is : List Instruction) (k : ℕ) (rs : List ℕ) → P rs → P (settle k rs is).registers
  unfolding settle
  settle_keeps [] k rs h = h
  settle_keeps (Memory a ∷ is) zero rs h = h
  settle_keeps (i ∷ is) (suc k) rs h = settle_keeps is k rs h
  settle_keeps (Alone o ∷ is) zero rs h = go (outcome rs o) refl (λ k ss q. settle_keeps is k ss q)
    where
      go : (x : Outcome) → outcome rs o ≡ x → ((k : ℕ) (ss : List ℕ) → P ss → P (settle k ss is).registers) → P (settle zero rs (Alone o ∷ is)).registers
      go (continues ss k) e ih = subst (λ (l : Local). P l.registers) (sym (settle_continues o is rs ss k e)) (ih k ss (outcome_keeps o rs ss k e h))
      go stops e ih = subst (λ (l : Local). P l.registers) (sym (settle_stops o is rs e)) h

  pub next_keeps : (h : Local) (x : ℕ) → P h.registers → P (next h x).registers
  unfolding next first_next access_sets
  next_keeps h x k = go h.rest
    where
      go : (c : List Instruction) → P (first_next h c x).registers
      go [] = k
      go (Alone o ∷ is) = k
      go (Memory (Store l q) ∷ is) = settle_keeps is 0 h.registers k
      go (Memory (Load r l) ∷ is) = settle_keeps is 0 (set h.registers r x) (sets h.registers r x k)
      go (Memory (FetchAdd r l q) ∷ is) = settle_keeps is 0 (set h.registers r x) (sets h.registers r x k)
      go (Memory (CompareSwap r l e q) ∷ is) = settle_keeps is 0 (set h.registers r x) (sets h.registers r x k)

  pub begin_keeps : (c : List Instruction) → P (0 ∷ 0 ∷ 0 ∷ 0 ∷ []) → P (begin c).registers
  unfolding begin
  begin_keeps c h = settle_keeps c 0 (0 ∷ 0 ∷ 0 ∷ 0 ∷ []) h

-- ---- ALONG A RUN
pub record Fits (p : Program) (σ : State) : Type 0 where
  pub words : (t : ℕ) → Words (thread_of σ t).local
  pub registers : (t : ℕ) → length (thread_of σ t).local.registers ≡ length (thread_of (start p) t).local.registers
  pub memory : (l : ℕ) → Word (cell_of σ l).value

fits_step : (p : Program) (σ : State) → Regular σ → Fits p σ → (s : ℕ) → enabled σ s ≡ true → Fits p (step σ s)
unfolding advanced
fits_step p σ g F s ok = record {
  words = λ t. thread_cases (λ i h. Words h.local) σ s (enabled_range σ s ok) (next_words (thread_of σ s).local (cell_of σ (place σ s)).value (F.words s) (F.memory (place σ s))) t (λ ne. F.words t);
  registers = λ t. thread_cases (λ i h. length h.local.registers ≡ length (thread_of (start p) i).local.registers) σ s (enabled_range σ s ok)
      (next_keeps (λ rs. length rs ≡ length (thread_of (start p) s).local.registers) (λ rs r x e. length-set rs r x ∙ e) (thread_of σ s).local (cell_of σ (place σ s)).value (F.registers s)) t (λ ne. F.registers t);
  memory = λ l. go l (changes σ g s l);
}
  where
    go : (l : ℕ) → Change σ s l → Word (cell_of (step σ s) l).value
    go l (kept q) = subst (λ (c : Cell). Word c.value) (sym q) (F.memory l)
    go l (wrote q v o y z) = subst Word (sym z) (puts_word (thread_of σ s).local (cell_of σ (place σ s)).value v (F.words s) o)

fits_run : (p : Program) (v : Schedule) (σ : State) → Regular σ → Fits p σ → Allowed SC σ v → Fits p (run SC σ v)
unfolding run
fits_run p [] σ g F a = F
fits_run p (s ∷ v) σ g F a = fits_run p v (step σ s) (regular_step σ s g a.0) (fits_step p σ g F s a.0) a.1

pub fits : (p : Program) → WellFormed p → (v : Schedule) (σ : State) → Reached SC (start p) v σ → Fits p σ
fits p w v σ r = subst (Fits p) (sym r.0) (fits_run p v (start p) (regular_start p w)
    (record { words = start_words p w; registers = λ t. refl; memory = λ l. subst Word (sym (start_value p l)) (initial_word p w l) }) r.1)

pub four : (p : Program) (t : ℕ) → length (thread_of (start p) t).local.registers ≤ 4
unfolding opened no_thread
four p = start_cases p (λ c. Unit {0}) (λ h. length h.local.registers ≤ 4) (omega arith) (λ c k. begin_keeps (λ rs. length rs ≤ 4) (λ rs r x h. let e = length-set rs r x in omega (arith, e)) c (omega arith))
    (everyone p.threads)
