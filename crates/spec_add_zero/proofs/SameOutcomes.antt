-- ADDING ZERO CHANGES NO OUTCOME: document 01's first fetch and add and the amended one have the ends, the full schedules and the outcomes of
-- the machine of values.
use Prim.Native.Nat.{ℕ}
use mathlib.Core.Path.{◌≡◌, refl, sym, ap, ap₂, subst, ◌∙◌}
use mathlib.Core.Bool.{Bool, ◌||◌}
use mathlib.Core.List.{List, [], ◌∷◌, map}
use lib.ListN.{get_or}
use Rattle.spec_file.specs.Program.{Program, initial}
use Rattle.spec_file.specs.WellFormed.{WellFormed}
use Rattle.spec_file.specs.Decode.{accepted, decode}
use Rattle.spec_file.specs.declared.instruction.Instruction.{Instruction}
use Rattle.spec_file.proofs.AcceptedWellFormed.{accepted_well_formed}
use Rattle.spec_schedules.specs.Lists.{any}
use Rattle.spec_schedules.proofs.Lists.{any_cons}
use Rattle.spec_schedules.specs.Order.{Schedule}
use Rattle.spec_schedules.specs.System.{run, FullFrom}
use Rattle.spec_sc.specs.Local.{Local, puts, begin}
use Rattle.spec_sc.specs.State.{Thread, State, fresh_cell, step, met, SC, opened, start, failed_of, fails, value_of, memory_of}
use Rattle.spec_sc.specs.Graph.{Full, end_of}
use Rattle.spec_sc.proofs.Words.{Word, Words, start_words, initial_word}
use Rattle.spec_add_zero.specs.Values.{Values, ByValues, beginning, Outcome}
use Rattle.spec_add_zero.proofs.ValueTerms.{failed_in, outcome_of}
use Rattle.spec_add_zero.specs.Writing.{step_by, By, put_first, local_of, values_of}
use Rattle.spec_add_zero.specs.SameOutcomes.{end_first, FullFirst, HasOutcome, HadOutcome, SameOutcomes}
use Rattle.spec_add_zero.proofs.Leaving.{first_leaves_lem, amended_leaves}
use Rattle.spec_add_zero.proofs.Steps.{Fine, made, local_same, run_same, full_values, full_events}

-- the machine's own step is the one that writes as it says
pub step_by_lem : (σ : State) (t : ℕ) → step σ t ≡ step_by puts σ t
unfolding step met step_by
step_by_lem σ t = refl

-- ---- the beginning
threads_begin : (cs : List (List Instruction)) → map local_of (map opened cs) ≡ map begin cs
unfolding local_of opened
threads_begin [] = refl
threads_begin (c ∷ cs) = ap (λ (hs : List Local). begin c ∷ hs) (threads_begin cs)

fresh_values : (m : List ℕ) → map value_of (map fresh_cell m) ≡ m
unfolding value_of fresh_cell
fresh_values [] = refl
fresh_values (x ∷ m) = ap (λ (k : List ℕ). x ∷ k) (fresh_values m)

start_values : (p : Program) → values_of (start p) ≡ beginning p
unfolding values_of start beginning
start_values p = ap₂ made (threads_begin p.threads) (fresh_values (initial p))

start_memory : (p : Program) → (values_of (start p)).memory ≡ initial p
unfolding values_of start
start_memory p = fresh_values (initial p)

start_fine : (p : Program) → WellFormed p → Fine (values_of (start p))
start_fine p wf = record {
  threads = λ t. subst Words (sym (local_same (start p) t)) (start_words p wf t);
  memory = λ l. subst (λ (m : List ℕ). Word (get_or m l 0)) (sym (start_memory p)) (initial_word p wf l);
}

-- ---- an outcome by values is the machine's own
own_failed : (h : Thread) → failed_in (local_of h) ≡ failed_of h
unfolding failed_in local_of failed_of
own_failed h = refl

failed_same : (hs : List Thread) → any failed_in (map local_of hs) ≡ any failed_of hs
unfolding any
failed_same [] = refl
failed_same (h ∷ hs) =
    any_cons failed_in (local_of h) (map local_of hs) ∙ ap₂ (λ (a b : Bool). a || b) (own_failed h) (failed_same hs) ∙ sym (any_cons failed_of h hs)

pub outcome_same : (σ : State) → outcome_of (values_of σ) ≡ (memory_of σ, fails σ)
unfolding values_of memory_of fails
outcome_same σ = ap {B = Outcome} (λ b. (map value_of σ.cells, b)) (failed_same σ.threads)

module _ (p : Program) (wf : WellFormed p) where
  ends : (s : Schedule) → values_of (end_of p s) ≡ run ByValues (beginning p) s
  unfolding step met step_by
  ends s = run_same puts amended_leaves s (start p) (start_fine p wf) ∙ ap (λ (v : Values). run ByValues v s) (start_values p)

  ends_first : (s : Schedule) → values_of (end_first p s) ≡ run ByValues (beginning p) s
  ends_first s = run_same put_first first_leaves_lem s (start p) (start_fine p wf) ∙ ap (λ (v : Values). run ByValues v s) (start_values p)

  to_values : (s : Schedule) → Full p s → FullFrom ByValues (beginning p) s
  unfolding step met step_by
  to_values s f = subst (λ (v : Values). FullFrom ByValues v s) (start_values p) (full_values puts amended_leaves s (start p) (start_fine p wf) f)

  of_values : (s : Schedule) → FullFrom ByValues (beginning p) s → Full p s
  unfolding step met step_by
  of_values s f = full_events puts amended_leaves s (start p) (start_fine p wf) (subst (λ (v : Values). FullFrom ByValues v s) (sym (start_values p)) f)

  to_values_first : (s : Schedule) → FullFirst p s → FullFrom ByValues (beginning p) s
  to_values_first s f = subst (λ (v : Values). FullFrom ByValues v s) (start_values p) (full_values put_first first_leaves_lem s (start p) (start_fine p wf) f)

  of_values_first : (s : Schedule) → FullFrom ByValues (beginning p) s → FullFirst p s
  of_values_first s f = full_events put_first first_leaves_lem s (start p) (start_fine p wf) (subst (λ (v : Values). FullFrom ByValues v s) (sym (start_values p)) f)

  one_outcome : (s : Schedule) → ◌≡◌ {A = Outcome} (memory_of (end_of p s), fails (end_of p s)) (memory_of (end_first p s), fails (end_first p s))
  one_outcome s = sym (outcome_same (end_of p s)) ∙ ap outcome_of (ends s ∙ sym (ends_first s)) ∙ outcome_same (end_first p s)

  pub same_outcomes : SameOutcomes p
  same_outcomes = record {
    ends = ends;
    ends_first = ends_first;
    full = λ s. (to_values s, of_values s);
    full_first = λ s. (to_values_first s, of_values_first s);
    kept = λ o had. (had.0, of_values had.0 (to_values_first had.0 had.1), one_outcome had.0 ∙ had.2);
    none_new = λ o has. (has.0, of_values_first has.0 (to_values has.0 has.1), sym (one_outcome has.0) ∙ has.2);
  }

-- of every accepted file
pub outcomes_stay : (file : List ℕ) (p : Program) → decode file ≡ accepted p → SameOutcomes p
outcomes_stay file p e = same_outcomes p (accepted_well_formed file p e)
