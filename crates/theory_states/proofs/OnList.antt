-- IN ANY MEMORY MODEL, by any rule that leaves exactly the list: the numbers at the start are those of the list, counting with a table that says
-- nothing false gives them, and the search with true marks finds the list's first failing member.
use Prim.Native.Nat.{ℕ, ◌≤◌}
use mathlib.Core.Path.{◌≡◌, refl, sym, ap, ◌∙◌}
use mathlib.Core.Bool.{Bool, true, false, cond}
use mathlib.Core.Option.{Option, none, some}
use mathlib.Core.List.{List, []}
use native.Mathlib.Omega.{arith}
use lib.ListN.{length}
use Rattle.spec_file.specs.Program.{Program}
use Rattle.spec_schedules.specs.Lists.{filter, find, head_of}
use Rattle.spec_schedules.specs.Order.{Schedule}
use Rattle.spec_schedules.specs.System.{System, Lawful}
use Rattle.theory_search.specs.Found.{found_from}
use Rattle.spec_schedules.proofs.First.{head_filter}
use Rattle.spec_model.specs.Model.{Model, failing}
use Rattle.spec_model.specs.Alike.{list_of}
use Rattle.theory_search.specs.ModelSearch.{Rule, looked_for}
use Rattle.spec_model.specs.Search.{sought}
use Rattle.theory_states.specs.Positions.{Reached, Breaks}
use Rattle.theory_states.specs.Numbers.{Numbers, charged, numbers}
use Rattle.theory_states.specs.SameKey.{Decides}
use Rattle.theory_states.specs.Memory.{Honest}
use Rattle.theory_states.specs.Counted.{counted_from, TrueNumbers}
use Rattle.theory_states.specs.FirstFailing.{first_from, TrueMarks}
use Rattle.theory_states.proofs.Positions.{reached_start, reached_on}
use Rattle.theory_states.proofs.Numbers.{enough}
use Rattle.theory_states.proofs.Found.{found_listed, found_failing}
use Rattle.theory_states.proofs.Counted.{counted_right}
use Rattle.theory_states.proofs.FirstFailing.{first_right}

module _ (M : Model) (p : Program) (lawful : Lawful M.system) (bound : M.system.size (M.start p) ≤ M.steps) (rule : Rule M)
    (exact : (failures : Bool) → found_from M.system M.top rule (looked_for M failures p) M.steps none [] (M.start p) ≡ sought M failures p) (breaks : M.system.State → ℕ → Bool)
    (law : Breaks M.system rule (Reached M.system (M.start p)) M.fails breaks) where
  abbrev S : System
  S = M.system

  abbrev Met : Schedule → S.State → Type 0
  Met = Reached S (M.start p)

  abbrev N : Numbers
  N = numbers S M.top rule breaks [] (M.start p)

  -- each test of the search, at the prefixes that it meets
  wanted_all : (w : Schedule) → looked_for M false p w ≡ true
  unfolding looked_for
  wanted_all w = refl

  wanted_failing : (v : Schedule) (σ : S.State) → Met v σ → looked_for M true p v ≡ M.fails σ
  unfolding looked_for
  wanted_failing v σ m = ap M.fails (sym m.0)

  -- THE NUMBERS AT THE START: how many are listed, and how many of these fail
  pub start_listed : N.listed ≡ length (list_of M p)
  unfolding sought
  start_listed =
      ap (λ (n : Numbers). n.listed) (enough S M.top rule breaks lawful (S.size (M.start p)) M.steps [] (M.start p) (omega arith) bound)
      ∙ sym (found_listed S M.top rule Met (λ v σ m t e c. reached_on S (M.start p) v σ m t e) breaks (looked_for M false p) wanted_all M.steps [] (M.start p) (reached_start S (M.start p)))
      ∙ ap length (exact false)

  pub start_failing : (charged (M.fails (M.start p)) N).failing ≡ length (filter (failing M p) (list_of M p))
  unfolding sought
  start_failing =
      ap (λ (n : Numbers). (charged (M.fails (M.start p)) n).failing) (enough S M.top rule breaks lawful (S.size (M.start p)) M.steps [] (M.start p) (omega arith) bound)
      ∙ sym (found_failing S M.top rule Met (λ v σ m t e c. reached_on S (M.start p) v σ m t e) breaks M.fails law (looked_for M true p) wanted_failing M.steps [] (M.start p)
      (reached_start S (M.start p)))
      ∙ ap length (exact true)

  module _ {K Entries : Type 0} (Fit : K → Type 0) (key : Schedule → S.State → K) (fit : (v : Schedule) (σ : S.State) → Met v σ → Fit (key v σ))
      (D : Decides S rule breaks Met key) where
    -- COUNTING WITH A TABLE, from one that says nothing false
    pub count_by_table : (look : Entries → K → Option Numbers) (put : Entries → K → Numbers → Entries) →
        ((m : Entries) (k : K) (n : Numbers) → Honest Fit k n (λ j c. look m j ≡ some c) (λ j c. look (put m k n) j ≡ some c)) →
        (m : Entries) → TrueNumbers S M.top rule breaks key look put Met m → let n : Numbers = (counted_from S M.top rule breaks key look put M.steps m [] (M.start p)).0 in
        (n.listed ≡ length (list_of M p)) × ((charged (M.fails (M.start p)) n).failing ≡ length (filter (failing M p) (list_of M p)))
    count_by_table look put honest m ok =
        let e = (counted_right S lawful M.top rule breaks Fit Met (λ v σ m t e c. reached_on S (M.start p) v σ m t e) key fit D look put honest M.steps m [] (M.start p) ok
        (reached_start S (M.start p)) bound).0 in
        (ap (λ (n : Numbers). n.listed) e ∙ start_listed, ap (λ (n : Numbers). (charged (M.fails (M.start p)) n).failing) e ∙ start_failing)

    -- THE FIRST FAILING MEMBER, from true marks
    pub first_by_table : (clean : Entries → K → Bool) (mark : Entries → K → Entries) →
        ((m : Entries) (k : K) → Honest {E = Unit {0}} Fit k tt (λ j c. clean m j ≡ true) (λ j c. clean (mark m k) j ≡ true)) →
        (m : Entries) → TrueMarks S M.top rule M.fails key clean mark breaks Met m →
        (first_from S M.top rule M.fails key clean mark M.steps m [] (M.start p)).0 ≡ find (failing M p) (list_of M p)
    unfolding sought
    first_by_table clean mark honest m ok =
        (first_right S lawful M.top rule Met (λ v σ m t e c. reached_on S (M.start p) v σ m t e) M.fails breaks law (looked_for M true p) wanted_failing Fit key fit D clean mark
        honest M.steps m [] (M.start p) ok (reached_start S (M.start p)) bound).0
        ∙ ap head_of (exact true) ∙ head_filter (failing M p) (list_of M p)
