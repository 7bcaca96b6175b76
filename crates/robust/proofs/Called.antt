-- What the call answers, by what the file is read as.
use Rattle.std.specs.Prelude.{Option, None, Result, Ok, Err}
use Prim.Native.Nat.{ℕ, ◌<◌, ◌≤◌}
use mathlib.Core.Path.{◌≡◌, refl, sym, ap, ◌∙◌}
use mathlib.Core.Bool.{Bool, true, false}
use mathlib.Core.List.{List}
use lib.Dec.{ltb}
use lib.ListN.{length}
use borrow.Author.Tests.{ltb-true, ltb-false}
use Rattle.spec_file.specs.declared.refusal.Refusal.{Refusal}
use Rattle.spec_file.specs.Program.{Program}
use Rattle.spec_file.specs.WellFormed.{WellFormed, all_accesses}
use Rattle.spec_file.specs.Decode.{Decoded, accepted, refused, decode}
use Rattle.spec_model.specs.Laws.{Admitted}
use Rattle.spec_model.specs.OnFile.{admit}
use Rattle.spec_tso.specs.TotalStoreOrder.{tso}
use Rattle.spec_tso.proofs.Admits.{few_none, refused_41, admitted_16, refused_first}
use Rattle.spec_across.specs.RobustCall.{Answer, robust, refusing, Robustness, output_after}
use Rattle.spec_across.proofs.Relaxed.{first_relaxed, robust_none}
use Rattle.spec_across.proofs.Robustness.{answer_by, answer_on, answer_refused, answer_short, answer_long, robustness_right}
use Rattle.spec_fenced.specs.Fenced.{Fenced}
use Rattle.spec_fenced.proofs.Robust.{fenced_robust}
use Rattle.robust.specs.AnswerOf.{robust_answer_of}

-- what the code answers
abbrev pub Answered : Type 0
Answered = Result (Option ℕ) Refusal

abbrev pub refusal : ℕ → ℕ → Answered
refusal n k = Err (record { number = n; place = k })

-- the answer to a program, as the contract says it
abbrev pub AnsweredOn : Decoded → List ℕ → List ℕ → Answered → Type 0
AnsweredOn d out out' r = (r ≡ robust_answer_of (answer_on d (length out))) × (out' ≡ output_after (answer_on d (length out)) out)

-- by what it is
answered_as : (d : Decoded) (out : List ℕ) (a : Answer) → answer_on d (length out) ≡ a → (out' : List ℕ) (r : Answered)
    → (r ≡ robust_answer_of a) × (out' ≡ output_after a out) → AnsweredOn d out out' r
answered_as d out a e out' r k = (k.0 ∙ ap robust_answer_of (sym e), k.1 ∙ ap (λ (x : Answer). output_after x out) (sym e))

refused_as : (d : Decoded) (out : List ℕ) (n k : ℕ) → answer_on d (length out) ≡ refusing n k → AnsweredOn d out out (refusal n k)
unfolding robust_answer_of output_after
refused_as d out n k e = answered_as d out (refusing n k) e out (refusal n k) (refl, refl)

module _ (p : Program) (out : List ℕ) (many : Bool) (e : many ≡ ltb 16 (all_accesses p.threads)) where
  -- 41
  pub answered_41 : many ≡ true → AnsweredOn (admit tso (accepted p)) out out (refusal 41 0)
  answered_41 t =
      refused_as (admit tso (accepted p)) out 41 0 (
      ap (λ (d : Decoded). answer_on d (length out)) (refused_41 p (ltb-true 16 (all_accesses p.threads) (sym e ∙ t))) ∙ answer_refused 41 0 (length out)
      )

  module _ (f : many ≡ false) where
    few : all_accesses p.threads ≤ 16
    few = ltb-false 16 (all_accesses p.threads) (sym e ∙ f)

    listed : answer_on (admit tso (accepted p)) (length out) ≡ answer_on (accepted p) (length out)
    listed = ap (λ (d : Decoded). answer_on d (length out)) (admitted_16 p few)

    pub admitted_few : WellFormed p → Admitted tso p
    admitted_few w = (w, few_none p few)

    -- 22
    pub answered_22 : length out < 48 → AnsweredOn (admit tso (accepted p)) out out (refusal 22 0)
    answered_22 h = refused_as (admit tso (accepted p)) out 22 0 (listed ∙ answer_short p (length out) h)

    -- what is found in the list
    pub answered_found : 48 ≤ length out → (out' : List ℕ) (r : Answered) → (r ≡ robust_answer_of (answer_by (first_relaxed p))) × (out' ≡ output_after (answer_by (first_relaxed p)) out)
        → AnsweredOn (admit tso (accepted p)) out out' r
    answered_found h out' r k = answered_as (admit tso (accepted p)) out (answer_by (first_relaxed p)) (listed ∙ answer_long p (length out) h) out' r k

    -- a program that is seen to be robust by its code
    pub answered_fenced : 48 ≤ length out → WellFormed p → Fenced p → AnsweredOn (admit tso (accepted p)) out out (Ok None)
    unfolding answer_by robust_answer_of output_after
    answered_fenced h w f =
        let none = robust_none p (admitted_few w) (fenced_robust p w f) in
        answered_as (admit tso (accepted p)) out robust (listed ∙ answer_long p (length out) h ∙ ap answer_by none) out (Ok None) (refl, refl)

-- of a file
module _ (file out : List ℕ) where
  abbrev Says : List ℕ → Answered → Type 0
  Says out' r = (a : Answer) × Robustness file (length out) a × (r ≡ robust_answer_of a) × (out' ≡ output_after a out)

  pub says_on : (d : Decoded) → decode file ≡ d → (out' : List ℕ) (r : Answered) → AnsweredOn (admit tso d) out out' r → Says out' r
  says_on d e out' r k =
      let q = ap (λ (x : Decoded). answer_on (admit tso x) (length out)) e in
      (answer_on (admit tso (decode file)) (length out), robustness_right file (length out), k.0 ∙ ap robust_answer_of (sym q), k.1 ∙ ap (λ (x : Answer). output_after x out) (sym q))

  pub says_refused : (n k : ℕ) → decode file ≡ refused n k → Says out (refusal n k)
  says_refused n k e =
      says_on (refused n k) e out (refusal n k)
      (refused_as (admit tso (refused n k)) out n k (ap (λ (d : Decoded). answer_on d (length out)) (refused_first n k) ∙ answer_refused n k (length out)))
