-- The answers as the code gives them, with what is left in the output and in the scratch.
use Rattle.std.specs.Prelude.{Option, Some, None, Result, Ok, Err}
use Prim.Native.Nat.{ℕ, zero, suc, ◌<◌, ◌≤◌}
use mathlib.Core.Path.{◌≡◌, refl, sym, ap, subst, ◌∙◌}
use mathlib.Core.Option as Math
use mathlib.Core.List.{List}
use native.Mathlib.Omega.{arith}
use lib.ListN.{length}
use Rattle.spec_file.specs.declared.refusal.Refusal.{Refusal}
use Rattle.spec_file.specs.Program.{Program}
use Rattle.spec_file.specs.Decode.{Decoded, accepted, refused, decode}
use Rattle.spec_schedules.specs.Order.{Schedule}
use Rattle.spec_model.specs.Model.{Model}
use Rattle.spec_model.specs.OnFile.{admit}
use Rattle.spec_calls.specs.Scratch.{zeros}
use Rattle.spec_covers.specs.Answer.{Answer, first_refused, second_refused, output_refused, output_after}
use Rattle.spec_across.specs.ModelsCall.{model_named, ModelsCompared}
use Rattle.spec_across.proofs.Attained.{first_lacking}
use Rattle.spec_across.proofs.AnswerBy.{answer_by, answer_against, answer_on, on_refused, on_accepted, against_refused, against_short, against_long}
use Rattle.spec_across.proofs.ModelsCompared.{answer_of, not_named, other_not_named, both_named, models_right}
use Rattle.spec_outcomes.specs.Scratch.{covers_scratch}
use Rattle.listing_model.specs.declared.memory.Model as Code
use Rattle.listing_model.specs.declared.memory.Model.TheVariants.{Sequential, TotalStoreOrder}
use Rattle.listing_model.specs.ModelOf.{model_of}
use Rattle.listing_cursor.specs.declared.steps.Steps.{Steps}
use Rattle.outcome_lists.specs.Found.{Within, steps_in, put_over}
use Rattle.covers.specs.declared.covers_call.CoversRefusal.{CoversRefusal}
use Rattle.covers.specs.declared.covers_call.CoversRefusal.TheVariants.{First, Second, Output}
use Rattle.covers.specs.AnswerOf.{covers_answer_of}
use Rattle.covers.specs.ModelBy.{model_by}

-- what the code answers
abbrev pub Reply : Type 0
Reply = Result (Option ℕ) CoversRefusal

abbrev pub found_reply : Option ℕ → Reply
found_reply r = Ok r

abbrev pub refused_reply : CoversRefusal → Reply
refused_reply r = Err r

-- a schedule that was found fits memory and the output
pub found_fits : (found : Option (Steps 48)) (most n : ℕ) → Within most found → most ≤ n → Within n found
found_fits (Some s) most n h k = omega (arith, h, k)
found_fits None most n h k = tt

-- the answer by what was found
reply_by : (o : Math.Option Schedule) → found_reply (steps_in o) ≡ covers_answer_of (answer_by o)
unfolding covers_answer_of answer_by
reply_by Math.none = refl
reply_by (Math.some s) = refl

output_by : (o : Math.Option Schedule) (out : List ℕ) → put_over o out ≡ output_after (answer_by o) out
unfolding output_after answer_by
output_by Math.none out = refl
output_by (Math.some s) out = refl

scratch_by : (o : Math.Option Schedule) (m : List ℕ) → zeros m ≡ covers_scratch (answer_by o) m
unfolding covers_scratch answer_by
scratch_by Math.none m = refl
scratch_by (Math.some s) m = refl

-- the answer a, with an output and a scratch
pub record Says (a : Answer) (out out' m m' : List ℕ) (r : Reply) : Type 0 where
  pub answer : r ≡ covers_answer_of a
  pub output : out' ≡ output_after a out
  pub scratch : m' ≡ covers_scratch a m

says_as : (a b : Answer) → a ≡ b → (out out' m m' : List ℕ) (r : Reply) → Says b out out' m m' r → Says a out out' m m' r
says_as a b e out out' m m' r h = subst (λ (x : Answer). Says x out out' m m' r) (sym e) h

says_first : (out m : List ℕ) (r : Refusal) → Says (first_refused r.number r.place) out out m m (refused_reply (First r))
unfolding covers_answer_of output_after covers_scratch
says_first out m r = record { answer = refl; output = refl; scratch = refl }

says_second : (out m : List ℕ) (r : Refusal) → Says (second_refused r.number r.place) out out m m (refused_reply (Second r))
unfolding covers_answer_of output_after covers_scratch
says_second out m r = record { answer = refl; output = refl; scratch = refl }

says_neither : (out m : List ℕ) (n k : ℕ) → Says (output_refused n k) out out m m (refused_reply (Output (record { number = n; place = k })))
unfolding covers_answer_of output_after covers_scratch
says_neither out m n k = record { answer = refl; output = refl; scratch = refl }

-- TWO FILES
module _ (need : ℕ) (M N : Model) (out m : List ℕ) (d e : Decoded) where
  abbrev pub On : List ℕ → List ℕ → Reply → Type 0
  On out' m' r = Says (answer_on need M N d e (length out)) out out' m m' r

  pub on_first : (r : Refusal) → d ≡ refused r.number r.place → On out m (refused_reply (First r))
  on_first r q =
      says_as _ (first_refused r.number r.place) (ap (λ (x : Decoded). answer_on need M N x e (length out)) q ∙ on_refused need M N r.number r.place e (length out)) out out m m
      (refused_reply (First r)) (says_first out m r)

  module _ (p : Program) (accepts : d ≡ accepted p) where
    against : answer_on need M N d e (length out) ≡ answer_against need M N p e (length out)
    against = ap (λ (x : Decoded). answer_on need M N x e (length out)) accepts ∙ on_accepted need M N p (length out) e

    pub on_second : (r : Refusal) → e ≡ refused r.number r.place → On out m (refused_reply (Second r))
    on_second r q =
        says_as _ (second_refused r.number r.place) (against ∙ ap (λ (x : Decoded). answer_against need M N p x (length out)) q ∙ against_refused need M N p (length out) r.number r.place) out out m m
        (refused_reply (Second r)) (says_second out m r)

    module _ (q : Program) (too : e ≡ accepted q) where
      both : answer_on need M N d e (length out) ≡ answer_against need M N p (accepted q) (length out)
      both = against ∙ ap (λ (x : Decoded). answer_against need M N p x (length out)) too

      pub on_22 : length out < need → On out m (refused_reply (Output (record { number = 22; place = 0 })))
      on_22 h = says_as _ (output_refused 22 0) (both ∙ against_short need M N p (length out) q h) out out m m _ (says_neither out m 22 0)

      pub on_found : need ≤ length out → (o : Math.Option Schedule) → o ≡ first_lacking M p N q → (out' m' : List ℕ) (r : Option ℕ) → r ≡ steps_in o → out' ≡ put_over o out → m' ≡ zeros m
          → On out' m' (found_reply r)
      on_found h o f out' m' r steps put cleared =
          says_as _ (answer_by o) (both ∙ against_long need M N p (length out) q h ∙ ap answer_by (sym f)) out out' m m' (found_reply r) (record {
            answer = ap found_reply steps ∙ reply_by o;
            output = put ∙ output_by o out;
            scratch = cleared ∙ scratch_by o m;
          })

-- the models that bytes name, as the code has them
none_named : (b : ℕ) → model_by b ≡ None → 2 ≤ b
none_named zero e = absurd (cc)
none_named (suc zero) e = absurd (cc)
none_named (suc (suc b)) e = omega arith

named : (b : ℕ) (x : Code.Model) → model_by b ≡ Some x → (b < 2) × (model_of x ≡ model_named b)
named zero x e = (omega arith, let i : x ≡ Sequential = cc in ap model_of i)
named (suc zero) x e = (omega arith, let i : x ≡ TotalStoreOrder = cc in ap model_of i)
named (suc (suc b)) x e = absurd (cc)

-- TWO BYTES AND TWO FILES
module _ (b : ℕ) (first : List ℕ) (c : ℕ) (second out m : List ℕ) where
  abbrev pub Models : List ℕ → List ℕ → Reply → Type 0
  Models out' m' r = (a : Answer) × ModelsCompared b first c second (length out) a × (r ≡ covers_answer_of a) × (out' ≡ output_after a out) × (m' ≡ covers_scratch a m)

  models_as : (a : Answer) → answer_of b first c second (length out) ≡ a → (out' m' : List ℕ) (r : Reply) → Says a out out' m m' r → Models out' m' r
  models_as a e out' m' r h =
      let k = says_as _ a e out out' m m' r h in
      (answer_of b first c second (length out), models_right b first c second (length out), k.answer, k.output, k.scratch)

  pub models_49 : model_by b ≡ None → Models out m (refused_reply (Output (record { number = 49; place = 0 })))
  models_49 h = models_as (output_refused 49 0) (not_named b first c second (length out) (none_named b h)) out m _ (says_neither out m 49 0)

  pub models_49_1 : (x : Code.Model) → model_by b ≡ Some x → model_by c ≡ None → Models out m (refused_reply (Output (record { number = 49; place = 1 })))
  models_49_1 x h k = models_as (output_refused 49 1) (other_not_named b first c second (length out) (named b x h).0 (none_named c k)) out m _ (says_neither out m 49 1)

  pub models_on : (x y : Code.Model) → model_by b ≡ Some x → model_by c ≡ Some y → (out' m' : List ℕ) (r : Reply)
      → On 48 (model_of x) (model_of y) out m (admit (model_of x) (decode first)) (admit (model_of y) (decode second)) out' m' r → Models out' m' r
  models_on x y h k out' m' r s =
      models_as _ (both_named b first c second (length out) (named b x h).0 (named c y k).0) out' m' r
      (subst (λ (M : Model). On 48 M (model_named c) out m (admit M (decode first)) (admit (model_named c) (decode second)) out' m' r) (named b x h).1
      (subst (λ (N : Model). On 48 (model_of x) N out m (admit (model_of x) (decode first)) (admit N (decode second)) out' m' r) (named c y k).1 s))
