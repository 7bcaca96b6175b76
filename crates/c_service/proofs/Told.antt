-- WHAT A WORD OF FOUR CALLERS TELLS, whatever the call is lent: kind, caller, length, number and place are read back from it. A serve's word of kind
-- 1 is a schedule, that of any other call is done.
use Prim.Native.Nat.{ℕ, ◌^◌, ◌<◌, ◌≤◌}
use mathlib.Core.Path.{◌≡◌, refl, sym, ap, ap₂, ◌∙◌}
use mathlib.Core.Logic.{◌⊎◌, inl, inr}
use mathlib.Core.List.{List}
use native.Mathlib.Omega.{arith}
use lib.ListN.{length, take, drop}
use Rattle.spec_file.proofs.Over.{take_over, drop_over, length_over}
use Rattle.spec_schedules.specs.Order.{Schedule}
use Rattle.spec_service.specs.Call.{Call, serve, Answer, done, given, ended, idle, refused, Shared, answer_to, output_after}
use Rattle.spec_service.specs.Reply.{reply_of}
use Rattle.spec_service.proofs.Answers.{own_answers, serve_answers}
use Rattle.spec_calls.specs.Word.{word_of, kind_in, number_in, rest_in}
use Rattle.spec_calls.specs.Users.{user_word, caller_in, length_in}
use Rattle.spec_calls.proofs.UserWords.{given_read, ended_read, idle_read}

-- the word of an answer
abbrev pub word : Answer → ℕ
word a = user_word (reply_of a)

-- by its kind: a schedule, which stands in front of the output, with its caller and its length; no more, with the caller; a refusal, with number and
-- place; or nobody asks
pub record ServeTells (out : List ℕ) (a : Answer) : Type 0 where
  pub kind : (kind_in (word a) ≡ 1) ⊎ ((kind_in (word a) ≡ 2) ⊎ ((kind_in (word a) ≡ 3) ⊎ (kind_in (word a) ≡ 5)))
  pub schedule : kind_in (word a) ≡ 1 → (s : Schedule) × (a ≡ given (caller_in (word a)) s) × (length s ≡ length_in (word a))
      × (take (length s) (output_after a out) ≡ s) × (drop (length s) (output_after a out) ≡ drop (length s) out) × (length (output_after a out) ≡ length out)
  pub no_more : kind_in (word a) ≡ 2 → a ≡ ended (caller_in (word a))
  pub refusal : kind_in (word a) ≡ 3 → a ≡ refused (number_in (word a)) (rest_in (word a))
  pub nobody : kind_in (word a) ≡ 5 → a ≡ idle

-- by its kind: done, or a refusal
pub record OwnTells (a : Answer) : Type 0 where
  pub kind : (kind_in (word a) ≡ 1) ⊎ (kind_in (word a) ≡ 3)
  pub all_done : kind_in (word a) ≡ 1 → a ≡ done
  pub refusal : kind_in (word a) ≡ 3 → a ≡ refused (number_in (word a)) (rest_in (word a))

-- a refusal that fits
refused_read : (n m : ℕ) → n < 256 → m < 2 ^ 48 → (kind_in (word (refused n m)) ≡ 3) × (number_in (word (refused n m)) ≡ n) × (rest_in (word (refused n m)) ≡ m)
unfolding user_word reply_of word_of kind_in number_in rest_in
refused_read n m h k = (omega arith, omega arith, omega arith)

module _ (out : List ℕ) where
  refusal_tells : (n m : ℕ) → n < 256 → m < 2 ^ 48 → ServeTells out (refused n m)
  refusal_tells n m h k = let r = refused_read n m h k in record {
    kind = inr (inr (inl r.0));
    schedule = λ e. let z = sym r.0 ∙ e in absurd (omega (arith, z));
    no_more = λ e. let z = sym r.0 ∙ e in absurd (omega (arith, z));
    refusal = λ e. ap₂ refused (sym r.1) (sym r.2);
    nobody = λ e. let z = sym r.0 ∙ e in absurd (omega (arith, z));
  }

  idle_tells : ServeTells out idle
  unfolding reply_of
  idle_tells = record {
    kind = inr (inr (inr idle_read));
    schedule = λ e. let z = sym idle_read ∙ e in absurd (omega (arith, z));
    no_more = λ e. let z = sym idle_read ∙ e in absurd (omega (arith, z));
    refusal = λ e. let z = sym idle_read ∙ e in absurd (omega (arith, z));
    nobody = λ e. refl;
  }

  ended_tells : (k : ℕ) → k < 4 → ServeTells out (ended k)
  unfolding reply_of
  ended_tells k h = let r = ended_read k (omega (arith, h)) in record {
    kind = inr (inl r.0);
    schedule = λ e. let z = sym r.0 ∙ e in absurd (omega (arith, z));
    no_more = λ e. ap ended (sym r.1);
    refusal = λ e. let z = sym r.0 ∙ e in absurd (omega (arith, z));
    nobody = λ e. let z = sym r.0 ∙ e in absurd (omega (arith, z));
  }

  given_tells : (k : ℕ) (s : Schedule) → k < 4 → length s ≤ 24 → 24 ≤ length out → ServeTells out (given k s)
  unfolding reply_of output_after
  given_tells k s h l room = let r = given_read k (length s) (omega (arith, h)) (omega (arith, l)) in record {
    kind = inl r.0;
    schedule = λ e. (s, ap (λ (j : ℕ). given j s) (sym r.1), sym r.2, take_over s out, drop_over s out, length_over s out (omega (arith, l, room)));
    no_more = λ e. let z = sym r.0 ∙ e in absurd (omega (arith, z));
    refusal = λ e. let z = sym r.0 ∙ e in absurd (omega (arith, z));
    nobody = λ e. let z = sym r.0 ∙ e in absurd (omega (arith, z));
  }

  -- A SERVE
  pub serve_tells : (σ : Shared) → ServeTells out (answer_to (serve out) σ)
  serve_tells σ = serve_answers out (ServeTells out) (refusal_tells 22 0 (omega arith) (omega arith)) idle_tells ended_tells given_tells σ

  not_done : Answer → Type 0
  not_done a = a ≡ done → ⊥

  -- it is never just done
  pub serve_never_done : (σ : Shared) → answer_to (serve out) σ ≡ done → ⊥
  unfolding not_done
  serve_never_done σ = serve_answers out not_done (λ e. let z : ◌≡◌ {A = ℕ} 0 1 = cc in absurd (omega arith)) (λ e. let z : ◌≡◌ {A = ℕ} 0 1 = cc in absurd (omega arith))
      (λ k h e. let z : ◌≡◌ {A = ℕ} 0 1 = cc in absurd (omega arith)) (λ k s h l room e. let z : ◌≡◌ {A = ℕ} 0 1 = cc in absurd (omega arith)) σ

-- EVERY OTHER CALL
done_tells : OwnTells done
unfolding user_word reply_of word_of kind_in
done_tells = record { kind = inl (omega arith); all_done = λ e. refl; refusal = λ e. absurd (omega (arith, e)) }

own_refusal : (n m : ℕ) → n < 256 → m < 2 ^ 48 → OwnTells (refused n m)
own_refusal n m h k = let r = refused_read n m h k in record {
  kind = inr r.0;
  all_done = λ e. let z = sym r.0 ∙ e in absurd (omega (arith, z));
  refusal = λ e. ap₂ refused (sym r.1) (sym r.2);
}

pub own_tells : (c : Call) (σ : Shared) → ((out : List ℕ) → c ≡ serve out → ⊥) → OwnTells (answer_to c σ)
own_tells c σ n = own_answers OwnTells done_tells own_refusal c σ n
