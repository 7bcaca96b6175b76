-- What is left of a call, by what it left of one record.
use Prim.Native.Nat.{ℕ, ◌<◌, ◌≤◌}
use mathlib.Core.Path.{◌≡◌, refl, sym, ap, ◌∙◌}
use mathlib.Core.List.{List}
use Rattle.std.specs.Prelude.{Result, Ok, Err, None}
use lib.ListN.{length, set}
use Rattle.spec_file.specs.declared.refusal.Refusal.{Refusal}
use Rattle.spec_service.specs.declared.caller.Caller.{Caller}
use Rattle.spec_service.specs.declared.reply.Reply.TheVariants.{Done, Idle}
use Rattle.spec_service.specs.Call.{Call, serve, Answer, done, given, ended, idle, refused, last_read, serve_answer, answer_to, callers_done, callers_after, last_after, output_after, after}
use Rattle.spec_service.specs.Reply.{reply_of, shared, Does, Served}
use Rattle.spec_service.proofs.Seats.{after_refused}
use Rattle.spec_schedules.specs.Order.{Schedule}
use Rattle.spec_service.specs.declared.reply.Reply.{Reply}
use Rattle.spec_service.proofs.Answers.{serve_answers}
use Rattle.service_serve.specs.Turn.{turn_of, Leaves}

module _ (call : Call) (cs : List Caller) (m : ℕ) where
  -- a refusal changes nothing
  pub away : (e : Refusal) → answer_to call (shared cs m) ≡ refused e.number e.place → Does call (shared cs m) (Err e) (shared cs m)
  unfolding reply_of
  away e a = (sym (ap reply_of a), sym (after_refused call (shared cs m) e.number e.place a))

  -- done: the record is put back, and the last caller is as it is read
  pub back : (cs' : List Caller) (m' : ℕ) → m' ≡ last_read m → answer_to call (shared cs m) ≡ done → cs' ≡ callers_done call cs
      → Does call (shared cs m) (Ok Done) (shared cs' m')
  unfolding reply_of after callers_after last_after
  back cs' m' l a s = (
    sym (ap reply_of a),
    (λ i. shared (s i) (l i)) ∙ ap (λ (y : Answer). record { callers = callers_after call y cs; last = last_after y m }) (sym a),
  )

-- ---- a serve, by whom it is about
module _ (cs : List Caller) (m : ℕ) (out : List ℕ) where
  -- what it says, and leaves
  abbrev Gives : Result Reply Refusal → List Caller → ℕ → List ℕ → Answer → Type 0
  Gives r cs' m' out' a =
      (r ≡ reply_of a) × (shared cs' m' ≡ record { callers = callers_after (serve out) a cs; last = last_after a m }) × (out' ≡ output_after a out)

  -- what holds of every answer of a serve
  every : (P : Answer → Type 0) → P (refused 22 0) → P idle → ((j : ℕ) → j < 4 → P (ended j)) →
      ((j : ℕ) (s : Schedule) → j < 4 → length s ≤ 24 → 24 ≤ length out → P (given j s)) → P (serve_answer cs m out)
  unfolding answer_to
  every P away nobody end one = serve_answers out P away nobody end one (shared cs m)

  pub serve_refused : (e : Refusal) (m' : ℕ) → Err e ≡ turn_of (serve_answer cs m out) → m' ≡ last_after (serve_answer cs m out) m → Served out (shared cs m) (Err e) (shared cs m') out
  unfolding answer_to after turn_of reply_of callers_after last_after output_after
  serve_refused e m' =
      every (λ a. Err e ≡ turn_of a → m' ≡ last_after a m → Gives (Err e) cs m' out a)
      (λ q l. (cc, (λ i. shared cs (l i)), refl)) (λ q l. cc) (λ j h q l. cc) (λ j s h k room q l. cc)

  pub serve_idle : (m' : ℕ) → Ok None ≡ turn_of (serve_answer cs m out) → m' ≡ last_after (serve_answer cs m out) m → Served out (shared cs m) (Ok Idle) (shared cs m') out
  unfolding answer_to after turn_of reply_of callers_after last_after output_after
  serve_idle m' =
      every (λ a. Ok None ≡ turn_of a → m' ≡ last_after a m → Gives (Ok Idle) cs m' out a)
      (λ q l. cc) (λ q l. (refl, (λ i. shared cs (l i)), refl)) (λ j h q l. cc) (λ j s h k room q l. cc)

  pub serve_taken : (k : ℕ) (x : Caller) (r : Reply) (m' : ℕ) (out' : List ℕ) → Leaves cs m out k (Ok r) x out' → m' ≡ last_after (serve_answer cs m out) m → (cs' : List Caller) → cs' ≡ set cs k x
      → Served out (shared cs m) (Ok r) (shared cs' m') out'
  unfolding answer_to after
  serve_taken k x r m' out' g l cs' e = (g.0, (λ i. shared ((e ∙ g.1) i) (l i)), g.2)
