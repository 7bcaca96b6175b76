-- What open, ask and close do, way by way of the code.
use Prim.Native.Nat.{ℕ, ◌≤◌, ◌<◌}
use mathlib.Core.Path.{◌≡◌, refl, sym, ap, ◌∙◌}
use mathlib.Core.Bool.{Bool, true, false, cond, not}
use mathlib.Core.List.{List}
use Rattle.std.specs.Prelude.{Result, Ok, Err, ⊤}
use borrow.Author.Tests.{lt-ltb, le-ltb, eq-eqb, ne_eqb}
use lib.Dec.{eqb, ltb}
use lib.ListN.{length, get_or, set}
use Rattle.spec_file.specs.Program.{Program}
use Rattle.spec_file.specs.Decode.{Decoded, accepted, decode}
use Rattle.spec_file.specs.Decode as File
use Rattle.spec_service.specs.declared.caller.Caller.{Caller}
use Rattle.spec_service.specs.Seat.{is_open}
use Rattle.spec_service.specs.Record.{reading, fresh, opened, asked}
use Rattle.spec_service.specs.Call.{open_for, ask_for, close_for, Answer, done, refused, seat_of, checked, opened_by, open_answer, open_only, answer_to, callers_done}
use Rattle.service_marks.specs.Numbers.{refused_by, open_refusal}
use Rattle.spec_file.specs.declared.refusal.Refusal.{Refusal}
use Rattle.service_one.specs.Left.{Left}

-- ---- the answers
module _ (cs : List Caller) (k : ℕ) where
  not_four : (length cs ≡ 4 → ⊥) → (a : Answer) → checked cs k a ≡ refused 22 0
  unfolding checked
  not_four d a = rw (ne_eqb (length cs) 4 d)

  above : length cs ≡ 4 → 3 < k → (a : Answer) → checked cs k a ≡ refused 42 0
  unfolding checked
  above e l a = rw (eq-eqb (length cs) 4 e, lt-ltb 3 k l)

  past : length cs ≡ 4 → k ≤ 3 → (a : Answer) → checked cs k a ≡ a
  unfolding checked
  past e l a = rw (eq-eqb (length cs) 4 e, le-ltb 3 k l)

  seat : (r : Caller) (b : Bool) → r ≡ get_or cs k fresh → b ≡ is_open (reading r) → is_open (seat_of cs k) ≡ b
  unfolding seat_of
  seat r b q e = ap (λ (x : Caller). is_open (reading x)) (sym q) ∙ sym e

  module _ (f : List ℕ) where
    pub open_22 : (length cs ≡ 4 → ⊥) → open_answer cs k f ≡ refused 22 0
    unfolding open_answer
    open_22 d = not_four d _

    pub open_42 : length cs ≡ 4 → 3 < k → open_answer cs k f ≡ refused 42 0
    unfolding open_answer
    open_42 e l = above e l _

    module _ (e : length cs ≡ 4) (l : k ≤ 3) (r : Caller) (q : r ≡ get_or cs k fresh) where
      pub open_43 : true ≡ is_open (reading r) → open_answer cs k f ≡ refused 43 0
      unfolding open_answer
      open_43 b = past e l _ ∙ ap (λ (x : Bool). cond x (refused 43 0) (opened_by (decode f))) (seat r true q b)

      free : false ≡ is_open (reading r) → open_answer cs k f ≡ opened_by (decode f)
      unfolding open_answer
      free b = past e l _ ∙ ap (λ (x : Bool). cond x (refused 43 0) (opened_by (decode f))) (seat r false q b)

      pub open_file : (n p : ℕ) → false ≡ is_open (reading r) → decode f ≡ File.refused n p → open_answer cs k f ≡ refused n p
      unfolding opened_by
      open_file n p b d = free b ∙ ap opened_by d

      pub open_done : (p : Program) → false ≡ is_open (reading r) → decode f ≡ accepted p → open_answer cs k f ≡ done
      unfolding opened_by
      open_done p b d = free b ∙ ap opened_by d

-- ---- ask and close
-- what a refusal says; else a
abbrev pub said : Result ⊤ Refusal → Answer → Answer
said (Ok u) a = a
said (Err r) a = refused r.number r.place

only_said : (cs : List Caller) (k : ℕ) → open_only cs k ≡ said (open_refusal (length cs) k (is_open (seat_of cs k))) done
unfolding open_only checked open_refusal
only_said cs k = go (eqb (length cs) 4) (ltb 3 k) (is_open (seat_of cs k))
  where
    go : (t u o : Bool) → cond (not t) (refused 22 0) (cond u (refused 42 0) (cond o done (refused 44 0)))
        ≡ said (cond t (cond u (refused_by 42) (cond o (Ok (tt {0})) (refused_by 44))) (refused_by 22)) done
    go false u o = refl
    go true true o = refl
    go true false false = refl
    go true false true = refl

module _ (cs : List Caller) (k n : ℕ) (r : Caller) (s : length cs ≡ n) (q : r ≡ get_or cs k fresh) where
  -- what comes first says what the call answers
  only_by : (w : Result ⊤ Refusal) → open_refusal n k (is_open (reading r)) ≡ w → open_only cs k ≡ said w done
  unfolding seat_of
  only_by w e = only_said cs k ∙ ap (λ (v : Result ⊤ Refusal). said v done) ((λ i. open_refusal (s i) k (is_open (reading (sym q i)))) ∙ e)

  pub ask_refused : (e : Refusal) → open_refusal n k (is_open (reading r)) ≡ Err e → Left (ask_for k) cs k (Err e)
  unfolding answer_to
  ask_refused e w m = only_by (Err e) w

  pub close_refused : (e : Refusal) → open_refusal n k (is_open (reading r)) ≡ Err e → Left (close_for k) cs k (Err e)
  unfolding answer_to
  close_refused e w m = only_by (Err e) w

  pub ask_done : (u : ⊤) → open_refusal n k (is_open (reading r)) ≡ Ok u → Left (ask_for k) cs k (Ok (asked r))
  unfolding answer_to callers_done
  ask_done u w m = (only_by (Ok u) w, ap (λ (x : Caller). set cs k (asked x)) q)

  pub close_done : (u : ⊤) → open_refusal n k (is_open (reading r)) ≡ Ok u → Left (close_for k) cs k (Ok fresh)
  unfolding answer_to callers_done
  close_done u w m = (only_by (Ok u) w, refl)

-- ---- open
pub open_refused : (cs : List Caller) (k : ℕ) (f : List ℕ) (n p : ℕ) → open_answer cs k f ≡ refused n p → Left (open_for k f) cs k (Err (record { number = n; place = p }))
unfolding answer_to
open_refused cs k f n p a m = a

pub open_left : (cs : List Caller) (k : ℕ) (f : List ℕ) → open_answer cs k f ≡ done → Left (open_for k f) cs k (Ok (opened f))
unfolding answer_to callers_done
open_left cs k f a m = (a, refl)
