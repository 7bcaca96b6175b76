-- Every file and room has exactly one answer: what is found in the list of total store order is one, and every one is what is found.
use Prim.Native.Nat.{ℕ, ◌<◌, ◌≤◌}
use mathlib.Core.Path.{◌≡◌, refl, sym, ap, subst, ◌∙◌}
use mathlib.Core.Logic.{◌↔◌}
use mathlib.Core.Bool.{cond}
use mathlib.Core.Option.{Option, none, some}
use mathlib.Core.List.{List}
use native.Mathlib.Omega.{arith}
use native.Mathlib.Decide.{dec_lt}
use lib.Dec.{ltb}
use borrow.Author.Tests.{lt-ltb, le-ltb}
use Rattle.spec_file.specs.Program.{Program}
use Rattle.spec_file.specs.Decode.{Decoded, accepted, refused, decode}
use Rattle.spec_schedules.specs.Order.{Schedule}
use Rattle.spec_model.specs.Laws.{Admitted}
use Rattle.spec_model.specs.OnFile.{admit}
use Rattle.spec_model.proofs.Admitted.{listed_program}
use Rattle.spec_tso.specs.TotalStoreOrder.{tso}
use Rattle.spec_tso.proofs.Laws.{tso_laws}
use Rattle.spec_across.specs.Robust.{Robust}
use Rattle.spec_across.specs.RobustCall.{Answer, robust, relaxed, refusing, Robustness, by_file, by_output, holding, breaking}
use Rattle.spec_across.proofs.Relaxed.{first_relaxed, none_robust, robust_none, some_first, first_some}

-- the answer by what is found, and by what the file is read as
unfoldable pub answer_by : Option Schedule → Answer
answer_by none = robust
answer_by (some s) = relaxed s

unfoldable pub answer_on : Decoded → ℕ → Answer
answer_on (accepted p) room = cond (ltb room 48) (refusing 22 0) (answer_by (first_relaxed p))
answer_on (refused n k) room = refusing n k

pub answer_refused : (n k room : ℕ) → answer_on (refused n k) room ≡ refusing n k
unfolding answer_on
answer_refused n k room = refl

module _ (p : Program) (room : ℕ) where
  pub answer_short : room < 48 → answer_on (accepted p) room ≡ refusing 22 0
  unfolding answer_on
  answer_short h = rw (lt-ltb room 48 h)

  pub answer_long : 48 ≤ room → answer_on (accepted p) room ≡ answer_by (first_relaxed p)
  unfolding answer_on
  answer_long h = rw (le-ltb room 48 h)

module _ (file : List ℕ) (room : ℕ) where
  abbrev here : Decoded
  here = admit tso (decode file)

  abbrev R : Answer → Type 0
  R = Robustness file room

  module _ (p : Program) (e : here ≡ accepted p) where
    lists : Admitted tso p
    lists = listed_program tso tso_laws file p e

    -- what is found is right
    found_right : 48 ≤ room → (o : Option Schedule) → first_relaxed p ≡ o → R (answer_by o)
    unfolding answer_by
    found_right h none q = holding p e h (none_robust p lists q)
    found_right h (some s) q = breaking p s e h (some_first p lists s q)

    right : Dec (room < 48) → R (answer_on (accepted p) room)
    right (yes h) = subst R (sym (answer_short p room h)) (by_output p e h)
    right (no h) =
        let enough : 48 ≤ room = omega (arith, h) in
        subst R (sym (answer_long p room enough)) (found_right enough (first_relaxed p) refl)

  right_on : (d : Decoded) → here ≡ d → R (answer_on d room)
  right_on (refused n k) e = subst R (sym (answer_refused n k room)) (by_file n k e)
  right_on (accepted p) e = right p e (dec_lt room 48)

  pub robustness_right : R (answer_on here room)
  robustness_right = right_on here refl

  read : (d : Decoded) → here ≡ d → answer_on here room ≡ answer_on d room
  read d e = ap (λ (x : Decoded). answer_on x room) e

  answer_is : {a : Answer} → R a → answer_on here room ≡ a
  unfolding answer_by
  answer_is (by_file n k e) = read (refused n k) e ∙ answer_refused n k room
  answer_is (by_output p e h) = read (accepted p) e ∙ answer_short p room h
  answer_is (holding p e h r) = read (accepted p) e ∙ answer_long p room h ∙ ap answer_by (robust_none p (lists p e) r)
  answer_is (breaking p s e h f) = read (accepted p) e ∙ answer_long p room h ∙ ap answer_by (first_some p (lists p e) s f)

  -- THERE IS AN ANSWER
  pub robustness_exists : (a : Answer) × R a
  robustness_exists = (answer_on here room, robustness_right)

  -- THERE IS ONE ANSWER ONLY
  pub robustness_unique : (a b : Answer) → R a → R b → a ≡ b
  robustness_unique a b i j = sym (answer_is i) ∙ answer_is j

  -- ROBUST EXACTLY WHEN IT IS, on a file that is listed, with an output that is not too short
  pub robust_exactly : (p : Program) → here ≡ accepted p → 48 ≤ room → R robust ↔ Robust p
  unfolding answer_by
  robust_exactly p e h = ((λ i. go i (first_relaxed p) refl), holding p e h)
    where
      go : R robust → (o : Option Schedule) → first_relaxed p ≡ o → Robust p
      go i none q = none_robust p (lists p e) q
      go i (some s) q = absurd (
          let z : robust ≡ relaxed s = robustness_unique robust (relaxed s) i (found_right p e h (some s) q) in
          let y : ◌≡◌ {A = ℕ} 0 1 = cc in
          omega arith)
