-- Where all threads are hostile: the answer by the first listed schedule that fails, as the code has it.
use Prim.Native.Nat.{ℕ, zero, suc, ◌+◌, ◌<◌}
use native.Mathlib.Omega.{arith}
use mathlib.Core.Path.{◌≡◌, refl, sym, ap, subst, ◌∙◌}
use mathlib.Core.Bool.{true}
use mathlib.Core.Option as Math
use Rattle.std.specs.Prelude.{Option, Some, None, Ok}
use mathlib.Core.List.{List, [], ◌∷◌}
use lib.ListN.{length, get_or, take}
use Rattle.spec_file.specs.Program.{Program}
use Rattle.spec_file.specs.WellFormed.{WellFormed}
use Rattle.spec_schedules.specs.Lists.{head_of}
use Rattle.spec_schedules.specs.Order.{Schedule}
use Rattle.spec_schedules.specs.Sets.{has}
use Rattle.spec_schedules.proofs.First.{head_filter}
use Rattle.spec_model.specs.Alike.{list_of}
use Rattle.spec_model.specs.Model.{failing}
use Rattle.spec_model.specs.Search.{sought}
use Rattle.spec_sc.specs.Sequential.{sc}
use Rattle.file_decoder.specs.Compiled.{program_of}
use Rattle.file_decoder.specs.declared.file.Compiled.{Compiled}
use Rattle.machine.proofs.HeldStart.{loaded_compiled, threads_held}
use Rattle.listing_cursor.specs.declared.steps.Steps.{Steps}
use Rattle.listing_cursor.specs.Steps.{found_of}
use Rattle.spec_force.specs.Forced.{AllIn, ForcedIn}
use Rattle.theory_game.specs.OneSide.{by_failing}
use Rattle.theory_game.proofs.OneSide.{answer_failing, first_small}
use Rattle.force.specs.declared.answering.Winner.TheVariants.{Hostile, Friendly}
use Rattle.force.specs.Answered.{answer_of}

pub all_owned : (set : ℕ) (c : Compiled) → WellFormed (program_of c) → ((t : ℕ) → t < c.threads → has set t ≡ true) → AllIn set (program_of c)
all_owned set c w h t b = h t (omega (arith, b, threads_held c.code c.lengths c.threads (program_of c) (loaded_compiled c w)))

-- the first of so many bytes
take_first : (n : ℕ) (l : List ℕ) → 0 < n → 0 < length l → (z : Schedule) × (take n l ≡ get_or l 0 0 ∷ z)
take_first zero l a b = absurd (omega (arith, a))
take_first (suc n) [] a b = absurd (omega (arith, b))
take_first (suc n) (x ∷ l) a b = (take n l, refl)

module _ (r : Option (Steps 24)) where
  pub said_none : r ≡ None → Ok Friendly ≡ answer_of (by_failing (found_of r))
  unfolding answer_of by_failing
  said_none e = rw e refl

  module _ (s : Steps 24) (e : r ≡ Some s) where
    pub said_passes : s.steps ≡ 0 → Ok (Hostile 0) ≡ answer_of (by_failing (found_of r))
    unfolding answer_of by_failing
    said_passes z = ap (λ (n : ℕ). answer_of (by_failing (Math.some (take n s.schedule)))) (sym z) ∙ ap (λ (o : Option (Steps 24)). answer_of (by_failing (found_of o))) (sym e)

    module _ (n : 0 < s.steps) (l : 0 < length s.schedule) where
      first : (z : Schedule) × (Math.some (get_or s.schedule 0 0 ∷ z) ≡ found_of r)
      first = let t = take_first s.steps s.schedule n l in (t.0, ap Math.some (sym t.1) ∙ ap found_of (sym e))

      pub said_steps : Ok (Hostile (get_or s.schedule 0 0 + 1)) ≡ answer_of (by_failing (found_of r))
      unfolding answer_of by_failing
      said_steps = ap (λ (o : Math.Option Schedule). answer_of (by_failing o)) first.1

      pub said_small : (p : Program) → WellFormed p → found_of r ≡ head_of (sought sc true p) → get_or s.schedule 0 0 < 6
      unfolding sought
      said_small p w is = first_small p w (get_or s.schedule 0 0) first.0 (sym (head_filter (failing sc p) (list_of sc p)) ∙ sym is ∙ sym first.1)

  -- THE ANSWER is right
  pub first_answers : (set : ℕ) (p : Program) → WellFormed p → AllIn set p → found_of r ≡ head_of (sought sc true p) → ForcedIn set p (by_failing (found_of r))
  unfolding sought
  first_answers set p w all is =
      subst (λ (o : Math.Option Schedule). ForcedIn set p (by_failing o)) (sym (is ∙ head_filter (failing sc p) (list_of sc p))) (answer_failing set p w all)
