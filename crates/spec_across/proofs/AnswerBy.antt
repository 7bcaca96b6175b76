-- The answer to two files, each under a memory model of its own, worked out: by what the files are read as, by the output's length, and by
-- what is found in the second's list.
use Prim.Native.Nat.{ℕ, ◌<◌, ◌≤◌}
use mathlib.Core.Path.{◌≡◌, refl, ap, ◌∙◌}
use mathlib.Core.Bool.{cond}
use mathlib.Core.Option.{Option, none, some}
use lib.Dec.{ltb}
use borrow.Author.Tests.{lt-ltb, le-ltb}
use Rattle.spec_file.specs.Program.{Program}
use Rattle.spec_file.specs.Decode.{Decoded, accepted, refused}
use Rattle.spec_schedules.specs.Order.{Schedule}
use Rattle.spec_model.specs.Model.{Model}
use Rattle.spec_covers.specs.Answer.{Answer, covered, lacking, first_refused, second_refused, output_refused}
use Rattle.spec_across.proofs.Attained.{first_lacking}

-- by what is found
unfoldable pub answer_by : Option Schedule → Answer
answer_by none = covered
answer_by (some s) = lacking s

module _ (need : ℕ) (M N : Model) where
  -- a program against what the second file is read as, with an output of so many bytes
  unfoldable pub answer_against : Program → Decoded → ℕ → Answer
  answer_against p (accepted q) room = cond (ltb room need) (output_refused 22 0) (answer_by (first_lacking M p N q))
  answer_against p (refused i k) room = second_refused i k

  -- what the first file is read as against what the second is
  unfoldable pub answer_on : Decoded → Decoded → ℕ → Answer
  answer_on (accepted p) d room = answer_against p d room
  answer_on (refused i k) d room = first_refused i k

  pub on_refused : (i k : ℕ) (d : Decoded) (room : ℕ) → answer_on (refused i k) d room ≡ first_refused i k
  unfolding answer_on
  on_refused i k d room = refl

  module _ (p : Program) (room : ℕ) where
    pub on_accepted : (d : Decoded) → answer_on (accepted p) d room ≡ answer_against p d room
    unfolding answer_on
    on_accepted d = refl

    pub against_refused : (i k : ℕ) → answer_against p (refused i k) room ≡ second_refused i k
    unfolding answer_against
    against_refused i k = refl

    pub against_short : (q : Program) → room < need → answer_against p (accepted q) room ≡ output_refused 22 0
    unfolding answer_against
    against_short q h = rw (lt-ltb room need h)

    pub against_long : (q : Program) → need ≤ room → answer_against p (accepted q) room ≡ answer_by (first_lacking M p N q)
    unfolding answer_against
    against_long q h = rw (le-ltb room need h)
