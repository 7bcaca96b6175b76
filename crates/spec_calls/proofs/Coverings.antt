-- What the call over two files says is what the code answers, and it fits its word, whatever is lent; its word of kind 1 tells how many bytes in
-- front of the output are the schedule.
use Prim.Native.Nat.{ℕ, ◌^◌, ◌<◌, ◌≤◌}
use mathlib.Core.List.{List}
use native.Mathlib.Omega.{arith}
use lib.ListN.{length}
use Rattle.spec_file.proofs.AcceptedWellFormed.{accepted_well_formed}
use Rattle.spec_sc.proofs.Lawful.{at_most_24}
use Rattle.spec_covers.specs.Answer.{Answer, covered, lacking, first_refused, second_refused, output_refused, Comparison, by_first, by_second, by_output, covering, exceeding}
use Rattle.spec_calls.specs.Word.{Fits}
use Rattle.spec_calls.specs.Against.{covers_reply}
use Rattle.spec_calls.proofs.Refusals.{refusal_fits}

-- a schedule has at most 24 steps, and is answered only where there is room for it
abbrev pub AgainstWithin : ℕ → Answer → Type 0
AgainstWithin room covered = Unit {0}
AgainstWithin room (lacking s) = (length s ≤ 24) × (24 ≤ room)
AgainstWithin room (first_refused n k) = (n < 256) × (k < 2 ^ 48)
AgainstWithin room (second_refused n k) = (n < 256) × (k < 2 ^ 48)
AgainstWithin room (output_refused n k) = (n < 256) × (k < 2 ^ 48)

module _ (first second : List ℕ) (room : ℕ) where
  pub against_within : (a : Answer) → Comparison first second room a → AgainstWithin room a
  against_within covered (covering p q a h c) = tt
  against_within (lacking s) (exceeding p q s' a h f) = (at_most_24 q (accepted_well_formed second q a.other) s f.listed.0, h)
  against_within (first_refused n k) (by_first n' k' e) = refusal_fits first n k e
  against_within (second_refused n k) (by_second p n' k' e i) = refusal_fits second n k i
  against_within (output_refused n k) (by_output p q a h) = (omega arith, omega arith)

  -- THE CALL OVER TWO FILES fits its word
  pub covers_fits : (a : Answer) → Comparison first second room a → Fits (covers_reply a)
  unfolding covers_reply
  covers_fits a c = go a (against_within a c)
    where
      go : (a : Answer) → AgainstWithin room a → Fits (covers_reply a)
      go covered h = tt
      go (lacking s) h = omega arith
      go (first_refused n k) h = h
      go (second_refused n k) h = h
      go (output_refused n k) h = h
