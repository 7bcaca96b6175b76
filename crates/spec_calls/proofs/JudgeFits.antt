-- What the judge says fits its word: a schedule has at most 24 steps, and a text has no more lines than bytes, so that the place of its refusal fits where it is
-- shorter than 2^48 bytes. The kind, the number and the schedule fit whatever is lent.
use Prim.Native.Nat.{ℕ, ◌^◌, ◌<◌, ◌≤◌}
use mathlib.Core.Path.{◌≡◌, subst}
use mathlib.Core.List.{List}
use native.Mathlib.Omega.{arith}
use lib.ListN.{length}
use Rattle.spec_file.specs.Program.{Program}
use Rattle.spec_file.proofs.AcceptedWellFormed.{accepted_well_formed}
use Rattle.spec_sc.proofs.Lawful.{at_most_24}
use Rattle.spec_judge.specs.Reading.{refused_at, read_graph}
use Rattle.spec_judge.specs.Answer.{Answer, consistent, inconsistent, refusing, Judgement, program_refused, output_refused, text_refused, judged_yes, judged_no}
use Rattle.spec_judge.proofs.SmallRefusals.{Within, read_within}
use Rattle.spec_calls.specs.Word.{Fits}
use Rattle.spec_calls.specs.Judged.{judged}
use Rattle.spec_calls.proofs.Words.{Kinded}
use Rattle.spec_calls.proofs.Refusals.{refusal_fits}

-- a schedule has at most 24 steps, and is answered only where there is room for it
abbrev pub JudgeWithin : List ℕ → ℕ → Answer → Type 0
JudgeWithin text room (consistent s) = (length s ≤ 24) × (24 ≤ room)
JudgeWithin text room inconsistent = Unit {0}
JudgeWithin text room (refusing n k) = (n < 256) × (length text < 2 ^ 48 → k < 2 ^ 48)

module _ (file text : List ℕ) (room : ℕ) where
  read_small : (p : Program) (n k : ℕ) → read_graph (length p.threads) text ≡ refused_at n k → (n < 256) × (length text < 2 ^ 48 → k < 2 ^ 48)
  read_small p n k r =
      let h : Within (length text) (refused_at n k) = subst (Within (length text)) r (read_within (length p.threads) text) in
      (omega (arith, h), λ l. omega (arith, h))

  pub judge_within : (a : Answer) → Judgement file text room a → JudgeWithin text room a
  judge_within (refusing n k) (program_refused n' k' e) = let h = refusal_fits file n k e in (h.0, λ l. h.1)
  judge_within (refusing n k) (output_refused p e h) = (omega arith, λ l. omega arith)
  judge_within (refusing n k) (text_refused p n' k' d) = read_small p n k d.reads
  judge_within (consistent s) (judged_yes p g s' d c l) = (at_most_24 p (accepted_well_formed file p d.accepts) s l.0.0, d.enough)
  judge_within inconsistent (judged_no p g d n) = tt

  pub judge_kinded : (a : Answer) → JudgeWithin text room a → Kinded (judged a)
  unfolding judged
  judge_kinded (consistent s) h = omega arith
  judge_kinded inconsistent h = tt
  judge_kinded (refusing n k) h = h.0

  -- THE JUDGE, on a text of fewer than 2^48 bytes
  pub judge_fits : length text < 2 ^ 48 → (a : Answer) → Judgement file text room a → Fits (judged a)
  unfolding judged
  judge_fits l a j = go a (judge_within a j)
    where
      go : (a : Answer) → JudgeWithin text room a → Fits (judged a)
      go (consistent s) h = omega arith
      go inconsistent h = tt
      go (refusing n k) h = (h.0, h.1 l)
