-- Where no thread is hostile: the answer by the counts, as the code has it.
use Prim.Native.Nat.{ℕ}
use mathlib.Core.Path.{◌≡◌, sym, ap, ◌∙◌}
use mathlib.Core.Bool.{Bool, true, false}
use mathlib.Core.Option.{none}
use borrow.Author.Tests.{eq-eqb, ne_eqb}
use Rattle.std.specs.Prelude.{Result, Ok}
use Rattle.spec_file.specs.declared.refusal.Refusal.{Refusal}
use Rattle.spec_file.specs.Program.{Program}
use Rattle.spec_schedules.specs.Sets.{has}
use Rattle.theory_sc.proofs.Sets.{has_none}
use Rattle.spec_model.specs.Answers.{Counts}
use Rattle.spec_force.specs.Forced.{NoneIn, hostile_can, friendly_can}
use Rattle.theory_game.specs.OneSide.{by_counts}
use Rattle.force.specs.declared.answering.Winner.{Winner}
use Rattle.force.specs.declared.answering.Winner.TheVariants.{Hostile, Friendly}
use Rattle.force.specs.Answered.{answer_of}

pub none_owned : (set : ℕ) (p : Program) → set ≡ 0 → NoneIn set p
none_owned set p e t b = ap (λ (s : ℕ). has s t) e ∙ has_none t

-- by whether the two numbers are equal
abbrev said : Bool → Result Winner Refusal
said b = answer_of (elim b [ true ↦ hostile_can none | false ↦ friendly_can ])

pub said_all : (n : Counts) → n.listed ≡ n.failed → Ok (Hostile 0) ≡ answer_of (by_counts n)
unfolding answer_of by_counts
said_all n e = ap said (sym (eq-eqb n.listed n.failed e))

pub said_fewer : (n : Counts) → (n.listed ≡ n.failed → ⊥) → Ok Friendly ≡ answer_of (by_counts n)
unfolding answer_of by_counts
said_fewer n e = ap said (sym (ne_eqb n.listed n.failed e))
