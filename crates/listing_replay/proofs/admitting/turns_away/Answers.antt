-- `turns_away` counts the program's accesses under total store order alone.
use Rattle.std.proofs.Common.{◌≡◌, refl, sym, subst, Bool, cond, true, false, ltb, ltb-true, ltb-false}
use mathlib.Core.Option.{none, some}
use Rattle.spec_file.specs.Program.{Program}
use Rattle.spec_file.specs.WellFormed.{all_accesses}
use Rattle.file_decoder.specs.Compiled.{program_of}
use Rattle.machine.proofs.HeldStart.{loaded_compiled}
use Rattle.spec_tso.specs.TotalStoreOrder.{tso}
use Rattle.spec_tso.proofs.Admits.{few_none, many_41}
use Rattle.listing_model.specs.declared.memory.Model.{Model}
use Rattle.listing_model.specs.ModelOf.{model_of}
use Rattle.listing_replay.proofs.admitting.turns_away.Goals as goal

away-by : (p : Program) (b : Bool) → ltb 16 (all_accesses p.threads) ≡ b → tso.away p ≡ cond b (some (41, 0)) none
away-by p true e = many_41 p (ltb-true 16 (all_accesses p.threads) e)
away-by p false e = few_none p (ltb-false 16 (all_accesses p.threads) e)

pub too_many-requires : goal.too_many-requires
too_many-requires c =
    (program_of c.args.program.now, loaded_compiled c.args.program.now c.requires)

pub returns-in-Sequential : goal.returns-in-Sequential
returns-in-Sequential c = subst (λ (m : Model). (model_of m).away (program_of c.args.program.now) ≡ none) (sym c.in-Sequential.is) refl

pub returns-in-TotalStoreOrder : goal.returns-in-TotalStoreOrder
returns-in-TotalStoreOrder c =
    let p = program_of c.args.program.now in
    subst (λ (m : Model). (model_of m).away p ≡ cond c.too_many.result (some (41, 0)) none) (sym c.in-TotalStoreOrder.is)
    (away-by p c.too_many.result (sym (c.too_many.ensures p (loaded_compiled c.args.program.now c.requires))))
