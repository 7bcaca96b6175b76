-- What the calls that give outcomes say fits their word, where the output is shorter than 2^48 rows, which is more than addresses of 48 bits
-- can name.
use Rattle.std.specs.Prelude.{Ok, Err}
use Prim.Native.Nat.{ℕ, ◌*◌, ◌/◌, ◌^◌, ◌<◌}
use mathlib.Core.Path.{◌≡◌, refl}
use mathlib.Core.Bool.{Bool, true, false, cond}
use mathlib.Core.List.{List}
use native.Mathlib.Omega.{arith}
use lib.Dec.{ltb}
use lib.ListN.{length, drop, length-take}
use Rattle.spec_file.specs.Decode.{Decoded, accepted, refused, decode}
use Rattle.spec_model.specs.OnFile.{admit}
use Rattle.spec_calls.specs.Word.{Fits}
use Rattle.spec_calls.specs.ByRows.{rows_reply}
use Rattle.listing_model.specs.declared.memory.Model.{Model}
use Rattle.listing_model.specs.declared.memory.Model.TheVariants.{Sequential, TotalStoreOrder}
use Rattle.listing_model.specs.ModelOf.{model_of}
use Rattle.listing_model.proofs.SmallRefusals.{refused_small}
use Rattle.spec_outcomes.specs.Firsts.{firsts_of}
use Rattle.spec_outcomes.specs.OutcomesCall.{outcome_size, page_of, outcomes_on, outcomes_file}

rows_few : (m : Model) (n : ℕ) → n < outcome_size (model_of m) * 2 ^ 48 → n / outcome_size (model_of m) < 2 ^ 48
rows_few Sequential n h = omega (arith, h)
rows_few TotalStoreOrder n h = omega (arith, h)

pub outcomes_fits : (m : Model) (file : List ℕ) (from : ℕ) (out : List ℕ) → length out < outcome_size (model_of m) * 2 ^ 48 → Fits (rows_reply (outcomes_file (model_of m) file from out))
unfolding outcomes_on rows_reply page_of
outcomes_fits m file from out h = go (admit (model_of m) (decode file)) refl
  where
    go : (d : Decoded) → admit (model_of m) (decode file) ≡ d → Fits (rows_reply (outcomes_on (model_of m) d from out))
    go (accepted p) e = by (ltb (length out) (outcome_size (model_of m)))
      where
        by : (b : Bool) → Fits (rows_reply (cond b (Err (record { number = 22; place = 0 })) (Ok (length (page_of (model_of m) p from out)))))
        by true = (omega arith, omega arith)
        by false = omega (arith, length-take (length out / outcome_size (model_of m)) (drop from (firsts_of (model_of m) p)), rows_few m (length out) h)
    go (refused n k) e = refused_small m file n k e
