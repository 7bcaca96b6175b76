-- What the call that gives all outcomes says of a program file, in any memory model: from a number on, counted from 0, as many rows as the
-- output has room for stand in front of it. Refusals in order: the program's, what the model turns away, then 22 for an output that has not
-- room for one row; no byte changes then.
use Rattle.std.specs.Prelude.{ℕ, ◌+◌, ◌/◌, ◌%◌, ◌^◌, cond, ltb, length, take, drop, Result, Ok, Err}
use mathlib.Core.List.{List, [], ◌∷◌, ◌++◌, flat_map}
use Rattle.spec_file.specs.declared.refusal.Refusal.{Refusal}
use Rattle.spec_file.specs.Over.{over}
use Rattle.spec_file.specs.Program.{Program}
use Rattle.spec_file.specs.Decode.{Decoded, accepted, refused, decode}
use Rattle.spec_schedules.specs.Order.{Schedule}
use Rattle.spec_model.specs.Model.{Model, failing}
use Rattle.spec_model.specs.OnFile.{admit}
use Rattle.spec_calls.specs.Rows.{row_of, row_size}
use Rattle.spec_calls.specs.Scratch.{zeros}
use Rattle.spec_across.specs.Under.{outcome_under}
use Rattle.spec_outcomes.specs.Firsts.{firsts_of}

-- a value in four bytes, the most significant first
unfoldable pub four_bytes : ℕ → List ℕ
four_bytes v = v / 2 ^ 24 % 256 ∷ v / 2 ^ 16 % 256 ∷ v / 2 ^ 8 % 256 ∷ v % 256 ∷ []

module _ (M : Model) where
  -- the number of bytes of a row: 58 under sequential consistency, 82 under total store order
  abbrev pub outcome_size : ℕ
  outcome_size = 32 + row_size M.need

  -- the row of a schedule: the eight values that it ends with, four bytes each, and then its row as the calls by rows have it
  unfoldable pub outcome_row : Program → Schedule → List ℕ
  outcome_row p s = flat_map four_bytes (outcome_under M p s).memory ++ row_of M.need (failing M p) s

  -- the rows of these schedules, one after the other
  unfoldable pub outcome_rows : Program → List Schedule → List ℕ
  outcome_rows p ss = flat_map (outcome_row p) ss

  -- the schedules whose rows stand in such an output, from a number on
  unfoldable pub page_of : Program → ℕ → List ℕ → List Schedule
  page_of p from out = take (length out / outcome_size) (drop from (firsts_of M p))

  -- the number of rows written, or the refusal
  unfoldable pub outcomes_on : Decoded → ℕ → List ℕ → Result ℕ Refusal
  outcomes_on (accepted p) from out = cond (ltb (length out) outcome_size) (Err (record { number = 22; place = 0 })) (Ok (length (page_of p from out)))
  outcomes_on (refused n k) from out = Err (record { number = n; place = k })

  -- the output behind the call; one that is shorter than a row has no row
  unfoldable pub output_on : Decoded → ℕ → List ℕ → List ℕ
  output_on (accepted p) from out = over (outcome_rows p (page_of p from out)) out
  output_on (refused n k) from out = out

  -- the call itself, on the file's bytes
  abbrev pub outcomes_file : List ℕ → ℕ → List ℕ → Result ℕ Refusal
  outcomes_file file from out = outcomes_on (admit M (decode file)) from out

  abbrev pub outcomes_output : List ℕ → ℕ → List ℕ → List ℕ
  outcomes_output file from out = output_on (admit M (decode file)) from out

-- the scratch behind it: zeros where the call answered, what was there where it refused
unfoldable pub outcomes_scratch : Result ℕ Refusal → List ℕ → List ℕ
outcomes_scratch (Ok n) scratch = zeros scratch
outcomes_scratch (Err r) scratch = scratch
