-- What each call of the list says fits its word, whatever it is lent, in both memory models.
use Prim.Native.Nat.{ℕ, ◌*◌, ◌/◌, ◌^◌, ◌<◌}
use mathlib.Core.Path.{◌≡◌, refl}
use mathlib.Core.Option.{Option}
use mathlib.Core.List.{List}
use native.Mathlib.Omega.{arith}
use lib.ListN.{length, length-take}
use Rattle.spec_file.specs.Program.{Program}
use Rattle.spec_file.specs.Decode.{Decoded, accepted, refused, decode}
use Rattle.spec_schedules.specs.Order.{Schedule}
use Rattle.spec_schedules.specs.Found.{after}
use Rattle.spec_schedules.specs.Calls.{Answer, found, nomore}
use Rattle.spec_schedules.specs.Calls as Calls
use Rattle.spec_model.specs.Model as Memory
use Rattle.spec_model.specs.Laws.{Laws, Admitted}
use Rattle.spec_model.specs.Alike.{list_of}
use Rattle.spec_model.specs.Answers.{start_of, continue_of, Violation, fails_first, none_fails, refused_by, violation_of}
use Rattle.spec_model.specs.OnFile.{admit, start_on, continue_on, violation_on, count_on, start_file, continue_file, violation_file, count_file}
use Rattle.spec_model.proofs.TheList.{list_room}
use Rattle.spec_model.proofs.Admitted.{listed_program}
use Rattle.spec_model.proofs.Answered.{Within, ViolationWithin, start_within, continue_within, violation_within}
use Rattle.spec_calls.specs.Rows.{row_size}
use Rattle.listing_model.specs.declared.memory.Model.{Model}
use Rattle.listing_model.specs.declared.memory.Model.TheVariants.{Sequential, TotalStoreOrder}
use Rattle.listing_model.specs.ModelOf.{model_of}
use Rattle.listing_model.proofs.ModelLaws.{model_laws, need_48}
use Rattle.listing_model.proofs.SmallRefusals.{steps_48, refused_small}
use Rattle.spec_calls.specs.RowsCall.{fitting, rows_on, rows_file}
use Rattle.spec_calls.specs.Word.{Fits}
use Rattle.spec_calls.specs.Listed.{listed, violation_reply}
use Rattle.spec_calls.specs.Tallied.{count_reply}
use Rattle.spec_calls.specs.ByRows.{rows_reply}

-- rows are fewer than bytes
rows_few : (m : Model) (n : ℕ) → n < row_size (model_of m).need * 2 ^ 48 → n / row_size (model_of m).need < 2 ^ 48
rows_few Sequential n h = omega (arith, h)
rows_few TotalStoreOrder n h = omega (arith, h)

module _ (m : Model) where
  abbrev M : Memory.Model
  M = model_of m

  abbrev L : Laws M
  L = model_laws m

  -- a listed schedule has at most 48 steps
  module _ (p : Program) (a : Admitted M p) (out : List ℕ) where
    pub answer_fits : (x : Answer) → Within M p out x → Fits (listed x)
    unfolding listed
    answer_fits (found s) h = omega (arith, list_room M L p a s h.0, need_48 m)
    answer_fits nomore h = tt
    answer_fits (Calls.refused n k) h = (omega (arith, h.0), omega (arith, h.1, steps_48 m))

    violation_answer_fits : (v : Violation) → ViolationWithin M p out v → Fits (violation_reply v)
    unfolding violation_reply
    violation_answer_fits (fails_first s) h = omega (arith, list_room M L p a s h.0, need_48 m)
    violation_answer_fits none_fails h = tt
    violation_answer_fits (refused_by n k) h = (omega (arith, h.0), omega (arith, h.1, steps_48 m))

  module _ (file : List ℕ) where
    -- START
    pub start_fits : (out : List ℕ) → Fits (listed (start_file M file out).0)
    unfolding start_on listed
    start_fits out = go (admit M (decode file)) refl
      where
        go : (d : Decoded) → admit M (decode file) ≡ d → Fits (listed (start_on M d out).0)
        go (accepted p) e = answer_fits p (listed_program M L file p e) out (start_of M p out).0 (start_within M L p out)
        go (refused n k) e = refused_small m file n k e

    -- CONTINUE, from whatever schedule
    pub continue_fits : (s : Schedule) (out : List ℕ) → Fits (listed (continue_file M file s out).0)
    unfolding continue_on listed
    continue_fits s out = go (admit M (decode file)) refl
      where
        go : (d : Decoded) → admit M (decode file) ≡ d → Fits (listed (continue_on M d s out).0)
        go (accepted p) e = let a = listed_program M L file p e in answer_fits p a out (continue_of M p s out).0 (continue_within M L p out a s)
        go (refused n k) e = refused_small m file n k e

    -- VIOLATION
    pub violation_fits : (out : List ℕ) → Fits (violation_reply (violation_file M file out).0)
    unfolding violation_on violation_reply
    violation_fits out = go (admit M (decode file)) refl
      where
        go : (d : Decoded) → admit M (decode file) ≡ d → Fits (violation_reply (violation_on M d out).0)
        go (accepted p) e = violation_answer_fits p (listed_program M L file p e) out (violation_of M p out).0 (violation_within M L p out)
        go (refused n k) e = refused_small m file n k e

    -- COUNT
    pub count_fits : Fits (count_reply (count_file M file))
    unfolding count_on count_reply
    count_fits = go (admit M (decode file)) refl
      where
        go : (d : Decoded) → admit M (decode file) ≡ d → Fits (count_reply (count_on M d))
        go (accepted p) e = omega arith
        go (refused n k) e = refused_small m file n k e

    -- THE CALLS BY ROWS: their number fits where the output is shorter than 2^48 rows, which is more than addresses of 48 bits can name
    pub rows_fit : (o : Option Schedule) (out : List ℕ) → length out < row_size M.need * 2 ^ 48 → Fits (rows_reply (rows_file M file o out))
    unfolding rows_on rows_reply fitting
    rows_fit o out h = go (admit M (decode file)) refl
      where
        go : (d : Decoded) → admit M (decode file) ≡ d → Fits (rows_reply (rows_on M d o out))
        go (accepted p) e = omega (arith, length-take (length out / row_size M.need) (after o (list_of M p)), rows_few m (length out) h)
        go (refused n k) e = refused_small m file n k e
