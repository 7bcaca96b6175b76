-- A schedule that is answered stands in front of the output behind the call, and the bytes behind it keep their value, in any memory model.
use Rattle.std.proofs.Common.{◌≡◌, ℕ, List, sym, refl, subst, arith}
use Rattle.spec_file.proofs.Over.{take_over, drop_over, length_over}
use Rattle.spec_file.specs.Program.{Program}
use Rattle.spec_file.specs.Decode.{Decoded, accepted, decode}
use Rattle.spec_file.specs.Decode as File
use Rattle.spec_schedules.specs.Order.{Schedule}
use Rattle.spec_schedules.specs.Calls.{found}
use Rattle.spec_model.specs.Model.{Model}
use Rattle.spec_model.specs.Laws.{Laws, Admitted}
use Rattle.spec_model.specs.Answers.{fails_first}
use Rattle.spec_model.specs.OnFile.{admit, start_on, continue_on, violation_on, start_file, continue_file, violation_file}
use Rattle.spec_model.proofs.TheList.{list_room}
use Rattle.spec_model.proofs.Admitted.{listed_program}
use Rattle.spec_model.proofs.Answered.{Stands}
use Rattle.spec_model.proofs.Answered as Called
use Rattle.listing.specs.Demand3.{InFront}

module _ (M : Model) (L : Laws M) where
  -- a listed schedule is not longer than an output that is not refused, so that it fits
  pub in_front : (p : Program) → Admitted M p → (s : Schedule) (out behind : List ℕ) → Stands M p out s behind → InFront s out behind
  in_front p w s out behind h = subst (InFront s out) (sym h.2)
      (take_over s out, drop_over s out, length_over s out (omega (arith, list_room M L p w s h.0, h.1)))

  -- on a program file; one that is refused answers no schedule
  module _ (file : List ℕ) (out : List ℕ) (s : Schedule) where
    pub start_stands : (start_file M file out).0 ≡ found s → InFront s out (start_file M file out).1
    unfolding start_on
    start_stands = go (admit M (decode file)) refl
      where
        go : (d : Decoded) → admit M (decode file) ≡ d → (start_on M d out).0 ≡ found s → InFront s out (start_on M d out).1
        go (accepted p) e = λ q. in_front p (listed_program M L file p e) s out _ (Called.start_stands M L p out s q)
        go (File.refused n k) e = λ q. absurd (let z : ◌≡◌ {A = ℕ} 0 1 = cc in omega arith)

    pub continue_stands : (r : Schedule) → (continue_file M file r out).0 ≡ found s → InFront s out (continue_file M file r out).1
    unfolding continue_on
    continue_stands r = go (admit M (decode file)) refl
      where
        go : (d : Decoded) → admit M (decode file) ≡ d → (continue_on M d r out).0 ≡ found s → InFront s out (continue_on M d r out).1
        go (accepted p) e = λ q. let w = listed_program M L file p e in in_front p w s out _ (Called.continue_stands M L p out s w r q)
        go (File.refused n k) e = λ q. absurd (let z : ◌≡◌ {A = ℕ} 0 1 = cc in omega arith)

    pub violation_stands : (violation_file M file out).0 ≡ fails_first s → InFront s out (violation_file M file out).1
    unfolding violation_on
    violation_stands = go (admit M (decode file)) refl
      where
        go : (d : Decoded) → admit M (decode file) ≡ d → (violation_on M d out).0 ≡ fails_first s → InFront s out (violation_on M d out).1
        go (accepted p) e = λ q. in_front p (listed_program M L file p e) s out _ (Called.violation_stands M L p out s q)
        go (File.refused n k) e = λ q. absurd (let z : ◌≡◌ {A = ℕ} 0 1 = cc in omega arith)
