-- A slot and a refusal as the code hands them on.
use Rattle.std.specs.Prelude.{ℕ, Bool, cond, eqb, ltb, Option, Some, None, Result, Ok, Err, ⊤}
use Rattle.std.proofs.Math.Option as Math
use Rattle.spec_file.specs.declared.refusal.Refusal.{Refusal}

-- a slot of eight, or none
unfoldable pub slot_number : Math.Option ℕ → Option ℕ
slot_number Math.none = None
slot_number (Math.some i) = Some i

-- a refusal by this number, which has no place
abbrev pub refused_by : {A : Type 0} → ℕ → Result A Refusal
refused_by n = Err (record { number = n; place = 0 })

-- what refuses a call for caller k of a list of n records, who must be open, by whether it is
unfoldable pub open_refusal : ℕ → ℕ → Bool → Result ⊤ Refusal
open_refusal n k o = cond (eqb n 4) (cond (ltb 3 k) (refused_by 42) (cond o (Ok tt) (refused_by 44))) (refused_by 22)

-- what refuses a call on marks, by whether caller k of a list of n records is open and the name has a right length
unfoldable pub refusal_of : ℕ → ℕ → Bool → Bool → Result ⊤ Refusal
refusal_of n k o f = elim (open_refusal n k o) [ Ok u ↦ cond f (Ok tt) (refused_by 45) | Err r ↦ Err r ]
