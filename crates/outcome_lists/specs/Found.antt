-- A schedule that was found, or none: how many steps it has at most; how many it has, and an output with it in front.
use Rattle.std.specs.Prelude.{ℕ, ◌≤◌, List, length, Option, Some, None, IfSome}
use Rattle.std.proofs.Math.Option as Math
use Rattle.spec_file.specs.Over.{over}
use Rattle.spec_schedules.specs.Order.{Schedule}
use Rattle.listing_cursor.specs.declared.steps.Steps.{Steps}

-- it has at most so many
abbrev pub Within : ℕ → Option (Steps 48) → Type 0
Within n found = IfSome found (λ s. s.steps ≤ n)

abbrev pub steps_in : Math.Option Schedule → Option ℕ
steps_in (Math.some s) = Some (length s)
steps_in Math.none = None

abbrev pub put_over : Math.Option Schedule → List ℕ → List ℕ
put_over (Math.some s) out = over s out
put_over Math.none out = out
