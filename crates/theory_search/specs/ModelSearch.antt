-- THE SEARCH in any memory model, with no test at a full schedule: depth first from the start, bytes ascending, for the full schedules above
-- a bound none of whose steps a rule gives up. A rule is sound if all that it gives up has a smaller alike schedule. By every sound rule
-- that leaves listed schedules only, the search finds what the list has above the bound, or those of it that fail.
use Rattle.std.specs.Prelude.{ℕ, ◌-◌, ◌≡◌, Bool, true, false, not, List, [], ◌∷◌, ◌++◌, map}
use Rattle.std.proofs.Math.Option.{Option}
use Rattle.spec_file.specs.Program.{Program}
use Rattle.spec_schedules.specs.Lists.{all}
use Rattle.spec_schedules.specs.Order.{Schedule, less}
use Rattle.theory_search.specs.Orders.{least_order}
use Rattle.spec_schedules.specs.Permutations.{moved}
use Rattle.theory_search.specs.Found.{found_by, found_from}
use Rattle.spec_model.specs.Exchange.{permitted}
use Rattle.spec_model.specs.Model.{Model, end_of, Full, failing, actions}
use Rattle.spec_model.specs.Alike.{Smaller}

module _ (M : Model) where
  -- which next bytes are given up, by the prefix and the state behind it
  abbrev pub Rule : Type 0
  Rule = Schedule → M.system.State → ℕ → Bool

  -- what is given up has a smaller alike schedule
  abbrev pub Sound : Program → Rule → Type 0
  Sound p rule = (v : Schedule) (b : ℕ) (z : Schedule) → rule v (end_of M p v) b ≡ true → Full M p (v ++ (b ∷ z)) →
      Smaller M p (v ++ (b ∷ z))

  -- the least order of these actions, exchanged by π, in which dependent ones keep theirs
  unfoldable pub least_by : List ℕ → List M.Action → Schedule
  least_by π acts = least_order M.who M.dependent M.system.names (map (M.moved_action (moved π)) acts)

  -- the test at a full schedule: no permitted exchange has a smaller least schedule
  unfoldable pub representative : Program → Schedule → Bool
  representative p w = all (λ π. not (less (least_by π (actions M p w)) w)) (permitted p)

  -- what is looked for: every full schedule that is reached, or those that fail
  unfoldable pub looked_for : Bool → Program → Schedule → Bool
  looked_for false p w = true
  looked_for true p w = failing M p w

  module _ (rule : Program → Rule) (failures : Bool) (p : Program) where
    -- all that is found behind the prefix v, of so many steps, above what is left of the bound
    abbrev pub found_behind : ℕ → Option Schedule → Schedule → List Schedule
    found_behind steps o v = found_from M.system M.top (rule p) (looked_for failures p) (M.steps - steps) o v (end_of M p v)

    -- all that is found behind the prefix v with b as the next step
    abbrev pub found_with : ℕ → Option Schedule → Schedule → ℕ → List Schedule
    found_with steps o v b =
        found_by M.system M.top (rule p) (looked_for failures p)
        (λ x y z. found_from M.system M.top (rule p) (looked_for failures p) (M.steps - steps - 1) x y z) o v (end_of M p v) b

    -- all that is found above the bound, or all where there is no bound
    abbrev pub found : Option Schedule → List Schedule
    found bound = found_behind 0 bound []
