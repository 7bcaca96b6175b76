-- Whether two events, two reads with their sources, and two lists are the same.
use Rattle.std.specs.Prelude.{ℕ, Bool, ◌&&◌, eqb}
use Rattle.spec_sc.specs.State.{Event}

unfoldable pub same_event : Event → Event → Bool
same_event a b = eqb a.0 b.0 && eqb a.1 b.1

unfoldable pub same_read : ℕ × Event → ℕ × Event → Bool
same_read a b = eqb a.0 b.0 && same_event a.1 b.1
