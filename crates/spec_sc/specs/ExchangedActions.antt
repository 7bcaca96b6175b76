-- The steps of an exchanged run: each is its thread's step moved to the thread in whose place it comes, at the same location, writing or
-- not as before.
use Rattle.std.specs.Prelude.{ℕ}
use Rattle.spec_sc.specs.Actions.{Action}

unfoldable pub moved_action : (ℕ → ℕ) → Action → Action
moved_action π a = record { thread = π a.thread; location = a.location; wrote = a.wrote }
