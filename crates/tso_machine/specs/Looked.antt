-- What a thread finds, as the code gives it.
use Rattle.std.specs.Prelude.{ℕ, Bool, true, false}
use Rattle.std.proofs.Math.Option.{Option, none, some}
use Rattle.machine.specs.declared.state.LastWrite.{LastWrite}
use Rattle.spec_tso.specs.Queue.{Entry}
use Rattle.tso_machine.specs.declared.looking.Sight.{Sight}

-- thread t's own store if there is one, else the value v in memory, written by w
unfoldable pub look_of : ℕ → Option Entry → ℕ → LastWrite → Sight
look_of t (some e) v w = record { value = e.value; source = record { thread = t; number = e.number }; own = true }
look_of t none v w = record { value = v; source = w; own = false }

-- whether there is one
unfoldable pub is_there : Option Entry → Bool
is_there (some e) = true
is_there none = false
