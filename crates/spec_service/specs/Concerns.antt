-- What of a list of calls concerns caller k: its own calls, and the serves that take it, in their order.
use Rattle.std.specs.Prelude.{ℕ, cond, List, [], ◌∷◌, ◌++◌, eqb}
use Rattle.spec_service.specs.Call.{Call, open_for, ask_for, serve, close_for, set_mark, return_to, forget}
use Rattle.spec_service.specs.Call.{Answer, done, given, ended, idle, refused, Shared, answer_to, after}

-- what concerns a caller: its own call, refused or not; or a serve that takes it, whatever it gives
pub data Event : Type 0 where
  called : Call → Event
  taken : Event

unfoldable pub own_call : ℕ → Call → List Event
own_call k (open_for j f) = cond (eqb j k) (called (open_for j f) ∷ []) []
own_call k (ask_for j) = cond (eqb j k) (called (ask_for j) ∷ []) []
own_call k (serve out) = []
own_call k (close_for j) = cond (eqb j k) (called (close_for j) ∷ []) []
own_call k (set_mark j n) = cond (eqb j k) (called (set_mark j n) ∷ []) []
own_call k (return_to j n) = cond (eqb j k) (called (return_to j n) ∷ []) []
own_call k (forget j n) = cond (eqb j k) (called (forget j n) ∷ []) []

unfoldable pub takes : ℕ → Answer → List Event
takes k done = []
takes k (given j s) = cond (eqb j k) (taken ∷ []) []
takes k (ended j) = cond (eqb j k) (taken ∷ []) []
takes k idle = []
takes k (refused n j) = []

unfoldable pub concerns : ℕ → List Call → Shared → List Event
concerns k [] σ = []
concerns k (c ∷ cs) σ = (own_call k c ++ takes k (answer_to c σ)) ++ concerns k cs (after c σ)
