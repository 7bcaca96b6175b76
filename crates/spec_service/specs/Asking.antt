-- Whether caller k asks behind a list of calls, by these calls and their answers: it asked, and since then no serve took it and it neither
-- opened nor closed.
use Rattle.std.specs.Prelude.{ℕ, Bool, true, false, cond, List, [], ◌∷◌, eqb}
use Rattle.spec_service.specs.Call.{Call, open_for, ask_for, serve, close_for, set_mark, return_to, forget}
use Rattle.spec_service.specs.Call.{Answer, done, given, ended, idle, refused, Shared, answer_to, after}

-- behind a call that is done: the caller's ask begins its asking, its opening and its closing end it
unfoldable pub asks_done : ℕ → Call → Bool → Bool
asks_done k (open_for j f) a = cond (eqb j k) false a
asks_done k (ask_for j) a = cond (eqb j k) true a
asks_done k (serve out) a = a
asks_done k (close_for j) a = cond (eqb j k) false a
asks_done k (set_mark j n) a = a
asks_done k (return_to j n) a = a
asks_done k (forget j n) a = a

-- behind a call with any answer: a serve that takes the caller ends its asking, whatever it gives, and a refusal changes nothing
unfoldable pub asks_behind : ℕ → Call → Answer → Bool → Bool
asks_behind k c done a = asks_done k c a
asks_behind k c (given j s) a = cond (eqb j k) false a
asks_behind k c (ended j) a = cond (eqb j k) false a
asks_behind k c idle a = a
asks_behind k c (refused n m) a = a

-- behind a list of calls from σ on, where `a` says whether the caller asks before it
unfoldable pub asks_in : ℕ → List Call → Shared → Bool → Bool
asks_in k [] σ a = a
asks_in k (c ∷ cs) σ a = asks_in k cs (after c σ) (asks_behind k c (answer_to c σ) a)
