-- The answer by the walk, as a function: texts are answered by computing, and every judgement is shown to be this answer.
use Prim.Native.Nat.{ℕ}
use mathlib.Core.Bool.{cond}
use mathlib.Core.Option.{Option, none, some}
use mathlib.Core.List.{List}
use lib.Dec.{ltb}
use lib.ListN.{length}
use Rattle.spec_file.specs.Program.{Program}
use Rattle.spec_file.specs.Decode.{Decoded, accepted, refused, decode}
use Rattle.spec_schedules.specs.Order.{Schedule}
use Rattle.spec_judge.specs.Reading.{Parsed, parsed, refused_at, read_graph}
use Rattle.spec_judge.specs.Answer.{Answer, consistent, inconsistent, refusing}
use Rattle.spec_judge.proofs.Walk.{judge}

unfoldable pub answer_of : Option Schedule → Answer
answer_of none = inconsistent
answer_of (some s) = consistent s

unfoldable pub answer_to : Program → Parsed → Answer
answer_to p (parsed g) = answer_of (judge p g)
answer_to p (refused_at n k) = refusing n k

-- of an accepted program, to a graph text, with an output of so many bytes
unfoldable pub answer_text : Program → List ℕ → ℕ → Answer
answer_text p text room = cond (ltb room 24) (refusing 22 0) (answer_to p (read_graph (length p.threads) text))

unfoldable pub answer_on : Decoded → List ℕ → ℕ → Answer
answer_on (accepted p) text room = answer_text p text room
answer_on (refused n k) text room = refusing n k

-- of a program file
unfoldable pub answer_file : List ℕ → List ℕ → ℕ → Answer
answer_file file text room = answer_on (decode file) text room
