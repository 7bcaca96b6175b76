-- THE LONGEST GRAPH TEXT HAS 400 BYTES: four fetch and adds in each of six threads, three on each of the eight locations, computed from the
-- file's bytes.
use Prim.Native.Nat.{ℕ}
use mathlib.Core.Path.{◌≡◌, refl}
use mathlib.Core.List.{List, [], ◌∷◌, ◌++◌}
use lib.ListN.{length}
use Rattle.spec_schedules.specs.Order.{Schedule}
use Rattle.spec_model.specs.Answers.{refuses_from}
use Rattle.spec_model.specs.OnFile.{unless, admit}
use Rattle.spec_model.specs.GraphCall.{GraphResult, texted, refusing, graph_by, graph_answer, graph_on, graph_file}
use Rattle.spec_sc.specs.Text.{text_of, graph_text}
use Rattle.spec_sc.specs.Sequential.{sc}
use Rattle.spec_cases.specs.Rows.{Frame}
use Rattle.spec_cases.specs.Table.{computed}

-- a thread that adds 1 at four locations
abbrev one : ℕ → Frame
one l = 0x12 ∷ 0 ∷ l ∷ 0 ∷ 0 ∷ 0 ∷ 0 ∷ 1 ∷ []

abbrev adding : ℕ → ℕ → ℕ → ℕ → List Frame
adding a b c d = (0x01 ∷ []) ∷ one a ∷ one b ∷ one c ∷ one d ∷ []

-- three threads at the first four locations, three at the last four
pub adders : List Frame
adders = adding 0 1 2 3 ++ (adding 0 1 2 3 ++ (adding 0 1 2 3 ++ (adding 4 5 6 7 ++ (adding 4 5 6 7 ++ adding 4 5 6 7))))

-- one thread after the other
pub in_turn : Schedule
in_turn = 0 ∷ 0 ∷ 0 ∷ 0 ∷ 1 ∷ 1 ∷ 1 ∷ 1 ∷ 2 ∷ 2 ∷ 2 ∷ 2 ∷ 3 ∷ 3 ∷ 3 ∷ 3 ∷ 4 ∷ 4 ∷ 4 ∷ 4 ∷ 5 ∷ 5 ∷ 5 ∷ 5 ∷ []

-- the length of a text
pub text_length : GraphResult → ℕ
text_length (texted t) = length t
text_length (refusing n k) = 0

pub reached : text_length (graph_file sc (text_of adders) in_turn 512) ≡ 400
unfolding computed unless admit refuses_from graph_by graph_answer graph_on graph_text adders in_turn text_length
reached = refl
