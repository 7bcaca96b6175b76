-- The table of the graph made so far, with the read of a step and with its write, by its note. For the judge's own functions.
use Rattle.std.specs.Prelude.{ℕ, ◌+◌, ◌*◌, cond, List, eqb, get_or, set}
use Rattle.graph_reader.specs.Held.{put}

abbrev pub source_added : List ℕ → List ℕ → List ℕ
source_added pairs b = cond (eqb (get_or b 3 0) 0) pairs (put pairs (get_or b 0 0 * 16 + get_or b 1 0) (get_or b 4 0) (get_or b 5 0))

abbrev pub event_added : List ℕ → List ℕ → List ℕ → List ℕ
event_added pairs counts b = cond (eqb (get_or b 6 0) 0) pairs (put pairs (96 + (get_or b 2 0 * 24 + get_or counts (get_or b 2 0) 0)) (get_or b 0 0) (get_or b 1 0))

abbrev pub count_added : List ℕ → List ℕ → List ℕ
count_added counts b = cond (eqb (get_or b 6 0) 0) counts (set counts (get_or b 2 0) (get_or counts (get_or b 2 0) 0 + 1))
