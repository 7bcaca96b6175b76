-- HOW LARGE A CLASS IS, in any memory model: of a full schedule, listed or not, the number of different graphs alike to its own, itself
-- counted. These are the different ones among the images of its graph under the permitted permutations; the image under a permutation is
-- the graph of the exchanged schedule.
use Rattle.std.specs.Prelude.{ℕ, ◌+◌, Bool, List, [], ◌∷◌, map, length}
use Rattle.std.proofs.Math.Option.{Option, none, some}
use Rattle.spec_file.specs.Program.{Program}
use Rattle.spec_file.specs.Decode.{Decoded, accepted, decode}
use Rattle.spec_file.specs.Decode as File
use Rattle.spec_schedules.specs.Order.{Schedule}
use Rattle.spec_schedules.specs.Classes.{firsts}
use Rattle.spec_schedules.specs.Lists.{filter}
use Rattle.spec_schedules.specs.Permutations.{moved}
use Rattle.spec_model.specs.Exchange.{permitted}
use Rattle.spec_model.specs.Model.{Model, graph, moved_schedule}
use Rattle.spec_model.specs.Answers.{refuses_from}
use Rattle.spec_model.specs.OnFile.{admit}

-- the sum of what f gives for these
unfoldable pub total : {A : Type 0} → (A → ℕ) → List A → ℕ
total f [] = 0
total f (x ∷ l) = f x + total f l

module _ (M : Model) where
  -- whether two graphs are the same: exchanging no threads turns one into the other
  unfoldable pub same_graph : M.Graph → M.Graph → Bool
  same_graph g h = M.renames (λ t. t) g h

  module _ (p : Program) (s : Schedule) where
    -- the images of the schedule's graph under the permitted permutations
    unfoldable pub images : List M.Graph
    images = map (λ π. graph M p (moved_schedule M (moved π) s)) (permitted p)

    -- the different ones among them, and their number
    unfoldable pub class_graphs : List M.Graph
    class_graphs = firsts same_graph images

    unfoldable pub class_size : ℕ
    class_size = length class_graphs

    -- the permitted permutations that leave the schedule's graph the same
    unfoldable pub leaving : List (List ℕ)
    leaving = filter (λ π. M.renames (moved π) (graph M p s) (graph M p s)) (permitted p)

-- what the call says
pub data Class : Type 0 where
  sized : ℕ → Class
  refused_class : ℕ → ℕ → Class

-- the number that an answer says, 0 for a refusal
unfoldable pub size_in : Class → ℕ
size_in (sized n) = n
size_in (refused_class n k) = 0

module _ (M : Model) where
  -- the class call's answer by what refuses the schedule: 20 and 21 as of continue
  unfoldable pub class_by : Program → Schedule → Option (ℕ × ℕ) → Class
  class_by p s none = sized (class_size M p s)
  class_by p s (some r) = refused_class r.0 r.1

  unfoldable pub class_of : Program → Schedule → Class
  class_of p s = class_by p s (refuses_from M.system 0 (M.start p) s)

  unfoldable pub class_on : Decoded → Schedule → Class
  class_on (accepted p) s = class_of p s
  class_on (File.refused n k) s = refused_class n k

  -- the class call's answer to a program file; no output is lent
  abbrev pub class_file : List ℕ → Schedule → Class
  class_file file s = class_on (admit M (decode file)) s
