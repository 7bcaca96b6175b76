-- WHAT IS PROMISED OF THE SIZES OF CLASSES, of any memory model and a file that it lists. p is the program that the file is read as.
use Rattle.std.specs.Prelude.{ℕ, ◌*◌, ◌^◌, ◌%◌, ◌<◌, ◌≡◌, ◌↔◌, Bool, true, length}
use mathlib.Core.List.{List, Memᴰ}
use Rattle.spec_file.specs.Program.{Program}
use Rattle.spec_file.specs.Decode.{accepted, decode}
use Rattle.spec_file.specs.Ungrouped.{ungrouped, without_alike}
use Rattle.spec_schedules.specs.Lists.{filter, Distinct}
use Rattle.spec_schedules.specs.Order.{Schedule}
use Rattle.spec_model.specs.Exchange.{permitted}
use Rattle.spec_model.specs.Model.{Model, Full, graph, failing}
use Rattle.spec_model.specs.Alike.{Alike, list_of}
use Rattle.spec_model.specs.OnFile.{admit, counted, count_file}
use Rattle.spec_model.specs.ClassSize.{total, class_graphs, class_size, leaving, sized, size_in, class_file}

-- what a model shows beside its laws so that classes can be counted: neither its start nor what it turns away sees the groups
pub record GroupsUnseen (M : Model) : Type 0 where
  pub start : (p : Program) → M.start (ungrouped p) ≡ M.start p
  pub away : (p : Program) → M.away (ungrouped p) ≡ M.away p

pub record Classes (M : Model) (file : List ℕ) (p : Program) : Type 0 where
  -- THE NUMBER is that of the graphs of a class: each of them is counted once
  pub distinct : (s : Schedule) → Full M p s → Distinct (class_graphs M p s)
  -- the graphs counted are exactly those of full schedules alike to the given one
  pub exact : (s : Schedule) → Full M p s → (g : M.Graph) → Memᴰ g (class_graphs M p s) ↔
      ((r : Schedule) × Full M p r × Alike M p s r × (graph M p r ≡ g))
  -- the schedule's own graph is counted
  pub own : (s : Schedule) → Full M p s → Memᴰ (graph M p s) (class_graphs M p s)
  -- alike schedules have one number
  pub alike_same : (r s : Schedule) → Full M p r → Full M p s → Alike M p r s → class_size M p r ≡ class_size M p s
  -- THE CLASS CALL answers that number for every full schedule, listed or not
  pub called : (s : Schedule) → Full M p s → class_file M file s ≡ sized (class_size M p s)
  -- TIMES the number of permitted permutations that leave the graph the same, a class's number is that of all permitted permutations
  pub times : (s : Schedule) → Full M p s → class_size M p s * length (leaving M p s) ≡ length (permitted p)
  -- the number of a class is not more than 720
  pub few : (s : Schedule) → Full M p s → class_size M p s < 721
  -- OVER THE WHOLE LIST the numbers of the classes sum to the length of the list of the program without groups
  pub sum : total (class_size M p) (list_of M p) ≡ length (list_of M (ungrouped p))
  -- what the class call answers for the members of the list sums to that length
  pub sum_called : total (λ s. size_in (class_file M file s)) (list_of M p) ≡ length (list_of M (ungrouped p))
  -- over the members that pass a test that tells no alike ones apart, as those with one outcome, the numbers sum to how many pass in the
  -- list of the program without groups
  pub sum_of : (f : Schedule → Bool) → ((r s : Schedule) → Full M p r → Full M p s → Alike M p r s → f r ≡ f s) →
      total (class_size M p) (filter f (list_of M p)) ≡ length (filter f (list_of M (ungrouped p)))
  -- THE FILE WITH ITS `02` LINES TAKEN OUT is listed too, as the program without groups
  pub listed_too : admit M (decode (without_alike file)) ≡ accepted (ungrouped p)
  -- the count call on the file without `02` lines answers the sums over the list, and over its members that fail, modulo 2^64
  pub counts : count_file M (without_alike file) ≡ counted (record {
    listed = total (class_size M p) (list_of M p) % 2 ^ 64;
    failed = total (class_size M p) (filter (failing M p) (list_of M p)) % 2 ^ 64;
  })
