-- Whether one graph is another with its threads exchanged, as a test.
use Rattle.std.specs.Prelude.{ℕ, Bool, ◌&&◌, [], map, length, get_or}
use Rattle.spec_schedules.specs.Lists.{range, all}
use Rattle.spec_sc.specs.Graph.{Graph}
use Rattle.spec_sc.specs.Exchange.{moved_reads, moved_writes}
use Rattle.spec_sc.specs.Same.{same_event, same_read}
use Rattle.spec_file.specs.Lists.{same_list}

-- whether π turns the first graph into the second
unfoldable pub renames : (ℕ → ℕ) → Graph → Graph → Bool
renames π g h =
    same_list (same_list same_event) (map (moved_writes π) g.writes) h.writes
    && all (λ t. same_list same_read (moved_reads π (get_or g.reads t [])) (get_or h.reads (π t) [])) (range 0 (length g.reads))
