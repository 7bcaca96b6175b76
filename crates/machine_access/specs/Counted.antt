-- Accesses counted in rows.
use Rattle.std.specs.Prelude.{ℕ, List, slice_index}
use Rattle.spec_file.specs.WellFormed.{all_accesses}
use Rattle.spec_file.specs.Tabulate.{tabulate}
use Rattle.file_rows.specs.Rows.{thread_code}

-- the accesses of the first n threads
unfoldable pub accesses_below : List ℕ → List ℕ → ℕ → ℕ
accesses_below code lengths n = all_accesses (tabulate (λ t. thread_code code t (slice_index lengths t)) n)
