-- `accesses_in` looks at one row after the other. The invariant: the accesses of the instructions so far are counted.
use Rattle.std.proofs.Common.{◌≡◌, ℕ, ◌≤◌, List}
use Rattle.spec_file.specs.WellFormed.{accesses}
use Rattle.file_rows.specs.Rows.{thread_code}
use Rattle.machine_access.proofs.counting.accesses_in.Given as goal

abbrev pub Counted : List ℕ → ℕ → ℕ → ℕ → ℕ → Type 0
Counted code t n count i = (count ≤ i) × (i ≤ n) × (count ≡ accesses (thread_code code t i))

abbrev pub invariant-loop-i : goal.invariant-loop-i
invariant-loop-i l = Counted l.code l.t l.n l.count l.i
