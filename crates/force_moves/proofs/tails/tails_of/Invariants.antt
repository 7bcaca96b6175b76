-- `tails_of` asks one thread after the other. The invariant: the numbers of those before t stand in the array.
use Rattle.std.proofs.Common.{ℕ, ◌<◌, ◌≤◌, length, get_or, drop, ◌≡◌}
use Rattle.spec_file.specs.WellFormed.{Everywhere}
use Rattle.file_rows.specs.Rows.{thread_code}
use Rattle.spec_force.proofs.Silent.{Harmless}
use Rattle.force_moves.proofs.tails.tails_of.Given as goal

abbrev pub invariant-loop-t : goal.invariant-loop-t
invariant-loop-t l =
    (l.t ≤ l.program.threads) × (length l.all ≡ 6) × ((u : ℕ) → u < l.t → (i : ℕ) → get_or l.all u 0 ≤ i → Everywhere Harmless (drop i (thread_code l.program.code u (get_or l.program.lengths u 0))))
