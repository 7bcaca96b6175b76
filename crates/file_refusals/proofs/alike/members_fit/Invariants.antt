-- `members_fit` takes the members one after the other. The invariant: what is left decides.
use Rattle.std.proofs.Common.{◌≤◌, ◌<◌, ◌≡◌, drop}
use Rattle.spec_file.specs.Frame.{pairs}
use Rattle.spec_file.specs.Decode.{Reading, members_fit, followers_fit}
use Rattle.file_refusals.specs.Held.{Holds}
use Rattle.file_refusals.proofs.alike.members_fit.Given as goal

abbrev pub invariant-loop-j : goal.invariant-loop-j
invariant-loop-j l =
    (l.t < 6) × (2 ≤ l.j) × (l.j ≤ l.n) × ((r : Reading) → Holds l.code l.s r → members_fit r (drop 1 (pairs l.line)) ≡ followers_fit r l.t (drop l.j (pairs l.line)))
