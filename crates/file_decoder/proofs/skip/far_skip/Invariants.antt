-- `far_skip` takes one thread after the other. The invariant: what is left decides.
use Rattle.std.proofs.Common.{◌≡◌, List, drop}
use Rattle.spec_file.specs.Decode.{Placed, first_far_skip}
use Rattle.file_decoder.specs.Held.{HeldThreads}
use Rattle.file_decoder.proofs.skip.far_skip.Given as goal

abbrev pub invariant-loop-t : goal.invariant-loop-t
invariant-loop-t l =
    (cs : List (List Placed)) → HeldThreads l.code l.rows l.threads l.lengths cs → first_far_skip cs ≡ first_far_skip (drop l.t cs)
