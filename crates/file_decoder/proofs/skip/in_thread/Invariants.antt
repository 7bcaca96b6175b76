-- `in_thread` looks at one instruction after the other. The invariant: what is left decides.
use Rattle.std.proofs.Common.{◌≡◌, List, length, drop}
use Rattle.spec_file.specs.Decode.{Placed, far_skip}
use Rattle.file_decoder.specs.Held.{HeldThread}
use Rattle.file_decoder.proofs.skip.in_thread.Given as goal

abbrev pub invariant-loop-i : goal.invariant-loop-i
invariant-loop-i l =
    (xs : List Placed) → HeldThread l.code l.rows l.t xs → l.n ≡ length xs → far_skip xs ≡ far_skip (drop l.i xs)
