-- What the slot that begins at a place says of a key. A slot is a key and, behind it, what is known of it: `width` words. The key is compared
-- word by word, all of it. A key whose first word is 0 stands in no slot, so zeros say nothing; a slot that the words end before says
-- nothing either.
use Rattle.std.specs.Prelude.{ℕ, ◌+◌, cond, List, length, take, drop, ◌==◌, nat_eq, nat_le, slice_index}
use Rattle.std.proofs.Math.Option.{Option, none, some}
use Rattle.spec_file.specs.Lists.{same_list}

-- so many words from a place on
abbrev pub part : List ℕ → ℕ → ℕ → List ℕ
part m at n = take n (drop at m)

unfoldable pub said_at : ℕ → ℕ → List ℕ → List ℕ → Option (List ℕ)
said_at at width m k =
    cond (slice_index k 0 == 0) none
    (cond (nat_le (at + (length k + width)) (length m)) (cond (same_list nat_eq (part m at (length k)) k) (some (part m (at + length k) width)) none) none)
