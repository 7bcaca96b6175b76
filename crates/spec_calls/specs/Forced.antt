-- What the call says that asks who can force the failure: answered for the hostile side, with its least first step that keeps the win, plus
-- 1, or 0 where it has no step; nothing for the friendly side; or the refusal.
use Rattle.std.specs.Prelude.{◌+◌}
use Rattle.std.proofs.Math.Option.{none, some}
use Rattle.spec_force.specs.Forced.{Answer, hostile_can, friendly_can, refusing}
use Rattle.spec_calls.specs.Word as word

unfoldable pub force_reply : Answer → word.Reply
force_reply (hostile_can none) = word.answered 0
force_reply (hostile_can (some t)) = word.answered (t + 1)
force_reply friendly_can = word.nothing
force_reply (refusing n k) = word.refused n k
