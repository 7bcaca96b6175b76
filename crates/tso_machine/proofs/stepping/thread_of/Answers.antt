-- By the two sorts of bytes.
use Rattle.std.proofs.Common.{ℕ, ◌-◌, ◌<◌, ◌≤◌, arith, ◌≡◌, sym}
use Rattle.spec_tso.specs.State.{owner}
use Rattle.spec_tso.proofs.Bytes.{ByteCase, of_access, of_move, byte_case}
use Rattle.tso_machine.proofs.stepping.thread_of.Goals as goal

low : (b : ℕ) → b < 16 → b ≡ owner b
low b h = go (byte_case b)
  where
    go : ByteCase b → b ≡ owner b
    go (of_access i k o) = sym o
    go (of_move i k o) = absurd (omega arith)

high : (b : ℕ) → 16 ≤ b → b - 16 ≡ owner b
high b h = go (byte_case b)
  where
    go : ByteCase b → b - 16 ≡ owner b
    go (of_access i k o) = absurd (omega arith)
    go (of_move i k o) = sym o

pub returns-then-b-lt16 : goal.returns-then-b-lt16
returns-then-b-lt16 c = low c.args.b c.if-b-lt16.true

pub returns-else-b-lt16 : goal.returns-else-b-lt16
returns-else-b-lt16 c = high c.args.b c.if-b-lt16.false
