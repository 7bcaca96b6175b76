-- Bytes: the kind and the thread of a byte, and the byte for them.
use Prim.Native.Nat.{ℕ, ◌+◌, ◌-◌, ◌<◌, ◌≤◌}
use mathlib.Core.Path.{◌≡◌, sym, ap, ap₂, ◌∙◌}
use mathlib.Core.Logic.{◌≢◌}
use mathlib.Core.Bool.{true≢false}
use native.Mathlib.Omega.{arith}
use native.Mathlib.Decide.{dec_lt}
use borrow.Author.Tests.{lt-ltb, le-ltb}
use Rattle.spec_tso.specs.State.{Kind, access, move, kind_of, owner_by, owner, byte_for}
use Rattle.spec_tso.specs.Actions.{moving}

-- an access is no move
pub access≢move : access ≢ move
unfolding moving
access≢move e = true≢false (sym (ap moving e))

pub move≢access : move ≢ access
move≢access e = access≢move (sym e)

-- a byte below sixteen is an access's, any other a move's
pub kind_low : (b : ℕ) → b < 16 → kind_of b ≡ access
unfolding kind_of
kind_low b h = let e = lt-ltb b 16 h in rw (e, kind_of)

pub kind_high : (b : ℕ) → 16 ≤ b → kind_of b ≡ move
unfolding kind_of
kind_high b h = let e = le-ltb b 16 h in rw (e, kind_of)

owner_low : (b : ℕ) → b < 16 → owner b ≡ b
unfolding owner owner_by
owner_low b h = ap (λ (k : Kind). owner_by k b) (kind_low b h)

owner_high : (b : ℕ) → 16 ≤ b → owner b ≡ b - 16
unfolding owner owner_by
owner_high b h = ap (λ (k : Kind). owner_by k b) (kind_high b h)

-- what is shown of both sorts of bytes, by kind and thread
pub data ByteCase (b : ℕ) : Type 0 where
  of_access : b < 16 → kind_of b ≡ access → owner b ≡ b → ByteCase b
  of_move : 16 ≤ b → kind_of b ≡ move → owner b ≡ b - 16 → ByteCase b

pub byte_case : (b : ℕ) → ByteCase b
byte_case b = go (dec_lt b 16)
  where
    go : Dec (b < 16) → ByteCase b
    go (yes h) = of_access h (kind_low b h) (owner_low b h)
    go (no h) = let i : 16 ≤ b = omega arith in of_move i (kind_high b i) (owner_high b i)

-- the byte for a kind and a thread has that kind and that thread
pub kind_for : (k : Kind) (t : ℕ) → t < 16 → kind_of (byte_for k t) ≡ k
unfolding byte_for
kind_for access t h = kind_low t h
kind_for move t h = kind_high (t + 16) (omega arith)

pub owner_for : (k : Kind) (t : ℕ) → t < 16 → owner (byte_for k t) ≡ t
unfolding byte_for
owner_for access t h = owner_low t h
owner_for move t h = let e = owner_high (t + 16) (omega arith) in omega arith

-- a move's byte, of whatever thread
pub kind_move : (t : ℕ) → kind_of (byte_for move t) ≡ move
unfolding byte_for
kind_move t = kind_high (t + 16) (omega arith)

pub owner_move : (t : ℕ) → owner (byte_for move t) ≡ t
unfolding byte_for
owner_move t = let e = owner_high (t + 16) (omega arith) in omega arith

-- a byte is the byte for its kind and its thread
pub for_owner : (b : ℕ) → byte_for (kind_of b) (owner b) ≡ b
unfolding byte_for
for_owner b = go (byte_case b)
  where
    go : ByteCase b → byte_for (kind_of b) (owner b) ≡ b
    go (of_access h k o) = ap₂ byte_for k o
    go (of_move h k o) = ap₂ byte_for k o ∙ (omega arith)

-- two bytes of one kind and one thread are one
pub byte_of : (a b : ℕ) → kind_of a ≡ kind_of b → owner a ≡ owner b → a ≡ b
byte_of a b k o = sym (for_owner a) ∙ ap₂ byte_for k o ∙ for_owner b

-- a byte below sixteen is its own thread's
pub owner_access : (b : ℕ) → kind_of b ≡ access → (owner b ≡ b) × (b < 16)
owner_access b e = go (byte_case b)
  where
    go : ByteCase b → (owner b ≡ b) × (b < 16)
    go (of_access h k o) = (o, h)
    go (of_move h k o) = absurd (access≢move (sym e ∙ k))
