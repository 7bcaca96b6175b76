-- What an answer says of the number that it stands for.
use Prim.Native.Nat.{ℕ, zero, suc, ◌≤◌}
use native.Mathlib.Omega.{arith}
use mathlib.Core.Path.{◌≡◌, refl}
use borrow.Author.Tests.{ne_eqb}
use Rattle.std.specs.Prelude.{None, Some}
use Rattle.file_lines.specs.Numbers.{unless_zero}

pub unless_positive : (n : ℕ) → 1 ≤ n → unless_zero n ≡ Some n
unless_positive n h = rw (ne_eqb n 0 (λ z. omega arith))

pub unless_none : (n : ℕ) → unless_zero n ≡ None → n ≡ 0
unless_none zero e = refl
unless_none (suc n) e = let q = unless_positive (suc n) (omega arith) in cc

pub unless_some : (n k : ℕ) → unless_zero n ≡ Some k → (n ≡ k) × (1 ≤ k)
unless_some zero k e = absurd (let z : ◌≡◌ {A = ℕ} 0 1 = cc in omega arith)
unless_some (suc n) k e = let q = unless_positive (suc n) (omega arith) in let z : suc n ≡ k = cc in (z, omega arith)
