-- After the last line: a skip too far, or the program.
use Prim.Native.Nat.{ℕ, zero, suc, ◌≤◌, ◌<◌}
use native.Mathlib.Omega.{arith}
use mathlib.Core.Path.{◌≡◌, sym}
use mathlib.Core.List.{List, [], ◌∷◌}
use lib.ListN.{length, get_or}
use borrow.Author.Tests.{eq-eqb, ne_eqb}
use Rattle.std.specs.Prelude.{Some, None}
use Rattle.file_lines.specs.Numbers.{unless_zero}
use Rattle.file_lines.proofs.Numbers.{unless_none, unless_some}
use Rattle.spec_file.specs.WellFormed.{Everywhere}
use Rattle.spec_file.proofs.Everywhere.{everywhere_get_d}
use Rattle.file_refusals.specs.declared.counts.Counts.{Counts}
use Rattle.spec_file.specs.Decode.{Placed, Reading, thread_at, first_far_skip, program_in, accepted, refused, finish}
use Rattle.file_refusals.specs.Held.{no_instruction, frame_at, Bounded, Holds}
use Rattle.file_decoder.specs.Held.{line_at, Lined, Numbered, HeldThreads}
use Rattle.file_refusals.proofs.HeldCode.{held_short}

-- the line of an instruction that was read
numbered_at : (xs : List Placed) (i : ℕ) → Everywhere (λ (x : Placed). 1 ≤ x.line) xs → i < length xs → 1 ≤ (get_or xs i no_instruction).line
numbered_at [] i w h = absurd (omega arith)
numbered_at (x ∷ xs) zero w h = w.0
numbered_at (x ∷ xs) (suc i) w h = numbered_at xs i w.1 (omega arith)

module _ (code rows : List ℕ) (s : Counts) (r : Reading) (bounded : Bounded s) (held : Holds code s r) (lined : Lined rows r) (numbered : Numbered r) where
  -- the threads, as the arrays hold them
  pub held_threads : HeldThreads code rows s.threads s.lengths r.threads
  unfolding thread_at frame_at line_at
  held_threads = record {
    threads = held.threads;
    lengths = held.lengths;
    each = λ t. record {
      bytes = λ i j h k. let b = held_short code s r bounded held t in held.bytes t i j (omega arith) k;
      lines = λ i h. lined.lines t i h;
      numbered = λ i h. numbered_at (get_or r.threads t []) i (everywhere_get_d (Everywhere (λ (x : Placed). 1 ≤ x.line)) r.threads t [] numbered tt) h;
    };
  }

-- what comes of the first skip that goes too far
module _ (r : Reading) where
  pub finish_far : (k : ℕ) → Some k ≡ unless_zero (first_far_skip r.threads) → finish r ≡ refused 7 k
  unfolding finish
  finish_far k e =
      let q = unless_some (first_far_skip r.threads) k (sym e) in
      rw (q.0, ne_eqb k 0 (λ z. omega arith))

  pub finish_program : None ≡ unless_zero (first_far_skip r.threads) → finish r ≡ accepted (program_in r)
  unfolding finish
  finish_program e = rw (eq-eqb (first_far_skip r.threads) 0 (unless_none _ (sym e)))
