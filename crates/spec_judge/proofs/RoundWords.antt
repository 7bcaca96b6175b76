-- The rounds give 32-bit values, whatever the graph says.
use Prim.Native.Nat.{ℕ, zero, suc}
use mathlib.Core.Path.{◌≡◌, refl}
use mathlib.Core.Bool.{Bool, true, false}
use mathlib.Core.Option.{Option, none, some}
use native.Mathlib.Omega.{arith}
use Rattle.spec_file.specs.Program.{Program}
use Rattle.spec_file.specs.WellFormed.{WellFormed}
use Rattle.spec_sc.specs.State.{Event, initial_write}
use Rattle.spec_sc.specs.Graph.{Graph}
use Rattle.spec_sc.proofs.Words.{Word, Words, next_words, puts_word, start_words, initial_word}
use Rattle.spec_judge.specs.Consistent.{row_of, Values, alone, local_at, location_of, out_of}
use Rattle.spec_sc.specs.Same.{same_event}
use Rattle.spec_judge.proofs.RoundValues.{source_in, or_zero, left_by, next_round, values}

module _ (p : Program) (wf : WellFormed p) where
  -- a thread by itself on such values
  alone_words : (v : Values) → ((e : Event) → Word (v e)) → (t i : ℕ) → Words (alone p v t i)
  unfolding alone
  alone_words v w t zero = start_words p wf t
  alone_words v w t (suc i) = next_words (alone p v t i) (v (t, i)) (alone_words v w t i) (w (t, i))

  left_word : (v : Values) → ((e : Event) → Word (v e)) → (s : Event) (l : ℕ) → Word (left_by p v s l)
  unfolding left_by or_zero
  left_word v w s l = go (same_event s initial_write) refl
    where
      written : (o : Option ℕ) → out_of p v s ≡ o → Word (or_zero o)
      written none q = omega arith
      written (some x) q = puts_word (local_at p v s) (v s) x (alone_words v w s.0 s.1) q

      go : (b : Bool) → same_event s initial_write ≡ b → Word (left_by p v s l)
      go true q = rw (q, left_by) (initial_word p wf l)
      go false q = rw (q, left_by) (written (out_of p v s) refl)

  pub round_words : (g : Graph) (n : ℕ) (e : Event) → Word (values p g n e)
  unfolding values next_round
  round_words g zero e = omega arith
  round_words g (suc n) e = left_word (values p g n) (round_words g n) (source_in (row_of g e.0) e.1) (location_of p (values p g n) e)
