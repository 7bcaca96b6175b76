-- Two lists of reads compared read by read, each at the note of its next one.
use Prim.Native.Nat.{ℕ, ◌+◌}
use mathlib.Core.Path.{◌≡◌, refl, sym, ◌∙◌}
use mathlib.Core.Bool.{Bool, true, false, not, ◌&&◌}
use mathlib.Core.List.{List}
use Rattle.std.specs.Prelude.{Option, Some, None, is_some}
use Rattle.spec_sc.specs.Same.{same_read}
use Rattle.spec_file.specs.Lists.{same_list}
use Rattle.spec_sc.proofs.Same.{same_nil, same_cons, same_shorter, same_longer}
use Rattle.graph_writer.specs.NoteText.{reads_in}
use Rattle.class_size.specs.Moves.{read_at, reads_on, notes_from}

module _ (log : List ℕ) (steps t u : ℕ) where
  -- whether the reads of both threads are the same, from these places on
  abbrev pub SameOn : Option ℕ → Option ℕ → Bool
  SameOn a b = same_list same_read (reads_on log steps t a) (reads_on log steps u b)

  -- the first of both are compared, then the rest
  pub same_on_next : (a b : ℕ) → SameOn (Some a) (Some b)
      ≡ (same_read (read_at log a) (read_at log b) && same_list same_read (reads_in t (notes_from log (a + 1) steps)) (reads_in u (notes_from log (b + 1) steps)))
  same_on_next a b = same_cons same_read (read_at log a) (reads_in t (notes_from log (a + 1) steps)) (read_at log b) (reads_in u (notes_from log (b + 1) steps))

  pub reads_differ : (a b : ℕ) → same_read (read_at log a) (read_at log b) ≡ false → false ≡ SameOn (Some a) (Some b)
  reads_differ a b e = sym (same_on_next a b ∙ rw e)

  pub reads_agree : (a b : ℕ) → same_read (read_at log a) (read_at log b) ≡ true
      → same_list same_read (reads_in t (notes_from log (a + 1) steps)) (reads_in u (notes_from log (b + 1) steps)) ≡ SameOn (Some a) (Some b)
  reads_agree a b e = sym (same_on_next a b ∙ rw e)

  -- where t has no more they are the same if u has no more either
  pub reads_end : (a b : Option ℕ) (r : Bool) → is_some a ≡ not true → is_some b ≡ not r → r ≡ SameOn a b
  reads_end None None true g h = sym (same_nil same_read)
  reads_end None (Some y) false g h = sym (same_shorter same_read (read_at log y) (reads_in u (notes_from log (y + 1) steps)))
  reads_end None None false g h = cc
  reads_end None (Some y) true g h = cc
  reads_end (Some x) b r g h = cc

  -- where t has one more they differ if u has none
  pub reads_longer : (a b : Option ℕ) → is_some a ≡ not false → ((x y : ℕ) → a ≡ Some x → b ≡ Some y → ⊥) → false ≡ SameOn a b
  reads_longer (Some x) None g h = sym (same_longer same_read (read_at log x) (reads_in t (notes_from log (x + 1) steps)))
  reads_longer None b g h = cc
  reads_longer (Some x) (Some y) g h = absurd (h x y refl refl)

pub some_none : (o : Option ℕ) (x : ℕ) → o ≡ None → o ≡ Some x → ⊥
some_none o x e f = cc
