-- The notes from a place on, note by note: what they state of reads.
use Prim.Native.Nat.{ℕ, suc, ◌+◌, ◌*◌, ◌-◌, ◌<◌, ◌≤◌}
use native.Mathlib.Omega.{arith}
use mathlib.Core.Path.{◌≡◌, refl, sym, ap, ◌∙◌}
use mathlib.Core.Bool.{Bool, true, false, ◌&&◌, true≢false}
use mathlib.Core.List.{List, [], ◌∷◌, ◌++◌, map}
use lib.Dec.{eqb}
use lib.ListN.{get_or}
use borrow.Author.Tests.{eqb-true}
use Rattle.spec_file.proofs.DigitValues.{both}
use Rattle.spec_schedules.specs.Lists.{range}
use Rattle.spec_schedules.proofs.Lists.{range_suc}
use Rattle.spec_sc.specs.State.{Event}
use Rattle.graph_writer.specs.NoteText.{read_in, reads_in, note_at, notes_at}
use Rattle.graph_writer.proofs.NoteGraph.{read_own, reads_nil, reads_cons}
use Rattle.graph_writer.proofs.NotesHeld.{note_thread, note_reads, notes_each}
use Rattle.class_size.specs.Moves.{read_at, notes_from}

module _ (log : List ℕ) (steps : ℕ) where
  -- from the first on all, from behind the last none
  pub from_first : notes_from log 0 steps ≡ notes_at log steps
  unfolding notes_from
  from_first = let e : steps - 0 ≡ steps = omega arith in ap (λ (n : ℕ). map (note_at log) (range 0 n)) e ∙ sym (notes_each log steps)

  pub from_last : (k : ℕ) → steps ≤ k → notes_from log k steps ≡ []
  unfolding notes_from range
  from_last k h = let e : steps - k ≡ 0 = omega arith in ap (λ (n : ℕ). map (note_at log) (range k n)) e

  -- one note, and those behind it
  pub from_next : (k : ℕ) → k < steps → notes_from log k steps ≡ note_at log k ∷ notes_from log (k + 1) steps
  unfolding notes_from
  from_next k h =
      let e : steps - k ≡ suc (steps - (k + 1)) = omega arith in
      let s : suc k ≡ k + 1 = omega arith in
      ap (λ (n : ℕ). map (note_at log) (range k n)) e ∙ ap (map (note_at log)) (range_suc k (steps - (k + 1))) ∙ ap (λ (j : ℕ). note_at log k ∷ map (note_at log) (range j (steps - (k + 1)))) s

  module _ (t k : ℕ) where
    -- thread t's reads from place k on
    abbrev pub reads_from : List (ℕ × Event)
    reads_from = reads_in t (notes_from log k steps)

    reads_next : k < steps → reads_in t (notes_from log k steps) ≡ read_in t (note_at log k) ++ reads_in t (notes_from log (k + 1) steps)
    reads_next h = ap (reads_in t) (from_next k h) ∙ reads_cons t (note_at log k) (notes_from log (k + 1) steps)

    -- whether note k states a read of t, by its bytes
    abbrev pub reads_at : Bool
    reads_at = eqb (get_or log (k * 8) 0) t && eqb (get_or log (k * 8 + 3) 0) 1

    pub read_here : k < steps → reads_at ≡ true → reads_in t (notes_from log k steps) ≡ read_at log k ∷ reads_in t (notes_from log (k + 1) steps)
    read_here h e =
        let b = both (eqb (get_or log (k * 8) 0) t) (eqb (get_or log (k * 8 + 3) 0) 1) e in
        reads_next h ∙ ap (λ (l : List (ℕ × Event)). l ++ reads_in t (notes_from log (k + 1) steps))
        (read_own t (note_at log k) (note_thread log k ∙ eqb-true (get_or log (k * 8) 0) t b.0) (note_reads log k ∙ b.1))

    pub read_elsewhere : k < steps → reads_at ≡ false → reads_in t (notes_from log k steps) ≡ reads_in t (notes_from log (k + 1) steps)
    unfolding read_in note_at
    read_elsewhere h e = reads_next h ∙ ap (λ (l : List (ℕ × Event)). l ++ reads_in t (notes_from log (k + 1) steps)) (go (eqb (get_or log (k * 8) 0) t) (eqb (get_or log (k * 8 + 3) 0) 1) refl refl)
      where
        go : (a b : Bool) → eqb (get_or log (k * 8) 0) t ≡ a → eqb (get_or log (k * 8 + 3) 0) 1 ≡ b → read_in t (note_at log k) ≡ []
        go true true p q = absurd (true≢false (let z : (eqb (get_or log (k * 8) 0) t && eqb (get_or log (k * 8 + 3) 0) 1) ≡ true = rw (p, q) in sym z ∙ e))
        go true false p q = rw (p, q)
        go false b p q = rw p

    pub reads_last : steps ≤ k → reads_in t (notes_from log k steps) ≡ []
    reads_last h = ap (reads_in t) (from_last k h) ∙ reads_nil t
