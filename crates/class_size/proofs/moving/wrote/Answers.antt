-- `wrote` asks whether any note is of a write by the thread.
use Rattle.std.proofs.Common.{ℕ, zero, suc, ◌+◌, add-one, ◌*◌, ◌≡◌, Bool, true, false, ◌&&◌, List, map, eqb, get_or, refl, ◌∙◌, arith, rules, tests}
use Rattle.std.specs.List.{list_any, range_with_len}
use Rattle.std.proofs.lemmas.Iterator.{YieldsList-from_range}
use Rattle.std.proofs.lemmas.Iterator.Search.{any_from_yields_List}
use Rattle.spec_schedules.specs.Lists.{range, any}
use Rattle.graph_writer.specs.NoteText.{note_at, notes_at}
use Rattle.class_size.specs.Moves.{write_by, wrote_in}
use Rattle.class_size.proofs.moving.wrote.Goals as goal

module _ (log : List ℕ) (t : ℕ) where
  -- what the code asks of note k
  abbrev writes_at : ℕ → Bool
  writes_at k = eqb (get_or log (k * 8) 0) t && eqb (get_or log (k * 8 + 6) 0) 1

  -- of the notes from place k on it asks what is asked of them
  asked : (k n : ℕ) → list_any writes_at (range_with_len k n) ≡ any (write_by t) (map (note_at log) (range k n))
  unfolding any range note_at
  asked k zero = refl
  asked k (suc n) = go (writes_at k) refl (rw add-one (asked (suc k) n))
    where
      go : (b : Bool) → writes_at k ≡ b → list_any writes_at (range_with_len (k + 1) n) ≡ any (write_by t) (map (note_at log) (range (suc k) n))
          → list_any writes_at (range_with_len k (suc n)) ≡ any (write_by t) (map (note_at log) (range k (suc n)))
      go true p ih = rw (p, any) refl
      go false p ih = rw (p, any) ih

pub returns : goal.returns
unfolding wrote_in notes_at
returns c =
    let args = c.args in
    let yields = YieldsList-from_range 0 args.steps args.steps refl (omega arith) in
    any_from_yields_List (writes_at args.log.now args.t) _ _ _ c.any.ensures.ran yields (λ x b q k. search (rules, tests)) ∙ asked args.log.now args.t 0 args.steps
