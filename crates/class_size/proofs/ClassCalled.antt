-- What the class call answers, by what carrying out the schedule left.
use Prim.Native.Nat.{ℕ, ◌/◌, ◌%◌, ◌<◌}
use mathlib.Core.Path.{◌≡◌, sym, ap, ◌∙◌}
use mathlib.Core.Bool.{Bool, false, ◌&&◌}
use mathlib.Core.List.{List}
use lib.ListN.{length, get_or}
use Rattle.std.specs.Prelude.{Result, Ok, Err, ⊤}
use Rattle.spec_file.specs.declared.refusal.Refusal.{Refusal}
use Rattle.spec_file.specs.Program.{Program}
use Rattle.spec_file.specs.Decode.{Decoded, accepted, refused, decode}
use Rattle.spec_schedules.specs.Lists.{filter}
use Rattle.spec_schedules.specs.Order.{Schedule}
use Rattle.spec_schedules.specs.Permutations.{permutations}
use Rattle.spec_model.specs.Model as Memory
use Rattle.spec_model.specs.Laws.{Admitted}
use Rattle.spec_model.specs.OnFile.{admit}
use Rattle.spec_model.specs.ClassSize.{sized, class_by, class_of, class_on, class_file}
use Rattle.spec_model.proofs.Refusing.{goes_full}
use Rattle.graph_writer.specs.Notes.{Note}
use Rattle.graph_writer.specs.NoteText.{notes_at}
use Rattle.machine_replay.specs.Carried.{refusal_of}
use Rattle.listing_model.specs.declared.memory.Model.{Model}
use Rattle.listing_model.specs.ModelOf.{model_of}
use Rattle.listing_replay.specs.declared.replaying.Replay.{Replay}
use Rattle.listing_replay.specs.Replays.{Replays}
use Rattle.class_size.specs.ClassWord.{class_answer_of}
use Rattle.class_size.specs.Moves.{unmoved_in, may_go, goes_by, goes_where, quotient}
use Rattle.class_size.proofs.Goes.{filter_agree, goes_where_lem}
use Rattle.class_size.proofs.Divided.{divided_size}

-- ---- two counts divided
counted_where : (may : List Bool) (test : ℕ → ℕ → Bool) → ((k : ℕ) → k < 36 → get_or may k false ≡ test (k / 6) (k % 6)) → length (filter (goes_by may) permutations) ≡ length (filter (goes_where test) permutations)
counted_where may test h = ap length (filter_agree (goes_by may) (goes_where test) permutations (goes_where_lem may test h))

module _ (groups : List (List ℕ)) (ns : List Note) (may left : List Bool) (a : (k : ℕ) → k < 36 → get_or may k false ≡ may_go groups (k / 6) (k % 6))
    (b : (k : ℕ) → k < 36 → get_or left k false ≡ (get_or may k false && unmoved_in ns (k / 6) (k % 6))) where
  abbrev Both : ℕ → ℕ → Bool
  Both t u = may_go groups t u && unmoved_in ns t u

  pub leave_counted : length (filter (goes_by left) permutations) ≡ length (filter (goes_where Both) permutations)
  leave_counted = counted_where left Both (λ k h. b k h ∙ ap (λ (x : Bool). x && unmoved_in ns (k / 6) (k % 6)) (a k h))

  pub counts_divided : (n m : ℕ) → n ≡ length (filter (goes_by may) permutations) → m ≡ length (filter (goes_by left) permutations) → n / m ≡ quotient groups ns
  unfolding quotient
  counts_divided n m e f =
      ap (λ (x : ℕ). x / m) (e ∙ counted_where may (may_go groups) a)
      ∙ ap (λ (x : ℕ). length (filter (goes_where (may_go groups)) permutations) / x) (f ∙ leave_counted)

-- ---- of a listed program
module _ (m : Model) (p : Program) (s : Schedule) (r : Replay) (held : Replays m p s r) where
  answered : class_of (model_of m) p s ≡ class_by (model_of m) p s (refusal_of r.end)
  unfolding class_of
  answered = ap (class_by (model_of m) p s) (sym held.answer)

  pub class_refused : (q : Refusal) → r.end ≡ Err q → Err q ≡ class_answer_of (class_of (model_of m) p s)
  unfolding class_by refusal_of class_answer_of
  class_refused q e = sym (ap class_answer_of (answered ∙ ap (λ (v : Result ⊤ Refusal). class_by (model_of m) p s (refusal_of v)) e))

  pub class_sized : Admitted (model_of m) p → r.end ≡ Ok tt → Ok (quotient p.groups (notes_at r.log r.notes)) ≡ class_answer_of (class_of (model_of m) p s)
  unfolding class_by refusal_of class_answer_of
  class_sized a e =
      let full = goes_full (model_of m).system s 0 ((model_of m).start p) (sym held.answer ∙ ap refusal_of e) in
      sym (ap class_answer_of (answered ∙ ap (λ (v : Result ⊤ Refusal). class_by (model_of m) p s (refusal_of v)) e)
      ∙ ap (λ (n : ℕ). class_answer_of (sized n)) (sym (divided_size m p a s full (notes_at r.log r.notes) (held.graph e))))

-- ---- of a program file
module _ (M : Memory.Model) (file : List ℕ) (s : Schedule) where
  pub file_refused : (r : Refusal) → admit M (decode file) ≡ refused r.number r.place → Err r ≡ class_answer_of (class_file M file s)
  unfolding class_on class_answer_of
  file_refused r e = ap (λ (d : Decoded). class_answer_of (class_on M d s)) (sym e)

  pub file_sized : (p : Program) → admit M (decode file) ≡ accepted p → class_of M p s ≡ class_file M file s
  unfolding class_on
  file_sized p e = ap (λ (d : Decoded). class_on M d s) (sym e)
