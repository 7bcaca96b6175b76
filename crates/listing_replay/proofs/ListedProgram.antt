-- The program that the memory model lists, or what refuses the file: the file's own refusal, the model's, or the program itself.
use Prim.Native.Nat.{ℕ}
use mathlib.Core.Path.{◌≡◌, sym, ap, ◌∙◌}
use mathlib.Core.Option.{none, some}
use mathlib.Core.List.{List}
use Rattle.std.specs.Prelude.{Result, Ok, Err, IsErrAnd}
use Rattle.std.proofs.lemmas.Result.{err_from_is_err_and}
use Rattle.spec_file.specs.declared.refusal.Refusal.{Refusal}
use Rattle.spec_file.specs.Decode.{Decoded, decode}
use Rattle.file_decoder.specs.declared.file.Compiled.{Compiled}
use Rattle.file_decoder.specs.Compiled.{program_of, answer_of}
use Rattle.file_decoder.proofs.Said.{answer_refused, answer_accepted}
use Rattle.spec_model.specs.Model.{Model}
use Rattle.spec_model.specs.Laws.{Laws, Admitted}
use Rattle.spec_model.specs.OnFile.{unless, admit}
use Rattle.spec_model.proofs.Admitted.{listed_program}

-- a refusal that `?` passes on is the one that was met
pub passed_on : {T : Type 0} (a : Result T Refusal) (r : Refusal) → IsErrAnd a (λ q. q ≡ r) → a ≡ Err r
passed_on a r h = let p = err_from_is_err_and a h in p.1 ∙ ap Err p.2

module _ (M : Model) where
  -- a program that is accepted then is listed
  pub answer_listed : Laws M → (a : Result Compiled Refusal) (c : Compiled) (file : List ℕ) → answer_of a ≡ admit M (decode file) → a ≡ Ok c → Admitted M (program_of c)
  answer_listed L a c file e v = listed_program M L file (program_of c) (answer_accepted a (admit M (decode file)) e c v)

  -- ---- from the decoder's answer
  module _ (a : Result Compiled Refusal) (d : Decoded) (e : answer_of a ≡ d) where
    -- the file is refused
    pub admits_refused : (r : Refusal) → a ≡ Err r → answer_of (Err r) ≡ admit M d
    unfolding admit answer_of
    admits_refused r v = sym (ap (admit M) (answer_refused a d e r v))

    module _ (c : Compiled) (v : a ≡ Ok c) where
      -- the file's program is not turned away
      pub admits_program : M.away (program_of c) ≡ none → answer_of (Ok c) ≡ admit M d
      unfolding admit unless answer_of
      admits_program h = sym (ap (admit M) (answer_accepted a d e c v) ∙ ap (unless (program_of c)) h)

      -- the file's program is turned away
      pub turned_away : (r : Refusal) → M.away (program_of c) ≡ some (r.number, r.place) → answer_of (Err r) ≡ admit M d
      unfolding admit unless answer_of
      turned_away r h = sym (ap (admit M) (answer_accepted a d e c v) ∙ ap (unless (program_of c)) h)
