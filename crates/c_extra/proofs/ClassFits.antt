-- What the class call says fits its word, in both memory models: at most 720 graphs, and small refusals.
use Prim.Native.Nat.{ℕ, ◌+◌}
use mathlib.Core.Path.{◌≡◌, refl}
use mathlib.Core.Option.{Option, none, some}
use mathlib.Core.List.{List}
use native.Mathlib.Omega.{arith}
use Rattle.spec_file.specs.Program.{Program}
use Rattle.spec_file.specs.Decode.{Decoded, accepted, refused, decode}
use Rattle.spec_schedules.specs.Order.{Schedule}
use Rattle.spec_model.specs.Laws.{Admitted}
use Rattle.spec_model.specs.Answers.{refuses_from}
use Rattle.spec_model.specs.OnFile.{admit}
use Rattle.spec_model.specs.ClassSize.{class_by, class_of, class_on, class_file}
use Rattle.spec_model.proofs.Admitted.{listed_program}
use Rattle.spec_model.proofs.Answered.{Small, refuses_small}
use Rattle.spec_model.proofs.Refusing.{goes_full}
use Rattle.spec_model.proofs.ClassSize.{class_few}
use Rattle.listing_model.specs.declared.memory.Model.{Model}
use Rattle.listing_model.specs.ModelOf.{model_of}
use Rattle.listing_model.proofs.ModelLaws.{model_laws}
use Rattle.listing_model.proofs.SmallRefusals.{steps_48, refused_small}
use Rattle.spec_calls.specs.Word.{Fits}
use Rattle.spec_calls.specs.Classed.{class_reply}

pub class_fits : (m : Model) (file : List ℕ) (s : Schedule) → Fits (class_reply (class_file (model_of m) file s))
unfolding class_reply class_on class_of class_by
class_fits m file s = go (admit (model_of m) (decode file)) refl
  where
    by : (p : Program) → Admitted (model_of m) p → (o : Option (ℕ × ℕ)) → refuses_from (model_of m).system 0 ((model_of m).start p) s ≡ o →
        Small 21 (0 + (model_of m).system.size ((model_of m).start p)) o → Fits (class_reply (class_by (model_of m) p s o))
    by p a none e h = omega (arith, class_few (model_of m) (model_laws m) p a s (goes_full (model_of m).system s 0 ((model_of m).start p) e))
    by p a (some r) e h = (omega (arith, h.0), omega (arith, h.1, ((model_laws m).program p a).bound, steps_48 m))

    go : (d : Decoded) → admit (model_of m) (decode file) ≡ d → Fits (class_reply (class_on (model_of m) d s))
    go (accepted p) e =
        by p (listed_program (model_of m) (model_laws m) file p e) (refuses_from (model_of m).system 0 ((model_of m).start p) s) refl
        (refuses_small (model_of m).system (model_laws m).steps.lawful s 0 ((model_of m).start p))
    go (refused n k) e = refused_small m file n k e
