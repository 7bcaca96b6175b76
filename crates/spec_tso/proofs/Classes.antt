-- THE SIZES OF CLASSES under total store order, of every accepted file that 41 does not turn away.
use Prim.Native.Nat.{ℕ, ◌≤◌}
use mathlib.Core.Path.{◌≡◌, refl, ap, ◌∙◌}
use mathlib.Core.List.{List}
use Rattle.spec_file.specs.Program.{Program, initial}
use Rattle.spec_file.specs.WellFormed.{all_accesses}
use Rattle.spec_file.specs.Decode.{accepted, decode}
use Rattle.spec_file.specs.Ungrouped.{ungrouped}
use Rattle.spec_model.specs.OnFile.{admit}
use Rattle.spec_model.specs.Classes.{GroupsUnseen, Classes}
use Rattle.spec_model.proofs.Classes.{classes}
use Rattle.spec_sc.specs.State as SC
use Rattle.spec_tso.specs.State.{start, drained}
use Rattle.spec_tso.specs.TotalStoreOrder.{too_many, tso}
use Rattle.spec_tso.proofs.Laws.{tso_laws}
use Rattle.spec_tso.proofs.Admits.{admitted_16}

-- a run begins with the program's threads and memory alone, and 41 counts accesses
pub tso_unseen : GroupsUnseen tso
unfolding start drained SC.start initial ungrouped too_many
tso_unseen = record { start = λ p. refl; away = λ p. refl }

pub tso_classes : (file : List ℕ) (p : Program) → decode file ≡ accepted p → all_accesses p.threads ≤ 16 → Classes tso file p
tso_classes file p e h = classes tso tso_laws tso_unseen file p (ap (admit tso) e ∙ admitted_16 p h)
