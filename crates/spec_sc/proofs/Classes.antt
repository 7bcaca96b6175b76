-- THE SIZES OF CLASSES under sequential consistency, of every accepted file.
use Prim.Native.Nat.{ℕ}
use mathlib.Core.Path.{◌≡◌, refl, ◌∙◌}
use mathlib.Core.List.{List}
use Rattle.spec_file.specs.Program.{Program, initial}
use Rattle.spec_file.specs.Decode.{accepted, decode}
use Rattle.spec_file.specs.Ungrouped.{ungrouped}
use Rattle.spec_model.specs.Classes.{GroupsUnseen, Classes}
use Rattle.spec_model.proofs.Classes.{classes}
use Rattle.spec_sc.specs.State.{start}
use Rattle.spec_sc.specs.Sequential.{sc}
use Rattle.spec_sc.proofs.Laws.{sc_laws}
use Rattle.spec_sc.proofs.Admits.{sc_admits}

-- a run begins with the program's threads and memory alone
pub sc_unseen : GroupsUnseen sc
unfolding start initial ungrouped
sc_unseen = record { start = λ p. refl; away = λ p. refl }

pub sc_classes : (file : List ℕ) (p : Program) → decode file ≡ accepted p → Classes sc file p
sc_classes file p e = classes sc sc_laws sc_unseen file p (sc_admits (decode file) ∙ e)
