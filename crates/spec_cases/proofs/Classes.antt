-- The sizes of the classes of the whole case, computed from the file's bytes: 1, 2, 1, sum 4, in both memory models; and the same file with its `02` line taken
-- out is the file of row `whole_apart`, of which four are listed.
use Prim.Native.Nat.{ℕ}
use mathlib.Core.Path.{◌≡◌, refl}
use mathlib.Core.Bool.{cond}
use mathlib.Core.List.{List, [], ◌∷◌, ◌++◌, map}
use Rattle.spec_file.specs.Plain.{joined}
use Rattle.spec_file.specs.Decode.{Decoded, accepted, refused, decode}
use Rattle.spec_file.specs.Ungrouped.{declaring, undeclared, without_alike}
use Rattle.spec_schedules.specs.Order.{Schedule}
use Rattle.spec_model.specs.Answers.{refuses_from}
use Rattle.spec_model.specs.OnFile.{unless, admit}
use Rattle.spec_model.specs.Alike as Model
use Rattle.spec_model.specs.ClassSize.{total, same_graph, images, class_graphs, class_size, Class, sized, class_by, class_of, class_on, class_file}
use Rattle.spec_sc.specs.Text.{text_of}
use Rattle.spec_sc.specs.Sequential.{sc}
use Rattle.spec_file.specs.WellFormed.{all_accesses}
use Rattle.spec_tso.specs.Exchange.{moved_byte}
use Rattle.spec_tso.specs.TotalStoreOrder.{tso}
use Rattle.spec_tso.proofs.ModelExamples.{listed}
use Rattle.spec_cases.specs.Rows.{whole, whole_apart}
use Rattle.spec_cases.specs.Table.{computed}

-- the three listed schedules, and one that is not listed, alike to the second
abbrev asked : List Schedule
asked = (0 ∷ 1 ∷ 2 ∷ []) ∷ (1 ∷ 0 ∷ 2 ∷ []) ∷ (1 ∷ 2 ∷ 0 ∷ []) ∷ (2 ∷ 0 ∷ 1 ∷ []) ∷ []

pub whole_classes : map (λ s. class_file sc (text_of whole.file) s) asked ≡ sized 1 ∷ sized 2 ∷ sized 1 ∷ sized 2 ∷ []
unfolding computed unless admit refuses_from same_graph images class_graphs class_size class_by class_of class_on
whole_classes = refl

-- over the whole list
pub sum_on : Decoded → ℕ
sum_on (accepted p) = total (class_size sc p) (Model.list_of sc p)
sum_on (refused n k) = 0

pub whole_sum : sum_on (decode (text_of whole.file)) ≡ 4
unfolding computed sum_on total Model.list_of Model.alike_by same_graph images class_graphs class_size
whole_sum = refl

-- under total store order: what the class call says of each member of the list, and over the whole list
pub sizes_on : Decoded → List ℕ → List Class
sizes_on (accepted p) file = map (λ s. class_file tso file s) (Model.list_of tso p)
sizes_on (refused n k) file = []

pub tso_whole_classes : sizes_on (decode (text_of whole.file)) (text_of whole.file) ≡ sized 1 ∷ sized 2 ∷ sized 1 ∷ []
unfolding computed listed moved_byte unless admit refuses_from same_graph images class_graphs class_size class_by class_of class_on sizes_on all_accesses
tso_whole_classes = refl

pub tso_sum_on : Decoded → ℕ
tso_sum_on (accepted p) = total (class_size tso p) (Model.list_of tso p)
tso_sum_on (refused n k) = 0

pub tso_whole_sum : tso_sum_on (decode (text_of whole.file)) ≡ 4
unfolding computed listed moved_byte tso_sum_on total same_graph images class_graphs class_size
tso_whole_sum = refl

pub whole_taken_out : without_alike (text_of whole.file) ≡ text_of whole_apart.file
unfolding computed declaring undeclared without_alike joined
whole_taken_out = refl
