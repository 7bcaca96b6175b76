-- The class call's answer as the code gives it: the number of graphs, or the refusal.
use Rattle.std.specs.Prelude.{ℕ, Result, Ok, Err}
use Rattle.spec_file.specs.declared.refusal.Refusal.{Refusal}
use Rattle.spec_model.specs.ClassSize.{Class, sized, refused_class}

unfoldable pub class_answer_of : Class → Result ℕ Refusal
class_answer_of (sized n) = Ok n
class_answer_of (refused_class n k) = Err (record { number = n; place = k })
