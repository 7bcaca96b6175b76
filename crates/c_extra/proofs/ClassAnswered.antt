-- What the answer to a class call says.
use mathlib.Core.Path.{◌≡◌, refl}
use Rattle.spec_model.specs.ClassSize.{Class, sized, refused_class}
use Rattle.class_size.specs.ClassWord.{class_answer_of}
use Rattle.spec_calls.specs.ByRows.{rows_reply}
use Rattle.spec_calls.specs.Classed.{class_reply}

pub word_class : (a : Class) → rows_reply (class_answer_of a) ≡ class_reply a
unfolding rows_reply class_answer_of class_reply
word_class (sized n) = refl
word_class (refused_class n k) = refl
