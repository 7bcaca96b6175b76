-- What the class call says: answered, with the number of graphs, or the refusal.
use Rattle.spec_model.specs.ClassSize.{Class, sized, refused_class}
use Rattle.spec_calls.specs.Word as word

unfoldable pub class_reply : Class → word.Reply
class_reply (sized n) = word.answered n
class_reply (refused_class n k) = word.refused n k
