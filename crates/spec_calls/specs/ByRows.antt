-- What the calls say that answer a number, such as that of rows, the length of a graph's text or the size of a class: answered, with it, or
-- the refusal.
use Rattle.std.specs.Prelude.{ℕ, Result, Ok, Err}
use Rattle.spec_file.specs.declared.refusal.Refusal.{Refusal}
use Rattle.spec_calls.specs.Word as word

unfoldable pub rows_reply : Result ℕ Refusal → word.Reply
rows_reply (Ok n) = word.answered n
rows_reply (Err r) = word.refused r.number r.place
