-- What a line says, as the code answers it.
use Rattle.std.specs.Prelude.{ℕ, List, length}
use Rattle.file_lines.specs.declared.reader.Line.{Line}
use Rattle.file_lines.specs.declared.reader.Line.TheVariants.{Frame, Remark, Broken}
use Rattle.spec_file.specs.Meaning.{Meaning, remarked, framed, broken, spelt}

-- what the reader answers: of a frame how many bytes it has
unfoldable pub answer : Meaning → Line
answer remarked = Remark
answer (framed f) = Frame (length f)
answer broken = Broken

unfoldable pub line_of : List ℕ → Line
line_of l = answer (spelt l)
