-- What a writer leaves in a lent buffer.
use Rattle.std.specs.Prelude.{ℕ, List, ◌++◌, length, drop}

-- the buffer l with the text t over its front
unfoldable pub over : List ℕ → List ℕ → List ℕ
over t l = t ++ drop (length t) l
