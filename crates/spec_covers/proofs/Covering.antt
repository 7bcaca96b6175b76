-- Every program covers itself, and covering is transitive.
use Rattle.spec_file.specs.Program.{Program}
use Rattle.spec_covers.specs.Covers.{Covers}

-- EVERY PROGRAM COVERS ITSELF
pub covers_itself : (p : Program) → Covers p p
covers_itself p o a = a

-- COVERING IS TRANSITIVE
pub covers_transitive : (p q r : Program) → Covers p q → Covers q r → Covers p r
covers_transitive p q r a b o c = a o (b o c)
