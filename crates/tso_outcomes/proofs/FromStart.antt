-- Where a walk of a decoded program starts, with what was made ready for it.
use Prim.Native.Nat.{ℕ}
use mathlib.Core.Path.{◌≡◌, sym, subst}
use mathlib.Core.List.{[]}
use Rattle.file_decoder.specs.Compiled.{program_of}
use Rattle.file_decoder.specs.declared.file.Compiled.{Compiled}
use Rattle.theory_tso_key.specs.Words.{Wide}
use Rattle.tso_states.specs.Made.{Made}
use Rattle.tso_states.specs.Position.{Position}
use Rattle.tso_states.specs.declared.setup.Setup.{Setup}

abbrev pub from_start : (program : Compiled) (m : Setup) → Made program m → (n : ℕ) → n ≡ m.width → Position m.program.code m.program.lengths m.program.class n m.spot
from_start program m made n e = record {
  threads = program.threads;
  groups = program.groups;
  program = program_of program;
  prefix = [];
  stands = made.stands;
  wide = subst (λ (i : ℕ). Wide i (program_of program)) (sym e) made.wide;
}
