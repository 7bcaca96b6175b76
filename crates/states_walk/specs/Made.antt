-- What a walk by states needs of a decoded program, as the code makes it ready.
use Rattle.std.specs.Prelude.{◌≤◌, []}
use Rattle.file_decoder.specs.Compiled.{program_of}
use Rattle.file_decoder.specs.declared.file.Compiled.{Compiled}
use Rattle.search_rules.specs.Left.{Left}
use Rattle.states_live.specs.Live.{Live}
use Rattle.states_key.specs.Stands.{Stands}
use Rattle.theory_sc_key.specs.Key.{Wide}
use Rattle.states_walk.specs.declared.setup.Setup.{Setup}

pub record Made (program : Compiled) (r : Setup) : Type 0 where
  pub left : Left r.program.code r.program.lengths r.left
  pub live : Live r.program.code r.program.lengths r.masks
  pub few : r.width ≤ 18
  pub wide : Wide r.width (program_of program)
  pub stands : Stands r.program.code r.program.lengths r.program.class program.threads program.groups r.spot (program_of program) []
