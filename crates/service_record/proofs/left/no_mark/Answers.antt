-- `no_mark` is `no_mark`, field by field.
use Rattle.std.proofs.Common.{refl}
use Rattle.spec_service.specs.Record.{no_mark}
use Rattle.service_record.proofs.left.no_mark.Goals as goal

pub returns : goal.returns
unfolding no_mark
returns c = refl
