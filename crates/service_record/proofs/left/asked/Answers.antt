-- `asked` sets one byte.
use Rattle.std.proofs.Common.{refl}
use Rattle.spec_service.specs.Record.{asked, standing}
use Rattle.service_record.proofs.left.asked.Goals as goal

pub returns : goal.returns
unfolding asked standing
returns c = refl
