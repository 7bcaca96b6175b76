-- `fresh_record` is `fresh`, field by field.
use Rattle.std.proofs.Common.{ap, replicate}
use Rattle.spec_service.specs.declared.caller.Mark.{Mark}
use Rattle.spec_service.specs.Record.{fresh, plain, record_by}
use Rattle.service_record.proofs.left.fresh_record.Goals as goal

pub returns : goal.returns
unfolding fresh plain
returns c =
    ap (λ (m : Mark). record_by (replicate 4096 0) 0 0 (record { place = 0; asking = 0; steps = 0; schedule = replicate 24 0 }) (record { handed = 0; size = 0; newest = replicate 24 0 }) (replicate 8 m) (replicate 3 0)) c.no_mark.ensures
