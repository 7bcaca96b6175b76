-- The record behind what a caller was given, way by way of the code.
use Rattle.std.proofs.Common.{◌≡◌, ◌+◌, ◌%◌, ◌^◌, refl, ap, Some, None}
use Rattle.std.proofs.Math.Option as Math
use Rattle.spec_schedules.specs.Order.{Schedule}
use Rattle.spec_service.specs.declared.caller.Caller.{Caller}
use Rattle.spec_service.specs.Record.{record_by, standing, handing, counting, served}
use Rattle.service_record.specs.declared.next.Next.{Next}
use Rattle.service_record.specs.Next.{next_of}

-- behind a schedule with these steps
abbrev pub behind_given : Caller → Next → Caller
behind_given c n = record_by c.file c.length ((c.count + 1) % 2 ^ 64) (record { place = 2; asking = 0; steps = n.steps; schedule = n.schedule })
    (record { handed = 1; size = n.steps; newest = n.schedule }) c.marks c.padding

pub served_given : (c : Caller) (n : Next) (o : Math.Option Schedule) → Some n ≡ next_of o → behind_given c n ≡ served c o
unfolding next_of served standing handing counting
served_given c n (Math.some s) e = ap (behind_given c) cc
served_given c n Math.none e = cc

pub served_none : (c : Caller) (o : Math.Option Schedule) → None ≡ next_of o → served c Math.none ≡ served c o
unfolding next_of
served_none c (Math.some s) e = cc
served_none c Math.none e = refl
