-- `some_asleep` asks the accesses, then the moves, where some step is late.
use Rattle.std.proofs.Common.{sym, ap, ap₂, ◌∙◌, Bool, ◌&&◌, ◌||◌}
use Rattle.spec_schedules.specs.Sets.{has}
use Rattle.spec_schedules.specs.Lists.{range, any}
use Rattle.spec_tso.specs.State.{byte_for, access, move}
use Rattle.spec_tso.specs.Graph.{end_of}
use Rattle.theory_tso.specs.Rules.{unwoken}
use Rattle.tso_order.proofs.HeldDeeds.{ends, short_at}
use Rattle.tso_place.specs.Reached.{machine_of}
use Rattle.tso_rules.proofs.Asleep.{none_asleep, asleep_some, shown_held, short_held, counters_16, ready_late}
use Rattle.tso_rules.proofs.sleeping.some_asleep.Goals as goal

pub returns-then-is_none_late : goal.returns-then-is_none_late
returns-then-is_none_late c =
    let a = c.args in
    let q = c.is_none_late.ensures c.if-is_none_late.true in
    λ class threads groups p v r. sym (ap₂ (λ (y z : Bool). y || z) (none_asleep (λ t. unwoken (end_of p v) (byte_for access t)) a.x.now.sets.late q.0) (none_asleep (λ t. unwoken (end_of p v) (byte_for move t)) a.x.now.sets.overdue q.1)) ∙ asleep_some p v a.x.now.sets.late a.x.now.sets.overdue r.sets.late r.sets.overdue

pub is_some_access-requires : goal.is_some_access-requires
is_some_access-requires c =
    let a = c.args in
    let q = c.requires.0 in
    (λ t h e. counters_16 a.program.now.code a.program.now.lengths (machine_of a.x.now) (end_of q.3 q.4) q.5.holds t h (short_at a.program.now.code a.program.now.lengths (machine_of a.x.now) (end_of q.3 q.4) q.5.holds t h (ready_late a.program.now.code a.program.now.lengths q.0 q.1 q.2 a.x.now q.3 q.4 q.5 access a.x.now.sets.late q.5.sets.late t h e).0), short_held a.program.now.code a.program.now.lengths (machine_of a.x.now) (end_of q.3 q.4) q.5.holds, ends a.program.now.code a.program.now.lengths (machine_of a.x.now) (end_of q.3 q.4) q.5.holds)

pub returns-then-is_some_access : goal.returns-then-is_some_access
returns-then-is_some_access c =
    let a = c.args in
    λ class threads groups p v r.
    let sh = shown_held a.program.now.code a.program.now.lengths (machine_of a.x.now) (end_of p v) r.holds in
    let e = sym (c.is_some_access.ensures (end_of p v) c.requires.1 sh (ready_late a.program.now.code a.program.now.lengths class threads groups a.x.now p v r access a.x.now.sets.late r.sets.late)) ∙ c.if-is_some_access.true in
    c.if-is_some_access.true ∙ ap (λ (y : Bool). y || any (λ t. has a.x.now.sets.overdue t && unwoken (end_of p v) (byte_for move t)) (range 0 6)) (sym e) ∙ asleep_some p v a.x.now.sets.late a.x.now.sets.overdue r.sets.late r.sets.overdue

pub is_some_move-requires : goal.is_some_move-requires
is_some_move-requires c =
    let a = c.args in
    let q = c.requires.0 in
    (short_held a.program.now.code a.program.now.lengths (machine_of a.x.now) (end_of q.3 q.4) q.5.holds, ends a.program.now.code a.program.now.lengths (machine_of a.x.now) (end_of q.3 q.4) q.5.holds)

pub returns-else-is_some_access : goal.returns-else-is_some_access
returns-else-is_some_access c =
    let a = c.args in
    λ class threads groups p v r.
    let sh = shown_held a.program.now.code a.program.now.lengths (machine_of a.x.now) (end_of p v) r.holds in
    let e = sym (c.is_some_access.ensures (end_of p v) c.requires.1 sh (ready_late a.program.now.code a.program.now.lengths class threads groups a.x.now p v r access a.x.now.sets.late r.sets.late)) ∙ c.if-is_some_access.false in
    c.is_some_move.ensures a.program.now.code (end_of p v) c.requires.1 sh (ready_late a.program.now.code a.program.now.lengths class threads groups a.x.now p v r move a.x.now.sets.overdue r.sets.overdue)
    ∙ ap (λ (y : Bool). y || any (λ t. has a.x.now.sets.overdue t && unwoken (end_of p v) (byte_for move t)) (range 0 6)) (sym e) ∙ asleep_some p v a.x.now.sets.late a.x.now.sets.overdue r.sets.late r.sets.overdue
