-- `is_allowed` compares the classes of two threads.
use Rattle.std.proofs.Common.{rules, tests}
use Rattle.class_size.proofs.MayGo.{may_is}
use Rattle.class_size.proofs.moving.is_allowed.Goals as goal

pub returns-then-t-u : goal.returns-then-t-u
returns-then-t-u c = let args = c.args in rw (may_is args.class args.groups args.t args.u c.requires.0 c.requires.1) (search (rules, tests))

pub returns-then-g-groups : goal.returns-then-g-groups
returns-then-g-groups c = let args = c.args in rw (may_is args.class args.groups args.t args.u c.requires.0 c.requires.1) (search (rules, tests))

pub returns-else-g-groups : goal.returns-else-g-groups
returns-else-g-groups c = let args = c.args in rw (may_is args.class args.groups args.t args.u c.requires.0 c.requires.1) (search (rules, tests))
