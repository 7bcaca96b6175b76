-- One line for a store, one for the three accesses that read, and one for the others.
use Rattle.std.proofs.Common.{arith}
use Rattle.search_place.proofs.RowAccess.{place_store, place_read, place_none}
use Rattle.search_place.proofs.waiting.location_at.Goals as goal

pub returns-in-16 : goal.returns-in-16
returns-in-16 c = place_store c.args.code.now c.args.row c.requires c.in-16.is

pub returns-in-17 : goal.returns-in-17
returns-in-17 c = place_read c.args.code.now c.args.row c.requires (omega arith) (omega arith)

pub returns-in_default : goal.returns-in_default
returns-in_default c = place_none c.args.code.now c.args.row c.requires (λ e. grind (arith, e)) (λ e. grind (arith, e)) (λ e. grind (arith, e)) (λ e. grind (arith, e))

pub returns-in_default-2 : goal.returns-in_default-2
returns-in_default-2 c = place_none c.args.code.now c.args.row c.requires (λ e. grind (arith, e)) (λ e. grind (arith, e)) (λ e. grind (arith, e)) (λ e. grind (arith, e))
