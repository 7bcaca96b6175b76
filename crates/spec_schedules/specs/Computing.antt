-- What a proof that computes with the definitions of this crate names on its `unfolding` line: `computing` opens them all. A proof that
-- reasons names the one or two definitions that it opens.
use Rattle.std.specs.Prelude.{ℕ, List}
use Rattle.spec_file.specs.Over.{over}
use Rattle.spec_schedules.specs.Lists.{range, both, any, all, filter, find, head_of}
use Rattle.spec_schedules.specs.Order.{less}
use Rattle.spec_schedules.specs.System.{run, none_enabled, ended}
use Rattle.spec_schedules.specs.Fulls.{fronts, branch, fulls_from, fulls}
use Rattle.spec_schedules.specs.Classes.{firsts_from, firsts}
use Rattle.spec_schedules.specs.Listed.{list_of}
use Rattle.spec_schedules.specs.Calls.{next, offer, answer_to, content, last, left, due, served, member}
use Rattle.spec_schedules.specs.Found.{after}
use Rattle.spec_schedules.specs.Greedy.{greedy}
use Rattle.spec_schedules.specs.Orders.{trace, next_of, clear, clear_of, ready, take_out}
use Rattle.spec_schedules.specs.Permutations.{without, each, perms_of, permutations, permutation_of, unpacked}

unfoldable pub computing : List (List ℕ)
unfolding range both any all filter find head_of less run none_enabled ended fronts branch fulls_from fulls firsts_from firsts list_of next offer answer_to over content last left due served member after greedy trace next_of clear clear_of ready take_out without each perms_of permutations permutation_of unpacked
computing = permutations
