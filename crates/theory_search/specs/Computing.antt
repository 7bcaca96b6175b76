-- `computing` of spec_schedules, and the definitions of the search opened too.
use Rattle.std.specs.Prelude.{ℕ, List}
use Rattle.spec_schedules.specs.Computing.{computing as believed}
use Rattle.spec_schedules.proofs.PermutationTerms.{compose, inverse, place_in}
use Rattle.theory_search.specs.Found.{concat_range, found_at, found_by, found_from}
use Rattle.theory_search.specs.Orders.{least_order}
use Rattle.theory_search.specs.Search.{low, past}

unfoldable pub computing : List (List ℕ)
unfolding believed compose concat_range found_at found_by found_from inverse least_order low past place_in
computing = believed
