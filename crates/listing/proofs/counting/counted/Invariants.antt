-- `counted` adds up pages of 64 rows. The invariant: what is counted, with what is yet to come, is the whole list, modulo 2^64.
use Rattle.std.proofs.Common.{false}
use Rattle.file_decoder.specs.Compiled.{program_of}
use Rattle.spec_model.specs.Search.{sought}
use Rattle.listing_cursor.specs.Cursor.{pages}
use Rattle.listing_model.specs.ModelOf.{model_of}
use Rattle.listing.proofs.CountCalled.{Wrapped}
use Rattle.listing.proofs.counting.counted.Given as goal

abbrev pub invariant-loop-model : goal.invariant-loop-model
invariant-loop-model l = Wrapped (model_of l.model) (program_of l.program) l.cursor l.rows l.tally.listed l.tally.failing

abbrev pub decreases-loop-model : goal.decreases-loop-model
decreases-loop-model l = pages l.cursor (sought (model_of l.model) false (program_of l.program))
