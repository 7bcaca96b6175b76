-- R1 and R2 far as sets of bytes: those that may step and whose step would come late, or far. A byte that may not step is in no set.
use Rattle.std.specs.Prelude.{ℕ, Bool}
use Rattle.spec_file.specs.Program.{Program}
use Rattle.spec_schedules.specs.Order.{Schedule}
use Rattle.theory_search.specs.LateSet as LateSet
use Rattle.theory_sc.specs.Sets.{set_of}
use Rattle.spec_tso.specs.State.{Kind, byte_for}
use Rattle.spec_tso.specs.TotalStoreOrder.{tso}
use Rattle.theory_tso.specs.Far.{placed, byte_at, action_at, starts}

-- of the six bytes of one kind those that pass a test, by their threads
unfoldable pub bytes_of : (ℕ → Bool) → Kind → ℕ
bytes_of f k = set_of (λ t. f (byte_for k t)) 6

-- behind the prefix v the byte c may step, and its step would come late
abbrev pub late_at : Program → Schedule → ℕ → Bool
late_at = LateSet.late_at tso

-- behind the prefix v the byte c may step, and its step would come far
abbrev pub far_at : Program → Schedule → ℕ → Bool
far_at p = LateSet.back_at tso placed action_at byte_at (starts p) p
