-- WHAT REFUSES A SCHEDULE, EXACTLY, in any step system: nothing where it is full; 20 at its first byte that may not step; 21, with its length,
-- where each of its bytes may step in its turn and behind the last some byte still may. Continue, the graph call and the class call
-- refuse a schedule by this alone.
use Rattle.std.specs.Prelude.{ℕ, ◌<◌, ◌≡◌, ◌↔◌, ◌⊎◌, false, length, get_or, take}
use Rattle.std.proofs.Math.Option.{none, some}
use Rattle.spec_schedules.specs.Order.{Schedule}
use Rattle.spec_schedules.specs.System.{System, run, ended, Allowed, FullFrom}
use Rattle.spec_model.specs.Answers.{refuses_from}

pub record RefusesExactly (M : System) (σ : M.State) (s : Schedule) : Type 0 where
  -- nothing refuses exactly the full schedules
  pub full : (refuses_from M 0 σ s ≡ none) ↔ FullFrom M σ s
  -- 20 at place k: byte k may not step, and each byte before it may in its turn
  pub stops : (k : ℕ) → (refuses_from M 0 σ s ≡ some (20, k)) ↔
      ((k < length s) × Allowed M σ (take k s) × (M.enabled (run M σ (take k s)) (get_or s k 0) ≡ false))
  -- 21 with the length: each byte may step in its turn, and behind the last some byte still may
  pub short : (k : ℕ) → (refuses_from M 0 σ s ≡ some (21, k)) ↔ ((k ≡ length s) × Allowed M σ s × (ended M (run M σ s) ≡ false))
  -- there is no other number
  pub only : (n k : ℕ) → refuses_from M 0 σ s ≡ some (n, k) → (n ≡ 20) ⊎ (n ≡ 21)
