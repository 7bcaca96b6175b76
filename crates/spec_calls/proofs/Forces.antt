-- What the force call says fits its word.
use Prim.Native.Nat.{ℕ}
use native.Mathlib.Omega.{arith}
use mathlib.Core.List.{List}
use Rattle.spec_file.specs.Program.{Program}
use Rattle.spec_sc.specs.State.{start}
use Rattle.spec_sc.proofs.Steps.{enabled_small}
use Rattle.spec_force.specs.Game.{hostile}
use Rattle.spec_force.specs.Forced.{game_of, Answer, ForcedIn, hostile_steps, hostile_passes, friendly_forces, Forced, program_refused, set_refused, played}
use Rattle.spec_force.proofs.Sides.{mine_enabled}
use Rattle.spec_calls.specs.Word.{Fits}
use Rattle.spec_calls.specs.Forced.{force_reply}
use Rattle.spec_calls.proofs.Refusals.{refusal_fits}

forced_in_fits : (set : ℕ) (p : Program) (a : Answer) → ForcedIn set p a → Fits (force_reply a)
unfolding force_reply
forced_in_fits set p _ (hostile_steps t f s l) = omega (arith, enabled_small (start p) t (mine_enabled (game_of set) hostile (start p) t l.keeps.own))
forced_in_fits set p _ (hostile_passes f n) = omega arith
forced_in_fits set p _ (friendly_forces f) = tt

-- THE CALL ABOUT FORCING: what it says fits its word, whatever it is lent
pub force_fits : (file : List ℕ) (set : ℕ) (a : Answer) → Forced file set a → Fits (force_reply a)
unfolding force_reply
force_fits file set _ (program_refused n k e) = refusal_fits file n k e
force_fits file set _ (set_refused p k e l) = (omega arith, omega (arith, l.eight))
force_fits file set _ (played p a q s) = forced_in_fits set p a s
