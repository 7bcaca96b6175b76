-- How many steps a prefix has; whether it has ended, by the sets of who may access and who may move.
use Prim.Native.Nat.{ℕ, ◌<◌, ◌≤◌}
use mathlib.Core.Path.{◌≡◌, refl, sym, ap, ◌∙◌}
use mathlib.Core.Logic.{◌≢◌}
use mathlib.Core.Bool.{Bool, true, false, true≢false}
use mathlib.Core.List.{List}
use native.Mathlib.Omega.{arith}
use lib.ListN.{length}
use Rattle.spec_file.specs.Program.{Program}
use Rattle.spec_schedules.specs.Order.{Schedule}
use Rattle.spec_schedules.specs.System.{ended}
use Rattle.spec_schedules.proofs.Runs.{ended_of, ended_none, allowed_length}
use Rattle.spec_schedules.specs.Sets.{has}
use Rattle.theory_sc.specs.Sets.{set_of}
use Rattle.theory_sc.proofs.Sets.{has_none, set_has, set_none}
use Rattle.spec_tso.specs.State.{State, TSO, Kind, access, move, kind_of, owner, byte_for, enabled, start}
use Rattle.spec_tso.specs.Graph.{end_of}
use Rattle.spec_tso.proofs.Bytes.{for_owner}
use Rattle.spec_tso.proofs.Steps.{enabled_small}
use Rattle.spec_tso.proofs.Lawful.{lawful, start_32}
use Rattle.theory_tso.specs.LateBytes.{bytes_of}
use Rattle.tso_place.specs.Reached.{Reached}
use Rattle.tso_place.specs.declared.place.Place.{Place}

module _ (σ : State) where
  none_of : (k : Kind) → bytes_of (enabled σ) k ≡ 0 → (t : ℕ) → t < 6 → enabled σ (byte_for k t) ≡ false
  unfolding bytes_of
  none_of k e t h = sym (set_has (λ u. enabled σ (byte_for k u)) 6 t h) ∙ ap (λ (s : ℕ). has s t) e ∙ has_none t

  -- a state has ended where neither an access nor a move is left
  pub ended_sets : bytes_of (enabled σ) access ≡ 0 → bytes_of (enabled σ) move ≡ 0 → ended TSO σ ≡ true
  ended_sets a m = ended_of TSO σ (λ b. one b (enabled σ b) refl)
    where
      by_kind : (k : Kind) (t : ℕ) → t < 6 → enabled σ (byte_for k t) ≡ false
      by_kind access t h = none_of access a t h
      by_kind move t h = none_of move m t h

      one : (b : ℕ) (c : Bool) → enabled σ b ≡ c → enabled σ b ≡ false
      one b true q = ap (enabled σ) (sym (for_owner b)) ∙ by_kind (kind_of b) (owner b) (enabled_small σ b q)
      one b false q = q

  -- a state has not ended where an access or a move is left
  pub going_set : (k : Kind) → bytes_of (enabled σ) k ≢ 0 → ended TSO σ ≡ false
  unfolding bytes_of
  going_set k n = go (ended TSO σ) refl
    where
      go : (b : Bool) → ended TSO σ ≡ b → ended TSO σ ≡ false
      go true q = absurd (n (set_none (λ t. enabled σ (byte_for k t)) 6 (λ t h. ended_none TSO lawful σ (byte_for k t) q)))
      go false q = q

module _ (code lengths class : List ℕ) (threads groups : ℕ) (x : Place) (p : Program) (v : Schedule) (at : Reached code lengths class threads groups x p v) where
  pub reached_most : x.steps ≤ 32
  reached_most = omega (arith, at.counted, allowed_length TSO lawful (start p) v at.allowed, start_32 p at.few)
