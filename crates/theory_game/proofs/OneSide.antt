-- WHERE ALL THREADS ARE HOSTILE the first listed schedule that fails is the answer: the hostile side can force where some full schedule fails.
use Prim.Native.Nat.{ℕ, ◌<◌, ◌≤◌}
use native.Mathlib.Omega.{arith}
use native.Mathlib.Decide.{dec_lt}
use mathlib.Core.Path.{◌≡◌, refl, sym, ap, subst, ◌∙◌}
use mathlib.Core.Logic.{◌⊎◌, inl, inr, ⊎_elim}
use mathlib.Core.Bool.{Bool, true, false, true≢false}
use mathlib.Core.Option.{Option, none, some}
use mathlib.Core.List.{List, [], ◌∷◌, ◌++◌, Memᴰ}
use lib.ListN.{length}
use Rattle.spec_file.specs.Program.{Program}
use Rattle.spec_file.specs.WellFormed.{WellFormed}
use Rattle.spec_schedules.specs.Lists.{find}
use Rattle.spec_schedules.specs.Order.{Schedule, less}
use Rattle.spec_schedules.specs.Sets.{has}
use Rattle.spec_schedules.specs.System.{Lawful, run, ended, FullFrom}
use Rattle.spec_schedules.proofs.FirstIn.{find_in, none_find}
use Rattle.spec_schedules.proofs.Order.{less_heads, less_transitive, not_less_at_most}
use Rattle.spec_schedules.proofs.Runs.{run_cons, not_ended, full_allowed}
use Rattle.spec_sc.specs.State.{State, SC, start, step, enabled, fails}
use Rattle.spec_sc.specs.Graph.{Full, end_of}
use Rattle.spec_sc.specs.Sequential.{sc}
use Rattle.spec_sc.proofs.Laws.{sc_laws}
use Rattle.spec_sc.proofs.Lawful.{lawful}
use Rattle.spec_sc.proofs.Start.{start_threads}
use Rattle.spec_sc.proofs.Steps.{enabled_range, run_threads}
use Rattle.spec_model.specs.Alike.{Alike, Listed, list_of}
use Rattle.spec_model.specs.Model.{failing}
use Rattle.spec_model.proofs.Alike.{alike_sym}
use Rattle.spec_model.proofs.Outcome.{same_outcome_lem, none_fails_at_all}
use Rattle.spec_model.proofs.TheList.{list_exact, list_ascends, one_each}
use Rattle.spec_force.specs.Game.{Side, hostile, friendly, other, Game, Strategy, mine, mover, winner, FullPlay, Follows, Forces, Keeps}
use Rattle.spec_force.specs.Forced.{owner_in, game_of, AllIn, CanForce, LeastFirst, ForcedIn, hostile_steps, hostile_passes, friendly_forces}
use Rattle.spec_force.proofs.Sides.{differ, mine_enabled, mine_owned, mine_of, able_some, able_of, mover_steps, full_play, ended_able}
use Rattle.spec_force.proofs.Against.{follows_nil, follows_cons, forced_play}
use Rattle.spec_force.proofs.OneSide.{one_forces}
use Rattle.spec_force.proofs.Decided.{winner_fails, hostile_fails}
use Rattle.spec_force.proofs.Answers.{none_fails_friendly}
use Rattle.theory_states.specs.Positions.{Reached}
use Rattle.theory_states.proofs.Positions.{reached_start, reached_on}
use Rattle.theory_game.specs.OneSide.{by_failing}

owner_hostile : (set t : ℕ) → has set t ≡ true → owner_in set t ≡ hostile
unfolding owner_in
owner_hostile set t e = rw (e, owner_in)

module _ (set : ℕ) (p : Program) (w : WellFormed p) (all : AllIn set p) where
  abbrev Met : State → Type 0
  Met σ = (v : Schedule) × Reached SC (start p) v σ

  owned_here : (σ : State) → Met σ → (t : ℕ) → enabled σ t ≡ true → owner_in set t ≡ hostile
  owned_here σ m t e =
      let a = enabled_range σ t e in
      let b : length σ.threads ≡ length p.threads = ap (λ (ρ : State). length ρ.threads) m.1.0 ∙ run_threads m.0 (start p) ∙ start_threads p in
      owner_hostile set t (all t (omega (arith, a, b)))

  on_here : (σ : State) → Met σ → (t : ℕ) → enabled σ t ≡ true → Met (step σ t)
  on_here σ m t e = (m.0 ++ (t ∷ []), reached_on SC (start p) m.0 σ m.1 t e)

  hostile_forces : (s : Schedule) (x : Side) (σ : State) → Met σ → FullFrom SC σ s → fails (run SC σ s) ≡ true → Forces (game_of set) hostile x σ
  hostile_forces s x σ m full e =
      (one_forces (game_of set) lawful hostile Met (λ τ t n q. owned_here τ n t q) (λ τ t n q. on_here τ n t q) x σ m).1 (s, full, winner_fails (game_of set) (run SC σ s) e)

  -- each full schedule fails as a listed one does that is not greater
  as_listed : (r : Schedule) → Full p r → (m : Schedule) × Memᴰ m (list_of sc p) × (failing sc p m ≡ failing sc p r) × ((s : Schedule) → less r s ≡ true → less m s ≡ true)
  as_listed r full =
      let c = one_each sc sc_laws p (w, refl) r full in
      let l = (list_exact sc sc_laws p c.0).0 c.1 in
      (c.0, c.1, (same_outcome_lem sc sc_laws p (w, refl) c.0 r l.0 full c.2).0, λ s h. go c.0 l c.2 s h (less r c.0) refl)
    where
      go : (m : Schedule) → Listed sc p m → Alike sc p m r → (s : Schedule) → less r s ≡ true → (b : Bool) → less r m ≡ b → less m s ≡ true
      go m l k s h true e = absurd (l.1 (r, full, e, alike_sym sc sc_laws p (w, refl) m r k))
      go m l k s h false e = ⊎_elim (λ (i : m ≡ r). ap (λ (x : Schedule). less x s) i ∙ h) (λ (i : less m r ≡ true). less_transitive m r s i h) (not_less_at_most m r e)

  -- so of all full schedules the first that fails is listed
  none_before : (s : Schedule) → find (failing sc p) (list_of sc p) ≡ some s → (r : Schedule) → Full p r → failing sc p r ≡ true → less r s ≡ true → ⊥
  none_before s e r full f q =
      let m = as_listed r full in
      true≢false (sym (m.2 ∙ f) ∙ (find_in (failing sc p) (list_of sc p) (list_ascends sc sc_laws p) s e).2 m.0 m.1 (m.3 s q))

  least_failing : (t : ℕ) (z : Schedule) → find (failing sc p) (list_of sc p) ≡ some (t ∷ z) → Full p (t ∷ z) → failing sc p (t ∷ z) ≡ true → LeastFirst set p t
  least_failing t z e full f =
      let here : Met (start p) = ([], reached_start SC (start p)) in record {
        keeps = record {
          own = subst (λ (y : Side). mine (game_of set) y (start p) t ≡ true) (owned_here (start p) here t full.0) (mine_of (game_of set) (start p) t full.0);
          forces = hostile_forces z friendly (step (start p) t) (on_here (start p) here t full.0) full.1 (ap fails (sym (run_cons SC (start p) t z)) ∙ f);
        };
        least = λ u k. go u k (dec_lt u t);
      }
    where
      go : (u : ℕ) → Keeps (game_of set) (start p) u → Dec (u < t) → t ≤ u
      go u k (no h) = omega arith
      go u k (yes h) =
          let r = forced_play (game_of set) lawful hostile friendly (step (start p) u) k.forces in
          absurd (none_before (t ∷ z) e (u ∷ r.0) (mine_enabled (game_of set) hostile (start p) u k.own, full_play (game_of set) r.0 friendly (step (start p) u) r.1)
          (ap fails (run_cons SC (start p) u r.0) ∙ hostile_fails (game_of set) (run SC (step (start p) u) r.0) r.2) (less_heads u t r.0 z h))

  -- THE ANSWER: by the first that fails, with its first byte
  pub answer_failing : ForcedIn set p (by_failing (find (failing sc p) (list_of sc p)))
  unfolding by_failing
  answer_failing = go (find (failing sc p) (list_of sc p)) refl
    where
      here : Met (start p)
      here = ([], reached_start SC (start p))

      none_fails : find (failing sc p) (list_of sc p) ≡ none → (s : Schedule) → Full p s → fails (end_of p s) ≡ false
      none_fails e s full = (none_fails_at_all sc sc_laws p (w, refl)).0 (none_find (failing sc p) (list_of sc p) e) s (full_allowed SC (start p) s full).0

      go : (o : Option Schedule) → find (failing sc p) (list_of sc p) ≡ o → ForcedIn set p (by_failing o)
      go none e = friendly_forces (none_fails_friendly set p (none_fails e))
      go (some []) e =
          let f = find_in (failing sc p) (list_of sc p) (list_ascends sc sc_laws p) [] e in
          let full = ((list_exact sc sc_laws p []).0 f.0).0 in
          hostile_passes (hostile_forces [] hostile (start p) here full f.1) (λ s. true≢false (sym s ∙ ended_able (game_of set) lawful hostile (start p) full))
      go (some (t ∷ z)) e =
          let f = find_in (failing sc p) (list_of sc p) (list_ascends sc sc_laws p) (t ∷ z) e in
          let full = ((list_exact sc sc_laws p (t ∷ z)).0 f.0).0 in
          let l = least_failing t z e full f.1 in
          hostile_steps t (hostile_forces (t ∷ z) hostile (start p) here full f.1) (able_of (game_of set) lawful hostile (start p) t l.keeps.own) l

-- the first byte of the first that fails is a thread
pub first_small : (p : Program) → WellFormed p → (t : ℕ) (z : Schedule) → find (failing sc p) (list_of sc p) ≡ some (t ∷ z) → t < 6
first_small p w t z e =
    let f = find_in (failing sc p) (list_of sc p) (list_ascends sc sc_laws p) (t ∷ z) e in
    let full = ((list_exact sc sc_laws p (t ∷ z)).0 f.0).0 in
    omega (arith, enabled_range (start p) t full.0, start_threads p, w.six)
