-- A failed assertion decides a game at once, and so does a state from which no assertion can be reached.
use Prim.Native.Nat.{ℕ, zero, suc}
use mathlib.Core.Path.{◌≡◌, refl, sym, ap, subst, ◌∙◌}
use mathlib.Core.Bool.{Bool, true, false, true≢false}
use mathlib.Core.List.{List, [], ◌∷◌, ◌++◌}
use Rattle.spec_file.specs.Program.{Program}
use Rattle.spec_file.specs.WellFormed.{Everywhere}
use Rattle.spec_file.specs.declared.instruction.Instruction.{Instruction}
use Rattle.spec_file.specs.declared.instruction.Instruction.TheVariants.{Memory, Alone}
use Rattle.spec_schedules.specs.Order.{Schedule}
use Rattle.spec_schedules.specs.System.{run, Allowed}
use Rattle.spec_schedules.proofs.Runs.{run_snoc, allowed_join}
use Rattle.spec_sc.specs.Local.{Local, Outcome, continues, stops, outcome, settle, access_sets, pending, next, first_next}
use Rattle.spec_sc.specs.State.{State, thread_of, cell_of, place, advanced, step, enabled, SC, start, failed_of, fails}
use Rattle.spec_sc.specs.Graph.{end_of}
use Rattle.spec_sc.proofs.Suffix.{suffix_everywhere}
use Rattle.spec_sc.proofs.Access.{settle_continues, next_suffix}
use Rattle.spec_sc.proofs.Steps.{enabled_pending, enabled_range}
use Rattle.spec_sc.proofs.Change.{thread_cases}
use Rattle.spec_sc.proofs.Failing.{fails_at}
use Rattle.spec_sc.proofs.Halted.{stays_failed}
use Rattle.spec_sc.proofs.Lawful.{lawful}
use Rattle.spec_force.specs.Game.{Side, hostile, friendly}
use Rattle.spec_force.proofs.Value.{value}
use Rattle.spec_force.proofs.Silent.{Harmless, Silent}
use Rattle.spec_force.specs.Forced.{game_of}
use Rattle.spec_force.proofs.Decided.{winner_fails, winner_passes, decided}

-- ---- a failed assertion
abbrev Failed : Program → State → Type 0
Failed p σ = (v : Schedule) × Allowed SC (start p) v × (end_of p v ≡ σ) × (fails σ ≡ true)

failed_step : (p : Program) (σ : State) (t : ℕ) → Failed p σ → enabled σ t ≡ true → Failed p (step σ t)
failed_step p σ t (v, a, e, f) m =
    let at : enabled (end_of p v) t ≡ true = subst (λ (τ : State). enabled τ t ≡ true) (sym e) m in
    let moved : end_of p (v ++ (t ∷ [])) ≡ step σ t = run_snoc SC (start p) v t ∙ ap (λ (τ : State). step τ t) e in (
      v ++ (t ∷ []),
      allowed_join SC (start p) v (t ∷ []) a (at, tt),
      moved,
      subst (λ (τ : State). fails (step τ t) ≡ true) e (stays_failed p v t a at (subst (λ (τ : State). fails τ ≡ true) (sym e) f)),
    )

pub fails_decides : (set : ℕ) (p : Program) (v : Schedule) → Allowed SC (start p) v → fails (end_of p v) ≡ true → (k : ℕ) (x : Side)
    → value (game_of set) k x (end_of p v) ≡ hostile
fails_decides set p v a f k x =
    decided (game_of set) lawful hostile (Failed p) (λ σ q. winner_fails (game_of set) σ q.3) (failed_step p) k x (end_of p v) (v, a, refl, f)

-- ---- no assertion can be reached
settle_silent : (is : List Instruction) (k : ℕ) (rs : List ℕ) → Everywhere Harmless is → (settle k rs is).failed ≡ false
unfolding settle
settle_silent [] k rs h = refl
settle_silent (i ∷ is) (suc k) rs h = settle_silent is k rs h.1
settle_silent (Memory a ∷ is) zero rs h = refl
settle_silent (Alone o ∷ is) zero rs h = go (outcome rs o) refl (λ k ss. settle_silent is k ss h.1)
  where
    go : (x : Outcome) → outcome rs o ≡ x → ((k : ℕ) (ss : List ℕ) → (settle k ss is).failed ≡ false) → (settle zero rs (Alone o ∷ is)).failed ≡ false
    go (continues ss k) e ih = ap (λ (l : Local). l.failed) (settle_continues o is rs ss k e) ∙ ih k ss
    go stops e ih = absurd (h.0 rs e)

first_silent : (h : Local) (is : List Instruction) (x : ℕ) → Everywhere Harmless is → h.failed ≡ false → (first_next h is x).failed ≡ false
unfolding first_next
first_silent h [] x e f = f
first_silent h (Memory a ∷ is) x e f = settle_silent is 0 (access_sets h.registers a x) e.1
first_silent h (Alone o ∷ is) x e f = f

next_silent : (h : Local) (x : ℕ) → Everywhere Harmless h.rest → h.failed ≡ false → (next h x).failed ≡ false
unfolding next
next_silent h x e f = first_silent h h.rest x e f

abbrev Still : Local → Type 0
Still h = Everywhere Harmless h.rest × (h.failed ≡ false)

silent_step : (σ : State) (t : ℕ) → Silent σ → enabled σ t ≡ true → Silent (step σ t)
unfolding advanced
silent_step σ t q m u =
    let h = (thread_of σ t).local in
    let x = (cell_of σ (place σ t)).value in
    thread_cases (λ k h. Still h.local) σ t (enabled_range σ t m)
    (suffix_everywhere Harmless (next h x).rest h.rest (next_suffix h x (enabled_pending σ t m)) (q t).0, next_silent h x (q t).0 (q t).1)
    u (λ ne. q u)

silent_passes : (σ : State) → Silent σ → fails σ ≡ false
unfolding failed_of
silent_passes σ q = go (fails σ) refl
  where
    go : (b : Bool) → fails σ ≡ b → fails σ ≡ false
    go true e = let r = fails_at σ e in absurd (true≢false (sym r.1 ∙ (q r.0).1))
    go false e = e

pub silent_decides : (set : ℕ) (σ : State) → Silent σ → (k : ℕ) (x : Side) → value (game_of set) k x σ ≡ friendly
silent_decides set σ q k x = decided (game_of set) lawful friendly Silent (λ τ s. winner_passes (game_of set) τ (silent_passes τ s)) silent_step k x σ q
