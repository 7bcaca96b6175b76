-- BEHIND A STEP: the ways, as far as eight accesses go; whether it failed; and that one step fewer is left.
use Prim.Native.Nat.{ℕ, ◌+◌, ◌-◌, ◌*◌, ◌%◌, ◌^◌, ◌<◌, ◌≤◌}
use mathlib.Core.Path.{◌≡◌, refl, sym, ap, ap₂, subst, ◌∙◌}
use mathlib.Core.Bool.{Bool, true, false, true≢false}
use mathlib.Core.List.{List, [], ◌∷◌, ◌++◌}
use native.Mathlib.Omega.{arith}
use native.Mathlib.Decide.{ℕ_discrete, dec_lt}
use lib.ListN.{length, get_or, set, length-append}
use lib.Seq.{get_or-set_same, get_or-set_other}
use Rattle.spec_file.specs.Program.{Program}
use Rattle.spec_schedules.specs.Order.{Schedule}
use Rattle.spec_schedules.specs.System.{ended}
use Rattle.spec_schedules.proofs.Runs.{run_snoc, ended_of}
use Rattle.spec_model.specs.Laws.{Admitted}
use Rattle.file_rows.specs.Rows.{instruction_at}
use Rattle.spec_sc.specs.Local.{first_place, place_of}
use Rattle.machine.specs.Held.{idle}
use Rattle.machine_access.proofs.HeldSettling.{code_at_lem}
use Rattle.search_place.proofs.RowAccess.{place_first}
use Rattle.spec_tso.specs.State.{Thread, State, Kind, access, TSO, start, step, step_of, enabled, target, place, thread_of, thread_behind, unqueued, kind_of, owner}
use Rattle.spec_tso.specs.Graph.{end_of}
use Rattle.spec_tso.specs.TotalStoreOrder.{tso}
use Rattle.spec_tso.proofs.Admits.{few_none}
use Rattle.spec_tso.proofs.Bytes.{ByteCase, of_access, of_move, byte_case, kind_low, owner_access}
use Rattle.spec_tso.proofs.Steps.{enabled_small, enabled_able, able_range, thread_own}
use Rattle.tso_machine.proofs.HeldCore.{core_thread}
use Rattle.tso_machine.proofs.HeldMeeting.{access_left, access_ready}
use Rattle.tso_place.specs.Reached.{machine_of, Reached}
use Rattle.tso_place.specs.declared.place.Place.{Place}
use Rattle.tso_place.proofs.ReachedStep.{step_room}
use Rattle.theory_tso_key.specs.Views.{breaks_by, breaks}
use Rattle.theory_tso_key.specs.Ways.{way_of}
use Rattle.theory_tso_key.proofs.Rules.{Met}
use Rattle.theory_tso_key.proofs.Undone.{way_own, way_other}
use Rattle.tso_key.specs.Stands.{Stands}
use Rattle.tso_key.specs.declared.spot.Spot.{Spot}

-- ---- a step from the spot x
module _ (code lengths class : List ℕ) (threads groups : ℕ) (x : Spot) (p : Program) (v : Schedule) (at : Stands code lengths class threads groups x p v) where
  pub admitted : Admitted tso p
  admitted = (at.reached.loaded.well_formed, few_none p at.reached.few)

  met : Met p v (end_of p v)
  met = (refl, at.reached.allowed)

  -- there is room for a step where somebody may step
  pub has_room : ended TSO (end_of p v) ≡ false → x.place.steps < 32
  has_room e = go (dec_lt x.place.steps 32)
    where
      none : 32 ≤ x.place.steps → (b : ℕ) (r : Bool) → enabled (end_of p v) b ≡ r → enabled (end_of p v) b ≡ false
      none h b true q = absurd (omega (arith, h, step_room code lengths class threads groups x.place p v at.reached b q))
      none h b false q = q

      go : Dec (x.place.steps < 32) → x.place.steps < 32
      go (yes h) = h
      go (no h) = absurd (true≢false (sym (ended_of TSO (end_of p v) (λ b. none (omega (arith, h)) b (enabled (end_of p v) b) refl)) ∙ e))

  module _ (b : ℕ) (ok : enabled (end_of p v) b ≡ true) where
    -- the row of an access
    pub row_within : b < 6 → (u : ℕ) → u ≡ b → u * 16 + (get_or x.place.threads u idle).at < 96
    row_within h u e =
        let r = access_ready code lengths (machine_of x.place) (end_of p v) b at.reached.holds (omega (arith, h)) ok in
        let q = ap (λ (i : ℕ). (get_or x.place.threads i idle).at) e in
        omega (arith, e, q, h, r.sixteen, r.left)

    -- and its location
    row_place : b < 6 → first_place (instruction_at code (b * 16 + (get_or x.place.threads b idle).at) ∷ []) ≡ place (end_of p v) access b
    unfolding place target place_of unqueued
    row_place h =
        let held = at.reached.holds in
        let e = (core_thread held b h).rest ∙ code_at_lem code b (get_or lengths b 0) (get_or x.place.threads b idle).at (access_left code lengths (machine_of x.place) (end_of p v) b held (omega (arith, h)) ok) in
        sym (ap first_place e ∙ place_first _ _)

    -- an access adds its location to its thread's way
    pub ways_access : b < 6 → (u l w : ℕ) (ws : List ℕ) → u ≡ b → length x.ways ≡ 6 → l ≡ first_place (instruction_at code (u * 16 + (get_or x.place.threads u idle).at) ∷ []) →
        w ≡ (get_or x.ways u 0 * 8 + l) % 2 ^ 24 → ws ≡ set x.ways u w → (t : ℕ) → t < 6 → get_or ws t 0 ≡ way_of p (v ++ (b ∷ [])) t % 2 ^ 24
    ways_access h u l w ws eu six el ew es t ht = go (ℕ_discrete t u)
      where
        there : l ≡ place (end_of p v) access b
        there = el ∙ ap (λ (i : ℕ). first_place (instruction_at code (i * 16 + (get_or x.place.threads i idle).at) ∷ [])) eu ∙ row_place h

        longer : (W P : ℕ) → (W % 2 ^ 24 * 8 + P) % 2 ^ 24 ≡ (W * 8 + P) % 2 ^ 24
        longer W P = omega arith

        go : Dec (t ≡ u) → get_or ws t 0 ≡ way_of p (v ++ (b ∷ [])) t % 2 ^ 24
        go (yes q) =
            ap₂ (λ (k : List ℕ) (i : ℕ). get_or k i 0) es q ∙ get_or-set_same x.ways u w 0 (omega (arith, eu, h, six)) ∙ ew
            ∙ ap₂ (λ (i j : ℕ). (i * 8 + j) % 2 ^ 24) (ap (λ (i : ℕ). get_or x.ways i 0) eu ∙ at.ways b h) there ∙ longer (way_of p v b) (place (end_of p v) access b)
            ∙ ap (λ (i : ℕ). i % 2 ^ 24) (sym (way_own p v (end_of p v) met b)) ∙ ap (λ (i : ℕ). way_of p (v ++ (b ∷ [])) i % 2 ^ 24) (sym (q ∙ eu))
        go (no q) =
            ap (λ (k : List ℕ). get_or k t 0) es ∙ get_or-set_other x.ways u t w 0 q ∙ at.ways t ht
            ∙ ap (λ (i : ℕ). i % 2 ^ 24) (sym (way_other p v (end_of p v) met t b (λ z. q (sym z ∙ sym eu))))

    -- a move adds nothing
    pub ways_move : 6 ≤ b → (ws : List ℕ) → ws ≡ x.ways → (t : ℕ) → t < 6 → get_or ws t 0 ≡ way_of p (v ++ (b ∷ [])) t % 2 ^ 24
    ways_move h ws es t ht = ap (λ (k : List ℕ). get_or k t 0) es ∙ at.ways t ht ∙ ap (λ (i : ℕ). i % 2 ^ 24) (sym (way_other p v (end_of p v) met t b (λ z. omega (arith, h, ht, z))))

    -- one step more, and one fewer is left
    module _ (y : Spot) (next : Stands code lengths class threads groups y p (v ++ (b ∷ []))) where
      pub one_more : y.place.steps ≡ x.place.steps + 1
      one_more = omega (arith, next.reached.counted, at.reached.counted, length-append v (b ∷ []))

      pub step_less : 32 - y.place.steps < 32 - x.place.steps
      step_less = omega (arith, one_more, step_room code lengths class threads groups x.place p v at.reached b ok)

-- ---- whether the step that led to the place y failed: its thread has, and it was no move
module _ (code lengths class : List ℕ) (threads groups : ℕ) (y : Place) (p : Program) (v : Schedule) (b : ℕ) (next : Reached code lengths class threads groups y p (v ++ (b ∷ []))) (ok : enabled (end_of p v) b ≡ true) where
  pub broken_access : b < 6 → (u : ℕ) → u ≡ b → (get_or y.threads u idle).failed ≡ breaks (end_of p v) b
  unfolding breaks breaks_by thread_behind unqueued step
  broken_access h u e =
      let k = kind_low b (omega (arith, h)) in
      let o = (owner_access b k).0 in
      let i : b < length (end_of p v).threads = subst (λ (j : ℕ). j < length (end_of p v).threads) o (able_range (end_of p v) (kind_of b) (owner b) (length (end_of p v).cells) (enabled_able (end_of p v) b ok)) in
      ap (λ (j : ℕ). (get_or y.threads j idle).failed) e ∙ sym (core_thread next.holds b h).failed
      ∙ ap (λ (τ : State). (thread_of τ b).local.failed) (run_snoc TSO (start p) v b)
      ∙ ap₂ (λ (j : Kind) (t : ℕ). (thread_of (step_of (end_of p v) j t) b).local.failed) k o
      ∙ ap (λ (g : Thread). g.local.failed) (thread_own (end_of p v) access b i)
      ∙ sym (ap₂ (λ (j : Kind) (t : ℕ). breaks_by j (end_of p v) t) k o)

  pub broken_move : 6 ≤ b → false ≡ breaks (end_of p v) b
  unfolding breaks breaks_by
  broken_move h = go (byte_case b)
    where
      go : ByteCase b → false ≡ breaks (end_of p v) b
      go (of_access l k o) = absurd (omega (arith, h, o, enabled_small (end_of p v) b ok))
      go (of_move l k o) = sym (ap (λ (j : Kind). breaks_by j (end_of p v) (owner b)) k)
