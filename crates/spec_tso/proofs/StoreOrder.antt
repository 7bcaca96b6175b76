-- A thread's stores go to memory in order: those in memory are numbered below those pending, these ascend, and all are below the next access.
use Prim.Native.Nat.{ℕ, suc, ◌<◌, ◌≤◌}
use mathlib.Core.Path.{◌≡◌, refl, sym, ap, subst, ◌∙◌}
use mathlib.Core.Logic.{◌≢◌, ◌⊎◌, ⊎_elim}
use mathlib.Core.Bool.{Bool, true, false, false≢true}
use mathlib.Core.Option.{Option, none, some}
use mathlib.Core.List.{List, [], ◌∷◌, ◌++◌, Memᴰ}
use native.Mathlib.Omega.{arith}
use native.Mathlib.Decide.{ℕ_discrete}
use lib.ListN.{length}
use Rattle.spec_sc.specs.Local.{place_of, puts}
use Rattle.spec_sc.specs.State.{Event, Cell}
use Rattle.spec_tso.specs.Queue.{Entry, queued, newer, oldest_number, movable, free}
use Rattle.spec_tso.specs.State.{Thread, State, thread_of, cell_of, locked, finds, number_of, thread_behind, place, step_of, able, Kind, access, move}
use Rattle.spec_tso.proofs.Steps.{able_free, able_movable, able_range, thread_own, thread_other, putting}
use Rattle.spec_tso.proofs.Queues.{free_empty}
use Rattle.spec_tso.proofs.OwnSwap.{quiet_access}
use Rattle.spec_tso.proofs.Change.{access_done, Change, write_cases}

-- the numbers of a queue ascend from lo to below hi
abbrev pub Within : ℕ → List Entry → ℕ → Type 0
Within lo [] hi = lo ≤ hi
Within lo (e ∷ q) hi = (lo ≤ e.number) × Within (suc e.number) q hi

pub within_le : (lo : ℕ) (q : List Entry) (hi : ℕ) → Within lo q hi → lo ≤ hi
within_le lo [] hi w = w
within_le lo (e ∷ q) hi w = let a = w.0 in let b = within_le (suc e.number) q hi w.1 in omega arith

pub within_in : (lo : ℕ) (q : List Entry) (hi : ℕ) (x : Entry) → Within lo q hi → Memᴰ x q → (lo ≤ x.number) × (x.number < hi)
within_in lo [] hi x w m = absurd (mathlib.Core.List.Memᴰ.not-nil m)
within_in lo (e ∷ q) hi x w m = ⊎_elim
    (λ (i : x ≡ e). let a = w.0 in let b = within_le (suc e.number) q hi w.1 in let c = ap (λ (y : Entry). y.number) i in (omega arith, omega arith))
    (λ (i : Memᴰ x q). let r = within_in (suc e.number) q hi x w.1 i in let a = w.0 in let b = r.0 in (omega arith, r.1)) (mathlib.Core.List.Memᴰ.cases_cons m)

within_queued : (lo : ℕ) (q : List Entry) (hi : ℕ) (b : Bool) (l : ℕ) (o : Option ℕ) → Within lo q hi → Within lo (q ++ queued b hi l o) (suc hi)
unfolding queued
within_queued lo [] hi b l none w = omega (arith, w)
within_queued lo [] hi true l (some v) w = omega (arith, w)
within_queued lo [] hi false l (some v) w = (w, omega arith)
within_queued lo (e ∷ q) hi b l o w = (w.0, within_queued (suc e.number) q hi b l o w.1)

within_newer : (lo : ℕ) (q : List Entry) (hi n : ℕ) → movable q n ≡ true → Within lo q hi → (lo ≤ oldest_number q) × Within (suc (oldest_number q)) (newer q) hi
unfolding movable oldest_number newer
within_newer lo [] hi n m w = absurd (false≢true m)
within_newer lo (e ∷ q) hi n m w = w

-- thread t: what of it is in memory stands below the floor, what is pending at or above it
pub record StoresInOrder (σ : State) (t : ℕ) : Type 0 where
  pub floor : ℕ
  pub within : Within floor (thread_of σ t).queue (thread_of σ t).history.done
  pub below : (l : ℕ) (e : Event) → Memᴰ e (cell_of σ l).writes → e.0 ≡ t → e.1 < floor

-- the next event that a step puts is at or above it
at_floor : (k : Kind) (h : Thread) (n lo : ℕ) → able k h n ≡ true → Within lo h.queue h.history.done → lo ≤ number_of k h
unfolding number_of able
at_floor access h n lo m w = within_le lo h.queue h.history.done w
at_floor move h n lo m w = (within_newer lo h.queue h.history.done n m w).0

pub put_new : (σ : State) (k : Kind) (t : ℕ) → StoresInOrder σ t → able k (thread_of σ t) (length σ.cells) ≡ true → (l : ℕ) → Memᴰ (t, number_of k (thread_of σ t)) (cell_of σ l).writes → ⊥
put_new σ k t L m l i =
    let a = L.below l (t, number_of k (thread_of σ t)) i refl in
    let b = at_floor k (thread_of σ t) (length σ.cells) L.floor m L.within in omega arith

-- behind a step
module _ (σ : State) (k : Kind) (t : ℕ) (m : able k (thread_of σ t) (length σ.cells) ≡ true) (ch : (l : ℕ) → Change σ k t l) where
  other_lane : (u : ℕ) → u ≢ t → StoresInOrder σ u → StoresInOrder (step_of σ k t) u
  other_lane u ne L = record {
    floor = L.floor;
    within = subst (λ (h : Thread). Within L.floor h.queue h.history.done) (sym (thread_other σ k t u ne)) L.within;
    below = λ l e i q. ⊎_elim (λ (j : Memᴰ e (cell_of σ l).writes). L.below l e j q)
        (λ (j : (e ≡ (t, number_of k (thread_of σ t))) × ((v : ℕ) × (putting σ k t ≡ some v))). absurd (ne (sym q ∙ ap (λ (x : Event). x.0) j.0))) (write_cases σ k t l e (ch l) i);
  }

-- a lane from what a step leaves of its thread: the floor may rise to below its event
lane_from : (σ : State) (k : Kind) (t : ℕ) (m : able k (thread_of σ t) (length σ.cells) ≡ true) (ch : (l : ℕ) → Change σ k t l) (L : StoresInOrder σ t) (lo : ℕ) → L.floor ≤ lo →
    Within lo (thread_behind k t (thread_of σ t) (cell_of σ (place σ k t))).queue (thread_behind k t (thread_of σ t) (cell_of σ (place σ k t))).history.done →
    ((v : ℕ) → putting σ k t ≡ some v → number_of k (thread_of σ t) < lo) → StoresInOrder (step_of σ k t) t
lane_from σ k t m ch L lo r w f = record {
  floor = lo;
  within = subst (λ (h : Thread). Within lo h.queue h.history.done) (sym (thread_own σ k t (able_range σ k t (length σ.cells) m))) w;
  below = λ l e i q. ⊎_elim (λ (j : Memᴰ e (cell_of σ l).writes). omega (arith, L.below l e j q))
      (λ (j : (e ≡ (t, number_of k (thread_of σ t))) × ((v : ℕ) × (putting σ k t ≡ some v))). omega (arith, ap (λ (x : Event). x.1) j.0, f j.1.0 j.1.1)) (write_cases σ k t l e (ch l) i);
}

-- the queue and the count behind an access and behind a move
access_within : (t : ℕ) (h : Thread) (c : Cell) (lo : ℕ) → Within lo h.queue h.history.done → Within lo (thread_behind access t h c).queue (thread_behind access t h c).history.done
unfolding thread_behind
access_within t h c lo w = subst (Within lo (h.queue ++ queued (locked h.local) h.history.done (place_of h.local) (puts h.local (finds t h c).value))) (sym (access_done t h c))
    (within_queued lo h.queue h.history.done (locked h.local) (place_of h.local) (puts h.local (finds t h c).value) w)

queued_locked : (b : Bool) (i l : ℕ) (o : Option ℕ) → b ≡ true → queued b i l o ≡ []
unfolding queued
queued_locked true i l none e = refl
queued_locked true i l (some v) e = refl
queued_locked false i l o e = absurd (false≢true e)

locked_within : (t : ℕ) (h : Thread) (c : Cell) → h.queue ≡ [] → locked h.local ≡ true → Within (suc h.history.done) (thread_behind access t h c).queue (thread_behind access t h c).history.done
unfolding thread_behind
locked_within t h c q e = subst (λ (x : List Entry). Within (suc h.history.done) x (thread_behind access t h c).history.done)
    (sym (ap (λ (x : List Entry). x ++ queued (locked h.local) h.history.done (place_of h.local) (puts h.local (finds t h c).value)) q ∙ queued_locked (locked h.local) h.history.done (place_of h.local) (puts h.local (finds t h c).value) e))
    (omega (arith, access_done t h c))

move_within : (t : ℕ) (h : Thread) (c : Cell) (lo n : ℕ) → movable h.queue n ≡ true → Within lo h.queue h.history.done → Within (suc (oldest_number h.queue)) (thread_behind move t h c).queue (thread_behind move t h c).history.done
unfolding thread_behind
move_within t h c lo n m w = (within_newer lo h.queue h.history.done n m w).1

own_lane : (σ : State) (k : Kind) (t : ℕ) → able k (thread_of σ t) (length σ.cells) ≡ true → ((l : ℕ) → Change σ k t l) → StoresInOrder σ t → StoresInOrder (step_of σ k t) t
unfolding number_of
own_lane σ access t m ch L = go (locked (thread_of σ t).local) refl
  where
    go : (b : Bool) → locked (thread_of σ t).local ≡ b → StoresInOrder (step_of σ access t) t
    go false e = lane_from σ access t m ch L L.floor (omega arith) (access_within t (thread_of σ t) (cell_of σ (place σ access t)) L.floor L.within)
        (λ v q. absurd (let p = quiet_access t (thread_of σ t) (cell_of σ (place σ access t)) e in let z : ◌≡◌ {A = ℕ} 0 1 = cc in omega arith))
    go true e =
        let q = free_empty (thread_of σ t).queue (subst (λ (x : Bool). free x (thread_of σ t).queue ≡ true) e (able_free (thread_of σ t) (length σ.cells) m)) in
        let i = within_le L.floor (thread_of σ t).queue (thread_of σ t).history.done L.within in
        lane_from σ access t m ch L (suc (thread_of σ t).history.done) (omega arith) (locked_within t (thread_of σ t) (cell_of σ (place σ access t)) q e) (λ v p. omega arith)
own_lane σ move t m ch L =
    let i = (within_newer L.floor (thread_of σ t).queue (thread_of σ t).history.done (length σ.cells) (able_movable (thread_of σ t) (length σ.cells) m) L.within).0 in
    lane_from σ move t m ch L (suc (oldest_number (thread_of σ t).queue)) (omega arith)
    (move_within t (thread_of σ t) (cell_of σ (place σ move t)) L.floor (length σ.cells) (able_movable (thread_of σ t) (length σ.cells) m) L.within) (λ v p. omega arith)

-- EVERY THREAD KEEPS ITS LANE
pub stores_step : (σ : State) (k : Kind) (t : ℕ) → able k (thread_of σ t) (length σ.cells) ≡ true → ((l : ℕ) → Change σ k t l) → ((u : ℕ) → StoresInOrder σ u) → (u : ℕ) → StoresInOrder (step_of σ k t) u
stores_step σ k t m ch L u = go (ℕ_discrete u t)
  where
    go : Dec (u ≡ t) → StoresInOrder (step_of σ k t) u
    go (yes e) = subst (StoresInOrder (step_of σ k t)) (sym e) (own_lane σ k t m ch (L t))
    go (no e) = other_lane σ k t m ch u e (L u)
