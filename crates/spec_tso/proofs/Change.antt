-- One step, seen at one thread and at one location: the thread is behind it or waits, the location got one write more or is as it was.
use Prim.Native.Nat.{ℕ, suc, ◌<◌, ◌≤◌}
use mathlib.Core.Path.{◌≡◌, refl, sym, ap, subst, ◌∙◌}
use mathlib.Core.Logic.{◌≢◌, ◌⊎◌, inl, inr, ⊎_elim}
use mathlib.Core.Option.{Option, none, some}
use mathlib.Core.List.Memᴰ
use mathlib.Core.List.{◌∷◌, Memᴰ}
use native.Mathlib.Omega.{arith}
use native.Mathlib.Decide.{ℕ_discrete}
use lib.ListN.{length}
use Rattle.spec_sc.specs.Local.{takes}
use Rattle.spec_sc.specs.State.{Event, Cell, written}
use Rattle.spec_sc.proofs.Change.{noted_done}
use Rattle.spec_tso.specs.State.{Thread, State, thread_of, cell_of, finds, number_of, thread_behind, reaches, cell_behind, place, step_of, Kind, access, move}
use Rattle.spec_tso.proofs.Steps.{thread_own, thread_other, cell_own, cell_other, putting, still_cell}

-- a property of thread u behind a step of t: shown of the thread behind it, and of a thread that waits
pub thread_cases : (P : ℕ → Thread → Type 0) (σ : State) (k : Kind) (t : ℕ) → t < length σ.threads → P t (thread_behind k t (thread_of σ t) (cell_of σ (place σ k t))) → (u : ℕ) → (u ≢ t → P u (thread_of σ u)) → P u (thread_of (step_of σ k t) u)
thread_cases P σ k t h own u other = go (ℕ_discrete u t)
  where
    go : Dec (u ≡ t) → P u (thread_of (step_of σ k t) u)
    go (yes q) = subst (λ (x : ℕ). P x (thread_of (step_of σ k t) x)) (sym q) (subst (P t) (sym (thread_own σ k t h)) own)
    go (no q) = subst (P u) (sym (thread_other σ k t u q)) (other q)

-- an access counts one more, a move none
pub access_done : (t : ℕ) (h : Thread) (c : Cell) → (thread_behind access t h c).history.done ≡ suc h.history.done
unfolding thread_behind
access_done t h c = noted_done (takes h.local) (finds t h c).source h.history

pub move_done : (t : ℕ) (h : Thread) (c : Cell) → (thread_behind move t h c).history ≡ h.history
unfolding thread_behind
move_done t h c = refl

pub done_behind : (k : Kind) (t : ℕ) (h : Thread) (c : Cell) → h.history.done ≤ (thread_behind k t h c).history.done
done_behind access t h c = omega (arith, access_done t h c)
done_behind move t h c = omega (arith, ap (λ x. x.done) (move_done t h c))

pub done_grows : (σ : State) (k : Kind) (t : ℕ) → t < length σ.threads → (u : ℕ) → (thread_of σ u).history.done ≤ (thread_of (step_of σ k t) u).history.done
done_grows σ k t h u = thread_cases (λ x y. (thread_of σ x).history.done ≤ y.history.done) σ k t h (done_behind k t (thread_of σ t) (cell_of σ (place σ k t))) u (λ ne. omega arith)

-- one step at one location: nothing, or one write in front
pub data Change (σ : State) (k : Kind) (t l : ℕ) : Type 0 where
  kept : cell_of (step_of σ k t) l ≡ cell_of σ l → Change σ k t l
  wrote : l ≡ place σ k t → (v : ℕ) → putting σ k t ≡ some v → ((cell_of (step_of σ k t) l).writes ≡ (t, number_of k (thread_of σ t)) ∷ (cell_of σ l).writes) → (cell_of (step_of σ k t) l).value ≡ v → Change σ k t l

left_some : (k : Kind) (t : ℕ) (h : Thread) (c : Cell) (v : ℕ) → reaches k t h c ≡ some v → ((cell_behind k t h c).writes ≡ (t, number_of k h) ∷ c.writes) × ((cell_behind k t h c).value ≡ v)
unfolding cell_behind written
left_some k t h c v q = (rw q, rw q)

-- the cell that a put leaves
pub wrote_own : (σ : State) (k : Kind) (t l v : ℕ) → place σ k t < length σ.cells → l ≡ place σ k t → putting σ k t ≡ some v →
    ((cell_of (step_of σ k t) l).writes ≡ (t, number_of k (thread_of σ t)) ∷ (cell_of σ l).writes) × ((cell_of (step_of σ k t) l).value ≡ v)
wrote_own σ k t l v h q e =
    let c = ap (cell_of (step_of σ k t)) q ∙ cell_own σ k t h in
    let r = left_some k t (thread_of σ t) (cell_of σ (place σ k t)) v e in
    (ap (λ (x : Cell). x.writes) c ∙ r.0 ∙ ap (λ (x : ℕ). (t, number_of k (thread_of σ t)) ∷ (cell_of σ x).writes) (sym q), ap (λ (x : Cell). x.value) c ∙ r.1)

pub change : (σ : State) (k : Kind) (t : ℕ) → place σ k t < length σ.cells → (l : ℕ) → Change σ k t l
change σ k t h l = go (ℕ_discrete l (place σ k t)) (putting σ k t) refl
  where
    go : Dec (l ≡ place σ k t) → (o : Option ℕ) → putting σ k t ≡ o → Change σ k t l
    go (no q) o e = kept (cell_other σ k t l q)
    go (yes q) none e = kept (still_cell σ k t l e)
    go (yes q) (some v) e = let r = wrote_own σ k t l v h q e in wrote q v e r.0 r.1

-- a write of the state behind is one of before, or the step's own
pub write_cases : (σ : State) (k : Kind) (t l : ℕ) (x : Event) → Change σ k t l → Memᴰ x (cell_of (step_of σ k t) l).writes → Memᴰ x (cell_of σ l).writes ⊎ ((x ≡ (t, number_of k (thread_of σ t))) × ((v : ℕ) × (putting σ k t ≡ some v)))
write_cases σ k t l x (kept q) m = inl (subst (λ (c : Cell). Memᴰ x c.writes) q m)
write_cases σ k t l x (wrote q v e w y) m = ⊎_elim (λ (i : x ≡ (t, number_of k (thread_of σ t))). inr (i, (v, e))) (λ (i : Memᴰ x (cell_of σ l).writes). inl i) (Memᴰ.cases_cons (subst (Memᴰ x) w m))

-- a write once noted stays
pub writes_stay : (σ : State) (k : Kind) (t l : ℕ) (x : Event) → Change σ k t l → Memᴰ x (cell_of σ l).writes → Memᴰ x (cell_of (step_of σ k t) l).writes
writes_stay σ k t l x (kept q) m = subst (λ (c : Cell). Memᴰ x c.writes) (sym q) m
writes_stay σ k t l x (wrote q v e w y) m = subst (Memᴰ x) (sym w) (Memᴰ.tail m)
