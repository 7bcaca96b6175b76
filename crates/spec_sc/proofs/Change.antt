-- One step, seen at one thread and at one location: the thread did one access more or waits, the location got one write more or is as it was.
use Prim.Native.Nat.{ℕ, suc, ◌<◌, ◌≤◌}
use mathlib.Core.Path.{◌≡◌, refl, sym, ap, subst, ◌∙◌}
use mathlib.Core.Logic.{◌≢◌}
use mathlib.Core.Bool.{Bool, true, false}
use mathlib.Core.Option.{Option, none, some}
use mathlib.Core.List.{List, [], ◌∷◌, ◌++◌, Memᴰ}
use native.Mathlib.Omega.{arith}
use native.Mathlib.Decide.{ℕ_discrete}
use lib.ListN.{length}
use Rattle.spec_sc.specs.Local.{puts}
use Rattle.spec_sc.specs.State.{Event, History, Thread, Cell, State, thread_of, cell_of, place, noted, advanced, written, met, step}
use Rattle.spec_sc.proofs.Steps.{thread_own, thread_other, cell_own, cell_other}

-- a property of thread u behind a step of t: shown of the thread advanced, and of a thread that waits
pub thread_cases : (P : ℕ → Thread → Type 0) (σ : State) (t : ℕ) → t < length σ.threads → P t (advanced (thread_of σ t) (cell_of σ (place σ t))) → (u : ℕ) → (u ≢ t → P u (thread_of σ u)) → P u (thread_of (step σ t) u)
thread_cases P σ t h own u other = go (ℕ_discrete u t)
  where
    go : Dec (u ≡ t) → P u (thread_of (step σ t) u)
    go (yes q) = subst (λ (k : ℕ). P k (thread_of (step σ t) k)) (sym q) (subst (P t) (sym (thread_own σ t h)) own)
    go (no q) = subst (P u) (sym (thread_other σ t u q)) (other q)

-- the history notes one access, and its source if it reads
pub noted_done : (b : Bool) (e : Event) (h : History) → (noted b e h).done ≡ suc h.done
unfolding noted
noted_done true e h = refl
noted_done false e h = refl

-- what one access adds to the reads
unfoldable pub added_read : Bool → ℕ → Event → List (ℕ × Event)
added_read true i e = (i, e) ∷ []
added_read false i e = []

pub noted_reads : (b : Bool) (e : Event) (h : History) → (noted b e h).reads ≡ added_read b h.done e ++ h.reads
unfolding noted added_read
noted_reads true e h = refl
noted_reads false e h = refl

pub done_own : (σ : State) (t : ℕ) → t < length σ.threads → (thread_of (step σ t) t).history.done ≡ suc (thread_of σ t).history.done
unfolding advanced
done_own σ t h = ap (λ (k : Thread). k.history.done) (thread_own σ t h) ∙ noted_done _ _ _

pub done_grows : (σ : State) (t : ℕ) → t < length σ.threads → (u : ℕ) → (thread_of σ u).history.done ≤ (thread_of (step σ t) u).history.done
done_grows σ t h u = go (ℕ_discrete u t)
  where
    go : Dec (u ≡ t) → (thread_of σ u).history.done ≤ (thread_of (step σ t) u).history.done
    go (yes q) = rw q (omega (arith, done_own σ t h))
    go (no q) = rw (thread_other σ t u q) (omega arith)

-- one step at one location: nothing, or one write in front
pub data Change (σ : State) (t l : ℕ) : Type 0 where
  kept : cell_of (step σ t) l ≡ cell_of σ l → Change σ t l
  wrote : l ≡ place σ t → (v : ℕ) → puts (thread_of σ t).local (cell_of σ (place σ t)).value ≡ some v →
      ((cell_of (step σ t) l).writes ≡ (t, (thread_of σ t).history.done) ∷ (cell_of σ l).writes) → (cell_of (step σ t) l).value ≡ v → Change σ t l

-- what a write leaves
pub written_some : (e : Event) (o : Option ℕ) (c : Cell) (v : ℕ) → o ≡ some v → ((written e o c).writes ≡ e ∷ c.writes) × ((written e o c).value ≡ v)
unfolding written
written_some e none c v q = absurd (let z : ◌≡◌ {A = ℕ} 0 1 = cc in omega arith)
written_some e (some x) c v q = (refl, cc)

pub written_none : (e : Event) (o : Option ℕ) (c : Cell) → o ≡ none → written e o c ≡ c
unfolding written
written_none e none c q = refl
written_none e (some x) c q = absurd (let z : ◌≡◌ {A = ℕ} 0 1 = cc in omega arith)

-- the cell that a writing step leaves
pub wrote_own : (σ : State) (t l v : ℕ) → place σ t < length σ.cells → l ≡ place σ t → puts (thread_of σ t).local (cell_of σ (place σ t)).value ≡ some v →
    ((cell_of (step σ t) l).writes ≡ (t, (thread_of σ t).history.done) ∷ (cell_of σ l).writes) × ((cell_of (step σ t) l).value ≡ v)
unfolding met
wrote_own σ t l v h q e =
    let c = ap (cell_of (step σ t)) q ∙ cell_own σ t h in
    let r = written_some (t, (thread_of σ t).history.done) (puts (thread_of σ t).local (cell_of σ (place σ t)).value) (cell_of σ (place σ t)) v e in
    (ap (λ (k : Cell). k.writes) c ∙ r.0 ∙ ap (λ (k : ℕ). (t, (thread_of σ t).history.done) ∷ (cell_of σ k).writes) (sym q), ap (λ (k : Cell). k.value) c ∙ r.1)

pub change : (σ : State) (t : ℕ) → place σ t < length σ.cells → (l : ℕ) → Change σ t l
unfolding met
change σ t h l = go (ℕ_discrete l (place σ t)) (puts (thread_of σ t).local (cell_of σ (place σ t)).value) refl
  where
    go : Dec (l ≡ place σ t) → (o : Option ℕ) → puts (thread_of σ t).local (cell_of σ (place σ t)).value ≡ o → Change σ t l
    go (no q) o e = kept (cell_other σ t l q)
    go (yes q) none e = kept (ap (cell_of (step σ t)) q ∙ cell_own σ t h ∙ written_none _ _ (cell_of σ (place σ t)) e ∙ ap (cell_of σ) (sym q))
    go (yes q) (some v) e = let r = wrote_own σ t l v h q e in wrote q v e r.0 r.1

-- a write once noted stays
pub writes_stay : (σ : State) (t l : ℕ) (x : Event) → place σ t < length σ.cells → Memᴰ x (cell_of σ l).writes → Memᴰ x (cell_of (step σ t) l).writes
writes_stay σ t l x h m = go (change σ t h l)
  where
    go : Change σ t l → Memᴰ x (cell_of (step σ t) l).writes
    go (kept q) = subst (λ (c : Cell). Memᴰ x c.writes) (sym q) m
    go (wrote q v e w y) = subst (Memᴰ x) (sym w) (Memᴰ.tail m)
