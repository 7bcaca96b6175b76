-- What a run adds at a location: events that were not there. So a location whose latest write is the same before and after was not written in
-- between. And reads only grow.
use Prim.Native.Nat.{ℕ, ◌<◌, ◌≤◌}
use mathlib.Core.Path.{◌≡◌, refl, sym, ap, subst, ◌∙◌}
use mathlib.Core.Logic.{◌⊎◌, inl, inr, ⊎_elim}
use mathlib.Core.Bool.{true}
use mathlib.Core.List.Memᴰ
use mathlib.Core.List.{List, [], ◌∷◌, ◌++◌, append_assoc, Memᴰ}
use native.Mathlib.Omega.{arith}
use lib.ListN.{length, length-append}
use Rattle.spec_schedules.specs.Order.{Schedule}
use Rattle.spec_schedules.specs.System.{run, Allowed}
use Rattle.spec_sc.specs.Local.{takes}
use Rattle.spec_sc.specs.State.{Event, initial_write, Cell, latest}
use Rattle.spec_sc.proofs.Regular.{latest_of}
use Rattle.spec_sc.proofs.Growth.{append_none, only, empty}
use Rattle.spec_sc.proofs.Suffix.{Suffix, suffix_same, suffix_trans}
use Rattle.spec_sc.proofs.Change.{added_read, noted_reads}
use Rattle.spec_tso.specs.State.{Thread, State, thread_of, cell_of, finds, number_of, thread_behind, place, kind_of, owner, step, enabled, TSO, Kind, access, move}
use Rattle.spec_tso.proofs.Steps.{enabled_small, enabled_able, able_range}
use Rattle.spec_tso.proofs.Change.{thread_cases, done_grows, Change, kept, wrote}
use Rattle.spec_tso.proofs.StoreOrder.{put_new}
use Rattle.spec_tso.proofs.Regular.{Regular, changes, regular_step, regular_run}

-- what a run adds at a location
pub record Grown (σ : State) (z : Schedule) (l : ℕ) : Type 0 where
  pub new : List Event
  pub whole : (cell_of (run TSO σ z) l).writes ≡ new ++ (cell_of σ l).writes
  -- no new write: the cell is as it was
  pub none_new : new ≡ [] → cell_of (run TSO σ z) l ≡ cell_of σ l
  -- a new one is none of the old ones, nor the initial one
  pub fresh : (x : Event) → Memᴰ x new → Memᴰ x (cell_of σ l).writes → ⊥
  pub real : (x : Event) → Memᴰ x new → x.0 < 6

grown_step : (b : ℕ) (z : Schedule) (σ : State) → Regular σ → enabled σ b ≡ true → (l : ℕ) → Change σ (kind_of b) (owner b) l → Grown (step σ b) z l → Grown σ (b ∷ z) l
unfolding run step
grown_step b z σ r m l (kept q) g = record {
  new = g.new;
  whole = g.whole ∙ ap (λ (c : Cell). g.new ++ c.writes) q;
  none_new = λ e. g.none_new e ∙ q;
  fresh = λ x i j. g.fresh x i (subst (λ (c : Cell). Memᴰ x c.writes) (sym q) j);
  real = g.real;
}
grown_step b z σ r m l (wrote q v o w y) g = record {
  new = g.new ++ (e ∷ []);
  whole = g.whole ∙ ap (λ (c : List Event). g.new ++ c) w ∙ sym (append_assoc g.new (e ∷ []) (cell_of σ l).writes);
  none_new = λ i. absurd (append_none g.new e i);
  fresh = λ x i j. ⊎_elim (λ (k : Memᴰ x g.new). g.fresh x k (subst (Memᴰ x) (sym w) (Memᴰ.tail j)))
      (λ (k : Memᴰ x (e ∷ [])). put_new σ (kind_of b) (owner b) (r.stores (owner b)) (enabled_able σ b m) l (subst (λ (f : Event). Memᴰ f (cell_of σ l).writes) (only x e k) j)) (Memᴰ.append_cases g.new i);
  real = λ x i. ⊎_elim (λ (k : Memᴰ x g.new). g.real x k)
      (λ (k : Memᴰ x (e ∷ [])). subst (λ (f : Event). f.0 < 6) (sym (only x e k)) (enabled_small σ b m)) (Memᴰ.append_cases g.new i);
}
  where
    e : Event
    e = (owner b, number_of (kind_of b) (thread_of σ (owner b)))

pub grown : (z : Schedule) (σ : State) → Regular σ → Allowed TSO σ z → (l : ℕ) → Grown σ z l
unfolding run
grown [] σ r a l = record { new = []; whole = refl; none_new = λ e. refl; fresh = λ x m. absurd (Memᴰ.not-nil m); real = λ x m. absurd (Memᴰ.not-nil m) }
grown (b ∷ z) σ r a l = grown_step b z σ r a.0 l (changes σ r (kind_of b) (owner b) (enabled_able σ b a.0) l) (grown z (step σ b) (regular_step σ b r a.0) a.1 l)

-- a new latest write is not the old one
not_latest : (ws new : List Event) → ((x : Event) → Memᴰ x new → Memᴰ x ws → ⊥) → ((x : Event) → Memᴰ x new → x.0 < 6) → latest (new ++ ws) ≡ latest ws → new ≡ []
unfolding latest initial_write
not_latest ws [] f r e = refl
not_latest ws (x ∷ new) f r e = absurd (go (latest_of ws))
  where
    go : (latest ws ≡ initial_write) ⊎ Memᴰ (latest ws) ws → ⊥
    go (inl q) = omega (arith, r x (Memᴰ.head refl), ap (λ (y : Event). y.0) (e ∙ q))
    go (inr i) = f x (Memᴰ.head refl) (subst (λ (y : Event). Memᴰ y ws) (sym e) i)

pub same_latest : (σ : State) (z : Schedule) (l : ℕ) (g : Grown σ z l) → latest (cell_of (run TSO σ z) l).writes ≡ latest (cell_of σ l).writes → g.new ≡ []
same_latest σ z l g e = not_latest (cell_of σ l).writes g.new g.fresh g.real (ap latest (sym g.whole) ∙ e)

-- where the end has no more writes than the beginning, neither has what lies between
pub no_growth : (σ : State) → Regular σ → (z y : Schedule) → Allowed TSO σ z → Allowed TSO (run TSO σ z) y → (l : ℕ) → cell_of (run TSO (run TSO σ z) y) l ≡ cell_of σ l → cell_of (run TSO σ z) l ≡ cell_of σ l
no_growth σ r z y a b l e =
    let g = grown z σ r a l in
    let h = grown y (run TSO σ z) (regular_run z σ r a) b l in
    let i = simp length-append at (ap length g.whole) in
    let j = simp length-append at (ap length h.whole) in
    let k = ap (λ (c : Cell). length c.writes) e in
    g.none_new (empty g.new (omega arith))

-- counts of accesses only grow
pub done_run : (z : Schedule) (σ : State) → Allowed TSO σ z → (u : ℕ) → (thread_of σ u).history.done ≤ (thread_of (run TSO σ z) u).history.done
unfolding run step
done_run [] σ a u = omega arith
done_run (b ∷ z) σ a u = omega (arith, done_grows σ (kind_of b) (owner b) (able_range σ (kind_of b) (owner b) (length σ.cells) (enabled_able σ b a.0)) u, done_run z (step σ b) a.1 u)

-- reads of a step stand in front of the older ones
own_row : (k : Kind) (t : ℕ) (h : Thread) (c : Cell) → Suffix h.history.reads (thread_behind k t h c).history.reads
unfolding thread_behind
own_row access t h c = (added_read (takes h.local) h.history.done (finds t h c).source, noted_reads (takes h.local) (finds t h c).source h.history)
own_row move t h c = suffix_same h.history.reads

step_row : (σ : State) (b : ℕ) → enabled σ b ≡ true → (u : ℕ) → Suffix (thread_of σ u).history.reads (thread_of (step σ b) u).history.reads
unfolding step
step_row σ b m u = thread_cases (λ i h. Suffix (thread_of σ i).history.reads h.history.reads) σ (kind_of b) (owner b) (able_range σ (kind_of b) (owner b) (length σ.cells) (enabled_able σ b m))
    (own_row (kind_of b) (owner b) (thread_of σ (owner b)) (cell_of σ (place σ (kind_of b) (owner b)))) u (λ ne. suffix_same (thread_of σ u).history.reads)

pub run_row : (z : Schedule) (σ : State) → Allowed TSO σ z → (u : ℕ) → Suffix (thread_of σ u).history.reads (thread_of (run TSO σ z) u).history.reads
unfolding run
run_row [] σ a u = suffix_same (thread_of σ u).history.reads
run_row (b ∷ z) σ a u = suffix_trans (step_row σ b a.0 u) (run_row z (step σ b) a.1 u)
