-- What a run adds at a location: events that are new. So a location whose latest write is the same before and after was not written in
-- between.
use Prim.Native.Nat.{ℕ, ◌<◌, ◌≤◌}
use mathlib.Core.Path.{◌≡◌, refl, sym, ap, subst, ◌∙◌}
use mathlib.Core.Logic.{◌⊎◌, inl, inr, ⊎_elim}
use mathlib.Core.Bool.{true}
use mathlib.Core.List.Memᴰ
use mathlib.Core.List.{List, [], ◌∷◌, ◌++◌, append_assoc, Memᴰ}
use native.Mathlib.Omega.{arith}
use lib.ListN.{length, length-append}
use Rattle.spec_schedules.specs.Order.{Schedule}
use Rattle.spec_schedules.specs.System.{run, Allowed}
use Rattle.spec_sc.specs.State.{Event, initial_write, Cell, State, thread_of, cell_of, latest, step, enabled, SC}
use Rattle.spec_sc.proofs.Steps.{enabled_small, enabled_range}
use Rattle.spec_sc.proofs.Change.{done_grows, Change, kept, wrote}
use Rattle.spec_sc.proofs.Regular.{Regular, changes, regular_step, regular_run}

-- an event that comes after this state
pub record Fresh (σ : State) (x : Event) : Type 0 where
  pub real : x.0 < 6
  pub late : (thread_of σ x.0).history.done ≤ x.1

-- what a run adds at a location
pub record Grown (σ : State) (z : Schedule) (l : ℕ) : Type 0 where
  pub new : List Event
  pub whole : (cell_of (run SC σ z) l).writes ≡ new ++ (cell_of σ l).writes
  -- no new write: the cell is as it was
  pub none_new : new ≡ [] → cell_of (run SC σ z) l ≡ cell_of σ l
  pub fresh : (x : Event) → Memᴰ x new → Fresh σ x
  -- each new write was added by a step of this run
  pub of : (x : Event) → Memᴰ x new → Memᴰ x.0 z

pub append_none : {A : Type 0} (a : List A) (x : A) → a ++ (x ∷ []) ≡ [] → ⊥
append_none a x e = omega (arith, ap length e, length-append a (x ∷ []))

pub only : {A : Type 0} (x y : A) → Memᴰ x (y ∷ []) → x ≡ y
only {A} x y k = ⊎_elim (λ (e : x ≡ y). e) (λ (j : Memᴰ x []). absurd (Memᴰ.not-nil j)) (Memᴰ.cases_cons k)

grown_step : (t : ℕ) (z : Schedule) (σ : State) → enabled σ t ≡ true → (l : ℕ) → Change σ t l → Grown (step σ t) z l → Grown σ (t ∷ z) l
unfolding run
grown_step t z σ m l (kept q) g = record {
  new = g.new;
  whole = g.whole ∙ ap (λ (c : Cell). g.new ++ c.writes) q;
  none_new = λ e. g.none_new e ∙ q;
  fresh = λ x k. let f = g.fresh x k in record { real = f.real; late = omega (arith, f.late, done_grows σ t (enabled_range σ t m) x.0) };
  of = λ x k. Memᴰ.tail (g.of x k);
}
grown_step t z σ m l (wrote q v o w y) g = record {
  new = g.new ++ (e ∷ []);
  whole = g.whole ∙ ap (λ (c : List Event). g.new ++ c) w ∙ sym (append_assoc g.new (e ∷ []) (cell_of σ l).writes);
  none_new = λ i. absurd (append_none g.new e i);
  fresh = λ x k. ⊎_elim (λ (j : Memᴰ x g.new). let f = g.fresh x j in record { real = f.real; late = omega (arith, f.late, done_grows σ t (enabled_range σ t m) x.0) })
      (λ (j : Memᴰ x (e ∷ [])). subst (Fresh σ) (sym (only x e j)) (record { real = enabled_small σ t m; late = omega arith })) (Memᴰ.append_cases g.new k);
  of = λ x k. ⊎_elim (λ (j : Memᴰ x g.new). Memᴰ.tail (g.of x j)) (λ (j : Memᴰ x (e ∷ [])). Memᴰ.head (ap (λ (i : Event). i.0) (only x e j))) (Memᴰ.append_cases g.new k);
}
  where
    e : Event
    e = (t, (thread_of σ t).history.done)

pub grown : (z : Schedule) (σ : State) → Regular σ → Allowed SC σ z → (l : ℕ) → Grown σ z l
unfolding run
grown [] σ r a l = record { new = []; whole = refl; none_new = λ e. refl; fresh = λ x m. absurd (Memᴰ.not-nil m); of = λ x m. absurd (Memᴰ.not-nil m) }
grown (t ∷ z) σ r a l = grown_step t z σ a.0 l (changes σ r t l) (grown z (step σ t) (regular_step σ t r a.0) a.1 l)

-- the latest of what was there is not fresh; the latest of what is added is
pub not_fresh : (σ : State) → Regular σ → (l : ℕ) (ws : List Event) → (cell_of σ l).writes ≡ ws → Fresh σ (latest ws) → ⊥
unfolding latest initial_write
not_fresh σ r l [] k f = let a = f.real in omega arith
not_fresh σ r l (x ∷ ws) k f = let a = f.late in let o = r.old l x (subst (Memᴰ x) (sym k) (Memᴰ.head refl)) in omega arith

none_or_fresh : (σ : State) (new ws : List Event) → ((x : Event) → Memᴰ x new → Fresh σ x) → (new ≡ []) ⊎ Fresh σ (latest (new ++ ws))
unfolding latest
none_or_fresh σ [] ws h = inl refl
none_or_fresh σ (x ∷ new) ws h = inr (h x (Memᴰ.head refl))

pub same_latest : (σ : State) → Regular σ → (z : Schedule) (l : ℕ) (g : Grown σ z l) → latest (cell_of (run SC σ z) l).writes ≡ latest (cell_of σ l).writes → g.new ≡ []
same_latest σ r z l g e = ⊎_elim (λ (k : g.new ≡ []). k)
    (λ (f : Fresh σ (latest (g.new ++ (cell_of σ l).writes))). absurd (not_fresh σ r l (cell_of σ l).writes refl (subst (Fresh σ) (ap latest (sym g.whole) ∙ e) f)))
    (none_or_fresh σ g.new (cell_of σ l).writes g.fresh)

-- what has no length is empty
pub empty : {A : Type 0} (n : List A) → length n ≡ 0 → n ≡ []
empty [] q = refl
empty (x ∷ n) q = absurd (omega arith)

-- where the end has no more writes than the beginning, neither has what lies between
pub no_growth : (σ : State) → Regular σ → (z y : Schedule) → Allowed SC σ z → Allowed SC (run SC σ z) y → (l : ℕ) → cell_of (run SC (run SC σ z) y) l ≡ cell_of σ l → cell_of (run SC σ z) l ≡ cell_of σ l
no_growth σ r z y a b l e =
    let g = grown z σ r a l in
    let h = grown y (run SC σ z) (regular_run z σ r a) b l in
    let i = simp length-append at (ap length g.whole) in
    let j = simp length-append at (ap length h.whole) in
    let k = ap (λ (c : Cell). length c.writes) e in
    g.none_new (empty g.new (omega arith))
