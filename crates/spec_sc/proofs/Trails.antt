-- What the actions of a run say: a step reads or writes, a step that writes adds its event, and where the first step of a thread stands.
use Prim.Native.Nat.{ℕ}
use mathlib.Core.Path.{◌≡◌, refl, sym, ap, ◌∙◌}
use mathlib.Core.Logic.{◌≢◌}
use mathlib.Core.Bool.{Bool, true, false, true≢false, false≢true}
use mathlib.Core.Option.{Option, none, some}
use mathlib.Core.List.{List, [], ◌∷◌, ◌++◌, Memᴰ}
use borrow.Author.Tests.{eq-eqb, ne_eqb}
use Rattle.spec_schedules.specs.Order.{Schedule}
use Rattle.spec_schedules.specs.System.{run}
use Rattle.spec_schedules.specs.Orders.{trace, next_of, clear}
use Rattle.spec_schedules.proofs.Remaining as Ordered
use Rattle.spec_sc.specs.Local.{takes, puts}
use Rattle.spec_sc.specs.State.{State, thread_of, cell_of, place, step, enabled, SC}
use Rattle.spec_sc.specs.Actions.{Action, given, writes, action, who, conflict}
use Rattle.spec_sc.proofs.ActionTerms.{actions}
use Rattle.spec_sc.proofs.Access.{blind_puts}
use Rattle.spec_sc.proofs.Steps.{enabled_pending}
use Rattle.spec_sc.proofs.Change.{wrote_own}
use Rattle.spec_sc.proofs.Regular.{Regular, place_in}
use Rattle.spec_sc.proofs.Reading.{same_place}
use Rattle.spec_sc.proofs.Orders.{action_who}

-- a step that writes: what it leaves
pub given_some : (o : Option ℕ) → given o ≡ true → (n : ℕ) × (o ≡ some n)
unfolding given
given_some none e = absurd (false≢true e)
given_some (some n) e = (n, refl)

writes_some : (σ : State) (t : ℕ) → writes σ t ≡ true → (n : ℕ) × (puts (thread_of σ t).local (cell_of σ (place σ t)).value ≡ some n)
unfolding writes
writes_some σ t e = given_some _ e

pub writes_own : (σ : State) → Regular σ → (t l : ℕ) → l ≡ place σ t → writes σ t ≡ true → (cell_of (step σ t) l).writes ≡ (t, (thread_of σ t).history.done) ∷ (cell_of σ l).writes
writes_own σ r t l q e = let o = writes_some σ t e in (wrote_own σ t l o.0 (place_in σ r t) q o.1).0

-- a step reads or writes
pub blind_writes : (σ : State) (t : ℕ) → enabled σ t ≡ true → takes (thread_of σ t).local ≡ false → writes σ t ≡ true
unfolding writes given
blind_writes σ t m e = let o = blind_puts (thread_of σ t).local (cell_of σ (place σ t)).value 0 (enabled_pending σ t m) e in ap given o.1

pub still_takes : (σ : State) (t : ℕ) → enabled σ t ≡ true → writes σ t ≡ false → takes (thread_of σ t).local ≡ true
still_takes σ t m w = go (takes (thread_of σ t).local) refl
  where
    go : (b : Bool) → takes (thread_of σ t).local ≡ b → takes (thread_of σ t).local ≡ true
    go true e = e
    go false e = absurd (true≢false (sym (blind_writes σ t m e) ∙ w))

-- whose action it is
pub who_is : (a : Action) → who a ≡ a.thread
unfolding who
who_is a = refl

-- when two actions conflict: at one location, and one of them writes
pub conflict_elsewhere : (a b : Action) → a.location ≢ b.location → conflict a b ≡ false
unfolding conflict
conflict_elsewhere a b n = let e = ne_eqb a.location b.location n in rw (e, conflict)

pub conflict_written : (a b : Action) → a.location ≡ b.location → a.wrote ≡ true → conflict a b ≡ true
unfolding conflict
conflict_written a b q w = let e = eq-eqb a.location b.location q in rw (e, w, conflict)

pub conflict_read : (a b : Action) → a.location ≡ b.location → a.wrote ≡ false → conflict a b ≡ b.wrote
unfolding conflict
conflict_read a b q w = let e = eq-eqb a.location b.location q in rw (e, w, conflict)

-- in a trail: the first step of t, and that nothing before it conflicts with d
by : (σ : State) (a t : ℕ) → a ≢ t → who (action σ a) ≢ t
unfolding who action
by σ a t ne = ne

pub first_at : (z w : Schedule) (σ : State) (t : ℕ) → (Memᴰ t z → ⊥) → next_of who conflict (actions σ (z ++ (t ∷ w))) t ≡ some (action (run SC σ z) t)
unfolding trace run
first_at [] w σ t n = Ordered.next_same who conflict (action σ t) (actions (step σ t) w) t (action_who σ t)
first_at (a ∷ z) w σ t n =
    Ordered.next_other who conflict (action σ a) (actions (step σ a) (z ++ (t ∷ w))) t (by σ a t (λ q. n (Memᴰ.head (sym q))))
    ∙ first_at z w (step σ a) t (λ m. n (Memᴰ.tail m))

pub clear_at : (z w : Schedule) (σ : State) (t : ℕ) (d : Action) → (Memᴰ t z → ⊥) → ((x : Schedule) (a : ℕ) (y : Schedule) → z ≡ x ++ (a ∷ y) → conflict (action (run SC σ x) a) d ≡ false) → clear who conflict (actions σ (z ++ (t ∷ w))) t d ≡ true
unfolding trace run
clear_at [] w σ t d n h = Ordered.clear_same who conflict (action σ t) (actions (step σ t) w) t d (action_who σ t)
clear_at (a ∷ z) w σ t d n h =
    Ordered.clear_more who conflict (action σ a) (actions (step σ a) (z ++ (t ∷ w))) t d (by σ a t (λ q. n (Memᴰ.head (sym q)))) (h [] a z refl)
    (clear_at z w (step σ a) t d (λ m. n (Memᴰ.tail m)) (λ x b y e. h (a ∷ x) b y (ap {B = List ℕ} (λ k. a ∷ k) e)))

pub same_action : (τ σ : State) (t : ℕ) → thread_of τ t ≡ thread_of σ t → cell_of τ (place σ t) ≡ cell_of σ (place σ t) → action τ t ≡ action σ t
unfolding action writes
same_action τ σ t a c = let p = same_place τ σ t a in rw (p, a, c)
