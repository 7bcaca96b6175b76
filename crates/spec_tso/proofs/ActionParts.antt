-- What the actions of a run say: their parts, and where the first step of a byte stands.
use Prim.Native.Nat.{ℕ}
use mathlib.Core.Path.{◌≡◌, refl, sym, ap, ◌∙◌}
use mathlib.Core.Logic.{◌≢◌}
use mathlib.Core.Bool.{true, false, false≢true}
use mathlib.Core.Option.{some}
use mathlib.Core.List.{List, [], ◌∷◌, ◌++◌, Memᴰ}
use Rattle.spec_schedules.specs.Order.{Schedule}
use Rattle.spec_schedules.specs.System.{run}
use Rattle.spec_schedules.specs.Orders.{trace, next_of, clear}
use Rattle.spec_schedules.proofs.Remaining as Ordered
use Rattle.spec_sc.specs.Local.{takes}
use Rattle.spec_sc.specs.Actions.{given}
use Rattle.spec_sc.proofs.Trails.{given_some}
use Rattle.spec_tso.specs.State.{Thread, State, thread_of, cell_of, locked, finds, number_of, place, kind_of, owner, step, TSO, Kind, access, move}
use Rattle.spec_tso.specs.Actions.{Action, moving, reading, locking, source_if, before_if, action_of, action, who, dependent}
use Rattle.spec_tso.proofs.ActionTerms.{actions}
use Rattle.spec_tso.proofs.Steps.{putting}

reads_true : (k : Kind) (h : Thread) → reading k h ≡ true → (k ≡ access) × (takes h.local ≡ true)
unfolding reading
reads_true access h q = (refl, q)
reads_true move h q = absurd (false≢true q)

locks_true : (k : Kind) (h : Thread) → locking k h ≡ true → (k ≡ access) × (locked h.local ≡ true)
unfolding locking
locks_true access h q = (refl, q)
locks_true move h q = absurd (false≢true q)

not_moving : (k : Kind) → moving k ≡ false → k ≡ access
unfolding moving
not_moving access q = refl
not_moving move q = absurd (false≢true (sym q))

is_moving : (k : Kind) → moving k ≡ true → k ≡ move
unfolding moving
is_moving access q = absurd (false≢true q)
is_moving move q = refl

-- the parts of an action
module _ (σ : State) (b : ℕ) where
  pub act_access : (action σ b).moves ≡ false → kind_of b ≡ access
  unfolding action action_of
  act_access q = not_moving (kind_of b) q

  pub act_move : (action σ b).moves ≡ true → kind_of b ≡ move
  unfolding action action_of
  act_move q = is_moving (kind_of b) q

  pub act_event : (action σ b).event ≡ (owner b, number_of (kind_of b) (thread_of σ (owner b)))
  unfolding action action_of
  act_event = refl

  pub act_location : (action σ b).location ≡ place σ (kind_of b) (owner b)
  unfolding action action_of place
  act_location = refl

  pub act_puts : (action σ b).puts ≡ true → (x : ℕ) × (putting σ (kind_of b) (owner b) ≡ some x)
  unfolding action action_of
  act_puts q = given_some (putting σ (kind_of b) (owner b)) q

  pub act_before : (x : ℕ) → putting σ (kind_of b) (owner b) ≡ some x → (action σ b).before ≡ (cell_of σ (place σ (kind_of b) (owner b))).writes
  unfolding action action_of given before_if
  act_before x q = rw q

  pub act_reads : (action σ b).reads ≡ true → (kind_of b ≡ access) × (takes (thread_of σ (owner b)).local ≡ true)
  unfolding action action_of
  act_reads q = reads_true (kind_of b) (thread_of σ (owner b)) q

  pub act_locks : (action σ b).locks ≡ true → (kind_of b ≡ access) × (locked (thread_of σ (owner b)).local ≡ true)
  unfolding action action_of
  act_locks q = locks_true (kind_of b) (thread_of σ (owner b)) q

  pub act_source : (action σ b).reads ≡ true → (action σ b).source ≡ (finds (owner b) (thread_of σ (owner b)) (cell_of σ (place σ (kind_of b) (owner b)))).source
  unfolding action action_of source_if
  act_source q = rw q

-- in a trail: the first step of b, and that d depends on nothing before it
by : (σ : State) (a b : ℕ) → a ≢ b → who (action σ a) ≢ b
unfolding who action action_of
by σ a b ne = ne

own : (σ : State) (b : ℕ) → who (action σ b) ≡ b
unfolding who action action_of
own σ b = refl

pub first_at : (z w : Schedule) (σ : State) (b : ℕ) → (Memᴰ b z → ⊥) → next_of who dependent (actions σ (z ++ (b ∷ w))) b ≡ some (action (run TSO σ z) b)
unfolding trace run
first_at [] w σ b n = Ordered.next_same who dependent (action σ b) (actions (step σ b) w) b (own σ b)
first_at (a ∷ z) w σ b n =
    Ordered.next_other who dependent (action σ a) (actions (step σ a) (z ++ (b ∷ w))) b (by σ a b (λ q. n (Memᴰ.head (sym q))))
    ∙ first_at z w (step σ a) b (λ m. n (Memᴰ.tail m))

pub clear_at : (z w : Schedule) (σ : State) (b : ℕ) (d : Action) → (Memᴰ b z → ⊥) → ((x : Schedule) (a : ℕ) (y : Schedule) → z ≡ x ++ (a ∷ y) → dependent (action (run TSO σ x) a) d ≡ false) → clear who dependent (actions σ (z ++ (b ∷ w))) b d ≡ true
unfolding trace run
clear_at [] w σ b d n h = Ordered.clear_same who dependent (action σ b) (actions (step σ b) w) b d (own σ b)
clear_at (a ∷ z) w σ b d n h =
    Ordered.clear_more who dependent (action σ a) (actions (step σ a) (z ++ (b ∷ w))) b d (by σ a b (λ q. n (Memᴰ.head (sym q)))) (h [] a z refl)
    (clear_at z w (step σ a) b d (λ m. n (Memᴰ.tail m)) (λ x c y e. h (a ∷ x) c y (ap {B = List ℕ} (λ k. a ∷ k) e)))
