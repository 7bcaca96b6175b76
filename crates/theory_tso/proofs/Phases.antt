-- PHASES: a schedule's accesses before its first move, and what is left from that move on. Two full schedules with one end, both of which move only
-- where no access could be taken, stand in one state at their first moves. On the way: a step taken earlier, over steps that need not stay before it.
use Prim.Native.Nat.{ℕ}
use mathlib.Core.Path.{◌≡◌, refl, sym, ap, subst, ◌∙◌}
use mathlib.Core.Logic.{◌≢◌, ⊎_elim}
use mathlib.Core.Bool.{true, false, true≢false}
use mathlib.Core.List.Memᴰ
use mathlib.Core.List.{[], ◌∷◌, ◌++◌, Memᴰ}
use mathlib.Core.Option.{some, none-ne-some}
use native.Mathlib.Decide.{ℕ_discrete}
use Rattle.spec_schedules.specs.Order.{Schedule}
use Rattle.spec_schedules.specs.System.{run, FullFrom}
use Rattle.spec_schedules.specs.Orders.{trace, next_of, clear}
use Rattle.spec_schedules.proofs.Runs.{run_cons, ended_none}
use Rattle.spec_schedules.proofs.Remaining as Ordered
use Rattle.spec_tso.specs.State.{State, Kind, access, move, kind_of, step, enabled, TSO}
use Rattle.spec_tso.specs.Graph.{graph_of}
use Rattle.spec_tso.specs.Actions.{Action, action, who, dependent}
use Rattle.spec_tso.proofs.ActionTerms.{actions}
use Rattle.spec_tso.proofs.Bytes.{access≢move}
use Rattle.spec_tso.proofs.Lawful.{lawful}
use Rattle.spec_tso.proofs.Orders.{action_who, swap}
use Rattle.spec_tso.proofs.Regular.{Regular, regular_step}
use Rattle.spec_tso.proofs.FirstFits.{first_fits}

-- ---- the accesses before the first move, and what is left from that move on
unfoldable pub accesses : Schedule → Schedule
accesses [] = []
accesses (x ∷ s) = elim (kind_of x) [ access ↦ x ∷ accesses s | move ↦ [] ]

unfoldable pub from_move : Schedule → Schedule
from_move [] = []
from_move (x ∷ s) = elim (kind_of x) [ access ↦ from_move s | move ↦ x ∷ s ]

pub accesses_access : (x : ℕ) (s : Schedule) → kind_of x ≡ access → accesses (x ∷ s) ≡ x ∷ accesses s
unfolding accesses
accesses_access x s e = rw (e, accesses)

pub accesses_move : (x : ℕ) (s : Schedule) → kind_of x ≡ move → accesses (x ∷ s) ≡ []
unfolding accesses
accesses_move x s e = rw (e, accesses)

pub from_access : (x : ℕ) (s : Schedule) → kind_of x ≡ access → from_move (x ∷ s) ≡ from_move s
unfolding from_move
from_access x s e = rw (e, from_move)

pub from_move_lem : (x : ℕ) (s : Schedule) → kind_of x ≡ move → from_move (x ∷ s) ≡ x ∷ s
unfolding from_move
from_move_lem x s e = rw (e, from_move)

pub both_parts : (s : Schedule) → s ≡ accesses s ++ from_move s
unfolding accesses from_move
both_parts [] = refl
both_parts (x ∷ s) = go (kind_of x) refl (both_parts s)
  where
    go : (k : Kind) → kind_of x ≡ k → s ≡ accesses s ++ from_move s → (x ∷ s) ≡ accesses (x ∷ s) ++ from_move (x ∷ s)
    go access e ih = rw (accesses_access x s e, from_access x s e) (ap (λ (k : Schedule). x ∷ k) ih)
    go move e ih = rw (accesses_move x s e, from_move_lem x s e) refl

-- ---- what holds at each place of a schedule
abbrev pub AtEach : (State → ℕ → Schedule → Type 0) → State → Schedule → Type 0
AtEach P σ [] = Unit {0}
AtEach P σ (x ∷ s) = P σ x s × AtEach P (step σ x) s

-- where a move is taken, no access could be taken with the same end
abbrev pub PromptAt : State → ℕ → Schedule → Type 0
PromptAt σ x s = kind_of x ≡ move → (t : ℕ) (r : Schedule) → kind_of t ≡ access → FullFrom TSO σ (t ∷ r) → run TSO σ (t ∷ r) ≡ run TSO σ (x ∷ s) → ⊥

abbrev pub Prompt : State → Schedule → Type 0
Prompt σ s = AtEach PromptAt σ s

-- ---- a step taken earlier
-- the step t, whose action is d, can be taken before each of these steps, with the same states behind
abbrev pub Over : Action → State → Schedule → ℕ → Type 0
Over d σ [] t = enabled σ t ≡ true
Over d σ (x ∷ f) t =
    (enabled σ x ≡ true) × (enabled σ t ≡ true) × (enabled (step σ t) x ≡ true) × (dependent (action σ x) d ≡ false)
    × (step (step σ x) t ≡ step (step σ t) x) × (action (step σ t) x ≡ action σ x) × Over d (step σ x) f t

module _ (d : Action) (t : ℕ) where
  pub over_may : (f : Schedule) (σ : State) → Over d σ f t → enabled σ t ≡ true
  over_may [] σ o = o
  over_may (x ∷ f) σ o = o.1

  pub over_end : (f : Schedule) (σ : State) → Over d σ f t → run TSO (step σ t) f ≡ step (run TSO σ f) t
  unfolding run
  over_end [] σ o = refl
  over_end (x ∷ f) σ o = ap (λ (τ : State). run TSO τ f) (sym o.4) ∙ over_end f (step σ x) o.6

  pub over_run : (f b : Schedule) (σ : State) → Over d σ f t → run TSO (step σ t) (f ++ b) ≡ run TSO σ (f ++ (t ∷ b))
  unfolding run
  over_run [] b σ o = refl
  over_run (x ∷ f) b σ o = ap (λ (τ : State). run TSO τ (f ++ b)) (sym o.4) ∙ over_run f b (step σ x) o.6

  pub over_full : (f b : Schedule) (σ : State) → Over d σ f t → FullFrom TSO σ (f ++ (t ∷ b)) → FullFrom TSO (step σ t) (f ++ b)
  over_full [] b σ o k = k.1
  over_full (x ∷ f) b σ o k = (o.2, subst (λ (τ : State). FullFrom TSO τ (f ++ b)) o.4 (over_full f b (step σ x) o.6 k.1))

  -- from what the step and its action are in the schedule
  pub over_of : (f b : Schedule) (σ : State) → FullFrom TSO σ (f ++ (t ∷ b)) → (Memᴰ t f → ⊥) → clear who dependent (actions σ (f ++ (t ∷ b))) t d ≡ true → action (run TSO σ f) t ≡ d →
      Over d σ f t × (action σ t ≡ d)
  unfolding run trace
  over_of [] b σ k n c e = (k.0, e)
  over_of (x ∷ f) b σ k n c e =
      let ne : x ≢ t = λ q. n (Memᴰ.head (sym q)) in
      let cs = Ordered.clear_other who dependent (action σ x) (actions (step σ x) (f ++ (t ∷ b))) t d (λ q. ne (sym (action_who σ x) ∙ q)) c in
      let r = over_of f b (step σ x) k.1 (λ m. n (Memᴰ.tail m)) cs.1 e in
      let s = swap σ x t ne k.0 (over_may f (step σ x) r.0) (ap (dependent (action σ x)) r.1 ∙ cs.0) in
      ((k.0, s.0.0, s.0.1, cs.0, s.0.2, s.2, r.0), sym s.1 ∙ r.1)

  -- where it is an access, and the schedule prompt, it passes accesses only
  pub over_accesses : (f b : Schedule) (σ : State) → kind_of t ≡ access → Over d σ f t → FullFrom TSO σ (f ++ (t ∷ b)) → Prompt σ (f ++ (t ∷ b)) → (x : ℕ) → Memᴰ x f → kind_of x ≡ access
  over_accesses [] b σ q o k p x m = absurd (Memᴰ.not-nil m)
  over_accesses (y ∷ f) b σ q o k p x m = ⊎_elim (λ (e : x ≡ y). ap kind_of e ∙ here (kind_of y) refl) (λ (n : Memᴰ x f). over_accesses f b (step σ y) q o.6 k.1 p.1 x n) (Memᴰ.cases_cons m)
    where
      here : (j : Kind) → kind_of y ≡ j → kind_of y ≡ access
      here access e = e
      here move e = absurd (p.0 e t ((y ∷ f) ++ b) q (o.1, over_full (y ∷ f) b σ o k) (run_cons TSO σ t ((y ∷ f) ++ b) ∙ over_run (y ∷ f) b σ o))

  -- with one phase
  pub over_phase : (f b : Schedule) (σ : State) → kind_of t ≡ access → Over d σ f t → ((x : ℕ) → Memᴰ x f → kind_of x ≡ access) → run TSO (step σ t) (accesses (f ++ b)) ≡ run TSO σ (accesses (f ++ (t ∷ b)))
  unfolding run
  over_phase [] b σ q o h = sym (ap (run TSO σ) (accesses_access t b q))
  over_phase (x ∷ f) b σ q o h =
      let k = h x (Memᴰ.head refl) in
      ap (run TSO (step σ t)) (accesses_access x (f ++ b) k)
      ∙ ap (λ (τ : State). run TSO τ (accesses (f ++ b))) (sym o.4)
      ∙ over_phase f b (step σ x) q o.6 (λ y m. h y (Memᴰ.tail m))
      ∙ sym (ap (run TSO σ) (accesses_access x (f ++ (t ∷ b)) k))

  -- what holds at each place, if it does where the step was taken earlier
  pub over_each : (P : State → ℕ → Schedule → Type 0) (f b : Schedule) (σ : State) → Regular σ → Over d σ f t →
      ((ρ : State) (x : ℕ) (s r : Schedule) → Regular ρ → enabled ρ t ≡ true → Memᴰ x f → P ρ x s → P (step ρ t) x r) → AtEach P σ (f ++ (t ∷ b)) → AtEach P (step σ t) (f ++ b)
  over_each P [] b σ g o h k = k.1
  over_each P (x ∷ f) b σ g o h k = (
    h σ x (f ++ (t ∷ b)) (f ++ b) g o.1 (Memᴰ.head refl) k.0,
    subst (λ (τ : State). AtEach P τ (f ++ b)) o.4 (over_each P f b (step σ x) (regular_step σ x g o.0) o.6 (λ ρ y s r i j m. h ρ y s r i j (Memᴰ.tail m)) k.1),
  )

  -- a prompt schedule stays prompt without a step that its accesses pass
  pub over_prompt : (f b : Schedule) (σ : State) → Regular σ → Over d σ f t → ((x : ℕ) → Memᴰ x f → kind_of x ≡ access) → Prompt σ (f ++ (t ∷ b)) → Prompt (step σ t) (f ++ b)
  over_prompt f b σ g o h = over_each PromptAt f b σ g o (λ ρ x s r i j m k e. absurd (access≢move (sym (h x m) ∙ e)))

-- where t stands first
pub record First (σ : State) (v : Schedule) (t : ℕ) (d : Action) : Type 0 where
  pub front : Schedule
  pub rest : Schedule
  pub split : v ≡ front ++ (t ∷ rest)
  pub absent : Memᴰ t front → ⊥
  pub does : action (run TSO σ front) t ≡ d

first : (v : Schedule) (σ : State) (t : ℕ) (d : Action) → next_of who dependent (actions σ v) t ≡ some d → First σ v t d
unfolding trace run
first [] σ t d n = absurd (none-ne-some d (sym (Ordered.next_nil who dependent t) ∙ n))
first (x ∷ v) σ t d n = go (ℕ_discrete x t) (λ k. first v (step σ x) t d k)
  where
    go : Dec (x ≡ t) → (next_of who dependent (actions (step σ x) v) t ≡ some d → First (step σ x) v t d) → First σ (x ∷ v) t d
    go (yes q) ih =
        let e : some (action σ x) ≡ some d = sym (Ordered.next_same who dependent (action σ x) (actions (step σ x) v) t (action_who σ x ∙ q)) ∙ n in
        let i : action σ x ≡ d = cc in
        record { front = []; rest = v; split = ap (λ (k : ℕ). k ∷ v) q; absent = λ m. Memᴰ.not-nil m; does = ap (action σ) (sym q) ∙ i }
    go (no q) ih =
        let r = ih (sym (Ordered.next_other who dependent (action σ x) (actions (step σ x) v) t (λ i. q (sym (action_who σ x) ∙ i))) ∙ n) in
        record {
          front = x ∷ r.front;
          rest = r.rest;
          split = ap (λ (k : Schedule). x ∷ k) r.split;
          absent = λ m. ⊎_elim (λ (i : t ≡ x). q (sym i)) (λ (i : Memᴰ t r.front). r.absent i) (Memᴰ.cases_cons m);
          does = r.does;
        }

-- the first step t of one schedule taken first in another with its end
pub record Pulled (σ : State) (v : Schedule) (t : ℕ) : Type 0 where
  pub front : Schedule
  pub rest : Schedule
  pub split : v ≡ front ++ (t ∷ rest)
  pub absent : Memᴰ t front → ⊥
  pub over : Over (action σ t) σ front t
  pub does : action (run TSO σ front) t ≡ action σ t

pub pull : (σ : State) → Regular σ → (t : ℕ) (w v : Schedule) → FullFrom TSO σ (t ∷ w) → FullFrom TSO σ v → run TSO σ (t ∷ w) ≡ run TSO σ v → Pulled σ v t
pull σ reg t w v fw fv e =
    let n = first_fits σ reg t w v fw fv (ap graph_of e) in
    let r = first v σ t n.0 n.1 in
    let o = over_of n.0 t r.front r.rest σ (subst (FullFrom TSO σ) r.split fv) r.absent (subst (λ (s : Schedule). clear who dependent (actions σ s) t n.0 ≡ true) r.split n.2) r.does in
    record { front = r.front; rest = r.rest; split = r.split; absent = r.absent; over = subst (λ (d : Action). Over d σ r.front t) (sym o.1) o.0; does = r.does ∙ sym o.1 }

-- ONE STATE AT THE FIRST MOVES
pub same_phase : (w v : Schedule) (σ : State) → Regular σ → FullFrom TSO σ w → FullFrom TSO σ v → run TSO σ w ≡ run TSO σ v → Prompt σ w → Prompt σ v →
    run TSO σ (accesses w) ≡ run TSO σ (accesses v)
same_phase [] [] σ r fw fv e pw pv = refl
same_phase [] (y ∷ v) σ r fw fv e pw pv = absurd (true≢false (sym fv.0 ∙ ended_none TSO lawful σ y fw))
same_phase (x ∷ w) v σ r fw fv e pw pv = go (kind_of x) refl v fv e pv (λ v' fv' e' pv'. same_phase w v' (step σ x) (regular_step σ x r fw.0) fw.1 fv' e' pw.1 pv')
  where
    go : (k : Kind) → kind_of x ≡ k → (v : Schedule) → FullFrom TSO σ v → run TSO σ (x ∷ w) ≡ run TSO σ v → Prompt σ v →
        ((v' : Schedule) → FullFrom TSO (step σ x) v' → run TSO (step σ x) w ≡ run TSO (step σ x) v' → Prompt (step σ x) v' → run TSO (step σ x) (accesses w) ≡ run TSO (step σ x) (accesses v')) →
        run TSO σ (accesses (x ∷ w)) ≡ run TSO σ (accesses v)
    go access k v fv e pv ih =
        let q = pull σ r x w v fw fv e in
        let d = action σ x in
        let f = q.front in
        let b = q.rest in
        let full = subst (FullFrom TSO σ) q.split fv in
        let prompt = subst (Prompt σ) q.split pv in
        let only = over_accesses d x f b σ k q.over full prompt in
        ap (run TSO σ) (accesses_access x w k)
        ∙ run_cons TSO σ x (accesses w)
        ∙ ih (f ++ b) (over_full d x f b σ q.over full) (sym (run_cons TSO σ x w) ∙ e ∙ ap (run TSO σ) q.split ∙ sym (over_run d x f b σ q.over)) (over_prompt d x f b σ r q.over only prompt)
        ∙ over_phase d x f b σ k q.over only
        ∙ ap (λ (s : Schedule). run TSO σ (accesses s)) (sym q.split)
    go move k [] fv e pv ih = absurd (true≢false (sym fw.0 ∙ ended_none TSO lawful σ x fv))
    go move k (y ∷ v) fv e pv ih = at (kind_of y) refl
      where
        at : (j : Kind) → kind_of y ≡ j → run TSO σ (accesses (x ∷ w)) ≡ run TSO σ (accesses (y ∷ v))
        at access j = absurd (pw.0 k y v j fv (sym e))
        at move j = ap (run TSO σ) (accesses_move x w k ∙ sym (accesses_move y v j))
