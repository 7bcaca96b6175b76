-- Two full schedules with one graph: the first step t of the one meets, at t's first turn in the other, the same thread and the same cell,
-- and nothing before that turn conflicts with it. So it can be taken first there too.
use Prim.Native.Nat.{ℕ}
use mathlib.Core.Path.{◌≡◌, refl, sym, ap, ap₂, subst, ◌∙◌}
use mathlib.Core.Logic.{◌≢◌}
use mathlib.Core.Bool.{Bool, true, false}
use mathlib.Core.Option.{some}
use mathlib.Core.List.Memᴰ
use mathlib.Core.List.{List, [], ◌∷◌, ◌++◌, append_assoc, Memᴰ}
use native.Mathlib.Omega.{arith}
use borrow.Author.Tests.{eqb-true}
use lib.Dec.{eqb}
use lib.ListN.{length}
use Rattle.spec_schedules.specs.Order.{Schedule}
use Rattle.spec_schedules.specs.System.{run, Allowed, FullFrom}
use Rattle.spec_schedules.specs.Orders.{next_of, clear}
use Rattle.spec_schedules.proofs.Runs.{run_append, run_cons, full_split, full_allowed}
use Rattle.spec_sc.specs.Local.{takes}
use Rattle.spec_sc.specs.State.{Event, Thread, Cell, State, thread_of, cell_of, place, latest, step, SC}
use Rattle.spec_sc.specs.Graph.{graph_of}
use Rattle.spec_sc.specs.Actions.{Action, writes, action, who, conflict}
use Rattle.spec_sc.proofs.ActionTerms.{actions}
use Rattle.spec_sc.proofs.Regular.{Regular, regular_step, regular_run}
use Rattle.spec_sc.proofs.Rows.{same_reads, same_writes}
use Rattle.spec_sc.proofs.Growth.{Grown, grown, same_latest, no_growth}
use Rattle.spec_sc.proofs.Reading.{before_end, FirstStep, first_step_of, same_place, same_source_lem}
use Rattle.spec_sc.proofs.Determined.{determined}
use Rattle.spec_sc.proofs.Trails.{writes_own, blind_writes, still_takes, first_at, clear_at, same_action}

-- a list is empty or has a last element
pub data Ends {A : Type 0} : List A → Type 0 where
  empty : Ends []
  ends : (q : List A) (y : A) → Ends (q ++ (y ∷ []))

pub ends_of : {A : Type 0} (l : List A) → Ends l
ends_of [] = empty
ends_of {A} (x ∷ l) = go l (ends_of l)
  where
    go : (l : List A) → Ends l → Ends (x ∷ l)
    go l empty = ends [] x
    go l (ends q y) = ends (x ∷ q) y

pub longer : (a : Event) (r : List Event) → a ∷ r ≡ r → ⊥
longer a r e = omega (arith, ap length e)

-- before a common end, behind an element that stands on both sides, nothing can have been put in that is not of this kind
pub nothing_between : (P : Event → Type 0) (n : List Event) → Ends n → ((y : Event) → Memᴰ y n → P y) → (x : Event) → (P x → ⊥) → (a b c : List Event) → a ++ (x ∷ c) ≡ b ++ (x ∷ (n ++ c)) → n ≡ []
nothing_between P n empty h x np a b c k = refl
nothing_between P n (ends r y) h x np a b c k =
    let k' : a ++ (x ∷ c) ≡ (b ++ (x ∷ r)) ++ (y ∷ c) = k ∙ ap (λ (m : List Event). b ++ (x ∷ m)) (append_assoc r (y ∷ []) c) ∙ sym (append_assoc b (x ∷ r) (y ∷ c)) in
    absurd (np (subst P (sym (before_end a (b ++ (x ∷ r)) x y c k')) (h y (Memᴰ.append_right r (Memᴰ.head refl)))))

module _ (σ : State) (reg : Regular σ) (t : ℕ) (v w : Schedule) (fv : FullFrom SC σ (t ∷ v)) (fw : FullFrom SC σ w) (same : graph_of (run SC σ (t ∷ v)) ≡ graph_of (run SC σ w)) where
  at_first : FirstStep σ w t
  at_first = first_step_of w σ t fw fv.0

  abbrev z : Schedule
  z = at_first.front

  abbrev l : ℕ
  l = place σ t

  abbrev ρ : State
  ρ = run SC σ z

  cut : Allowed SC σ z × FullFrom SC ρ (t ∷ at_first.rest)
  cut = full_split SC σ z (t ∷ at_first.rest) (subst (FullFrom SC σ) at_first.split fw)

  regρ : Regular ρ
  regρ = regular_run z σ reg cut.0

  lρ : place ρ t ≡ l
  lρ = same_place ρ σ t at_first.waits

  end_w : run SC σ w ≡ run SC ρ (t ∷ at_first.rest)
  end_w = ap (run SC σ) at_first.split ∙ run_append SC σ z (t ∷ at_first.rest)

  -- nothing before t's turn writes where t goes: a read would get another source, a write another place in the order
  nothing_new : (g : Grown σ z l) → g.new ≡ []
  nothing_new g = go (takes (thread_of σ t).local) refl
    where
      go : (b : Bool) → takes (thread_of σ t).local ≡ b → g.new ≡ []
      go true e = same_latest σ reg z l g
          (ap (λ (x : ℕ). latest (cell_of ρ x).writes) (sym lρ)
          ∙ same_source_lem ρ σ t at_first.rest v (full_allowed SC ρ (t ∷ at_first.rest) cut.1).0 (full_allowed SC σ (t ∷ v) fv).0 at_first.waits e
          (ap (λ (x : State). (thread_of x t).history.reads) (sym end_w) ∙ sym (same_reads (run SC σ (t ∷ v)) (run SC σ w) same t)))
      go false e =
          let a = writes_own σ reg t l refl (blind_writes σ t fv.0 e) in
          let b = writes_own ρ regρ t l (sym lρ) (blind_writes ρ t cut.1.0 (ap (λ (h : Thread). takes h.local) at_first.waits ∙ e)) in
          let gv = grown v (step σ t) (regular_step σ t reg fv.0) (full_allowed SC (step σ t) v fv.1).0 l in
          let gw = grown at_first.rest (step ρ t) (regular_step ρ t regρ cut.1.0) (full_allowed SC (step ρ t) at_first.rest cut.1.1).0 l in
          let ev : Event = (t, (thread_of σ t).history.done) in
          let bw : (cell_of (step ρ t) l).writes ≡ ev ∷ (g.new ++ (cell_of σ l).writes) =
          b ∙ ap₂ (λ (x : Thread) (y : List Event). (let q : Event = (t, x.history.done) in q) ∷ y) at_first.waits g.whole in
          let whole : gv.new ++ (ev ∷ (cell_of σ l).writes) ≡ gw.new ++ (ev ∷ (g.new ++ (cell_of σ l).writes)) =
          ap (λ (k : List Event). gv.new ++ k) (sym a) ∙ sym gv.whole ∙ ap (λ (x : State). (cell_of x l).writes) (sym (run_cons SC σ t v)) ∙ same_writes (run SC σ (t ∷ v)) (run SC σ w) same l
          ∙ ap (λ (x : State). (cell_of x l).writes) (end_w ∙ run_cons SC ρ t at_first.rest) ∙ gw.whole ∙ ap (λ (k : List Event). gw.new ++ k) bw in
          nothing_between (λ x. Memᴰ x.0 z) g.new (ends_of g.new) g.of ev at_first.not_yet gv.new gw.new (cell_of σ l).writes whole

  cell_waits : cell_of ρ l ≡ cell_of σ l
  cell_waits = let g = grown z σ reg cut.0 l in g.none_new (nothing_new g)

  -- a step a before t's turn, behind x, does not conflict with t's
  module _ (x : Schedule) (a : ℕ) (y : Schedule) (e : z ≡ x ++ (a ∷ y)) where
    abbrev α : State
    α = run SC σ x

    split : w ≡ x ++ ((a ∷ y) ++ (t ∷ at_first.rest))
    split = at_first.split ∙ ap (λ (k : Schedule). k ++ (t ∷ at_first.rest)) e ∙ append_assoc x (a ∷ y) (t ∷ at_first.rest)

    cut_x : Allowed SC σ x × FullFrom SC α ((a ∷ y) ++ (t ∷ at_first.rest))
    cut_x = full_split SC σ x ((a ∷ y) ++ (t ∷ at_first.rest)) (subst (FullFrom SC σ) split fw)

    allowed_y : Allowed SC α (a ∷ y)
    allowed_y = (full_split SC α (a ∷ y) (t ∷ at_first.rest) cut_x.1).0

    regα : Regular α
    regα = regular_run x σ reg cut_x.0

    cell_end : cell_of (run SC α (a ∷ y)) l ≡ cell_of σ l
    cell_end = ap (λ (k : State). cell_of k l) (sym (run_append SC σ x (a ∷ y)) ∙ ap (run SC σ) (sym e)) ∙ cell_waits

    cell_x : cell_of α l ≡ cell_of σ l
    cell_x = no_growth σ reg x (a ∷ y) cut_x.0 allowed_y l cell_end

    cell_xa : cell_of (step α a) l ≡ cell_of α l
    unfolding run
    cell_xa = no_growth α regα (a ∷ []) y (allowed_y.0, tt) allowed_y.1 l (cell_end ∙ sym cell_x)

    no_write : l ≡ place α a → writes α a ≡ true → ⊥
    no_write q k = longer (a, (thread_of α a).history.done) (cell_of α l).writes (sym (writes_own α regα a l q k) ∙ ap (λ (c : Cell). c.writes) cell_xa)

    not_t : a ≢ t
    not_t q = at_first.not_yet (subst (λ (k : Schedule). Memᴰ t k) (sym e) (Memᴰ.append_right x (Memᴰ.head (sym q))))

    -- a read there, with t writing: in the other schedule it comes behind t, and has another source
    behind_t : writes σ t ≡ true → (f r : Schedule) → (t ∷ v) ≡ f ++ (a ∷ r) → latest (cell_of (run SC σ f) l).writes ≡ latest (cell_of σ l).writes → ⊥
    unfolding run
    behind_t wr [] r s c = not_t (let i : t ≡ a = cc in sym i)
    behind_t wr (b ∷ f) r s c =
        let i : b ≡ t = cc in
        let vf = (full_split SC σ (b ∷ f) (a ∷ r) (subst (FullFrom SC σ) s fv)).0 in
        let g = grown (b ∷ f) σ reg vf l in
        let one : cell_of (step σ b) l ≡ cell_of σ l = no_growth σ reg (b ∷ []) f (vf.0, tt) vf.1 l (g.none_new (same_latest σ reg (b ∷ f) l g c)) in
        longer (t, (thread_of σ t).history.done) (cell_of σ l).writes (sym (writes_own σ reg t l refl wr) ∙ ap (λ (j : ℕ). (cell_of (step σ j) l).writes) (sym i) ∙ ap (λ (c : Cell). c.writes) one)

    no_read : l ≡ place α a → writes α a ≡ false → writes σ t ≡ true → ⊥
    no_read q k wr =
        let m = determined σ reg (t ∷ v) w fv fw same x a (y ++ (t ∷ at_first.rest)) split in
        let pl : place (run SC σ m.front) a ≡ l = same_place (run SC σ m.front) α a m.thread ∙ sym q in
        behind_t wr m.front m.rest m.split
        (ap (λ (i : ℕ). latest (cell_of (run SC σ m.front) i).writes) (sym pl) ∙ m.from (still_takes α a allowed_y.0 k)
        ∙ ap (λ (i : ℕ). latest (cell_of α i).writes) (sym q) ∙ ap (λ (c : Cell). latest c.writes) cell_x)

    no_conflict : conflict (action α a) (action σ t) ≡ false
    unfolding conflict action
    no_conflict = go (eqb (place α a) l) refl (writes α a) refl (writes σ t) refl
      where
        go : (b : Bool) → eqb (place α a) l ≡ b → (c : Bool) → writes α a ≡ c → (d : Bool) → writes σ t ≡ d → conflict (action α a) (action σ t) ≡ false
        go false p c q d r = rw (p, conflict)
        go true p true q d r = absurd (no_write (sym (eqb-true (place α a) l p)) q)
        go true p false q true r = absurd (no_read (sym (eqb-true (place α a) l p)) q r)
        go true p false q false r = rw (p, q, conflict) r

  -- FIRST FITS: t's first step in w is the step that t does first in v, and nothing before it conflicts with it
  pub first_fits : (next_of who conflict (actions σ w) t ≡ some (action σ t)) × (clear who conflict (actions σ w) t (action σ t) ≡ true)
  first_fits = (
    ap (λ (k : Schedule). next_of who conflict (actions σ k) t) at_first.split ∙ first_at z at_first.rest σ t at_first.not_yet ∙ ap (λ (d : Action). some d) (same_action ρ σ t at_first.waits cell_waits),
    ap (λ (k : Schedule). clear who conflict (actions σ k) t (action σ t)) at_first.split ∙ clear_at z at_first.rest σ t (action σ t) at_first.not_yet no_conflict,
  )
