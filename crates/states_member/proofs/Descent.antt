-- THE MEMBER NUMBER k behind a prefix, step by step: behind each step that is chosen it has another number.
use Prim.Native.Nat.{ℕ}
use mathlib.Core.Path.{◌≡◌, refl, sym, ap, ◌∙◌}
use mathlib.Core.Logic.{◌≢◌}
use mathlib.Core.Bool.{Bool, true, false, cond}
use mathlib.Core.Option.{none, some}
use mathlib.Core.List.{List, [], ◌∷◌, ◌++◌}
use native.Mathlib.Omega.{arith}
use lib.Dec.{eqb}
use lib.ListN.{take, drop_of_length-le}
use borrow.Author.Tests.{eqb-true, eqb-false}
use Rattle.spec_file.specs.Program.{Program}
use Rattle.spec_schedules.specs.Lists.{head_of}
use Rattle.spec_schedules.specs.Order.{Schedule}
use Rattle.spec_schedules.specs.System.{ended}
use Rattle.spec_schedules.proofs.After.{head_nil}
use Rattle.spec_schedules.proofs.First.{head_cons}
use Rattle.spec_sc.specs.State.{SC, fails}
use Rattle.spec_sc.specs.Graph.{end_of}
use Rattle.theory_sc.specs.Search.{found_behind}
use Rattle.theory_sc.proofs.Search.{behind_end}
use Rattle.search_place.proofs.ReachedStep.{reached_ended, reached_going}
use Rattle.theory_sc_key.specs.Key.{Wide}
use Rattle.theory_states.specs.Kth.{kth}
use Rattle.states_key.specs.Stands.{Stands}
use Rattle.states_key.specs.declared.spot.Spot.{Spot}
use Rattle.states_walk.specs.Known.{Numbered}
use Rattle.std.specs.Prelude.{Option, Some, None}
use Rattle.states_walk.proofs.Numbered.{Cases}
use Rattle.states_walk.proofs.FirstFound.{one_more}
use Rattle.states_member.specs.Leads.{Leads}
use Rattle.states_member.specs.declared.choosing.Choice.{Choice}

-- where nobody may step: the prefix alone, number 0
kth_one : (i : ℕ) (w u : Schedule) → u ≡ w → cond (eqb i 0) (some u) none ≡ kth i (w ∷ [])
kth_one i w u s = go (eqb i 0) refl
  where
    go : (b : Bool) → eqb i 0 ≡ b → cond b (some u) none ≡ kth i (w ∷ [])
    go true q = ap (λ (z : Schedule). some z) s ∙ sym (head_cons w []) ∙ ap (λ (j : ℕ). kth j (w ∷ [])) (sym (eqb-true i 0 q))
    go false q =
        let h = eqb-false i 0 q in
        sym (ap head_of (drop_of_length-le (w ∷ []) {i = i} (omega (arith, h))) ∙ head_nil)

-- what is left to the loop: the member number k behind x₀ is the member number i behind x; and the table stays true
abbrev pub Descends : (code lengths class : List ℕ) (n slots : ℕ) (x₀ : Spot) (table₀ : List ℕ) (k : ℕ) (x : Spot) (table : List ℕ) (i : ℕ) → Type 0
Descends code lengths class n slots x₀ table₀ k x table i =
    (c : Cases code lengths class x₀) → (w : Schedule) × Stands code lengths class c.0 c.1 x c.2 w
    × (Wide n c.2 → Numbered c.2 n slots table₀
    → (kth k (found_behind false c.2 x₀.place.steps none c.3) ≡ kth i (found_behind false c.2 x.place.steps none w)) × Numbered c.2 n slots table)

module _ (code lengths class : List ℕ) (n slots : ℕ) (x₀ : Spot) (table₀ : List ℕ) (k : ℕ) where
  abbrev Still : (x : Spot) (table : List ℕ) (i : ℕ) → Type 0
  Still x table i = Descends code lengths class n slots x₀ table₀ k x table i

  pub descends_start : Still x₀ table₀ k
  descends_start c = (c.3, c.4, λ wide right. (refl, right))

  -- what choosing at x gives
  abbrev pub Chosen : (x : Spot) (table table' : List ℕ) (i : ℕ) (r : Option Choice) → Type 0
  Chosen x table table' i r = (threads groups : ℕ) (p : Program) (v : Schedule) → Stands code lengths class threads groups x p v → ended SC (end_of p v) ≡ false → Wide n p → Numbered p n slots table
      → Leads p x.place.steps v i r × Numbered p n slots table'

  -- the spot behind a step
  abbrev pub Goes : (x y : Spot) (t : ℕ) → Type 0
  Goes x y t = (class' : List ℕ) (threads groups : ℕ) (p : Program) (v : Schedule) → Stands code lengths class' threads groups x p v → Stands code lengths class' threads groups y p (v ++ (t ∷ []))

  pub descends_next : (x y : Spot) (table table' : List ℕ) (i : ℕ) (r : Choice) → x.place.live ≢ 0 → Still x table i → Chosen x table table' i (Some r) → Goes x y r.step → Still y table' r.index
  descends_next x y table table' i r live still chosen goes c =
      let p = c.2 in
      let here = still c in
      let w = here.0 in
      let next = goes class c.0 c.1 p w here.1 in (
        w ++ (r.step ∷ []),
        next,
        λ wide right.
            let before = here.2 wide right in
            let q = chosen c.0 c.1 p w here.1 (reached_going code lengths class c.0 c.1 x.place p w here.1.reached live) wide before.1 in (
              before.0 ∙ q.0
                  ∙ ap (λ (j : ℕ). kth r.index (found_behind false p j none (w ++ (r.step ∷ [])))) (sym (one_more code lengths class c.0 c.1 x.place y.place p w r.step here.1.reached next.reached)),
              q.1,
            ),
      )

  -- there are not so many
  pub descends_none : (x : Spot) (table table' : List ℕ) (i : ℕ) → x.place.live ≢ 0 → Still x table i → Chosen x table table' i None
      → (c : Cases code lengths class x₀) → Wide n c.2 → Numbered c.2 n slots table₀ → none ≡ kth k (found_behind false c.2 x₀.place.steps none c.3)
  descends_none x table table' i live still chosen c wide right =
      let p = c.2 in
      let here = still c in
      let w = here.0 in
      let before = here.2 wide right in
      let q = chosen c.0 c.1 p w here.1 (reached_going code lengths class c.0 c.1 x.place p w here.1.reached live) wide before.1 in
      sym (before.0 ∙ q.0)

  -- nobody may step
  pub descends_over : (x : Spot) (table : List ℕ) (i : ℕ) → x.place.live ≡ 0 → Still x table i
      → (c : Cases code lengths class x₀) → Wide n c.2 → Numbered c.2 n slots table₀
      → cond (eqb i 0) (some (take x.place.steps x.place.schedule)) none ≡ kth k (found_behind false c.2 x₀.place.steps none c.3)
  descends_over x table i live still c wide right =
      let p = c.2 in
      let here = still c in
      let w = here.0 in
      let at = here.1.reached in
      let over = reached_ended code lengths class c.0 c.1 x.place p w at live in
      kth_one i w (take x.place.steps x.place.schedule) at.schedule
      ∙ sym ((here.2 wide right).0 ∙ ap (λ (l : List Schedule). kth i l) (behind_end false p x.place.steps w (fails (end_of p w)) over refl refl))
