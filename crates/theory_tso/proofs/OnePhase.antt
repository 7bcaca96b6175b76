-- ONE PHASE: two full schedules with one end from a state where y and z are twinned. While the two are, the one never takes z and the other never takes y.
-- Then y and z are twinned behind the accesses before the first move. By induction on the first schedule's accesses: one of a third thread is taken first
-- in the second schedule too. One of y is taken first there together with z's, which stands before it, so that neither puts; and so z's is taken
-- first in the first schedule.
use Prim.Native.Nat.{ℕ, zero, suc, ◌<◌, ◌≤◌}
use mathlib.Core.Path.{◌≡◌, refl, sym, ap, ap₂, subst, ◌∙◌}
use mathlib.Core.Logic.{◌≢◌, ⊎_elim}
use mathlib.Core.Bool.{true, false}
use mathlib.Core.Option.{Option, none, some}
use mathlib.Core.List.Memᴰ
use mathlib.Core.List.{[], ◌∷◌, ◌++◌, append_assoc, Memᴰ}
use native.Mathlib.Omega.{arith}
use native.Mathlib.Decide.{ℕ_discrete}
use lib.ListN.{length, length-append}
use Rattle.spec_schedules.specs.Order.{Schedule}
use Rattle.spec_schedules.specs.System.{run, FullFrom}
use Rattle.spec_schedules.proofs.Runs.{run_cons}
use Rattle.spec_model.proofs.Swapped.{swapped}
use Rattle.spec_sc.specs.Local.{pending}
use Rattle.spec_sc.specs.State.{Cell}
use Rattle.spec_sc.specs.Actions.{given}
use Rattle.spec_tso.specs.State.{Thread, State, Kind, access, move, thread_of, cell_of, target, reaches, thread_behind, place, step_of, kind_of, owner, step, enabled, TSO}
use Rattle.spec_tso.specs.Actions.{Action, action, action_of, moving, dependent}
use Rattle.spec_tso.specs.Exchange.{moved_thread}
use Rattle.spec_tso.proofs.Bytes.{kind_low, owner_access}
use Rattle.spec_tso.proofs.Steps.{enabled_access, able_pending, able_range, thread_own, thread_other, place_other, putting, still_cell, step_access}
use Rattle.spec_tso.proofs.Depends.{both_put, no_reason}
use Rattle.spec_tso.proofs.ActionParts.{clear_at}
use Rattle.spec_tso.proofs.Regular.{Regular, regular_step}
use Rattle.theory_tso.proofs.Phases.{accesses, accesses_access, accesses_move, AtEach, Prompt, Over, over_may, over_run, over_full, over_of, over_accesses, over_phase, over_each, over_prompt, Pulled, pull}
use Rattle.theory_tso.proofs.Twinned.{Quiet, Tw, tw_behind, tw_before}
use Rattle.theory_tso.proofs.NextAccess as Next
use Rattle.theory_tso.proofs.NextAccess.{Free, free_at, cell_stays, thread_stays}

-- while y and z are twinned, t is not taken
abbrev pub NeverAt : ℕ → ℕ → ℕ → State → ℕ → Schedule → Type 0
NeverAt y z t σ x s = Tw σ y z → x ≢ t

abbrev pub Never : ℕ → ℕ → ℕ → State → Schedule → Type 0
Never y z t σ s = AtEach (NeverAt y z t) σ s

-- what is passed; and the same behind t
module _ (d : Action) (t : ℕ) where
  over_free : (f : Schedule) (σ : State) → Over d σ f t → Free d σ f
  over_free [] σ o = tt
  over_free (x ∷ f) σ o = (o.3, over_free f (step σ x) o.6)

  over_free_behind : (f : Schedule) (σ : State) → Over d σ f t → Free d (step σ t) f
  over_free_behind [] σ o = tt
  over_free_behind (x ∷ f) σ o = (ap (λ (e : Action). dependent e d) o.5 ∙ o.3, subst (λ (τ : State). Free d τ f) o.4 (over_free_behind f (step σ x) o.6))

free_front : (d : Action) (f r : Schedule) (τ : State) → Free d τ (f ++ r) → Free d τ f
free_front d [] r τ k = tt
free_front d (x ∷ f) r τ k = (k.0, free_front d f r (step τ x) k.1)

each_at : (P : State → ℕ → Schedule → Type 0) (f : Schedule) (t : ℕ) (b : Schedule) (σ : State) → AtEach P σ (f ++ (t ∷ b)) → P (run TSO σ f) t b
unfolding run
each_at P [] t b σ k = k.0
each_at P (x ∷ f) t b σ k = each_at P f t b (step σ x) k.1

free_map : (d e : Action) (f : Schedule) (τ : State) → ((x : Action) → x.moves ≡ false → dependent x d ≡ false → dependent x e ≡ false) → ((x : ℕ) → Memᴰ x f → kind_of x ≡ access) → Free d τ f → Free e τ f
unfolding action action_of moving
free_map d e [] τ h k i = tt
free_map d e (x ∷ f) τ h k i = (h (action τ x) (ap moving (k x (Memᴰ.head refl))) i.0, free_map d e f (step τ x) h (λ u m. k u (Memᴰ.tail m)) i.1)

-- where z stands first among these
record FirstIn (z : ℕ) (s : Schedule) : Type 0 where
  front : Schedule
  rest : Schedule
  split : s ≡ front ++ (z ∷ rest)
  absent : Memᴰ z front → ⊥

data Stands (z : ℕ) (s : Schedule) : Type 0 where
  nowhere : (Memᴰ z s → ⊥) → Stands z s
  somewhere : FirstIn z s → Stands z s

stands : (z : ℕ) (s : Schedule) → Stands z s
stands z [] = nowhere (λ m. Memᴰ.not-nil m)
stands z (x ∷ s) = go (ℕ_discrete x z) (stands z s)
  where
    go : Dec (x ≡ z) → Stands z s → Stands z (x ∷ s)
    go (yes q) k = somewhere (record { front = []; rest = s; split = ap (λ (i : ℕ). i ∷ s) q; absent = λ m. Memᴰ.not-nil m })
    go (no q) (nowhere n) = nowhere (λ m. ⊎_elim (λ (i : z ≡ x). q (sym i)) (λ (i : Memᴰ z s). n i) (Memᴰ.cases_cons m))
    go (no q) (somewhere r) = somewhere (record {
      front = x ∷ r.front;
      rest = r.rest;
      split = ap (λ (k : Schedule). x ∷ k) r.split;
      absent = λ m. ⊎_elim (λ (i : z ≡ x). q (sym i)) (λ (i : Memᴰ z r.front). r.absent i) (Memᴰ.cases_cons m);
    })

puts_some : (b : ℕ) (σ : State) (v : ℕ) → b < 16 → putting σ access b ≡ some v → (action σ b).puts ≡ true
unfolding action action_of given
puts_some b σ v h e = ap₂ (λ (k : Kind) (u : ℕ). given (putting σ k u)) (kind_low b h) (owner_access b (kind_low b h)).0 ∙ ap given e

location_of : (b : ℕ) (σ : State) → b < 16 → (action σ b).location ≡ place σ access b
unfolding action action_of place
location_of b σ h = ap₂ (place σ) (kind_low b h) (owner_access b (kind_low b h)).0

module _ (y z : ℕ) (ne : y ≢ z) (hy : y < 6) (hz : z < 6) where
  ly : y < 16
  ly = omega arith

  lz : z < 16
  lz = omega arith

  ky : kind_of y ≡ access
  ky = kind_low y ly

  kz : kind_of z ≡ access
  kz = kind_low z lz

  other : (x : ℕ) → kind_of x ≡ access → (u : ℕ) → x ≢ u → u ≢ owner x
  other x k u n e = n (sym (e ∙ (owner_access x k).0))

  -- accesses of third threads leave them twinned
  tw_run : (d : Action) (t : ℕ) (f : Schedule) (σ : State) → Regular σ → ((x : ℕ) → Memᴰ x f → kind_of x ≡ access) → (Memᴰ y f → ⊥) → (Memᴰ z f → ⊥) → Over d σ f t → Tw σ y z → Tw (run TSO σ f) y z
  unfolding run
  tw_run d t [] σ reg h ny nz o tw = tw
  tw_run d t (x ∷ f) σ reg h ny nz o tw =
      let k = h x (Memᴰ.head refl) in
      tw_run d t f (step σ x) (regular_step σ x reg o.0) (λ u m. h u (Memᴰ.tail m)) (λ m. ny (Memᴰ.tail m)) (λ m. nz (Memᴰ.tail m)) o.6
      (tw_behind σ reg x o.0 y z (other x k y (λ e. ny (Memᴰ.head (sym e)))) (other x k z (λ e. nz (Memᴰ.head (sym e)))) tw)

  -- y, which passes z, puts nothing: else both would put, at one location
  puts_nothing : (σ : State) → Tw σ y z → (f r : Schedule) → ((x : ℕ) → Memᴰ x f → kind_of x ≡ access) → (Memᴰ z f → ⊥) → Over (action σ y) σ (f ++ (z ∷ r)) y → putting σ access y ≡ none
  unfolding place
  puts_nothing σ tw f r only absent o = go (putting σ access y) refl
    where
      free : Free (action σ y) σ (f ++ (z ∷ r))
      free = over_free (action σ y) y (f ++ (z ∷ r)) σ o

      ρ : State
      ρ = run TSO σ f

      l : ℕ
      l = place σ access y

      thread : thread_of ρ z ≡ thread_of σ z
      thread = thread_stays z f σ only absent

      there : place ρ access z ≡ place σ access y
      there = ap (target access) thread ∙ Next.one_place y z ne hy hz σ tw

      go : (o : Option ℕ) → putting σ access y ≡ o → putting σ access y ≡ none
      go none e = e
      go (some v) e =
          let d : Action = action σ y in
          let puts = puts_some y σ v ly e in
          let cell : cell_of ρ l ≡ cell_of σ l = cell_stays d l (λ a i p b. no_reason a d i (both_put (p ∙ sym (location_of y σ ly)) b puts)) f σ (free_front d f (z ∷ r) σ free) in
          let put : putting ρ access z ≡ some v =
          ap₂ (λ (h : Thread) (k : ℕ). reaches access z h (cell_of ρ k)) thread there ∙ ap (reaches access z (thread_of σ z)) cell ∙ Next.one_reach y z ne hy hz σ tw ∙ e in
          absurd (no_reason (action ρ z) d (free_at d f z r σ free) (both_put (location_of z ρ lz ∙ there ∙ sym (location_of y σ ly)) (puts_some z ρ v lz put) puts))

  -- BEHIND BOTH they are twinned again
  module _ (σ : State) (tw : Tw σ y z) (my : enabled σ y ≡ true) (nothing : putting σ access y ≡ none) where
    abbrev l : ℕ
    l = place σ access y

    first_thread : thread_of (step σ y) z ≡ thread_of σ z
    first_thread = ap (λ (ρ : State). thread_of ρ z) (step_access σ y ly) ∙ thread_other σ access y z (λ e. ne (sym e))

    first_cell : (k : ℕ) → cell_of (step σ y) k ≡ cell_of σ k
    first_cell k = ap (λ (ρ : State). cell_of ρ k) (step_access σ y ly) ∙ still_cell σ access y k nothing

    both_twinned : enabled (step σ y) z ≡ true → Tw (step (step σ y) z) y z
    both_twinned mz = subst (λ (ρ : State). Tw ρ y z) (sym (step_access (step σ y) z lz)) (threads, quiet y tw.1, quiet z tw.2)
      where
        ρ : State
        ρ = step σ y

        ry : y < length σ.threads
        ry = able_range σ access y (length σ.cells) (sym (enabled_access σ y hy) ∙ my)

        rz : z < length ρ.threads
        rz = able_range ρ access z (length ρ.cells) (sym (enabled_access ρ z hz) ∙ mz)

        there : place ρ access z ≡ l
        there = ap (λ (u : State). place u access z) (step_access σ y ly) ∙ place_other σ access y access z (λ e. ne (sym e)) ∙ Next.one_place y z ne hy hz σ tw

        here : cell_of ρ (place ρ access z) ≡ cell_of σ l
        here = ap (cell_of ρ) there ∙ first_cell l

        threads : thread_of (step_of ρ access z) z ≡ moved_thread (swapped y z) (thread_of (step_of ρ access z) y)
        threads =
            thread_own ρ access z rz ∙ ap₂ (thread_behind access z) first_thread here ∙ Next.one_thread y z ne hy hz σ tw
            ∙ ap (moved_thread (swapped y z)) (sym (thread_other ρ access z y ne ∙ ap (λ (u : State). thread_of u y) (step_access σ y ly) ∙ thread_own σ access y ry))

        none_z : putting ρ access z ≡ none
        none_z = ap₂ (reaches access z) first_thread here ∙ Next.one_reach y z ne hy hz σ tw ∙ nothing

        quiet : (u : ℕ) → Quiet σ u → Quiet (step_of ρ access z) u
        quiet u q k j m = q k j (subst (λ (c : Cell). Memᴰ (u, j) c.writes) (still_cell ρ access z k none_z ∙ first_cell k) m)

  -- ---- the induction
  abbrev Goal : ℕ → Type 0
  Goal n = (w v : Schedule) (σ : State) → length w ≤ n → Regular σ → FullFrom TSO σ w → FullFrom TSO σ v → run TSO σ w ≡ run TSO σ v → Prompt σ w → Prompt σ v →
      Never y z z σ w → Never y z y σ v → Tw σ y z → Tw (run TSO σ (accesses w)) y z

  -- an access of a third thread
  third : (n : ℕ) → Goal n → (x : ℕ) (w v : Schedule) (σ : State) → kind_of x ≡ access → x ≢ y → length w ≤ n → Regular σ → FullFrom TSO σ (x ∷ w) → FullFrom TSO σ v → run TSO σ (x ∷ w) ≡ run TSO σ v →
      Prompt σ (x ∷ w) → Prompt σ v → Never y z z σ (x ∷ w) → Never y z y σ v → Tw σ y z → Tw (run TSO σ (accesses (x ∷ w))) y z
  third n ih x w v σ k nx le reg fw fv e pw pv nw nv tw =
      let p = pull σ reg x w v fw fv e in
      let d : Action = action σ x in
      let f : Schedule = p.front in
      let b : Schedule = p.rest in
      let full = subst (FullFrom TSO σ) p.split fv in
      let prompt = subst (Prompt σ) p.split pv in
      let only = over_accesses d x f b σ k p.over full prompt in
      let ny : y ≢ owner x = other x k y nx in
      let nz : z ≢ owner x = other x k z (nw.0 tw) in
      let never = over_each d x (NeverAt y z y) f b σ reg p.over (λ ρ u s r g j m i t. i (tw_before ρ g x j y z ny nz t)) (subst (Never y z y σ) p.split nv) in
      subst (λ (τ : State). Tw τ y z) (sym (ap (run TSO σ) (accesses_access x w k) ∙ run_cons TSO σ x (accesses w)))
      (ih w (f ++ b) (step σ x) le (regular_step σ x reg fw.0) fw.1 (over_full d x f b σ p.over full)
      (sym (run_cons TSO σ x w) ∙ e ∙ ap (run TSO σ) p.split ∙ sym (over_run d x f b σ p.over)) pw.1 (over_prompt d x f b σ reg p.over only prompt) nw.1 never
      (tw_behind σ reg x fw.0 y z ny nz tw))

  -- an access of y: z's stands before y's in v
  module _ (n : ℕ) (ih : Goal n) (w : Schedule) (σ : State) (le : length w ≤ n) (reg : Regular σ) (fw : FullFrom TSO σ (y ∷ w)) (pw : Prompt σ (y ∷ w)) (nw : Never y z z σ (y ∷ w)) (tw : Tw σ y z) where
    module _ (f r b : Schedule) (az : Memᴰ z f → ⊥) (ay : Memᴰ y (f ++ (z ∷ r)) → ⊥) (only : (x : ℕ) → Memᴰ x (f ++ (z ∷ r)) → kind_of x ≡ access) (o : Over (action σ y) σ (f ++ (z ∷ r)) y)
        (fv : FullFrom TSO σ ((f ++ (z ∷ r)) ++ (y ∷ b))) (e : run TSO σ (y ∷ w) ≡ run TSO σ ((f ++ (z ∷ r)) ++ (y ∷ b))) (pv : Prompt σ ((f ++ (z ∷ r)) ++ (y ∷ b))) (nv : Never y z y σ ((f ++ (z ∷ r)) ++ (y ∷ b))) where
      whole : (f ++ (z ∷ r)) ++ b ≡ f ++ (z ∷ (r ++ b))
      whole = append_assoc f (z ∷ r) b

      reg_y : Regular (step σ y)
      reg_y = regular_step σ y reg fw.0

      -- v with y taken first
      full_y : FullFrom TSO (step σ y) (f ++ (z ∷ (r ++ b)))
      full_y = subst (FullFrom TSO (step σ y)) whole (over_full (action σ y) y (f ++ (z ∷ r)) b σ o fv)

      prompt_y : Prompt (step σ y) (f ++ (z ∷ (r ++ b)))
      prompt_y = subst (Prompt (step σ y)) whole (over_prompt (action σ y) y (f ++ (z ∷ r)) b σ reg o only pv)

      never_y : Never y z y (step σ y) (f ++ (z ∷ (r ++ b)))
      never_y = subst (Never y z y (step σ y)) whole
          (over_each (action σ y) y (NeverAt y z y) (f ++ (z ∷ r)) b σ reg o (λ τ u s t g j m i k q. ay (subst (λ (x : ℕ). Memᴰ x (f ++ (z ∷ r))) q m)) nv)

      end_y : run TSO (step σ y) (f ++ (z ∷ (r ++ b))) ≡ run TSO (step σ y) w
      end_y = ap (run TSO (step σ y)) (sym whole) ∙ over_run (action σ y) y (f ++ (z ∷ r)) b σ o ∙ sym e ∙ run_cons TSO σ y w

      only_f : (x : ℕ) → Memᴰ x f → kind_of x ≡ access
      only_f x m = only x (Memᴰ.append_left (z ∷ r) m)

      nothing : putting σ access y ≡ none
      nothing = puts_nothing σ tw f r only_f az o

      live : pending (thread_of σ y).local ≡ true
      live = able_pending (thread_of σ y) (length σ.cells) (sym (enabled_access σ y hy) ∙ fw.0)

      -- z passes what y passes
      free : Free (action σ z) (step σ y) f
      free = free_map (action σ y) (action σ z) f (step σ y) (Next.passes_too y z ne hy hz σ tw nothing) only_f
          (free_front (action σ y) f (z ∷ r) (step σ y) (over_free_behind (action σ y) y (f ++ (z ∷ r)) σ o))

      same : action (run TSO (step σ y) f) z ≡ action σ z
      same = Next.waits_same y z ne hy hz σ tw nothing live f (step σ y) (first_thread σ tw fw.0 nothing) (first_cell σ tw fw.0 nothing (place σ access y)) only_f az free

      over_z : Over (action σ z) (step σ y) f z
      over_z = (over_of (action σ z) z f (r ++ b) (step σ y) full_y az
          (clear_at f (r ++ b) (step σ y) z (action σ z) az (λ x a s i. free_at (action σ z) x a s (step σ y) (subst (Free (action σ z) (step σ y)) i free))) same).0

      may_z : enabled (step σ y) z ≡ true
      may_z = over_may (action σ z) z f (step σ y) over_z

      -- v with y and z taken first
      full_both : FullFrom TSO (step (step σ y) z) (f ++ (r ++ b))
      full_both = over_full (action σ z) z f (r ++ b) (step σ y) over_z full_y

      never_both : Never y z y (step (step σ y) z) (f ++ (r ++ b))
      never_both = over_each (action σ z) z (NeverAt y z y) f (r ++ b) (step σ y) reg_y over_z (λ τ x a c g j m i k q. ay (Memᴰ.append_left (z ∷ r) (subst (λ (h : ℕ). Memᴰ h f) q m))) never_y

      prompt_both : Prompt (step (step σ y) z) (f ++ (r ++ b))
      prompt_both = over_prompt (action σ z) z f (r ++ b) (step σ y) reg_y over_z only_f prompt_y

      end_both : run TSO (step σ y) (z ∷ (f ++ (r ++ b))) ≡ run TSO (step σ y) w
      end_both = run_cons TSO (step σ y) z (f ++ (r ++ b)) ∙ over_run (action σ z) z f (r ++ b) (step σ y) over_z ∙ end_y

      -- z is taken first in w too
      pulled_w : Pulled (step σ y) w z
      pulled_w = pull (step σ y) reg_y z (f ++ (r ++ b)) w (may_z, full_both) fw.1 end_both

      module _ (u s : Schedule) (split : w ≡ u ++ (z ∷ s)) (absent : Memᴰ z u → ⊥) (ow : Over (action (step σ y) z) (step σ y) u z) where
        full_w : FullFrom TSO (step σ y) (u ++ (z ∷ s))
        full_w = subst (FullFrom TSO (step σ y)) split fw.1

        prompt_w : Prompt (step σ y) (u ++ (z ∷ s))
        prompt_w = subst (Prompt (step σ y)) split pw.1

        only_w : (x : ℕ) → Memᴰ x u → kind_of x ≡ access
        only_w = over_accesses (action (step σ y) z) z u s (step σ y) kz ow full_w prompt_w

        shorter : length (u ++ s) ≤ n
        shorter = omega (arith, le, ap length split, length-append u (z ∷ s), length-append u s)

        end_w : run TSO (step (step σ y) z) (u ++ s) ≡ run TSO (step (step σ y) z) (f ++ (r ++ b))
        end_w = over_run (action (step σ y) z) z u s (step σ y) ow ∙ ap (run TSO (step σ y)) (sym split) ∙ sym end_both ∙ run_cons TSO (step σ y) z (f ++ (r ++ b))

        never_w : Never y z z (step (step σ y) z) (u ++ s)
        never_w = over_each (action (step σ y) z) z (NeverAt y z z) u s (step σ y) reg_y ow (λ τ x a c g j m i k q. absent (subst (λ (h : ℕ). Memᴰ h u) q m)) (subst (Never y z z (step σ y)) split nw.1)

        phase : run TSO (step (step σ y) z) (accesses (u ++ s)) ≡ run TSO σ (accesses (y ∷ w))
        phase =
            over_phase (action (step σ y) z) z u s (step σ y) kz ow only_w ∙ ap (λ (k : Schedule). run TSO (step σ y) (accesses k)) (sym split)
            ∙ sym (ap (run TSO σ) (accesses_access y w ky) ∙ run_cons TSO σ y (accesses w))

        go_on : Tw (run TSO σ (accesses (y ∷ w))) y z
        go_on = subst (λ (τ : State). Tw τ y z) phase
            (ih (u ++ s) (f ++ (r ++ b)) (step (step σ y) z) shorter (regular_step (step σ y) z reg_y may_z) (over_full (action (step σ y) z) z u s (step σ y) ow full_w) full_both end_w
            (over_prompt (action (step σ y) z) z u s (step σ y) reg_y ow only_w prompt_w) prompt_both never_w never_both (both_twinned σ tw fw.0 nothing may_z))

      own_with : Tw (run TSO σ (accesses (y ∷ w))) y z
      own_with = go_on pulled_w.front pulled_w.rest pulled_w.split pulled_w.absent pulled_w.over

    own : (v : Schedule) → FullFrom TSO σ v → run TSO σ (y ∷ w) ≡ run TSO σ v → Prompt σ v → Never y z y σ v → Tw (run TSO σ (accesses (y ∷ w))) y z
    own v fv e pv nv = go (stands z p.front)
      where
        p : Pulled σ v y
        p = pull σ reg y w v fw fv e

        d : Action
        d = action σ y

        full : FullFrom TSO σ (p.front ++ (y ∷ p.rest))
        full = subst (FullFrom TSO σ) p.split fv

        prompt : Prompt σ (p.front ++ (y ∷ p.rest))
        prompt = subst (Prompt σ) p.split pv

        never : Never y z y σ (p.front ++ (y ∷ p.rest))
        never = subst (Never y z y σ) p.split nv

        only : (x : ℕ) → Memᴰ x p.front → kind_of x ≡ access
        only = over_accesses d y p.front p.rest σ ky p.over full prompt

        go : Stands z p.front → Tw (run TSO σ (accesses (y ∷ w))) y z
        go (nowhere m) = absurd (each_at (NeverAt y z y) p.front y p.rest σ never (tw_run d y p.front σ reg only p.absent m p.over tw) refl)
        go (somewhere k) =
            let f : Schedule = k.front in
            let r : Schedule = k.rest in
            let b : Schedule = p.rest in
            let i = k.split in
            let j : p.front ++ (y ∷ b) ≡ (f ++ (z ∷ r)) ++ (y ∷ b) = ap (λ (s : Schedule). s ++ (y ∷ b)) i in
            own_with f r b k.absent (λ m. p.absent (subst (Memᴰ y) (sym i) m)) (λ x m. only x (subst (Memᴰ x) (sym i) m)) (subst (λ (s : Schedule). Over d σ s y) i p.over)
            (subst (FullFrom TSO σ) j full) (e ∙ ap (run TSO σ) (p.split ∙ j)) (subst (Prompt σ) j prompt) (subst (Never y z y σ) j never)

  none_left : Goal 0
  unfolding accesses run
  none_left [] v σ le reg fw fv e pw pv nw nv tw = tw
  none_left (x ∷ w) v σ le reg fw fv e pw pv nw nv tw = absurd (omega arith)

  one_more : (n : ℕ) → Goal n → Goal (suc n)
  unfolding accesses run
  one_more n ih [] v σ le reg fw fv e pw pv nw nv tw = tw
  one_more n ih (x ∷ w) v σ le reg fw fv e pw pv nw nv tw = go (kind_of x) refl (ℕ_discrete x y)
    where
      go : (k : Kind) → kind_of x ≡ k → Dec (x ≡ y) → Tw (run TSO σ (accesses (x ∷ w))) y z
      go move k q = subst (λ (s : Schedule). Tw (run TSO σ s) y z) (sym (accesses_move x w k)) tw
      go access k (no q) = third n ih x w v σ k q (omega arith) reg fw fv e pw pv nw nv tw
      go access k (yes q) = subst (λ (u : ℕ). Tw (run TSO σ (accesses (u ∷ w))) y z) (sym q)
          (own n ih w σ (omega arith) reg (subst (λ (u : ℕ). FullFrom TSO σ (u ∷ w)) q fw) (subst (λ (u : ℕ). Prompt σ (u ∷ w)) q pw) (subst (λ (u : ℕ). Never y z z σ (u ∷ w)) q nw) tw
          v fv (ap (λ (u : ℕ). run TSO σ (u ∷ w)) (sym q) ∙ e) pv nv)

  -- TWINNED BEHIND THE PHASE
  pub phase_twinned : (n : ℕ) → Goal n
  phase_twinned zero = none_left
  phase_twinned (suc n) = one_more n (phase_twinned n)
