-- WHO MUST WAIT BEHIND A STEP is seen. Of two steps one after the other all that matters is seen but the numbers of their accesses, and these matter
-- where a thread's access is followed by its move alone: the access made the store that is moved exactly where nothing was pending before it.
use Prim.Native.Nat.{ℕ, zero, suc, ◌<◌, ◌≤◌}
use mathlib.Core.Path.{◌≡◌, refl, sym, ap, ap₂, subst, ◌∙◌}
use mathlib.Core.Bool.{Bool, true, false, not, ◌&&◌, ◌||◌, false≢true}
use mathlib.Core.Option.{Option, none, some}
use mathlib.Core.List.{List, [], ◌∷◌, ◌++◌}
use native.Mathlib.Omega.{arith}
use lib.Dec.{eqb}
use lib.ListN.{length}
use borrow.Author.Tests.{eqb-true, eq-eqb, ne_eqb}
use Rattle.spec_sc.specs.Local.{place_of, puts}
use Rattle.spec_tso.specs.Queue.{Entry, queued, is_empty, oldest_number, movable}
use Rattle.spec_tso.specs.State.{Thread, State, Kind, access, move, thread_of, cell_of, locked, finds, number_of, thread_behind, place, step_of, able, kind_of, owner, step, enabled}
use Rattle.spec_tso.specs.Actions.{moving}
use Rattle.spec_tso.proofs.Steps.{enabled_able, able_movable, able_range, thread_own}
use Rattle.spec_tso.proofs.StoreOrder.{Within, within_le}
use Rattle.spec_tso.proofs.Regular.{Regular}
use Rattle.theory_tso.specs.Deeds.{deed_of, deed, makes, empties, puts_first, looks_first, waits}
use Rattle.theory_tso.specs.declared.deed.Deed.{Deed}
use Rattle.theory_tso_key.specs.Views.{SameView}
use Rattle.theory_tso_key.proofs.Threads.{empty_alike}
use Rattle.theory_tso_key.proofs.Views.{renumbered, enabled_view, deed_view, step_view}

-- the oldest number behind access number i, where something is pending then: i, or an older one where something was pending before
front : (q : List Entry) (b : Bool) (i l : ℕ) (o : Option ℕ) (lo n : ℕ) → Within lo q i → movable (q ++ queued b i l o) n ≡ true → eqb i (oldest_number (q ++ queued b i l o)) ≡ is_empty q
unfolding oldest_number is_empty queued movable
front (e ∷ q) b i l o lo n w m = ne_eqb i e.number (λ j. omega (arith, within_le (suc e.number) q i w.1, j))
front [] b i l none lo n w m = absurd (false≢true m)
front [] true i l (some v) lo n w m = absurd (false≢true m)
front [] false i l (some v) lo n w m = eq-eqb i i refl

-- of thread t's access, and of what it may move behind it
front_of : (σ : State) → Regular σ → (t n : ℕ) → able access (thread_of σ t) (length σ.cells) ≡ true → able move (thread_of (step_of σ access t) t) n ≡ true →
    eqb (number_of access (thread_of σ t)) (number_of move (thread_of (step_of σ access t) t)) ≡ is_empty (thread_of σ t).queue
unfolding thread_behind number_of
front_of σ g t n m e =
    let h = thread_of σ t in
    let c = cell_of σ (place σ access t) in
    let own = thread_own σ access t (able_range σ access t (length σ.cells) m) in
    let later = able_movable (thread_behind access t h c) n (subst (λ (x : Thread). able move x n ≡ true) own e) in
    ap (λ (x : Thread). eqb h.history.done (oldest_number x.queue)) own
    ∙ front h.queue (locked h.local) h.history.done (place_of h.local) (puts h.local (finds t h c).value) (g.stores t).floor n (g.stores t).within later

-- whether the step b made what c moves behind it, without numbers
seen_making : State → ℕ → ℕ → Bool
seen_making σ b c = not (moving (kind_of b)) && (moving (kind_of c) && (eqb (owner b) (owner c) && is_empty (thread_of σ (owner b)).queue))

making : (σ : State) → Regular σ → (b c : ℕ) → enabled σ b ≡ true → enabled (step σ b) c ≡ true → makes (deed σ b) (deed (step σ b) c) ≡ seen_making σ b c
unfolding makes deed deed_of step moving seen_making
making σ g b c m n = go (kind_of b) (kind_of c) (eqb (owner b) (owner c)) refl (enabled_able σ b m) (enabled_able (step_of σ (kind_of b) (owner b)) c n)
  where
    go : (j k : Kind) (q : Bool) → eqb (owner b) (owner c) ≡ q → able j (thread_of σ (owner b)) (length σ.cells) ≡ true →
        able k (thread_of (step_of σ j (owner b)) (owner c)) (length (step_of σ j (owner b)).cells) ≡ true →
        (not (moving j) && (moving k && (q && eqb (number_of j (thread_of σ (owner b))) (number_of k (thread_of (step_of σ j (owner b)) (owner c))))))
        ≡ (not (moving j) && (moving k && (q && is_empty (thread_of σ (owner b)).queue)))
    go move k q e x y = refl
    go access access q e x y = refl
    go access move false e x y = refl
    go access move true e x y =
        let after : State = step_of σ access (owner b) in
        let i : owner c ≡ owner b = sym (eqb-true (owner b) (owner c) e) in
        ap (λ (u : ℕ). eqb (number_of access (thread_of σ (owner b))) (number_of move (thread_of after u))) i
        ∙ front_of σ g (owner b) (length after.cells) x (subst (λ (u : ℕ). able move (thread_of after u) (length after.cells) ≡ true) i y)

-- the rest of the test does not go by numbers
rest_of : Deed → Deed → Bool
rest_of e d = empties e d || (eqb e.location d.location && (puts_first e d || looks_first e d))

rest_renumbered : (m n : ℕ) (e d : Deed) → rest_of (renumbered m e) (renumbered n d) ≡ rest_of e d
unfolding rest_of renumbered empties puts_first looks_first
rest_renumbered m n e d = refl

or_apart : (a b c : Bool) → ((a || b) || c) ≡ (a || (b || c))
or_apart true b c = refl
or_apart false b c = refl

-- THE SAME MUST WAIT
pub waits_view : (σ τ : State) → SameView σ τ → Regular σ → Regular τ → (b : ℕ) → enabled σ b ≡ true → (c : ℕ) → enabled (step σ b) c ≡ true →
    waits (deed σ b) (deed (step σ b) c) ≡ waits (deed τ b) (deed (step τ b) c)
unfolding waits rest_of seen_making
waits_view σ τ same g h b m c n =
    let behind = step_view σ τ same b m in
    let split : (e d : Deed) → waits e d ≡ (makes e d || rest_of e d) = λ e d. or_apart (makes e d) (empties e d) _ in
    let first : makes (deed σ b) (deed (step σ b) c) ≡ makes (deed τ b) (deed (step τ b) c) =
    making σ g b c m n
    ∙ ap (λ (x : Bool). not (moving (kind_of b)) && (moving (kind_of c) && (eqb (owner b) (owner c) && x))) (empty_alike (thread_of σ (owner b)) (thread_of τ (owner b)) (same.threads (owner b)))
    ∙ sym (making τ h b c (sym (enabled_view σ τ same b) ∙ m) (sym (enabled_view (step σ b) (step τ b) behind c) ∙ n)) in
    let others : rest_of (deed σ b) (deed (step σ b) c) ≡ rest_of (deed τ b) (deed (step τ b) c) =
    ap₂ rest_of (deed_view σ τ same b) (deed_view (step σ b) (step τ b) behind c) ∙ rest_renumbered (deed σ b).number (deed (step σ b) c).number (deed τ b) (deed (step τ b) c) in
    split (deed σ b) (deed (step σ b) c) ∙ ap₂ (λ (x y : Bool). x || y) first others ∙ sym (split (deed τ b) (deed (step τ b) c))
