-- T1, the swap law: two steps in a row of which the second does not depend on the first can be turned round. Both do what they did, and the whole
-- state behind them is the same.
use Prim.Native.Nat.{ℕ, ◌<◌}
use mathlib.Core.Path.{◌≡◌, refl, sym, ap, ap₂, subst, ◌∙◌}
use mathlib.Core.Logic.{◌≢◌, ◌⊎◌, inl, inr, Ne-symm}
use mathlib.Core.Bool.{true, false}
use mathlib.Core.Option.{Option, none, some}
use mathlib.Core.List.{List, Memᴰ}
use native.Mathlib.Omega.{arith}
use native.Mathlib.Decide.{ℕ_discrete, dec_lt}
use lib.ListN.{length, set}
use lib.Seq.{set_comm}
use Rattle.spec_sc.specs.Local.{pending}
use Rattle.spec_sc.specs.State.{Event, initial_write, Cell, latest, written}
use Rattle.spec_sc.specs.Actions.{given}
use Rattle.spec_sc.proofs.Regular.{latest_of}
use Rattle.spec_tso.specs.State.{Thread, State, thread_of, cell_of, number_of, thread_behind, reaches, cell_behind, place, step_of, able, Kind, access}
use Rattle.spec_tso.specs.Actions.{Action, before_if, action_of, dependent}
use Rattle.spec_tso.proofs.Steps.{able_pending, thread_other, place_other, cell_own, cell_other, cell_out, putting, still, still_cell, step_of_cells}
use Rattle.spec_tso.proofs.Depends.{both_put, read_behind, initial_first, source_first, no_reason}
use Rattle.spec_tso.proofs.SameStep.{Same, same_cell, Looks, blind, looks, looking}

-- what a step does in a state, as the byte b
abbrev pub does : State → ℕ → Kind → ℕ → Action
does σ b k t = action_of b k t (thread_of σ t) (cell_of σ (place σ k t))

-- the step k of t, byte a, then the step j of u, byte b, can be turned round
pub record Swaps (σ : State) (a : ℕ) (k : Kind) (t : ℕ) (b : ℕ) (j : Kind) (u : ℕ) : Type 0 where
  pub second_first : able j (thread_of σ u) (length σ.cells) ≡ true
  pub first_second : able k (thread_of (step_of σ j u) t) (length (step_of σ j u).cells) ≡ true
  pub same_state : step_of (step_of σ k t) j u ≡ step_of (step_of σ j u) k t
  pub second_does : does (step_of σ k t) b j u ≡ does σ b j u
  pub first_does : does (step_of σ j u) a k t ≡ does σ a k t

abbrev pub both : List Thread → List Cell → State
both ts cs = record { threads = ts; cells = cs }

-- a step, by what it finds
pub step_of_as : (σ : State) (k : Kind) (t : ℕ) (h : Thread) (l : ℕ) (c : Cell) → thread_of σ t ≡ h → place σ k t ≡ l → cell_of σ l ≡ c →
    step_of σ k t ≡ both (set σ.threads t (thread_behind k t h c)) (set σ.cells l (cell_behind k t h c))
unfolding step_of
step_of_as σ k t h l c p q r = rw (p, q, r)

-- two steps of different threads
module _ (σ : State) (k : Kind) (t : ℕ) (j : Kind) (u : ℕ) (ne : t ≢ u) where
  -- the step of u does behind that of t what it does before it
  abbrev pub Sees : Type 0
  Sees = Same j u (thread_of σ u) (cell_of σ (place σ j u)) (cell_of (step_of σ k t) (place σ j u))

  pub does_other : (b : ℕ) → does (step_of σ k t) b j u ≡ action_of b j u (thread_of σ u) (cell_of (step_of σ k t) (place σ j u))
  does_other b = ap₂ (λ (h : Thread) (l : ℕ). action_of b j u h (cell_of (step_of σ k t) l)) (thread_other σ k t u (Ne-symm ne)) (place_other σ k t j u (Ne-symm ne))

  pub putting_other : putting (step_of σ k t) j u ≡ reaches j u (thread_of σ u) (cell_of (step_of σ k t) (place σ j u))
  putting_other = ap₂ (λ (h : Thread) (l : ℕ). reaches j u h (cell_of (step_of σ k t) l)) (thread_other σ k t u (Ne-symm ne)) (place_other σ k t j u (Ne-symm ne))

  pub able_other : able j (thread_of (step_of σ k t) u) (length (step_of σ k t).cells) ≡ able j (thread_of σ u) (length σ.cells)
  able_other = ap₂ (able j) (thread_other σ k t u (Ne-symm ne)) (step_of_cells σ k t)

  after : step_of (step_of σ k t) j u ≡ both (set (step_of σ k t).threads u (thread_behind j u (thread_of σ u) (cell_of (step_of σ k t) (place σ j u)))) (set (step_of σ k t).cells (place σ j u) (cell_behind j u (thread_of σ u) (cell_of (step_of σ k t) (place σ j u))))
  after = step_of_as (step_of σ k t) j u (thread_of σ u) (place σ j u) (cell_of (step_of σ k t) (place σ j u)) (thread_other σ k t u (Ne-symm ne)) (place_other σ k t j u (Ne-symm ne)) refl

  pub after_threads : Sees → (step_of (step_of σ k t) j u).threads ≡ set (step_of σ k t).threads u (thread_behind j u (thread_of σ u) (cell_of σ (place σ j u)))
  after_threads s = ap (λ (x : State). x.threads) after ∙ ap (set (step_of σ k t).threads u) s.thread

  -- where it meets the same cell
  pub after_cells : cell_of (step_of σ k t) (place σ j u) ≡ cell_of σ (place σ j u) → (step_of (step_of σ k t) j u).cells ≡ set (step_of σ k t).cells (place σ j u) (cell_behind j u (thread_of σ u) (cell_of σ (place σ j u)))
  after_cells e = ap (λ (x : State). x.cells) after ∙ ap (λ (c : Cell). set (step_of σ k t).cells (place σ j u) (cell_behind j u (thread_of σ u) c)) e

module _ (σ : State) (k : Kind) (t : ℕ) (j : Kind) (u : ℕ) (ne : t ≢ u) (su : Sees σ k t j u ne) (st : Sees σ j u k t (Ne-symm ne)) where
  swap_threads : (step_of (step_of σ k t) j u).threads ≡ (step_of (step_of σ j u) k t).threads
  unfolding step_of
  swap_threads = after_threads σ k t j u ne su ∙ set_comm σ.threads t u _ _ ne ∙ sym (after_threads σ j u k t (Ne-symm ne) st)

  -- at different locations
  swap_apart : place σ k t ≢ place σ j u → (step_of (step_of σ k t) j u).cells ≡ (step_of (step_of σ j u) k t).cells
  unfolding step_of
  swap_apart d =
      after_cells σ k t j u ne (cell_other σ k t (place σ j u) (Ne-symm d)) ∙ set_comm σ.cells (place σ k t) (place σ j u) _ _ d
      ∙ sym (after_cells σ j u k t (Ne-symm ne) (cell_other σ j u (place σ k t) d))

  -- where the first puts nothing
  swap_quiet : putting σ k t ≡ none → (step_of (step_of σ k t) j u).cells ≡ (step_of (step_of σ j u) k t).cells
  swap_quiet q = one ∙ two
    where
      one : (step_of (step_of σ k t) j u).cells ≡ (step_of σ j u).cells
      one = after_cells σ k t j u ne (still_cell σ k t (place σ j u) q) ∙ ap (λ (cs : List Cell). set cs (place σ j u) (cell_behind j u (thread_of σ u) (cell_of σ (place σ j u)))) (still σ k t q)
          ∙ sym (ap (λ (x : State). x.cells) (step_of_as σ j u (thread_of σ u) (place σ j u) (cell_of σ (place σ j u)) refl refl refl))

      two : (step_of σ j u).cells ≡ (step_of (step_of σ j u) k t).cells
      two = sym (still (step_of σ j u) k t (putting_other σ j u k t (Ne-symm ne) ∙ st.memory ∙ q))

swapped : (σ : State) (k : Kind) (t : ℕ) (j : Kind) (u : ℕ) (ne : t ≢ u) → Sees σ k t j u ne → Sees σ j u k t (Ne-symm ne) →
    (place σ k t ≢ place σ j u) ⊎ (putting σ k t ≡ none) ⊎ (putting σ j u ≡ none) → step_of (step_of σ k t) j u ≡ step_of (step_of σ j u) k t
swapped σ k t j u ne su st (inl d) = ap₂ both (swap_threads σ k t j u ne su st) (swap_apart σ k t j u ne su st d)
swapped σ k t j u ne su st (inr (inl q)) = ap₂ both (swap_threads σ k t j u ne su st) (swap_quiet σ k t j u ne su st q)
swapped σ k t j u ne su st (inr (inr q)) = ap₂ both (swap_threads σ k t j u ne su st) (sym (swap_quiet σ j u k t (Ne-symm ne) st su q))

-- what an action says of its step
pub act_place : (σ τ : State) (a b : ℕ) (k j : Kind) (t u : ℕ) (c d : Cell) → place σ k t ≡ place τ j u → (action_of a k t (thread_of σ t) c).location ≡ (action_of b j u (thread_of τ u) d).location
unfolding place action_of
act_place σ τ a b k j t u c d e = e

pub act_puts : (b : ℕ) (k : Kind) (t : ℕ) (h : Thread) (c : Cell) (v : ℕ) → reaches k t h c ≡ some v → ((action_of b k t h c).puts ≡ true) × ((action_of b k t h c).before ≡ c.writes)
unfolding action_of given before_if
act_puts b k t h c v q = (rw q, rw q)

pub act_event : (b : ℕ) (k : Kind) (t : ℕ) (h : Thread) (c : Cell) → (action_of b k t h c).event.0 ≡ t
unfolding action_of
act_event b k t h c = refl

left_latest : (k : Kind) (t : ℕ) (h : Thread) (c : Cell) (v : ℕ) → reaches k t h c ≡ some v → latest (cell_behind k t h c).writes ≡ (t, number_of k h)
unfolding cell_behind written latest
left_latest k t h c v q = rw q

same_sym : (k : Kind) (t : ℕ) (h : Thread) (c d : Cell) → Same k t h c d → Same k t h d c
same_sym k t h c d s = record { thread = sym s.thread; memory = sym s.memory; action = λ b. sym (s.action b) }

module _ (σ : State) (a : ℕ) (k : Kind) (t : ℕ) (b : ℕ) (j : Kind) (u : ℕ) (ne : t ≢ u) (m : able k (thread_of σ t) (length σ.cells) ≡ true) (n : able j (thread_of σ u) (length σ.cells) ≡ true)
    (free : dependent (does σ a k t) (action_of b j u (thread_of σ u) (cell_of (step_of σ k t) (place σ j u))) ≡ false) where
  abbrev here : Cell
  here = cell_of σ (place σ k t)

  abbrev there : Cell
  there = cell_of (step_of σ k t) (place σ j u)

  waits : (k ≡ access) → pending (thread_of σ t).local ≡ true
  waits q = able_pending (thread_of σ t) (length σ.cells) (subst (λ (x : Kind). able x (thread_of σ t) (length σ.cells) ≡ true) q m)

  waits_too : (j ≡ access) → pending (thread_of σ u).local ≡ true
  waits_too q = able_pending (thread_of σ u) (length σ.cells) (subst (λ (x : Kind). able x (thread_of σ u) (length σ.cells) ≡ true) q n)

  -- the first puts nothing, the second puts there: the first does not look at memory
  unseen : place σ k t ≡ place σ j u → putting σ k t ≡ none → (w : ℕ) → putting σ j u ≡ some w → Sees σ j u k t (Ne-symm ne)
  unseen e p w q = go (looking k t (thread_of σ t) here waits p)
    where
      there_is : there ≡ cell_of σ (place σ j u)
      there_is = still_cell σ k t (place σ j u) p

      put : ((action_of b j u (thread_of σ u) there).puts ≡ true) × ((action_of b j u (thread_of σ u) there).before ≡ there.writes)
      put = act_puts b j u (thread_of σ u) there w (ap (reaches j u (thread_of σ u)) there_is ∙ q)

      at : (action_of a k t (thread_of σ t) here).location ≡ (action_of b j u (thread_of σ u) there).location
      at = act_place σ σ a b k j t u here there e

      go : Looks k t (thread_of σ t) here → Sees σ j u k t (Ne-symm ne)
      go (blind f) = f (cell_of (step_of σ j u) (place σ k t))
      go (looks r s) = absurd (which (latest_of here.writes))
        where
          which : (latest here.writes ≡ initial_write) ⊎ Memᴰ (latest here.writes) here.writes → ⊥
          which (inl i) = no_reason (does σ a k t) (action_of b j u (thread_of σ u) there) free (initial_first at (r a) put.0 (s a ∙ i))
          which (inr i) = no_reason (does σ a k t) (action_of b j u (thread_of σ u) there) free (source_first at (r a) put.0
              (subst (λ (ws : List Event). Memᴰ (does σ a k t).source ws) (ap (λ (l : ℕ). (cell_of σ l).writes) e ∙ ap (λ (c : Cell). c.writes) (sym there_is) ∙ sym put.1) (subst (λ (x : Event). Memᴰ x here.writes) (sym (s a)) i)))

  -- the first puts: the second puts nothing there and does not look at memory
  unseen_too : place σ k t ≡ place σ j u → (v : ℕ) → putting σ k t ≡ some v → Sees σ k t j u ne × (putting σ j u ≡ none)
  unseen_too e v p = go (reaches j u (thread_of σ u) there) refl
    where
      puts_here : (action_of a k t (thread_of σ t) here).puts ≡ true
      puts_here = (act_puts a k t (thread_of σ t) here v p).0

      at : (action_of a k t (thread_of σ t) here).location ≡ (action_of b j u (thread_of σ u) there).location
      at = act_place σ σ a b k j t u here there e

      seen_by : reaches j u (thread_of σ u) there ≡ none → Looks j u (thread_of σ u) there → Sees σ k t j u ne
      seen_by z (blind f) = same_sym j u (thread_of σ u) there (cell_of σ (place σ j u)) (f (cell_of σ (place σ j u)))
      seen_by z (looks r s) = range (dec_lt (place σ k t) (length σ.cells))
        where
          range : Dec (place σ k t < length σ.cells) → Sees σ k t j u ne
          range (no i) = same_cell j u (thread_of σ u) (cell_of σ (place σ j u)) there (cell_out σ k t (place σ j u) (omega arith))
          range (yes i) =
              let top : latest there.writes ≡ (t, number_of k (thread_of σ t)) = ap (λ (l : ℕ). latest (cell_of (step_of σ k t) l).writes) (sym e) ∙ ap (λ (c : Cell). latest c.writes) (cell_own σ k t i) ∙ left_latest k t (thread_of σ t) here v p in
              absurd (no_reason (does σ a k t) (action_of b j u (thread_of σ u) there) free (read_behind at puts_here (r b)
              (λ q. ne (sym (ap (λ (x : Event). x.0) (s b ∙ top)) ∙ q ∙ act_event b j u (thread_of σ u) there))))

      go : (o : Option ℕ) → reaches j u (thread_of σ u) there ≡ o → Sees σ k t j u ne × (putting σ j u ≡ none)
      go (some w) q = absurd (no_reason (does σ a k t) (action_of b j u (thread_of σ u) there) free (both_put at puts_here (act_puts b j u (thread_of σ u) there w q).0))
      go none q = let s = seen_by q (looking j u (thread_of σ u) there waits_too q) in (s, sym s.memory ∙ q)

  finish : Sees σ k t j u ne → Sees σ j u k t (Ne-symm ne) → (place σ k t ≢ place σ j u) ⊎ (putting σ k t ≡ none) ⊎ (putting σ j u ≡ none) → Swaps σ a k t b j u
  finish su st c = record {
    second_first = n;
    first_second = able_other σ j u k t (Ne-symm ne) ∙ m;
    same_state = swapped σ k t j u ne su st c;
    second_does = does_other σ k t j u ne b ∙ su.action b;
    first_does = does_other σ j u k t (Ne-symm ne) a ∙ st.action a;
  }

  -- DIFFERENT THREADS
  pub swap_two : Swaps σ a k t b j u
  swap_two = go (ℕ_discrete (place σ k t) (place σ j u)) (putting σ k t) refl (putting σ j u) refl
    where
      go : Dec (place σ k t ≡ place σ j u) → (o : Option ℕ) → putting σ k t ≡ o → (p : Option ℕ) → putting σ j u ≡ p → Swaps σ a k t b j u
      go (no d) o e p f = finish (same_cell j u (thread_of σ u) _ _ (cell_other σ k t (place σ j u) (Ne-symm d))) (same_cell k t (thread_of σ t) _ _ (cell_other σ j u (place σ k t) d)) (inl d)
      go (yes i) none e none f = finish (same_cell j u (thread_of σ u) _ _ (still_cell σ k t (place σ j u) e)) (same_cell k t (thread_of σ t) _ _ (still_cell σ j u (place σ k t) f)) (inr (inl e))
      go (yes i) none e (some w) f = finish (same_cell j u (thread_of σ u) _ _ (still_cell σ k t (place σ j u) e)) (unseen i e w f) (inr (inl e))
      go (yes i) (some v) e p f =
          let s = unseen_too i v e in
          finish s.0 (same_cell k t (thread_of σ t) _ _ (still_cell σ j u (place σ k t) s.1)) (inr (inr s.1))
