-- The answer to a program file and a set: it follows from the recursion over the start's steps, and there is only one.
use Prim.Native.Nat.{ℕ, zero, suc, ◌+◌, ◌*◌, ◌<◌, ◌≤◌}
use native.Mathlib.Omega.{arith}
use native.Mathlib.Decide.{dec_lt}
use mathlib.Core.Path.{◌≡◌, refl, sym, ap, subst, ◌∙◌}
use mathlib.Core.Logic.{◌⊎◌, inl, inr}
use mathlib.Core.Bool.{Bool, true, false, true≢false}
use mathlib.Core.Option.{none, some}
use mathlib.Core.List.{List, Memᴰ}
use lib.Dec.{leb}
use lib.ListN.{length}
use borrow.Author.Tests.{le-leb, leb-true}
use Rattle.spec_file.specs.Program.{Program}
use Rattle.spec_file.specs.WellFormed.{WellFormed}
use Rattle.spec_file.specs.Decode.{Decoded, accepted, refused, decode}
use Rattle.spec_file.proofs.AcceptedWellFormed.{accepted_well_formed}
use Rattle.spec_schedules.specs.Lists.{both, any}
use Rattle.spec_schedules.specs.Order.{Schedule}
use Rattle.spec_schedules.proofs.Lists.{true_both, both_left, both_right, any_yes, any_of, of_range}
use Rattle.spec_sc.specs.State.{State, step, SC, start, fails, size}
use Rattle.spec_sc.specs.Graph.{Full, end_of}
use Rattle.spec_sc.proofs.Lawful.{lawful, falls, start_24}
use Rattle.spec_schedules.specs.Sets.{has}
use Rattle.spec_force.specs.Game.{Side, hostile, friendly, other, mine, able, Forces, ExactlyOne, Keeps}
use Rattle.spec_force.proofs.Value.{keeps_by, value}
use Rattle.spec_force.specs.Forced.{game_of, CanForce, HasStep, LeastFirst, Names, LowestMissing, Answer, hostile_can, friendly_can, refusing, Asked, ForcedIn, hostile_steps, hostile_passes, friendly_forces, Forced, program_refused, set_refused, played}
use Rattle.spec_force.proofs.Sides.{differ, mine_enabled, full_play}
use Rattle.spec_force.proofs.Against.{not_both, forced_play}
use Rattle.spec_force.proofs.Determined.{value_able, value_passes, best_some, best_no, keeps_mine, keeps_wins, keeps_of, value_forces, forces_value, exactly_one}
use Rattle.spec_force.proofs.Decided.{hostile_fails}

-- EXACTLY ONE SIDE CAN FORCE, of every program and every set
pub one_can_force : (set : ℕ) (p : Program) → ExactlyOne (game_of set) hostile (start p)
one_can_force set p = exactly_one (game_of set) lawful hostile (start p)

-- where the hostile side can force some full schedule fails
pub hostile_play : (set : ℕ) (p : Program) → CanForce hostile set p → (s : Schedule) × Full p s × (fails (end_of p s) ≡ true)
hostile_play set p f =
    let r = forced_play (game_of set) lawful hostile hostile (start p) f in
    (r.0, full_play (game_of set) r.0 hostile (start p) r.1, hostile_fails (game_of set) (end_of p r.0) r.2)

-- where no full schedule fails the friendly side can force its end
pub none_fails_friendly : (set : ℕ) (p : Program) → ((s : Schedule) → Full p s → fails (end_of p s) ≡ false) → CanForce friendly set p
none_fails_friendly set p h = go (one_can_force set p).one
  where
    go : CanForce hostile set p ⊎ CanForce friendly set p → CanForce friendly set p
    go (inl f) = let r = hostile_play set p f in absurd (true≢false (sym r.2 ∙ h r.0 r.1))
    go (inr f) = f

module _ (set : ℕ) (p : Program) (w : WellFormed p) where
  abbrev σ : State
  σ = start p

  -- who wins behind a first step, or behind the pass
  abbrev pub ahead : State → Side
  ahead τ = value (game_of set) 48 friendly τ

  enough : (t : ℕ) → mine (game_of set) hostile σ t ≡ true → 2 * size (step σ t) + 1 ≤ 48
  enough t m = omega (arith, falls σ t (mine_enabled (game_of set) hostile σ t m), start_24 p w)

  keeps_first : (t : ℕ) → keeps_by (game_of set) ahead hostile σ t ≡ true → Keeps (game_of set) σ t
  keeps_first t e =
      let m = keeps_mine (game_of set) ahead hostile σ t e in
      record {
        own = m;
        forces = subst (λ (y : Side). Forces (game_of set) y friendly (step σ t)) (keeps_wins (game_of set) ahead hostile σ t e) (value_forces (game_of set) lawful 48 friendly (step σ t) (enough t m));
      }

  first_keeps : (t : ℕ) → Keeps (game_of set) σ t → keeps_by (game_of set) ahead hostile σ t ≡ true
  first_keeps t k = keeps_of (game_of set) ahead hostile σ t k.own (forces_value (game_of set) lawful 48 friendly (step σ t) hostile (enough t k.own) k.forces)

  can : (y : Side) → value (game_of set) 49 hostile σ ≡ y → CanForce y set p
  can y e = subst (λ (z : Side). CanForce z set p) e (value_forces (game_of set) lawful 49 hostile σ (omega (arith, start_24 p w)))

  -- a first step that keeps the win, and no smaller one does
  pub steps_forced : (t : ℕ) → t < 6 → able (game_of set) hostile σ ≡ true → keeps_by (game_of set) ahead hostile σ t ≡ true
      → ((u : ℕ) → u < t → keeps_by (game_of set) ahead hostile σ u ≡ false) → ForcedIn set p (hostile_can (some t))
  unfolding other
  steps_forced t h a e n = hostile_steps t
      (can hostile (value_able (game_of set) 48 hostile σ a ∙ best_some (game_of set) ahead hostile σ (any_of (keeps_by (game_of set) ahead hostile σ) SC.names t (lawful.named σ t (mine_enabled (game_of set) hostile σ t (keeps_mine (game_of set) ahead hostile σ t e))) e)))
      a
      (record { keeps = keeps_first t e; least = λ u k. go u k (dec_lt u t) })
    where
      go : (u : ℕ) → Keeps (game_of set) σ u → Dec (u < t) → t ≤ u
      go u k (yes i) = absurd (true≢false (sym (first_keeps u k) ∙ n u i))
      go u k (no i) = omega arith

  -- no first step keeps the win
  pub steps_lost : able (game_of set) hostile σ ≡ true → ((u : ℕ) → u < 6 → keeps_by (game_of set) ahead hostile σ u ≡ false) → ForcedIn set p friendly_can
  unfolding other
  steps_lost a n = friendly_forces (can friendly (value_able (game_of set) 48 hostile σ a ∙ best_no (game_of set) ahead hostile σ (go (any (keeps_by (game_of set) ahead hostile σ) SC.names) refl)))
    where
      go : (b : Bool) → any (keeps_by (game_of set) ahead hostile σ) SC.names ≡ b → any (keeps_by (game_of set) ahead hostile σ) SC.names ≡ false
      go true e =
          let r = any_yes (keeps_by (game_of set) ahead hostile σ) SC.names e in
          absurd (true≢false (sym r.2 ∙ n r.0 (omega (arith, (of_range 0 6 r.0 r.1).1))))
      go false e = e

  -- the hostile side passes first
  pub pass_won : able (game_of set) hostile σ ≡ false → ahead σ ≡ hostile → ForcedIn set p (hostile_can none)
  unfolding other
  pass_won a e = hostile_passes (can hostile (value_passes (game_of set) 48 hostile σ a ∙ e)) (λ s. true≢false (sym s ∙ a))

  pub pass_lost : able (game_of set) hostile σ ≡ false → ahead σ ≡ friendly → ForcedIn set p friendly_can
  unfolding other
  pass_lost a e = friendly_forces (can friendly (value_passes (game_of set) 48 hostile σ a ∙ e))

-- ---- there is an answer
-- the first number below n that passes the test, or none does
abbrev First : (ℕ → Bool) → ℕ → Type 0
First f n = ((t : ℕ) × (t < n) × (f t ≡ true) × ((u : ℕ) → u < t → f u ≡ false)) ⊎ ((u : ℕ) → u < n → f u ≡ false)

first_below : (f : ℕ → Bool) (n : ℕ) → First f n
first_below f zero = inr (λ u b. absurd (omega arith))
first_below f (suc n) = go (first_below f n)
  where
    more : ((u : ℕ) → u < n → f u ≡ false) → (b : Bool) → f n ≡ b → First f (suc n)
    more h true e = inl (n, omega arith, e, h)
    more h false e = inr (λ u b. last u b h e (dec_lt u n))
      where
        last : (u : ℕ) → u < suc n → ((u : ℕ) → u < n → f u ≡ false) → f n ≡ false → Dec (u < n) → f u ≡ false
        last u b h e (yes l) = h u l
        last u b h e (no l) = ap f (let q : u ≡ n = omega (arith, b, l) in q) ∙ e

    go : First f n → First f (suc n)
    go (inl r) = inl (r.0, omega (arith, r.1), r.2, r.3)
    go (inr h) = more h (f n) refl

forced_in_exists : (set : ℕ) (p : Program) → WellFormed p → (a : Answer) × ForcedIn set p a
forced_in_exists set p w = go (able (game_of set) hostile (start p)) refl
  where
    steps : able (game_of set) hostile (start p) ≡ true → First (keeps_by (game_of set) (ahead set p w) hostile (start p)) 6 → (a : Answer) × ForcedIn set p a
    steps e (inl r) = (hostile_can (some r.0), steps_forced set p w r.0 r.1 e r.2 r.3)
    steps e (inr h) = (friendly_can, steps_lost set p w e h)

    passes : able (game_of set) hostile (start p) ≡ false → (y : Side) → ahead set p w (start p) ≡ y → (a : Answer) × ForcedIn set p a
    passes e hostile q = (hostile_can none, pass_won set p w e q)
    passes e friendly q = (friendly_can, pass_lost set p w e q)

    go : (b : Bool) → able (game_of set) hostile (start p) ≡ b → (a : Answer) × ForcedIn set p a
    go true e = steps e (first_below (keeps_by (game_of set) (ahead set p w) hostile (start p)) 6)
    go false e = passes e (ahead set p w (start p)) refl

-- AN ANSWER for every file and every set
pub forced_exists : (file : List ℕ) (set : ℕ) → (a : Answer) × Forced file set a
forced_exists file set = go (decode file) refl
  where
    small : (p : Program) (j : ℕ) → has set j ≡ true → both (has set j) (leb (length p.threads) j) ≡ false → Dec (j < length p.threads) → j < length p.threads
    small p j m n (yes l) = l
    small p j m n (no l) = absurd (true≢false (sym (ap (λ (x : Bool). both x (leb (length p.threads) j)) m ∙ true_both (leb (length p.threads) j) ∙ le-leb (length p.threads) j (omega (arith, l))) ∙ n))

    by : (p : Program) → decode file ≡ accepted p → First (λ k. both (has set k) (leb (length p.threads) k)) 8 → (a : Answer) × Forced file set a
    by p e (inl (k, b, q, h)) = (
      refusing 48 k,
      set_refused p k e (record {
        eight = b;
        named = both_left (has set k) (leb (length p.threads) k) q;
        missing = leb-true (length p.threads) k (both_right (has set k) (leb (length p.threads) k) q);
        lowest = λ j l m. small p j m (h j l) (dec_lt j (length p.threads));
      }),
    )
    by p e (inr h) =
        let r = forced_in_exists set p (accepted_well_formed file p e) in
        (r.0, played p r.0 (record { accepts = e; names = λ k b m. small p k m (h k b) (dec_lt k (length p.threads)) }) r.1)

    go : (d : Decoded) → decode file ≡ d → (a : Answer) × Forced file set a
    go (accepted p) e = by p e (first_below (λ k. both (has set k) (leb (length p.threads) k)) 8)
    go (refused n k) e = (refusing n k, program_refused n k e)

-- ---- there is only one answer
first_unique : (set : ℕ) (p : Program) (t u : ℕ) → LeastFirst set p t → LeastFirst set p u → t ≡ u
first_unique set p t u a b = omega (arith, a.least u b.keeps, b.least t a.keeps)

forced_in_unique : (set : ℕ) (p : Program) (a b : Answer) → ForcedIn set p a → ForcedIn set p b → a ≡ b
forced_in_unique set p _ _ (hostile_steps t f s l) (hostile_steps u g r k) = ap (λ (n : ℕ). hostile_can (some n)) (first_unique set p t u l k)
forced_in_unique set p _ _ (hostile_steps t f s l) (hostile_passes g n) = absurd (n s)
forced_in_unique set p _ _ (hostile_steps t f s l) (friendly_forces g) = absurd (not_both (game_of set) lawful hostile (start p) f g)
forced_in_unique set p _ _ (hostile_passes f n) (hostile_steps u g r k) = absurd (n r)
forced_in_unique set p _ _ (hostile_passes f n) (hostile_passes g m) = refl
forced_in_unique set p _ _ (hostile_passes f n) (friendly_forces g) = absurd (not_both (game_of set) lawful hostile (start p) f g)
forced_in_unique set p _ _ (friendly_forces f) (hostile_steps u g r k) = absurd (not_both (game_of set) lawful hostile (start p) g f)
forced_in_unique set p _ _ (friendly_forces f) (hostile_passes g m) = absurd (not_both (game_of set) lawful hostile (start p) g f)
forced_in_unique set p _ _ (friendly_forces f) (friendly_forces g) = refl

missing_unique : (set : ℕ) (p : Program) (k j : ℕ) → LowestMissing set p k → LowestMissing set p j → k ≡ j
missing_unique set p k j a b = go (dec_lt k j) (dec_lt j k)
  where
    go : Dec (k < j) → Dec (j < k) → k ≡ j
    go (yes h) d = absurd (omega (arith, b.lowest k h a.named, a.missing))
    go (no h) (yes i) = absurd (omega (arith, a.lowest j i b.named, b.missing))
    go (no h) (no i) = omega arith

-- a refusal, and an acceptance, by its program
abbrev number : Decoded → ℕ
number (accepted p) = 0
number (refused n k) = n

abbrev spot : Decoded → ℕ
spot (accepted p) = 0
spot (refused n k) = k

abbrev is_accepted : Decoded → Bool
is_accepted (accepted p) = true
is_accepted (refused n k) = false

abbrev program_in : Program → Decoded → Program
program_in d (accepted p) = p
program_in d (refused n k) = d

clash : (file : List ℕ) (p : Program) (n k : ℕ) → decode file ≡ accepted p → decode file ≡ refused n k → ⊥
clash file p n k a r = true≢false (ap is_accepted (sym a ∙ r))

-- ONLY ONE ANSWER is right
pub forced_unique : (file : List ℕ) (set : ℕ) (a b : Answer) → Forced file set a → Forced file set b → a ≡ b
forced_unique file set _ _ (program_refused n k e) (program_refused m j d) = ap (λ (x : ℕ). refusing x k) (ap number (sym e ∙ d)) ∙ ap (refusing m) (ap spot (sym e ∙ d))
forced_unique file set _ _ (program_refused n k e) (set_refused p j d l) = absurd (clash file p n k d e)
forced_unique file set _ _ (program_refused n k e) (played p b q s) = absurd (clash file p n k q.accepts e)
forced_unique file set _ _ (set_refused p k e l) (program_refused m j d) = absurd (clash file p m j e d)
forced_unique file set _ _ (set_refused p k e l) (set_refused q j d i) = ap (refusing 48) (missing_unique set q k j (subst (λ (r : Program). LowestMissing set r k) (ap (program_in p) (sym e ∙ d)) l) i)
forced_unique file set _ _ (set_refused p k e l) (played q b r s) = absurd (omega (arith, r.names k l.eight l.named, (subst (λ (o : Program). LowestMissing set o k) (ap (program_in p) (sym e ∙ r.accepts)) l).missing))
forced_unique file set _ _ (played p a q s) (program_refused m j d) = absurd (clash file p m j q.accepts d)
forced_unique file set _ _ (played p a q s) (set_refused r j d i) = absurd (omega (arith, q.names j i.eight i.named, (subst (λ (o : Program). LowestMissing set o j) (ap (program_in r) (sym d ∙ q.accepts)) i).missing))
forced_unique file set _ _ (played p a q s) (played r b o k) = forced_in_unique set r a b (subst (λ (z : Program). ForcedIn set z a) (ap (program_in p) (sym q.accepts ∙ o.accepts)) s) k
