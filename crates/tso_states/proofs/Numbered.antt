-- The numbers behind a prefix as the code adds them up: with one next step, over the next steps in turn, and with a table.
use Prim.Native.Nat.{ℕ, ◌+◌, ◌<◌, ◌≤◌, ◌%◌, ◌^◌}
use mathlib.Core.Path.{◌≡◌, refl, sym, ap, ap₂, subst, ◌∙◌}
use mathlib.Core.Logic.{⊎_elim}
use mathlib.Core.Bool.{Bool, true, false, cond}
use mathlib.Core.Option.{some}
use mathlib.Core.List.{List, [], ◌∷◌, ◌++◌}
use lib.ListN.{length}
use Rattle.spec_file.specs.Program.{Program}
use Rattle.spec_schedules.specs.Lists.{any}
use Rattle.spec_schedules.specs.Order.{Schedule}
use Rattle.spec_schedules.specs.System.{Allowed, ended}
use Rattle.spec_schedules.proofs.Runs.{run_snoc}
use Rattle.spec_model.specs.Laws.{Admitted}
use Rattle.spec_tso.specs.State.{State, TSO, enabled, start}
use Rattle.spec_tso.specs.Graph.{end_of}
use Rattle.spec_tso.specs.TotalStoreOrder.{tso}
use Rattle.spec_tso.proofs.Lawful.{lawful}
use Rattle.theory_tso.specs.Rules.{asleep}
use Rattle.theory_tso.specs.Search.{given_up}
use Rattle.tso_rules.specs.Tried.{tried}
use Rattle.tso_walk.proofs.TriedBytes.{tried_enabled, up_asleep, up_not, untried}
use Rattle.table.specs.Places.{said}
use Rattle.table.specs.Answers.{Honest}
use Rattle.theory_states.specs.Positions.{Reached}
use Rattle.theory_states.specs.Numbers.{Numbers, nothing, numbers}
use Rattle.theory_states.specs.Wrapped.{Wrapped}
use Rattle.theory_states.proofs.Numbers.{by_not, by_cut, numbers_branches}
use Rattle.theory_states.proofs.Wrapped.{entries_put}
use Rattle.theory_states.proofs.Turns.{ended_wrapped, cut_wrapped, live_wrapped, said_wrapped, Adding, adding_start, adding_more, adding_same, adding_over}
use Rattle.theory_tso_key.specs.Views.{breaks}
use Rattle.theory_tso_key.specs.Words.{word_key, Wide}
use Rattle.theory_tso_key.proofs.Shape.{words_decide, as_wide}
use Rattle.tso_key.specs.Stands.{Stands}
use Rattle.tso_key.specs.declared.spot.Spot.{Spot}
use Rattle.tso_states.specs.Position.{Position}
use Rattle.tso_states.specs.Known.{Numbered, numbers_at, numbers_by}

-- ---- the spot y behind a step from x
abbrev pub next_position : (code lengths class : List ℕ) (n : ℕ) (x y : Spot) (b : ℕ) (c : Position code lengths class n x) → Stands code lengths class c.threads c.groups y c.program (c.prefix ++ (b ∷ [])) →
    Position code lengths class n y
next_position code lengths class n x y b c next =
    record { threads = c.threads; groups = c.groups; program = c.program; prefix = c.prefix ++ (b ∷ []); stands = next; wide = c.wide }

-- ---- with one next step
module _ (p : Program) (v : Schedule) (b : ℕ) where
  -- some byte is asleep for good behind it, or none
  abbrev pub Sleeps : Bool → Type 0
  Sleeps r = any (asleep p (v ++ (b ∷ [])) (end_of p (v ++ (b ∷ [])))) TSO.names ≡ r

  pub asleep_none : tried p v b ≡ true → Sleeps true → Wrapped (numbers_by p v b) 0 0
  asleep_none is e = cut_wrapped TSO 22 (given_up p) breaks v (end_of p v) b (tried_enabled p v b is) (up_asleep p v b e)

  pub awake_numbers : tried p v b ≡ true → Sleeps false → (c : Bool) → c ≡ breaks (end_of p v) b → (l f l' f' : ℕ) → Wrapped (numbers_at p (v ++ (b ∷ []))) l f → l' ≡ l → f' ≡ cond c l f →
      Wrapped (numbers_by p v b) l' f'
  awake_numbers is e c ec l f l' f' w el ef =
      live_wrapped TSO 22 (given_up p) breaks v (end_of p v) b (tried_enabled p v b is) (up_not p v b is e) c ec l f l' f'
      (subst (λ (τ : State). Wrapped (numbers TSO 22 (given_up p) breaks (v ++ (b ∷ [])) τ) l f) (run_snoc TSO (start p) v b) w) el ef

  pub untried_numbers : tried p v b ≡ false → numbers_by p v b ≡ nothing
  untried_numbers e =
      let N : Schedule → State → Numbers = λ w τ. numbers TSO 22 (given_up p) breaks w τ in
      ⊎_elim (λ (m : enabled (end_of p v) b ≡ false). by_not TSO 22 (given_up p) breaks N v (end_of p v) b m)
      (λ (m : (enabled (end_of p v) b ≡ true) × (given_up p v (end_of p v) b ≡ true)). by_cut TSO 22 (given_up p) breaks N v (end_of p v) b m.0 m.1) (untried p v b e)

-- nobody may step
pub ended_one : (p : Program) (v : Schedule) → ended TSO (end_of p v) ≡ true → Wrapped (numbers_at p v) 1 0
ended_one p v e = ended_wrapped TSO 22 (given_up p) breaks v (end_of p v) lawful e

-- ---- with a table
module _ (p : Program) (a : Admitted tso p) (n slots : ℕ) (wide : Wide n p) (v : Schedule) (ok : Allowed TSO (start p) v) where
  -- what the table says are the numbers
  pub recalled : (m k : List ℕ) → k ≡ word_key n p v (end_of p v) → Numbered p n slots m → (l f s : ℕ) → s ≡ slots → said s 2 m k ≡ some (l ∷ f ∷ []) → Wrapped (numbers_at p v) l f
  recalled m k e true-table l f s es q =
      said_wrapped TSO 22 (given_up p) breaks v (end_of p v) (Reached TSO (start p)) (word_key n p) (λ j c. said slots 2 m j ≡ some c) true-table (refl, ok) l f
      (ap (said slots 2 m) (sym e) ∙ subst (λ (i : ℕ). said i 2 m k ≡ some (l ∷ f ∷ [])) es q)

  -- the numbers put into it leave it true
  pub kept : (m m' k : List ℕ) → k ≡ word_key n p v (end_of p v) → (l f : ℕ) → Wrapped (numbers_at p v) l f → (s : ℕ) → s ≡ slots → Honest s k (l ∷ f ∷ []) m m' → Numbered p n slots m →
      Numbered p n slots m'
  kept m m' k e l f right s es honest true-table =
      entries_put TSO lawful 22 (given_up p) breaks (Reached TSO (start p)) (word_key n p) (λ j c. said slots 2 m j ≡ some c) (λ j c. said slots 2 m' j ≡ some c)
      (λ j. length j ≡ length (word_key n p v (end_of p v))) (λ u σ r. as_wide p n u σ (wide u σ r) ∙ sym (as_wide p n v (end_of p v) (wide v (end_of p v) (refl, ok)))) (words_decide p a n)
      v (end_of p v) (refl, ok) (l ∷ f ∷ []) (ap₂ (λ (i j : ℕ). i ∷ j ∷ []) right.0 right.1)
      (subst (λ (j : List ℕ). Honest slots j (l ∷ f ∷ []) m m') e (subst (λ (i : ℕ). Honest i k (l ∷ f ∷ []) m m') es honest)) true-table

-- ---- over the next steps in turn: what those from b on give completes the whole; and the table stays true
module _ (code lengths class : List ℕ) (n slots : ℕ) (x : Spot) (table₀ : List ℕ) where
  abbrev Case : Type 0
  Case = Position code lengths class n x

  abbrev True : Position code lengths class n x → List ℕ → Type 0
  True c m = Numbered c.program n slots m

  abbrev each : Position code lengths class n x → ℕ → Numbers
  each c b = numbers_by c.program c.prefix b

  abbrev whole : Position code lengths class n x → Numbers
  whole c = numbers_at c.program c.prefix

  abbrev pub Rest : List ℕ → ℕ → ℕ → ℕ → Type 0
  Rest table l f b =
      Adding (Position code lengths class n x) 22 (λ c m. Numbered c.program n slots m) table₀ (λ c b. numbers_by c.program c.prefix b) (λ c. numbers_at c.program c.prefix) table l f b

  pub turns_start : ((c : Position code lengths class n x) → ended TSO (end_of c.program c.prefix) ≡ false) → Rest table₀ 0 0 0
  turns_start e = adding_start Case 22 True table₀ each whole
      (λ c. numbers_branches TSO 22 (given_up c.program) breaks lawful c.prefix (end_of c.program c.prefix) (e c))

  -- with b, which is tried
  pub turn_tried : (table table' behind : List ℕ) (l f i j l' f' b : ℕ) → b < 22 → Rest table l f b →
      ((c : Position code lengths class n x) → Numbered c.program n slots table → Wrapped (numbers_by c.program c.prefix b) i j × Numbered c.program n slots table') →
      behind ≡ table' → l' ≡ (l + i) % 2 ^ 64 → f' ≡ (f + j) % 2 ^ 64 → Rest behind l' f' (b + 1)
  turn_tried = adding_more Case 22 True table₀ each whole

  -- with b, which is not
  pub turn_skipped : (table behind : List ℕ) (l f l' f' b : ℕ) → b < 22 → Rest table l f b → ((c : Position code lengths class n x) → tried c.program c.prefix b ≡ false) →
      behind ≡ table → l' ≡ l → f' ≡ f → Rest behind l' f' (b + 1)
  turn_skipped table behind l f l' f' b h so not-tried = adding_same Case 22 True table₀ each whole table behind l f l' f' b h so (λ c. untried_numbers c.program c.prefix b (not-tried c))

  -- no step is left
  pub turns_over : (table : List ℕ) (l f b : ℕ) → 22 ≤ b → l < 2 ^ 64 → f < 2 ^ 64 → Rest table l f b → (c : Position code lengths class n x) → Numbered c.program n slots table₀ →
      Wrapped (numbers_at c.program c.prefix) l f × Numbered c.program n slots table
  turns_over = adding_over Case 22 True table₀ each whole
