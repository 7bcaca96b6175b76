-- The next accesses of two twinned threads: they go to one location and do there what the other does. If neither puts, what the one may pass the other
-- may pass too, and behind both the two are twinned again.
use Prim.Native.Nat.{ℕ, ◌<◌}
use mathlib.Core.Path.{◌≡◌, refl, sym, ap, ap₂, subst, ◌∙◌}
use mathlib.Core.Logic.{◌≢◌, ◌⊎◌, inl, inr}
use mathlib.Core.Bool.{true, false, false≢true}
use mathlib.Core.Option.{Option, none, some}
use mathlib.Core.List.{List, [], ◌∷◌, ◌++◌, Memᴰ}
use native.Mathlib.Omega.{arith}
use native.Mathlib.Decide.{ℕ_discrete}
use Rattle.spec_schedules.specs.Order.{Schedule}
use Rattle.spec_schedules.specs.System.{run}
use Rattle.spec_model.specs.Exchange.{Permutation}
use Rattle.spec_model.proofs.Swapped.{swapped, swapped_low, swapped_else, swapped_permutation}
use Rattle.spec_sc.specs.Local.{pending}
use Rattle.spec_sc.specs.State.{Event, Cell, initial_write, latest}
use Rattle.spec_sc.specs.Actions.{given}
use Rattle.spec_sc.specs.Exchange.{moved_event, moved_cell}
use Rattle.spec_sc.proofs.Regular.{latest_of}
use Rattle.spec_sc.proofs.FixedState.{event_fixed, writes_fixed}
use Rattle.spec_tso.specs.Queue.{Found}
use Rattle.spec_tso.specs.State.{Thread, State, Kind, access, thread_of, cell_of, finds, reaches, thread_behind, place, target, kind_of, owner, step, TSO}
use Rattle.spec_tso.specs.Actions.{Action, action, action_of, moving, reading, source_if, dependent}
use Rattle.spec_tso.specs.Exchange.{moved_thread}
use Rattle.spec_tso.proofs.Bytes.{kind_low, owner_access, access≢move}
use Rattle.spec_tso.proofs.Steps.{thread_other, cell_other, putting, still_cell}
use Rattle.spec_tso.proofs.Depends.{Because, made, emptied, both_put, read_behind, initial_first, source_first, no_reason, not_dependent}
use Rattle.spec_tso.proofs.SameStep.{Looks, blind, looks, looking}
use Rattle.spec_tso.proofs.ActionParts.{act_move, act_location}
use Rattle.spec_tso.proofs.Exchange.{behind_moved, reaches_moved, target_moved, finds_moved}
use Rattle.theory_tso.proofs.Twinned.{Tw}

-- ---- steps that need not stay before an action, and what they leave
abbrev pub Free : Action → State → Schedule → Type 0
Free d τ [] = Unit {0}
Free d τ (x ∷ f) = (dependent (action τ x) d ≡ false) × Free d (step τ x) f

pub free_at : (d : Action) (x : Schedule) (b : ℕ) (r : Schedule) (τ : State) → Free d τ (x ++ (b ∷ r)) → dependent (action (run TSO τ x) b) d ≡ false
unfolding run
free_at d [] b r τ f = f.0
free_at d (a ∷ x) b r τ f = free_at d x b r (step τ a) f.1

-- a location at which none of them puts stays as it is
module _ (d : Action) (l : ℕ) (never : (e : Action) → dependent e d ≡ false → e.location ≡ l → e.puts ≡ true → ⊥) where
  cell_step : (τ : State) (b : ℕ) → dependent (action τ b) d ≡ false → cell_of (step τ b) l ≡ cell_of τ l
  unfolding step action action_of given
  cell_step τ b i = go (ℕ_discrete l (place τ (kind_of b) (owner b))) (putting τ (kind_of b) (owner b)) refl
    where
      go : Dec (l ≡ place τ (kind_of b) (owner b)) → (o : Option ℕ) → putting τ (kind_of b) (owner b) ≡ o → cell_of (step τ b) l ≡ cell_of τ l
      go (no q) o e = cell_other τ (kind_of b) (owner b) l q
      go (yes q) none e = still_cell τ (kind_of b) (owner b) l e
      go (yes q) (some v) e = absurd (never (action τ b) i (act_location τ b ∙ sym q) (ap given e))

  pub cell_stays : (f : Schedule) (τ : State) → Free d τ f → cell_of (run TSO τ f) l ≡ cell_of τ l
  unfolding run
  cell_stays [] τ k = refl
  cell_stays (b ∷ f) τ k = cell_stays f (step τ b) k.1 ∙ cell_step τ b k.0

-- a thread that none of these accesses is of stays as it is
pub thread_stays : (z : ℕ) (f : Schedule) (τ : State) → ((x : ℕ) → Memᴰ x f → kind_of x ≡ access) → (Memᴰ z f → ⊥) → thread_of (run TSO τ f) z ≡ thread_of τ z
unfolding run step
thread_stays z [] τ h n = refl
thread_stays z (b ∷ f) τ h n =
    let o = (owner_access b (h b (Memᴰ.head refl))).0 in
    thread_stays z f (step τ b) (λ x m. h x (Memᴰ.tail m)) (λ m. n (Memᴰ.tail m))
    ∙ thread_other τ (kind_of b) (owner b) z (λ e. n (Memᴰ.head (e ∙ o)))

place_by : (ρ : State) (z : ℕ) (g : Thread) → thread_of ρ z ≡ g → place ρ access z ≡ target access g
unfolding place
place_by ρ z g e = ap (target access) e

-- an access by its thread
as_access : (σ : State) (b : ℕ) → b < 16 → action σ b ≡ action_of b access b (thread_of σ b) (cell_of σ (place σ access b))
unfolding action
as_access σ b h = ap₂ (λ (k : Kind) (u : ℕ). action_of b k u (thread_of σ u) (cell_of σ (place σ k u))) (kind_low b h) (owner_access b (kind_low b h)).0

of_location : (b : ℕ) (h : Thread) (c : Cell) → (action_of b access b h c).location ≡ target access h
unfolding action_of
of_location b h c = refl

of_puts : (b : ℕ) (h : Thread) (c : Cell) → (action_of b access b h c).puts ≡ given (reaches access b h c)
unfolding action_of
of_puts b h c = refl

of_moves : (b : ℕ) (h : Thread) (c : Cell) → (action_of b access b h c).moves ≡ false
unfolding action_of moving
of_moves b h c = refl

of_event : (b : ℕ) (h : Thread) (c : Cell) → (action_of b access b h c).event.0 ≡ b
unfolding action_of
of_event b h c = refl

same_pending : (π : ℕ → ℕ) (h : Thread) → pending (moved_thread π h).local ≡ pending h.local
unfolding moved_thread
same_pending π h = refl

same_reads : (π : ℕ → ℕ) (y z : ℕ) (h : Thread) (c : Cell) → (action_of z access z (moved_thread π h) c).reads ≡ (action_of y access y h c).reads
unfolding action_of reading moved_thread
same_reads π y z h c = refl

of_source : (b : ℕ) (h : Thread) (c : Cell) → (action_of b access b h c).reads ≡ true → (action_of b access b h c).source ≡ (finds b h c).source
unfolding action_of source_if
of_source b h c e = rw e

event_moved : (π : ℕ → ℕ) (e : Event) → (moved_event π e).0 ≡ π e.0
unfolding moved_event
event_moved π e = refl

module _ (y z : ℕ) (ne : y ≢ z) (hy : y < 6) (hz : z < 6) where
  abbrev π : ℕ → ℕ
  π = swapped y z

  q : Permutation π
  q = swapped_permutation y z ne hy hz

  ly : y < 16
  ly = omega arith

  lz : z < 16
  lz = omega arith

  module _ (σ : State) (tw : Tw σ y z) where
    abbrev h : Thread
    h = thread_of σ y

    abbrev g : Thread
    g = thread_of σ z

    abbrev l : ℕ
    l = place σ access y

    abbrev c : Cell
    c = cell_of σ l

    unmoved : (k : ℕ) → cell_of σ k ≡ moved_cell π (cell_of σ k)
    unfolding moved_cell
    unmoved k = ap (λ (ws : List Event). let x : Cell = record { value = (cell_of σ k).value; writes = ws } in x)
        (sym (writes_fixed π (cell_of σ k).writes (λ e m. event_fixed π e (swapped_else y z ne e.0
        (λ i. tw.1 k e.1 (subst (λ (x : ℕ). Memᴰ (x, e.1) (cell_of σ k).writes) i m))
        (λ i. tw.2 k e.1 (subst (λ (x : ℕ). Memᴰ (x, e.1) (cell_of σ k).writes) i m))))))

    pub one_place : place σ access z ≡ l
    unfolding place
    one_place = ap (target access) tw.0 ∙ target_moved π access h

    -- z, by y
    low : π y ≡ z
    low = swapped_low y z ne

    pub one_reach : reaches access z g c ≡ reaches access y h c
    one_reach =
        ap₂ (λ (x : Thread) (u : ℕ). reaches access u x c) tw.0 (sym low) ∙ ap (reaches access (π y) (moved_thread π h)) (unmoved l) ∙ reaches_moved π q access y h c

    pub one_thread : thread_behind access z g c ≡ moved_thread π (thread_behind access y h c)
    one_thread =
        ap₂ (λ (x : Thread) (u : ℕ). thread_behind access u x c) tw.0 (sym low) ∙ ap (thread_behind access (π y) (moved_thread π h)) (unmoved l) ∙ behind_moved π q access y h c

    one_source : (finds z g c).source ≡ moved_event π (finds y h c).source
    one_source =
        ap₂ (λ (x : Thread) (u : ℕ). (finds u x c).source) tw.0 (sym low) ∙ ap (λ (k : Cell). (finds (π y) (moved_thread π h) k).source) (unmoved l) ∙ ap (λ (f : Found). f.source) (finds_moved π q y h c)

    act_y : action σ y ≡ action_of y access y h c
    act_y = as_access σ y ly

    act_z : action σ z ≡ action_of z access z g c
    act_z = as_access σ z lz ∙ ap (λ (k : ℕ). action_of z access z g (cell_of σ k)) one_place

    location_z : (action σ z).location ≡ l
    unfolding place
    location_z = ap (λ (d : Action). d.location) act_z ∙ of_location z g c ∙ one_place

    location_y : (action σ y).location ≡ l
    unfolding place
    location_y = ap (λ (d : Action). d.location) act_y ∙ of_location y h c

    -- WHAT y PASSES, z PASSES, if y puts nothing
    module _ (nothing : putting σ access y ≡ none) where
      pub puts_neither : putting σ access z ≡ none
      puts_neither = ap (λ (k : ℕ). reaches access z g (cell_of σ k)) one_place ∙ one_reach ∙ nothing

      no_puts : (action σ z).puts ≡ true → ⊥
      unfolding given
      no_puts e = false≢true (sym (ap given (one_reach ∙ nothing)) ∙ sym (of_puts z g c) ∙ ap (λ (d : Action). d.puts) (sym act_z) ∙ e)

      pub passes_too : (e : Action) → e.moves ≡ false → dependent e (action σ y) ≡ false → dependent e (action σ z) ≡ false
      passes_too e m i = not_dependent e (action σ z) never
        where
          never : Because e (action σ z) → ⊥
          never (made a b r) = access≢move (sym (kind_low z lz) ∙ act_move σ z b)
          never (emptied a b r) = false≢true (sym m ∙ a)
          never (both_put p a b) = no_puts b
          never (initial_first p a b r) = no_puts b
          never (source_first p a b r) = no_puts b
          never (read_behind p a b r) =
              let bz : (action_of z access z g c).reads ≡ true = ap (λ (d : Action). d.reads) (sym act_z) ∙ b in
              let by : (action_of y access y h c).reads ≡ true = sym (same_reads π y z h c) ∙ ap (λ (x : Thread). (action_of z access z x c).reads) (sym tw.0) ∙ bz in
              let sz : (action σ z).source ≡ (finds z g c).source = ap (λ (d : Action). d.source) act_z ∙ of_source z g c bz in
              let sy : (action σ y).source ≡ (finds y h c).source = ap (λ (d : Action). d.source) act_y ∙ of_source y h c by in
              let ez : (action σ z).event.0 ≡ z = ap (λ (d : Action). d.event.0) act_z ∙ of_event z g c in
              let ey : (action σ y).event.0 ≡ y = ap (λ (d : Action). d.event.0) act_y ∙ of_event y h c in
              no_reason e (action σ y) i (read_behind (p ∙ location_z ∙ sym location_y) a (ap (λ (d : Action). d.reads) act_y ∙ by)
              (λ s. r (ap (λ (x : Event). x.0) (sz ∙ one_source) ∙ event_moved π (finds y h c).source
              ∙ ap π (ap (λ (x : Event). x.0) (sym sy) ∙ s ∙ ey) ∙ low ∙ sym ez)))

      -- z does behind such steps what it does here
      module _ (live : pending h.local ≡ true) where
        waiting : pending g.local ≡ true
        waiting = ap (λ (x : Thread). pending x.local) tw.0 ∙ same_pending π h ∙ live

        foreign : (latest c.writes).0 ≢ z
        unfolding initial_write
        foreign e = go (latest_of c.writes)
          where
            go : (latest c.writes ≡ initial_write) ⊎ Memᴰ (latest c.writes) c.writes → ⊥
            go (inl i) = omega (arith, ap (λ (x : Event). x.0) i, e)
            go (inr i) = tw.2 l (latest c.writes).1 (subst (λ (x : ℕ). Memᴰ (x, (latest c.writes).1) c.writes) e i)

        pub waits_same : (f : Schedule) (τ : State) → thread_of τ z ≡ g → cell_of τ l ≡ c → ((x : ℕ) → Memᴰ x f → kind_of x ≡ access) → (Memᴰ z f → ⊥) → Free (action σ z) τ f →
            action (run TSO τ f) z ≡ action σ z
        waits_same f τ same here only absent free = whole ∙ go (looking access z g c (λ i. waiting) (one_reach ∙ nothing)) ∙ sym act_z
          where
            ρ : State
            ρ = run TSO τ f

            thread : thread_of ρ z ≡ g
            thread = thread_stays z f τ only absent ∙ same

            there : place ρ access z ≡ l
            there = place_by ρ z g thread ∙ sym (place_by σ z g refl) ∙ one_place

            whole : action ρ z ≡ action_of z access z g (cell_of ρ l)
            whole = as_access ρ z lz ∙ ap₂ (λ (x : Thread) (k : ℕ). action_of z access z x (cell_of ρ k)) thread there

            go : Looks access z g c → action_of z access z g (cell_of ρ l) ≡ action_of z access z g c
            go (blind s) = (s (cell_of ρ l)).action z
            go (looks r s) = ap (action_of z access z g) (cell_stays (action σ z) l never f τ free ∙ here)
              where
                never : (e : Action) → dependent e (action σ z) ≡ false → e.location ≡ l → e.puts ≡ true → ⊥
                never e i p a = no_reason e (action σ z) i (read_behind (p ∙ sym location_z) a (ap (λ (d : Action). d.reads) act_z ∙ r z)
                    (λ k. foreign (ap (λ (x : Event). x.0) (sym (s z)) ∙ ap (λ (d : Action). d.source.0) (sym act_z) ∙ k ∙ ap (λ (d : Action). d.event.0) act_z ∙ of_event z g c)))
