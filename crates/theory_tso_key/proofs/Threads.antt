-- WHAT A STEP ASKS OF ITS THREAD it asks of the code left and of the queue, and never by the numbers in the queue. So threads of which the same is seen
-- give the same answers, and the same is seen of them behind the step.
use Prim.Native.Nat.{ℕ}
use mathlib.Core.Path.{◌≡◌, refl, sym, ap, ap₂, subst, ◌∙◌}
use mathlib.Core.Bool.{Bool, true, false, ◌&&◌, ◌||◌}
use mathlib.Core.Option.{Option, none, some}
use mathlib.Core.List.{List, [], ◌∷◌, ◌++◌, map, map-append}
use lib.Dec.{eqb}
use Rattle.spec_file.specs.declared.instruction.Instruction.{Instruction}
use Rattle.spec_schedules.specs.Lists.{any}
use Rattle.spec_sc.specs.Local.{begins_with_access, first_place, first_takes, pending, place_of, takes, puts, next}
use Rattle.spec_sc.specs.State.{Event, Cell, value_of, written}
use Rattle.theory_search.specs.Ahead.{could_conflict, could_meet}
use Rattle.theory_sc_key.specs.Registers.{Like}
use Rattle.theory_sc_key.proofs.Registers.{like_sym, puts_like, next_like}
use Rattle.spec_tso.specs.Queue.{Entry, newest, found_in, queued, at_once, is_empty, free, oldest_place, oldest_value, newer, movable}
use Rattle.spec_tso.specs.State.{Thread, Kind, access, move, first_locks, locked, finds, target, number_of, reaches, thread_behind, cell_behind, able}
use Rattle.spec_tso.specs.Actions.{reading, locking}
use Rattle.theory_tso.specs.Rules.{fears, wakes}
use Rattle.theory_tso.specs.Deeds.{is_none, looking}
use Rattle.theory_tso_key.specs.Views.{unnumbered, waiting, Alike}

-- ---- BLIND QUESTIONS: the answer does not go by numbers
abbrev Blind : {A : Type 0} → (List Entry → A) → Type 0
Blind f = (q : List Entry) → f (map unnumbered q) ≡ f q

blind_empty : Blind is_empty
unfolding is_empty
blind_empty [] = refl
blind_empty (e ∷ q) = refl

blind_free : (b : Bool) → Blind (free b)
unfolding free
blind_free true q = blind_empty q
blind_free false q = refl

blind_movable : (n : ℕ) → Blind (λ q. movable q n)
unfolding movable unnumbered
blind_movable n [] = refl
blind_movable n (e ∷ q) = refl

blind_place : Blind oldest_place
unfolding oldest_place unnumbered
blind_place [] = refl
blind_place (e ∷ q) = refl

blind_value : Blind oldest_value
unfolding oldest_value unnumbered
blind_value [] = refl
blind_value (e ∷ q) = refl

blind_any : (l : ℕ) → Blind (any (λ (e : Entry). eqb e.location l))
unfolding any unnumbered
blind_any l [] = refl
blind_any l (e ∷ q) = ap (λ (b : Bool). elim (eqb e.location l) [ true ↦ true | false ↦ b ]) (blind_any l q)

-- the newest of a location, without its number
unfoldable plain : Option Entry → Option Entry
plain none = none
plain (some e) = some (unnumbered e)

newest_plain : (q : List Entry) (l : ℕ) → newest (map unnumbered q) l ≡ plain (newest q l)
unfolding newest unnumbered plain
newest_plain [] l = refl
newest_plain (e ∷ q) l =
    ap (λ (o : Option Entry). elim o [ some f ↦ some f | none ↦ elim (eqb e.location l) [ true ↦ some (unnumbered e) | false ↦ none ] ]) (newest_plain q l) ∙ go (newest q l) (eqb e.location l)
  where
    go : (o : Option Entry) (b : Bool) → elim (plain o) [ some f ↦ some f | none ↦ elim b [ true ↦ some (unnumbered e) | false ↦ none ] ]
        ≡ plain (elim o [ some f ↦ some f | none ↦ elim b [ true ↦ some e | false ↦ none ] ])
    go (some f) b = refl
    go none true = refl
    go none false = refl

-- none is pending there
blind_none : (l : ℕ) → Blind (λ q. is_none (newest q l))
unfolding is_none plain
blind_none l q = ap is_none (newest_plain q l) ∙ go (newest q l)
  where
    go : (o : Option Entry) → is_none (plain o) ≡ is_none o
    go none = refl
    go (some e) = refl

-- what is found there
blind_found : (t l : ℕ) (c : Cell) → Blind (λ q. (found_in t (newest q l) c).value)
unfolding found_in plain unnumbered
blind_found t l c q = ap (λ (o : Option Entry). (found_in t o c).value) (newest_plain q l) ∙ go (newest q l)
  where
    go : (o : Option Entry) → (found_in t (plain o) c).value ≡ (found_in t o c).value
    go none = refl
    go (some e) = refl

-- by any thread, at cells with one value
found_cell : (t s : ℕ) (o : Option Entry) (c d : Cell) → c.value ≡ d.value → (found_in t o c).value ≡ (found_in s o d).value
unfolding found_in
found_cell t s none c d e = e
found_cell t s (some x) c d e = refl

-- ---- what a step leaves, without numbers
queued_plain : (b : Bool) (i l : ℕ) (o : Option ℕ) → map unnumbered (queued b i l o) ≡ queued b 0 l o
unfolding queued unnumbered
queued_plain b i l none = refl
queued_plain true i l (some v) = refl
queued_plain false i l (some v) = refl

newer_plain : (q : List Entry) → map unnumbered (newer q) ≡ newer (map unnumbered q)
unfolding newer
newer_plain [] = refl
newer_plain (e ∷ q) = refl

-- what was put, or what stood there
unfoldable puts_over : Option ℕ → ℕ → ℕ
puts_over none x = x
puts_over (some v) x = v

written_value : (e : Event) (o : Option ℕ) (c : Cell) → value_of (written e o c) ≡ puts_over o c.value
unfolding value_of written puts_over
written_value e none c = refl
written_value e (some v) c = refl

pub alike_back : (h k : Thread) → Alike h k → Alike k h
alike_back h k a = record { local = like_sym h.local k.local a.local; queue = sym a.queue }

-- ---- THE SAME ANSWERS
module _ (h k : Thread) (a : Alike h k) where
  -- to every question to the code left and, blindly, to the queue
  same_answer : {A : Type 0} (f : List Instruction → List Entry → A) → ((c : List Instruction) → Blind (f c)) → f h.local.rest h.queue ≡ f k.local.rest k.queue
  same_answer f blind = sym (blind h.local.rest h.queue) ∙ ap₂ f a.local.rest a.queue ∙ blind k.local.rest k.queue

  pub empty_alike : is_empty h.queue ≡ is_empty k.queue
  empty_alike = same_answer (λ c q. is_empty q) (λ c. blind_empty)

  pub able_alike : (j : Kind) (n : ℕ) → able j h n ≡ able j k n
  unfolding able pending locked
  able_alike access n = same_answer (λ c q. begins_with_access c && free (first_locks c) q) (λ c q. ap (λ (b : Bool). begins_with_access c && b) (blind_free (first_locks c) q))
  able_alike move n = same_answer (λ c q. movable q n) (λ c. blind_movable n)

  pub target_alike : (j : Kind) → target j h ≡ target j k
  unfolding target place_of
  target_alike access = same_answer (λ c q. first_place c) (λ c q. refl)
  target_alike move = same_answer (λ c q. oldest_place q) (λ c. blind_place)

  pub locking_alike : (j : Kind) → locking j h ≡ locking j k
  unfolding locking locked
  locking_alike access = same_answer (λ c q. first_locks c) (λ c q. refl)
  locking_alike move = refl

  pub looking_alike : (j : Kind) → looking j h ≡ looking j k
  unfolding looking reading takes place_of
  looking_alike access = same_answer (λ c q. first_takes c && is_none (newest q (first_place c))) (λ c q. ap (λ (b : Bool). first_takes c && b) (blind_none (first_place c) q))
  looking_alike move = refl

  pub fears_alike : (j : Kind) → fears j h ≡ fears j k
  unfolding fears locked takes
  fears_alike access =
      same_answer (λ c q. let o : Option Bool = elim (first_locks c) [ true ↦ some true | false ↦ elim (first_takes c) [ true ↦ some false | false ↦ none ] ] in o) (λ c q. refl)
  fears_alike move = refl

  pub wakes_alike : (o : Option Bool) (l : ℕ) → wakes o l h ≡ wakes o l k
  unfolding wakes could_meet
  wakes_alike none l = refl
  wakes_alike (some w) l = same_answer (λ c q. any (λ (e : Entry). eqb e.location l) q || any (could_conflict l w) c) (λ c q. ap (λ (b : Bool). b || any (could_conflict l w) c) (blind_any l q))

  -- ---- as threads t and s, at cells with one value
  module _ (t s : ℕ) (c d : Cell) (e : c.value ≡ d.value) where
    found_alike : (finds t h c).value ≡ (finds s k d).value
    unfolding finds place_of
    found_alike = same_answer (λ is q. (found_in t (newest q (first_place is)) c).value) (λ is. blind_found t (first_place is) c) ∙ found_cell t s (newest k.queue (first_place k.local.rest)) c d e

    puts_alike : puts h.local (finds t h c).value ≡ puts k.local (finds s k d).value
    puts_alike = puts_like h.local k.local a.local (finds t h c).value ∙ ap (puts k.local) found_alike

    pub reaches_alike : (j : Kind) → reaches j t h c ≡ reaches j s k d
    unfolding reaches locking
    reaches_alike access = ap₂ at_once (locking_alike access) puts_alike
    reaches_alike move = same_answer (λ is q. oldest_value q) (λ is. blind_value)

    pub cell_alike : (j : Kind) → value_of (cell_behind j t h c) ≡ value_of (cell_behind j s k d)
    unfolding cell_behind
    cell_alike j = written_value (t, number_of j h) (reaches j t h c) c ∙ ap₂ puts_over (reaches_alike j) e ∙ sym (written_value (s, number_of j k) (reaches j s k d) d)

    -- what an access leaves in the queue
    added_alike : map unnumbered (queued (locked h.local) h.history.done (place_of h.local) (puts h.local (finds t h c).value))
        ≡ map unnumbered (queued (locked k.local) k.history.done (place_of k.local) (puts k.local (finds s k d).value))
    unfolding locked place_of
    added_alike = queued_plain (locked h.local) h.history.done (place_of h.local) _
        ∙ ap₂ (λ (is : List Instruction) (o : Option ℕ). queued (first_locks is) 0 (first_place is) o) a.local.rest puts_alike
        ∙ sym (queued_plain (locked k.local) k.history.done (place_of k.local) _)

    -- THE SAME IS SEEN BEHIND
    pub behind_alike : (j : Kind) → Alike (thread_behind j t h c) (thread_behind j s k d)
    unfolding thread_behind
    behind_alike access = record {
      local = subst (λ (x : ℕ). Like (next h.local (finds t h c).value) (next k.local x)) found_alike (next_like h.local k.local a.local (finds t h c).value).0;
      queue = map-append unnumbered h.queue _ ∙ ap₂ (λ (x y : List Entry). x ++ y) a.queue added_alike ∙ sym (map-append unnumbered k.queue _);
    }
    behind_alike move = record { local = a.local; queue = newer_plain h.queue ∙ ap newer a.queue ∙ sym (newer_plain k.queue) }

    pub failing_alike : pending h.local ≡ true → (next h.local (finds t h c).value).failed ≡ (next k.local (finds s k d).value).failed
    failing_alike q = (next_like h.local k.local a.local (finds t h c).value).1 q ∙ ap (λ (x : ℕ). (next k.local x).failed) found_alike
